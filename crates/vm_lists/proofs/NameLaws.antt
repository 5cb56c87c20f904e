-- The first bad name among names, and what is known where there is none.
use Rattle.std.proofs.Common.{◌≡◌, ◌≢◌, ℕ, suc, ◌+◌, ◌<◌, ◌||◌, Bool, true, false, not, List, [], ◌∷◌, ◌++◌, Contains, bytes_eq, length, take, drop, get_or, add-one, drop-cons, Option, Some, None, Result, Ok, Err, IfErr, OnOk, ◌≤◌, inl, inr, refl, ap, sym, subst, ◌∙◌, arith}
use Rattle.std.specs.Prelude.{⊤}
use Rattle.std.proofs.Math.Seq.{get_or-append_seam, take-append_seam}
use Rattle.std.proofs.lemmas.List.{append_assoc, append-nil, drop_all, length-append, length-take-le, take_more}
use Rattle.std.proofs.lemmas.List.Elements.{All-push}
use Rattle.std.proofs.lemmas.List.Folds.{Any-from_list_any, list_any_at}
use Rattle.std.proofs.lemmas.List.Quantifiers.{all_pairs_push}
use Rattle.std.proofs.lemmas.Slice.Eq.{bytes_eq-Decides}
use Rattle.std.specs.List.{list_any, slice_index_or}
use Rattle.std.specs.Option.{option_map_or}
use Rattle.vm_lists.specs.declared.faults.NameFault.{NameFault}
use Rattle.vm_lists.specs.declared.faults.NameFaultKind.{NameFaultKind}
use Rattle.vm_lists.specs.declared.faults.NameFaultKind.TheVariants.{NoName, Twice}
use Rattle.vm_lists.specs.declared.named.NamedList.{NamedList}
use Rattle.vm_lists.specs.Names.{AreNames, IsNameFault, IsWrong, checked_behind, checked_names, has_name, name_fault, names_in}
use Rattle.vm_lists.proofs.Choices.{chosen}

-- ---- lists, and their names

pub names_tested : (name : List ℕ) (lists : List NamedList) → list_any (λ list. bytes_eq list.name.now name) lists ≡ has_name name (names_in lists)
names_tested name [] = refl
names_tested name (list ∷ lists) = ap (λ b. bytes_eq list.name.now name || b) (names_tested name lists)

pub names_left : (lists : List NamedList) (i : ℕ) (list : NamedList) → i < length lists → list ≡ get_or lists i list
    → names_in (drop i lists) ≡ list.name.now ∷ names_in (drop (i + 1) lists)
names_left lists i list below is =
    ap names_in (drop-cons lists i list below) ∙ ap (λ (l : NamedList). l.name.now ∷ names_in (drop (suc i) lists)) (sym is)
    ∙ ap (λ (n : ℕ). list.name.now ∷ names_in (drop n lists)) (sym (add-one i))

map_more : (lists : List NamedList) (list : NamedList) → names_in (lists ++ list ∷ []) ≡ names_in lists ++ list.name.now ∷ []
map_more [] list = refl
map_more (first ∷ lists) list = ap (λ l. first.name.now ∷ l) (map_more lists list)

pub names_before : (lists : List NamedList) (i : ℕ) (list : NamedList) → i < length lists → list ≡ get_or lists i list
    → names_in (take (i + 1) lists) ≡ names_in (take i lists) ++ list.name.now ∷ []
names_before lists i list below is =
    ap names_in (take_more lists i list below) ∙ map_more (take i lists) (get_or lists i list)
    ∙ ap (λ (l : NamedList). names_in (take i lists) ++ l.name.now ∷ []) (sym is)

pub length-names_in : (lists : List NamedList) → length (names_in lists) ≡ length lists
length-names_in [] = refl
length-names_in (list ∷ lists) = omega (arith, length-names_in lists)

-- ---- one name more

-- what stands before decides it
abbrev answer : (List ℕ → Bool) → List (List ℕ) → List ℕ → List (List ℕ) → Option NameFaultKind → Result ⊤ NameFault
answer is_name earlier name names found =
    option_map_or (λ kind. Err (record { place = length earlier; kind = kind })) found (checked_behind is_name (earlier ++ name ∷ []) names)

pub checked_on : (is_name : List ℕ → Bool) (earlier : List (List ℕ)) (name : List ℕ) (names : List (List ℕ)) → name_fault is_name earlier name ≡ None
    → checked_behind is_name earlier (name ∷ names) ≡ checked_behind is_name (earlier ++ name ∷ []) names
checked_on is_name earlier name names right = ap (answer is_name earlier name names) right

pub checked_there : (is_name : List ℕ → Bool) (earlier : List (List ℕ)) (name : List ℕ) (names : List (List ℕ)) (kind : NameFaultKind)
    → name_fault is_name earlier name ≡ Some kind → checked_behind is_name earlier (name ∷ names) ≡ Err (record { place = length earlier; kind = kind })
checked_there is_name earlier name names kind wrong = ap (answer is_name earlier name names) wrong

-- the names in front of a place are good; what the one there says of all
pub there : (is_name : List ℕ → Bool) (lists : List NamedList) (i : ℕ) (list : NamedList) (kind : NameFaultKind) → i < length lists → list ≡ get_or lists i list
    → name_fault is_name (names_in (take i lists)) list.name.now ≡ Some kind
    → checked_behind is_name (names_in (take i lists)) (names_in (drop i lists)) ≡ Err (record { place = i; kind = kind })
there is_name lists i list kind below is wrong =
    ap (checked_behind is_name (names_in (take i lists))) (names_left lists i list below is)
    ∙ checked_there is_name (names_in (take i lists)) list.name.now (names_in (drop (i + 1) lists)) kind wrong
    ∙ ap (λ (n : ℕ). Err (record { place = n; kind = kind })) (length-names_in (take i lists) ∙ length-take-le i lists (omega arith))

pub on : (is_name : List ℕ → Bool) (lists : List NamedList) (i : ℕ) (list : NamedList) → i < length lists → list ≡ get_or lists i list
    → name_fault is_name (names_in (take i lists)) list.name.now ≡ None
    → checked_behind is_name (names_in (take (i + 1) lists)) (names_in (drop (i + 1) lists)) ≡ checked_behind is_name (names_in (take i lists)) (names_in (drop i lists))
on is_name lists i list below is right =
    ap (λ earlier. checked_behind is_name earlier (names_in (drop (i + 1) lists))) (names_before lists i list below is)
    ∙ sym (
    ap (checked_behind is_name (names_in (take i lists))) (names_left lists i list below is)
    ∙ checked_on is_name (names_in (take i lists)) list.name.now (names_in (drop (i + 1) lists)) right
    )

pub at_end : (is_name : List ℕ → Bool) (lists : List NamedList) (i : ℕ) → length lists ≤ i
    → checked_behind is_name (names_in (take i lists)) (names_in (drop i lists)) ≡ Ok tt
at_end is_name lists i end = ap (λ l. checked_behind is_name (names_in (take i lists)) (names_in l)) (drop_all i lists end)

negated : (b : Bool) → not b ≡ true → b ≡ false
negated true h = absurd cc
negated false h = refl

passed : (b : Bool) → not b ≡ false → b ≡ true
passed true h = refl
passed false h = absurd cc

contained : (name : List ℕ) (names : List (List ℕ)) → has_name name names ≡ true → Contains names name
contained name names h =
    let any = Any-from_list_any (λ other. bytes_eq other name) names h in
    let same = (bytes_eq-Decides any.1 name).0 any.4 in
    (any.0, any.2, subst (λ n. slice_index_or names any.0 n ≡ n) same any.3)

other_names : (name : List ℕ) (names : List (List ℕ)) → has_name name names ≡ false → (k : ℕ) (d : List ℕ) → k < length names → get_or names k d ≢ name
other_names name names h k d below same =
    let found = list_any_at (λ other. bytes_eq other name) names k d below ((bytes_eq-Decides (get_or names k d) name).1 same) in
    absurd cc

name_wrong : (is_name : List ℕ → Bool) (earlier : List (List ℕ)) (name : List ℕ) (kind : NameFaultKind) → name_fault is_name earlier name ≡ Some kind → IsWrong is_name earlier name kind
name_wrong is_name earlier name kind h =
    elim (chosen (not (is_name name)) _ _ _ h) [
      | inl a ↦ (let same : NoName ≡ kind = let is = a.1 in cc in subst (IsWrong is_name earlier name) same (negated _ a.0))
      | inr b ↦ elim (chosen (has_name name earlier) _ _ _ b.1) [
        | inl c ↦ (let same : Twice ≡ kind = let is = c.1 in cc in subst (IsWrong is_name earlier name) same (passed _ b.0, contained name earlier c.0))
        | inr d ↦ absurd (let none = d.1 in cc)
      ]
    ]

names_more : (is_name : List ℕ → Bool) (earlier : List (List ℕ)) (name : List ℕ) → AreNames is_name earlier → name_fault is_name earlier name ≡ None → AreNames is_name (earlier ++ name ∷ [])
names_more is_name earlier name good h =
    elim (chosen (not (is_name name)) _ _ _ h) [
      | inl a ↦ absurd (let some = a.1 in cc)
      | inr b ↦ elim (chosen (has_name name earlier) _ _ _ b.1) [
        | inl c ↦ absurd (let some = c.1 in cc)
        | inr d ↦ record {
          each = All-push (λ name. is_name name ≡ true) earlier name good.each (passed _ b.0);
          differ = all_pairs_push (λ a b. a ≢ b) earlier name good.differ (other_names name earlier d.0);
        }
      ]
    ]

no_names : (is_name : List ℕ → Bool) → AreNames is_name []
no_names is_name = record { each = λ k d below. absurd (omega arith); differ = λ i j d before below. absurd (omega arith) }

-- ---- all names

good_behind : (is_name : List ℕ → Bool) (earlier names : List (List ℕ)) → AreNames is_name earlier → checked_behind is_name earlier names ≡ Ok tt → AreNames is_name (earlier ++ names)
good_behind is_name earlier [] good h = subst (AreNames is_name) (sym (append-nil earlier)) good
good_behind is_name earlier (name ∷ names) good h =
    elim (name_fault is_name earlier name) as (λ o. name_fault is_name earlier name ≡ o → answer is_name earlier name names o ≡ Ok tt → AreNames is_name (earlier ++ name ∷ names)) [
      | Some kind ↦ λ is all. absurd cc
      | None ↦ λ is all.
          subst (AreNames is_name) (append_assoc earlier (name ∷ []) names)
          (good_behind is_name (earlier ++ name ∷ []) names (names_more is_name earlier name good is) all)
    ] refl h

bad_there : (is_name : List ℕ → Bool) (earlier : List (List ℕ)) (name : List ℕ) (names : List (List ℕ)) (kind : NameFaultKind) → AreNames is_name earlier
    → name_fault is_name earlier name ≡ Some kind → IsNameFault is_name (earlier ++ name ∷ names) (record { place = length earlier; kind = kind })
bad_there is_name earlier name names kind good is =
    let front = take-append_seam earlier (name ∷ names) in
    record {
      inside = omega (arith, length-append earlier (name ∷ names));
      before = subst (AreNames is_name) (sym front) good;
      wrong =
          subst (λ e. IsWrong is_name e (slice_index_or (earlier ++ name ∷ names) (length earlier) []) kind) (sym front)
          (subst (λ n. IsWrong is_name earlier n kind) (sym (get_or-append_seam earlier name names [])) (name_wrong is_name earlier name kind is));
    }

bad_behind : (is_name : List ℕ → Bool) (earlier names : List (List ℕ)) (fault : NameFault) → AreNames is_name earlier → checked_behind is_name earlier names ≡ Err fault → IsNameFault is_name (earlier ++ names) fault
bad_behind is_name earlier [] fault good h = absurd cc
bad_behind is_name earlier (name ∷ names) fault good h =
    elim (name_fault is_name earlier name) as (λ o. name_fault is_name earlier name ≡ o → answer is_name earlier name names o ≡ Err fault → IsNameFault is_name (earlier ++ name ∷ names) fault) [
      | Some kind ↦ λ is all.
          let same : record { place = length earlier; kind = kind } ≡ fault = cc in
          subst (IsNameFault is_name (earlier ++ name ∷ names)) same (bad_there is_name earlier name names kind good is)
      | None ↦ λ is all.
          subst (λ l. IsNameFault is_name l fault) (append_assoc earlier (name ∷ []) names)
          (bad_behind is_name (earlier ++ name ∷ []) names fault (names_more is_name earlier name good is) all)
    ] refl h

-- the same of the result of a call
pub if_names : (is_name : List ℕ → Bool) (names : List (List ℕ)) (r : Result ⊤ NameFault) → r ≡ checked_names is_name names → OnOk r (AreNames is_name names)
if_names is_name names (Ok done) h = good_behind is_name [] names (no_names is_name) (sym h)
if_names is_name names (Err fault) h = tt

pub if_name_fault : (is_name : List ℕ → Bool) (names : List (List ℕ)) (r : Result ⊤ NameFault) → r ≡ checked_names is_name names → IfErr r (IsNameFault is_name names)
if_name_fault is_name names (Ok done) h = tt
if_name_fault is_name names (Err fault) h = bad_behind is_name [] names fault (no_names is_name) (sym h)

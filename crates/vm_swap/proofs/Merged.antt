-- The pages of two maps, some whole and the others as patches, as one map.
use Rattle.std.proofs.Common.{◌≡◌, ℕ, zero, suc, ◌+◌, ◌-◌, Bool, true, false, cond, ◌==◌, List, [], ◌∷◌, ◌++◌, map, length, Option, Some, None, refl, sym, ap, ◌∙◌, inl, inr, arith}
use Rattle.std.proofs.lemmas.Bool.{cases_eq, eq-eqb, ne_eqb, cond-true, cond-false}
use Rattle.std.proofs.lemmas.Option.{none-some}
use Rattle.std.specs.Option.{option_map, is_some}
use Rattle.std.specs.Ordering.{nat_cmp, eq_by_cmp}
use Rattle.std.specs.Cmp.{nat_cmp_total, unsigned_tied}
use Rattle.std.specs.FinMap.{get, find, insert, remove, empty, len, entries, get-entries, len-entries, get-empty, get-from_entries, len-remove, empty_of_len, same_map, nat_cmp-IsAntisymmetric}
use Rattle.vm_patches.specs.declared.patch.ByteWrite.{ByteWrite}
use Rattle.vm_patches.specs.Patches.{patched, zero_bytes}
use Rattle.vm_swap.specs.Merged.{Whole, Few, merged}
use Rattle.vm_swap.proofs.Slots.{nat_get-insert, nat_get-remove, len-put}
use Rattle.vm_swap.proofs.Absent.{get-remove-absent}

-- the first one, or else the second
abbrev pub first_of : {X : Type 0} → Option X → Option X → Option X
first_of (Some x) other = Some x
first_of None other = other

abbrev pub bytes_of : Option (List ByteWrite) → Option (List ℕ)
bytes_of = option_map (patched zero_bytes)

find-append : {X : Type 0} (es fs : List (ℕ × X)) (q : ℕ) → find nat_cmp q (es ++ fs) ≡ first_of (find nat_cmp q es) (find nat_cmp q fs)
find-append [] fs q = refl
find-append (e ∷ es) fs q =
    elim (eq_by_cmp nat_cmp q e.0) as (λ b. cond b (Some e.1) (find nat_cmp q (es ++ fs)) ≡ first_of (cond b (Some e.1) (find nat_cmp q es)) (find nat_cmp q fs)) [
      | true ↦ refl
      | false ↦ find-append es fs q
    ]

find-patches : (fs : List (ℕ × List ByteWrite)) (q : ℕ) → find nat_cmp q (map (λ e. (e.0, patched zero_bytes e.1)) fs) ≡ bytes_of (find nat_cmp q fs)
find-patches [] q = refl
find-patches (e ∷ fs) q =
    elim (eq_by_cmp nat_cmp q e.0) as (λ b. cond b (Some (patched zero_bytes e.1)) (find nat_cmp q (map (λ e. (e.0, patched zero_bytes e.1)) fs)) ≡ bytes_of (cond b (Some e.1) (find nat_cmp q fs))) [
      | true ↦ refl
      | false ↦ find-patches fs q
    ]

pub get-merged : (whole : Whole) (few : Few) (q : ℕ) → get (merged whole few) q ≡ first_of (get whole q) (bytes_of (get few q))
unfolding merged
get-merged whole few q =
    get-from_entries nat_cmp_total _ q
    ∙ find-append (entries whole) _ q
    ∙ ap (first_of (find nat_cmp q (entries whole))) (find-patches (entries few) q ∙ ap bytes_of (sym (get-entries few q)))
    ∙ ap (λ o. first_of o (bytes_of (get few q))) (sym (get-entries whole q))

pub is_some-merged : (whole : Whole) (few : Few) (q : ℕ) → is_some (get (merged whole few) q) ≡ cond (is_some (get whole q)) true (is_some (get few q))
is_some-merged whole few q = ap is_some (get-merged whole few q) ∙ either (get whole q) (get few q)
  where
    either : (o : Option (List ℕ)) (p : Option (List ByteWrite)) → is_some (first_of o (bytes_of p)) ≡ cond (is_some o) true (is_some p)
    either (Some bytes) p = refl
    either None None = refl
    either None (Some writes) = refl

same_pages : (m n : Whole) → ((q : ℕ) → get m q ≡ get n q) → m ≡ n
same_pages m n = same_map nat_cmp_total nat_cmp-IsAntisymmetric m n

-- ---- one page more, or less

pub merged-insert_whole : (whole : Whole) (few : Few) (page : ℕ) (bytes : List ℕ) → merged (insert whole page bytes) few ≡ insert (merged whole few) page bytes
merged-insert_whole whole few page bytes = same_pages _ _ (λ q.
    get-merged (insert whole page bytes) few q
    ∙ ap (λ o. first_of o (bytes_of (get few q))) (nat_get-insert whole page bytes q)
    ∙ chosen (q == page) (get whole q) (bytes_of (get few q))
    ∙ ap (cond (q == page) (Some bytes)) (sym (get-merged whole few q))
    ∙ sym (nat_get-insert (merged whole few) page bytes q))
  where
    chosen : (b : Bool) (o other : Option (List ℕ)) → first_of (cond b (Some bytes) o) other ≡ cond b (Some bytes) (first_of o other)
    chosen true o other = refl
    chosen false o other = refl

pub merged-insert_few : (whole : Whole) (few : Few) (page : ℕ) (writes : List ByteWrite) → get whole page ≡ None → merged whole (insert few page writes) ≡ insert (merged whole few) page (patched zero_bytes writes)
merged-insert_few whole few page writes none = same_pages _ _ (λ q.
    get-merged whole (insert few page writes) q
    ∙ ap (λ o. first_of (get whole q) (bytes_of o)) (nat_get-insert few page writes q)
    ∙ elim (cases_eq q page) [
      | inl here ↦
          ap (λ b. first_of (get whole q) (bytes_of (cond b (Some writes) (get few q)))) (eq-eqb q page here)
          ∙ ap (λ o. first_of o (Some (patched zero_bytes writes))) (ap (get whole) here ∙ none)
          ∙ sym (cond-true _ _ _ (eq-eqb q page here))
      | inr other ↦
          ap (λ b. first_of (get whole q) (bytes_of (cond b (Some writes) (get few q)))) (ne_eqb q page other)
          ∙ sym (get-merged whole few q)
          ∙ sym (cond-false _ _ _ (ne_eqb q page other))
    ]
    ∙ sym (nat_get-insert (merged whole few) page (patched zero_bytes writes) q))

pub merged-remove : (whole : Whole) (few : Few) (page : ℕ) → merged (remove whole page) (remove few page) ≡ remove (merged whole few) page
merged-remove whole few page = same_pages _ _ (λ q.
    get-merged (remove whole page) (remove few page) q
    ∙ ap (λ o. first_of o (bytes_of (get (remove few page) q))) (nat_get-remove whole page q)
    ∙ ap (λ o. first_of (cond (q == page) None (get whole q)) (bytes_of o)) (nat_get-remove few page q)
    ∙ neither (q == page) (get whole q) (get few q)
    ∙ ap (cond (q == page) None) (sym (get-merged whole few q))
    ∙ sym (nat_get-remove (merged whole few) page q))
  where
    neither : (b : Bool) (o : Option (List ℕ)) (p : Option (List ByteWrite)) → first_of (cond b None o) (bytes_of (cond b None p)) ≡ cond b None (first_of o (bytes_of p))
    neither true o p = refl
    neither false o p = refl

-- ---- how many there are

-- no page is in both
abbrev pub Apart : Whole → Few → Type 0
Apart whole few = (page : ℕ) → is_some (get whole page) ≡ true → get few page ≡ None

some_page : (few : Few) (n : ℕ) → len few ≡ suc n → (page : ℕ) × ((writes : List ByteWrite) × (get few page ≡ Some writes))
some_page few n more =
    elim (entries few) as (λ es. entries few ≡ es → (page : ℕ) × ((writes : List ByteWrite) × (get few page ≡ Some writes))) [
      | [] ↦ λ none. let no : 0 ≡ suc n = sym (len-entries few ∙ ap length none) ∙ more in absurd (omega arith)
      | e ∷ es ↦ λ is.
          (e.0, (e.1, get-entries few e.0 ∙ ap (find nat_cmp e.0) is ∙ cond-true _ _ _ (unsigned_tied e.0 e.0 ∙ eq-eqb e.0 e.0 refl)))
    ] refl

pub merged-empty : (whole : Whole) → merged whole empty ≡ whole
merged-empty whole = same_pages _ _ (λ q. get-merged whole empty q ∙ ap (λ o. first_of (get whole q) (bytes_of o)) (get-empty nat_cmp q) ∙ itself (get whole q))
  where
    itself : (o : Option (List ℕ)) → first_of o None ≡ o
    itself None = refl
    itself (Some x) = refl

absent_whole : (whole : Whole) (few : Few) (page : ℕ) (writes : List ByteWrite) → Apart whole few → get few page ≡ Some writes → get whole page ≡ None
absent_whole whole few page writes apart has =
    elim (get whole page) as (λ o. get whole page ≡ o → o ≡ None) [
      | None ↦ λ _. refl
      | Some bytes ↦ λ is. absurd (none-some writes (sym (apart page (ap is_some is)) ∙ has))
    ] refl

len-merged-of : (n : ℕ) (whole : Whole) (few : Few) → Apart whole few → len few ≡ n → len (merged whole few) ≡ len whole + n
len-merged-of zero whole few apart none =
    ap (λ f. len (merged whole f)) (empty_of_len few none) ∙ ap len (merged-empty whole) ∙ omega arith
len-merged-of (suc n) whole few apart more =
    let one = some_page few n more in
    let rest = remove few one.0 in
    let gone : get rest one.0 ≡ None = nat_get-remove few one.0 one.0 ∙ cond-true _ _ _ (eq-eqb one.0 one.0 refl) in
    let less : len rest ≡ n = len-remove nat_cmp_total few one.0 ∙ ap (λ o. cond (is_some o) (len few - 1) (len few)) one.1.1 ∙ omega (arith, more) in
    let few_is : few ≡ insert rest one.0 one.1.0 = same_map nat_cmp_total nat_cmp-IsAntisymmetric _ _ (λ q.
    elim (cases_eq q one.0) [
      | inl here ↦ ap (get few) here ∙ one.1.1 ∙ sym (nat_get-insert rest one.0 one.1.0 q ∙ cond-true _ _ _ (eq-eqb q one.0 here))
      | inr other ↦ sym (nat_get-insert rest one.0 one.1.0 q ∙ cond-false _ _ _ (ne_eqb q one.0 other) ∙ nat_get-remove few one.0 q ∙ cond-false _ _ _ (ne_eqb q one.0 other))
    ]) in
    let none = absent_whole whole few one.0 one.1.0 apart one.1.1 in
    let before = len-merged-of n whole rest (λ page there. get-remove-absent few one.0 page (apart page there)) less in
    let absent : get (merged whole rest) one.0 ≡ None = get-merged whole rest one.0 ∙ ap (λ o. first_of o (bytes_of (get rest one.0))) none ∙ ap bytes_of gone in
    ap (λ f. len (merged whole f)) few_is
    ∙ ap len (merged-insert_few whole rest one.0 one.1.0 none)
    ∙ len-put (merged whole rest) one.0 (len whole + n) (patched zero_bytes one.1.0) absent before
    ∙ omega arith

pub len-merged : (whole : Whole) (few : Few) → Apart whole few → len (merged whole few) ≡ len whole + len few
len-merged whole few apart = len-merged-of (len few) whole few apart refl

-- Those who come in with a sample, and what is kept at the end of an epoch.
use Rattle.std.proofs.Common.{◌≡◌, ◌∙◌, ℕ, zero, suc, ◌+◌, ◌-◌, ◌*◌, ◌<◌, ◌≤◌, ◌||◌, Bool, true, false, true≢false, not, List, [], ◌∷◌, ◌++◌, Option, Some, None, bytes_eq, drop, get_or, length, map, max, replicate, take, append_assoc, option_map, unwrap_or, refl, sym, ap, subst, arith, if◌then◌else◌}
use Rattle.std.proofs.lemmas.List.{append-nil, drop_more, length-append, length-map, take-append-drop}
use Rattle.std.specs.Int.{div_ceil}
use Rattle.std.specs.List.{insert}
use Rattle.vm_recorded.specs.Counts.{counts_for, counts_of}
use Rattle.vm_recorded.specs.Hosts.{GuestView}
use Rattle.vm_samples.specs.Policies.{PolicyView}
use Rattle.vm_steer.specs.declared.fate.Fate.{Fate}
use Rattle.vm_steer.specs.declared.fate.Fate.TheVariants.{Left, Steered}
use Rattle.vm_steer.specs.declared.rules.Rules.{Rules}
use Rattle.vm_steer.specs.Entries.{EntryView}
use Rattle.vm_steer.specs.Look.{bounds_at, rules_of}
use Rattle.vm_steer.specs.Names.{is_before, place_of, stands_at, AreRising}
use Rattle.vm_log.specs.declared.kept.Kept.{Kept}
use Rattle.vm_log.specs.Alone.{AloneView}
use Rattle.vm_log.specs.Epochs.{absent_first, cut, epochs_of, uses_of}
use Rattle.vm_log.specs.HostOf.{guest_of, held_beside, is_among}
use Rattle.vm_log.specs.NamesSeen.{guest_names, is_left, is_steered, left_names, names_from, with_name, with_names}
use Rattle.vm_log.specs.Recorded.{alone_for, kept_for}
use Rattle.vm_log.specs.Seen.{greater, left_in, most_left, size_in, use_in}
use Rattle.vm_log.specs.Steps.{alone_back, alone_names, frames_less, kept_all, kept_alone, kept_with, names_of, new_alone, new_guest, new_kept, put_at, raised_alone, with_alone, with_entries, with_fate, with_guest, Growing}
use Rattle.vm_log.specs.Told.{AreKeptSmall, IsSmall}
use Rattle.vm_log.proofs.GatherLemmas.{among-place, among_front, names-append, never-left, never-steered, not-among, with-new, with-rising, with-there}
use Rattle.vm_log.proofs.GuestLemmas.{guest-made, made}
use Rattle.vm_log.proofs.SeenLemmas.{greatest-append, most-append, most-more}
use Rattle.vm_log.proofs.TrimLemmas.{trimmed}

-- ---- at the place of a name

map-insert : {A B : Type 0} (f : A → B) (xs : List A) (k : ℕ) (x : A) → map f (insert xs k x) ≡ insert (map f xs) k (f x)
map-insert f xs zero x = refl
map-insert f [] (suc k) x = refl
map-insert f (y ∷ xs) (suc k) x = ap (λ l. f y ∷ l) (map-insert f xs k x)

pub put-map : {A : Type 0} (f : List ℕ → A) (names : List (List ℕ)) (name : List ℕ) (new : A) → AreRising names → (is_among names name ≡ false → f name ≡ new)
    → put_at names name new (map f names) ≡ map f (with_name name names)
put-map {A} f names name new r fresh = go (stands_at names (place_of names name) name) refl
  where
    go : (t : Bool) → stands_at names (place_of names name) name ≡ t → put_at names name new (map f names) ≡ map f (with_name name names)
    go true e = rw e (ap (map f) (sym (with-there name names e)))
    go false e =
        let is : f name ≡ new = fresh (among-place name names r ∙ e) in
        rw e (ap (insert (map f names) (place_of names name)) (sym is) ∙ (sym (map-insert f names (place_of names name) name) ∙ ap (map f) (sym (with-new name names e))))

-- ---- who was never seen

neither : (a b : Option ℕ) → greater a b ≡ None → (a ≡ None) × (b ≡ None)
neither None b e = (refl, e)
neither (Some x) None e = absurd (cc)
neither (Some x) (Some y) e = absurd (cc)

use_parts : (name : List ℕ) (n : ℕ) (samples : List (List EntryView)) → use_in name samples ≡ None → (use_in name (take n samples) ≡ None) × (use_in name (drop n samples) ≡ None)
use_parts name n samples e =
    neither (use_in name (take n samples)) (use_in name (drop n samples))
    (sym (greatest-append (λ d. d.used) name (take n samples) (drop n samples)) ∙ (ap (use_in name) (take-append-drop n samples) ∙ e))

cut_none : (name : List ℕ) (every count : ℕ) (samples : List (List EntryView)) → use_in name samples ≡ None → map (use_in name) (cut every count samples) ≡ replicate count None
cut_none name every zero samples e = refl
cut_none name every (suc count) samples e =
    let parts = use_parts name every samples e in
    λ i. parts.0 i ∷ cut_none name every count (drop every samples) parts.1 i

none_trimmed : (count : ℕ) → trimmed (replicate count None) ≡ []
none_trimmed zero = refl
none_trimmed (suc count) = none_trimmed count

none_first : (count : ℕ) → absent_first (replicate count None) ≡ count
none_first zero = refl
none_first (suc count) = let e = none_first count in omega (arith, e)

length_cut : (every n : ℕ) (samples : List (List EntryView)) → length (cut every n samples) ≡ n
length_cut every zero samples = refl
length_cut every (suc n) samples = ap suc (length_cut every n (drop every samples))

pub guest-unseen : (policy : PolicyView) (every epochs : ℕ) (samples : List (List EntryView)) (name : List ℕ) → length (epochs_of every samples) ≡ epochs
    → is_among (guest_names samples) name ≡ false → guest_of policy every samples name ≡ new_guest policy.most (rules_of policy.guests name) epochs name
unfolding new_guest
guest-unseen policy every epochs samples name wide none =
    let count = div_ceil (length samples) every in
    let use_none = (never-steered (λ d. d.used) name [] samples none).1 in
    let size_none = (never-steered (λ d. d.size) name [] samples none).1 in
    let uses : uses_of every name samples ≡ replicate count None = cut_none name every count samples use_none in
    let many : count ≡ epochs = sym (length_cut every count samples) ∙ wide in
    guest-made policy every samples name
    ∙ ((λ i. made policy.most (rules_of policy.guests name) name (unwrap_or (size_none i) 0) (uses i))
    ∙ (λ i. record {
      name = name;
      size = 0;
      min = (bounds_at policy.most (rules_of policy.guests name) 0).min;
      cap = (bounds_at policy.most (rules_of policy.guests name) 0).cap;
      shares = (bounds_at policy.most (rules_of policy.guests name) 0).shares;
      first = (none_first count ∙ many) i;
      uses = none_trimmed count i;
    }))

pub kept-unseen : (policy : PolicyView) (every ended : ℕ) (closed : List (List EntryView)) (name : List ℕ) → length (epochs_of every closed) ≡ ended
    → is_among (guest_names closed) name ≡ false → kept_for policy every closed name ≡ new_kept (rules_of policy.guests name) ended
unfolding new_kept new_guest
kept-unseen policy every ended closed name wide none =
    let is = guest-unseen policy every ended closed name wide none in
    λ i. record {
      rules = rules_of policy.guests name;
      is_new = not (none i);
      first = (is i).first;
      size = (is i).size;
      length = length (is i).uses;
      counts = counts_of (is i).uses;
    }

earlier : (closed opened : List (List EntryView)) (name : List ℕ) → is_among (guest_names (closed ++ opened)) name ≡ false → is_among (guest_names closed) name ≡ false
earlier closed opened name none =
    (never-steered (λ d. d.used) name (guest_names closed) opened (ap (λ (l : List (List ℕ)). is_among l name) (sym (names-append is_steered [] closed opened)) ∙ none)).0

-- ---- who comes in

names-of : (policy : PolicyView) (every : ℕ) (samples : List (List EntryView)) (names : List (List ℕ)) → names_of (map (guest_of policy every samples) names) ≡ names
unfolding guest_of
names-of policy every samples [] = refl
names-of policy every samples (name ∷ names) = ap (λ l. name ∷ l) (names-of policy every samples names)

pub names-back : (policy : PolicyView) (every : ℕ) (samples : List (List EntryView)) (names : List (List ℕ)) → names_of (map (guest_of policy every samples) names) ≡ names
names-back policy every samples names = names-of policy every samples names

pub alone-back : (closed all : List (List EntryView)) (names : List (List ℕ)) → alone_names (map (alone_for closed all) names) ≡ names
alone-back closed all [] = refl
alone-back closed all (name ∷ names) = ap (λ l. name ∷ l) (alone-back closed all names)

-- by names of guests and of those beside
abbrev pub grown : PolicyView → (every : ℕ) → (closed opened : List (List EntryView)) → (names left : List (List ℕ)) → Growing
grown policy every closed opened names left = record {
  guests = map (guest_of policy every (closed ++ opened)) names;
  kept = map (kept_for policy every closed) names;
  beside = map (alone_for closed (closed ++ opened)) left;
}

-- all that were seen are among these
pub record AreAll (closed opened : List (List EntryView)) (names left : List (List ℕ)) : Type 0 where
  pub rising : AreRising names
  pub left_rising : AreRising left
  pub guests : (name : List ℕ) → is_among names name ≡ false → is_among (guest_names (closed ++ opened)) name ≡ false
  pub beside : (name : List ℕ) → is_among left name ≡ false → is_among (left_names (closed ++ opened)) name ≡ false

module _ (policy : PolicyView) (every epochs ended : ℕ) (closed opened : List (List EntryView)) (wide : length (epochs_of every (closed ++ opened)) ≡ epochs) (kept_wide : length (epochs_of every closed) ≡ ended) where
  guest-in : (names left : List (List ℕ)) (name : List ℕ) → AreAll closed opened names left
      → with_guest policy epochs ended name (grown policy every closed opened names left) ≡ grown policy every closed opened (with_name name names) left
  guest-in names left name all =
      let back = names-back policy every (closed ++ opened) names in
      let guests = put-map (guest_of policy every (closed ++ opened)) names name (new_guest policy.most (rules_of policy.guests name) epochs name) all.rising
      (λ none. guest-unseen policy every epochs (closed ++ opened) name wide (all.guests name none)) in
      let kept = put-map (kept_for policy every closed) names name (new_kept (rules_of policy.guests name) ended) all.rising
      (λ none. kept-unseen policy every ended closed name kept_wide (earlier closed opened name (all.guests name none))) in
      λ i. record {
        guests = (ap (λ (n : List (List ℕ)). put_at n name (new_guest policy.most (rules_of policy.guests name) epochs name) (map (guest_of policy every (closed ++ opened)) names)) back ∙ guests) i;
        kept = (ap (λ (n : List (List ℕ)). put_at n name (new_kept (rules_of policy.guests name) ended) (map (kept_for policy every closed) names)) back ∙ kept) i;
        beside = map (alone_for closed (closed ++ opened)) left;
      }

  alone-in : (names left : List (List ℕ)) (name : List ℕ) → AreAll closed opened names left
      → with_alone name (grown policy every closed opened names left) ≡ grown policy every closed opened names (with_name name left)
  alone-in names left name all =
      let back = alone-back closed (closed ++ opened) left in
      let fresh : is_among left name ≡ false → alone_for closed (closed ++ opened) name ≡ new_alone name = λ none. alone_unseen name (all.beside name none) in
      let beside = put-map (alone_for closed (closed ++ opened)) left name (new_alone name) all.left_rising fresh in
      λ i. record {
        guests = map (guest_of policy every (closed ++ opened)) names;
        kept = map (kept_for policy every closed) names;
        beside = (ap (λ (n : List (List ℕ)). put_at n name (new_alone name) (map (alone_for closed (closed ++ opened)) left)) back ∙ beside) i;
      }
    where
      less : (a b : ℕ) → max a b ≡ 0 → a ≡ 0
      less a b e = omega arith

      alone_unseen : (n : List ℕ) → is_among (left_names (closed ++ opened)) n ≡ false → alone_for closed (closed ++ opened) n ≡ new_alone n
      alone_unseen n none =
          let all_none = (never-left n [] (closed ++ opened) none).1 in
          let before : most_left n closed ≡ 0 = less (most_left n closed) (most_left n opened) (sym (most-append n closed opened) ∙ all_none) in
          λ i. record { name = n; before = before i; most = all_none i }

  more-guests : (names left : List (List ℕ)) (name : List ℕ) → AreAll closed opened names left → AreAll closed opened (with_name name names) left
  more-guests names left name all = record {
    rising = with-rising name names all.rising;
    left_rising = all.left_rising;
    guests = λ n none. all.guests n (not-among name n names none).1;
    beside = all.beside;
  }

  more-beside : (names left : List (List ℕ)) (name : List ℕ) → AreAll closed opened names left → AreAll closed opened names (with_name name left)
  more-beside names left name all = record {
    rising = all.rising;
    left_rising = with-rising name left all.left_rising;
    guests = all.guests;
    beside = λ n none. all.beside n (not-among name n left none).1;
  }

  pub all-in : (names left : List (List ℕ)) (entries : List EntryView) → AreAll closed opened names left
      → with_entries policy epochs ended entries (grown policy every closed opened names left)
      ≡ grown policy every closed opened (with_names is_steered names entries) (with_names is_left left entries)
  all-in names left [] all = refl
  all-in names left (e ∷ entries) all = go (λ (ns ls : List (List ℕ)). all-in ns ls entries) e.name e.fate
    where
      go : ((ns ls : List (List ℕ)) → AreAll closed opened ns ls → with_entries policy epochs ended entries (grown policy every closed opened ns ls)
          ≡ grown policy every closed opened (with_names is_steered ns entries) (with_names is_left ls entries)) → (m : List ℕ) (fate : Fate)
          → with_entries policy epochs ended entries (with_fate policy epochs ended m fate (grown policy every closed opened names left))
          ≡ grown policy every closed opened (with_names is_steered (if is_steered fate then with_name m names else names) entries) (with_names is_left (if is_left fate then with_name m left else left) entries)
      go again m (Left l) = ap (with_entries policy epochs ended entries) (alone-in names left m all) ∙ again names (with_name m left) (more-beside names left m all)
      go again m (Steered s) = ap (with_entries policy epochs ended entries) (guest-in names left m all) ∙ again (with_name m names) left (more-guests names left m all)

-- ---- those beside

pub beside-more : (closed opened : List (List EntryView)) (s : List EntryView) (left : List (List ℕ))
    → map (raised_alone s) (map (alone_for closed (closed ++ opened)) left) ≡ map (alone_for closed (closed ++ (opened ++ s ∷ []))) left
beside-more closed opened s [] = refl
beside-more closed opened s (name ∷ left) =
    let most : max (most_left name (closed ++ opened)) (left_in name s) ≡ most_left name (closed ++ (opened ++ s ∷ [])) =
    sym (most-more name (closed ++ opened) s) ∙ ap (most_left name) (append_assoc closed opened (s ∷ [])) in
    λ i. record { name = name; before = most_left name closed; most = most i } ∷ beside-more closed opened s left i

pub beside-kept : (closed all : List (List EntryView)) (left : List (List ℕ)) → map kept_alone (map (alone_for closed all) left) ≡ map (alone_for all all) left
beside-kept closed all [] = refl
beside-kept closed all (name ∷ left) = ap (λ l. alone_for all all name ∷ l) (beside-kept closed all left)

pub beside-back : (closed all : List (List EntryView)) (left : List (List ℕ)) → map alone_back (map (alone_for closed all) left) ≡ map (alone_for closed closed) left
beside-back closed all [] = refl
beside-back closed all (name ∷ left) = ap (λ l. alone_for closed closed name ∷ l) (beside-back closed all left)

-- ---- what they leave

less_both : (frames a b : ℕ) → frames - a - b ≡ frames - (a + b)
less_both frames a b = omega arith

pub frames-are : (guests : List (List ℕ)) (closed all : List (List EntryView)) (frames : ℕ) (left : List (List ℕ)) → frames_less guests frames (map (alone_for closed all) left) ≡ frames - held_beside guests all left
frames-are guests closed all frames [] = let e : frames ≡ frames - 0 = omega arith in e
frames-are guests closed all frames (name ∷ left) = go (is_among guests name) (λ (n : ℕ). frames-are guests closed all n left)
  where
    go : (t : Bool) → ((n : ℕ) → frames_less guests n (map (alone_for closed all) left) ≡ n - held_beside guests all left)
        → frames_less guests (if t then frames else frames - most_left name all) (map (alone_for closed all) left) ≡ frames - ((if t then 0 else most_left name all) + held_beside guests all left)
    go true later = later frames ∙ (let e : frames - held_beside guests all left ≡ frames - (0 + held_beside guests all left) = omega arith in e)
    go false later = later (frames - most_left name all) ∙ less_both frames (most_left name all) (held_beside guests all left)

-- who held nothing doesn't matter
module _ (guests : List (List ℕ)) (all : List (List EntryView)) where
  nothing_held : (name : List ℕ) → most_left name all ≡ 0 → (if is_among guests name then 0 else most_left name all) ≡ 0
  nothing_held name none = go (is_among guests name)
    where
      go : (t : Bool) → (if t then 0 else most_left name all) ≡ 0
      go true = refl
      go false = none

  held-with : (name : List ℕ) (left : List (List ℕ)) → most_left name all ≡ 0 → held_beside guests all (with_name name left) ≡ held_beside guests all left
  held-with name [] none = let e = nothing_held name none in omega (arith, e)
  held-with name (n ∷ left) none = go (bytes_eq n name) (is_before n name) (held-with name left none)
    where
      value : List ℕ → ℕ
      value m = if is_among guests m then 0 else most_left m all

      go : (t u : Bool) → held_beside guests all (with_name name left) ≡ held_beside guests all left
          → held_beside guests all (if t then n ∷ left else (if u then n ∷ with_name name left else name ∷ n ∷ left)) ≡ held_beside guests all (n ∷ left)
      go true u later = refl
      go false true later = ap (λ (h : ℕ). (if is_among guests n then 0 else most_left n all) + h) later
      go false false later = let e = nothing_held name none in omega (arith, e)

  -- who is there already changes nothing
  held_step : (name : List ℕ) (left : List (List ℕ)) → AreRising left → (is_among left name ≡ false → most_left name all ≡ 0) → held_beside guests all (with_name name left) ≡ held_beside guests all left
  held_step name left r none = go (is_among left name) refl
    where
      go : (t : Bool) → is_among left name ≡ t → held_beside guests all (with_name name left) ≡ held_beside guests all left
      go true e = ap (held_beside guests all) (with-there name left (sym (among-place name left r) ∙ e))
      go false e = held-with name left (none e)

  abbrev HoldNothing : List (List ℕ) → Type 0
  HoldNothing left = (name : List ℕ) → is_among left name ≡ false → most_left name all ≡ 0

  held_entries : (left : List (List ℕ)) (entries : List EntryView) → AreRising left → HoldNothing left
      → (held_beside guests all (with_names is_left left entries) ≡ held_beside guests all left) × (AreRising (with_names is_left left entries) × HoldNothing (with_names is_left left entries))
  held_entries left [] r none = (refl, (r, none))
  held_entries left (e ∷ entries) r none = go (λ (ls : List (List ℕ)). held_entries ls entries) (is_left e.fate)
    where
      go : ((ls : List (List ℕ)) → AreRising ls → HoldNothing ls
          → (held_beside guests all (with_names is_left ls entries) ≡ held_beside guests all ls) × (AreRising (with_names is_left ls entries) × HoldNothing (with_names is_left ls entries)))
          → (t : Bool) → (held_beside guests all (with_names is_left (if t then with_name e.name left else left) entries) ≡ held_beside guests all left)
          × (AreRising (with_names is_left (if t then with_name e.name left else left) entries) × HoldNothing (with_names is_left (if t then with_name e.name left else left) entries))
      go again true =
          let rest = again (with_name e.name left) (with-rising e.name left r) (λ n out. none n (not-among e.name n left out).1) in
          (rest.0 ∙ held_step e.name left r (none e.name), rest.1)
      go again false = again left r none

  pub held-samples : (left : List (List ℕ)) (samples : List (List EntryView)) → AreRising left → HoldNothing left → held_beside guests all (names_from is_left left samples) ≡ held_beside guests all left
  held-samples left [] r none = refl
  held-samples left (s ∷ samples) r none =
      let here = held_entries left s r none in
      held-samples (with_names is_left left s) samples here.1.0 here.1.1 ∙ here.0

-- ---- what is kept of all at the end of an epoch

pub kept-made : (policy : PolicyView) (every : ℕ) (closed all : List (List EntryView)) (front names : List (List ℕ)) → guest_names all ≡ front ++ names
    → kept_all (map (guest_of policy every all) names) (counts_for (map (guest_of policy every all) names)) (map (kept_for policy every closed) names) ≡ map (kept_for policy every all) names
kept-made policy every closed all front [] is = refl
kept-made policy every closed all front (name ∷ names) is =
    let there : is_among (guest_names all) name ≡ true = ap (λ (l : List (List ℕ)). is_among l name) is ∙ among_front front name names in
    let rest = kept-made policy every closed all (front ++ name ∷ []) names (is ∙ sym (append_assoc front (name ∷ []) names)) in
    let g = guest_of policy every all name in
    λ i. record { rules = rules_of policy.guests name; is_new = not (sym there i); first = g.first; size = g.size; length = length g.uses; counts = counts_of g.uses } ∷ rest i

-- ---- domain by domain

pub add_next : (policy : PolicyView) (epochs here closed : ℕ) (entries : List EntryView) (i : ℕ) (e : EntryView) (old new whole : Growing) → i < length entries → e ≡ get_or entries i e → here ≡ epochs
    → new ≡ with_fate policy here closed e.name e.fate old → with_entries policy epochs closed (drop i entries) old ≡ whole → with_entries policy epochs closed (drop (i + 1) entries) new ≡ whole
add_next policy epochs here closed entries i e old new whole less is same to done =
    let split : drop i entries ≡ e ∷ drop (i + 1) entries = drop_more entries i e less ∙ ap (λ (x : EntryView). x ∷ drop (i + 1) entries) (sym is) in
    ap (with_entries policy epochs closed (drop (i + 1) entries)) (to ∙ ap (λ (n : ℕ). with_fate policy n closed e.name e.fate old) same)
    ∙ (ap (λ (l : List EntryView). with_entries policy epochs closed l old) (sym split) ∙ done)

put-names : {A : Type 0} (f : A → List ℕ) (all : List A) (name : List ℕ) (new : A) → f new ≡ name → AreRising (map f all) → AreRising (map f (put_at (map f all) name new all))
put-names {A} f all name new is r = go (stands_at (map f all) (place_of (map f all) name) name) refl
  where
    go : (t : Bool) → stands_at (map f all) (place_of (map f all) name) name ≡ t → AreRising (map f (if t then all else insert all (place_of (map f all) name) new))
    go true e = r
    go false e =
        let names : map f (insert all (place_of (map f all) name) new) ≡ with_name name (map f all) =
        map-insert f all (place_of (map f all) name) new ∙ (ap (insert (map f all) (place_of (map f all) name)) is ∙ sym (with-new name (map f all) e)) in
        subst AreRising (sym names) (with-rising name (map f all) r)

pub guests_rising : (policy : PolicyView) (epochs closed : ℕ) (name : List ℕ) (fate : Fate) (all : Growing) → AreRising (names_of all.guests) → AreRising (names_of (with_fate policy epochs closed name fate all).guests)
unfolding new_guest
guests_rising policy epochs closed name (Left left) all r = r
guests_rising policy epochs closed name (Steered steered) all r =
    put-names (λ (g : GuestView). g.name) all.guests name (new_guest policy.most (rules_of policy.guests name) epochs name) refl r

pub beside_rising : (policy : PolicyView) (epochs closed : ℕ) (name : List ℕ) (fate : Fate) (all : Growing) → AreRising (alone_names all.beside) → AreRising (alone_names (with_fate policy epochs closed name fate all).beside)
beside_rising policy epochs closed name (Left left) all r = put-names (λ (a : AloneView). a.name) all.beside name (new_alone name) refl r
beside_rising policy epochs closed name (Steered steered) all r = r

-- ---- what is kept stays small

insert_small : (epochs : ℕ) (kept : List Kept) (i : ℕ) (k : Kept) → AreKeptSmall epochs kept → IsSmall epochs k.counts → AreKeptSmall epochs (insert kept i k)
insert_small epochs kept zero k small one = (one, small)
insert_small epochs [] (suc i) k small one = (one, tt)
insert_small epochs (x ∷ kept) (suc i) k small one = (small.0, insert_small epochs kept i k small.1 one)

new_small : (epochs : ℕ) (rules : Rules) (closed : ℕ) → IsSmall epochs (new_kept rules closed).counts
unfolding new_kept counts_of
new_small epochs rules closed = record { steps = omega arith; bytes = omega arith }

fate_small : (small_in : ℕ) (policy : PolicyView) (epochs closed : ℕ) (name : List ℕ) (fate : Fate) (all : Growing) → AreKeptSmall small_in all.kept → AreKeptSmall small_in (with_fate policy epochs closed name fate all).kept
fate_small small_in policy epochs closed name (Left left) all small = small
fate_small small_in policy epochs closed name (Steered steered) all small = go (stands_at (names_of all.guests) (place_of (names_of all.guests) name) name)
  where
    go : (t : Bool) → AreKeptSmall small_in (if t then all.kept else insert all.kept (place_of (names_of all.guests) name) (new_kept (rules_of policy.guests name) closed))
    go true = small
    go false = insert_small small_in all.kept (place_of (names_of all.guests) name) (new_kept (rules_of policy.guests name) closed) small (new_small small_in (rules_of policy.guests name) closed)

pub entries_small : (small_in : ℕ) (policy : PolicyView) (epochs closed : ℕ) (entries : List EntryView) (all : Growing) → AreKeptSmall small_in all.kept → AreKeptSmall small_in (with_entries policy epochs closed entries all).kept
entries_small small_in policy epochs closed [] all small = small
entries_small small_in policy epochs closed (e ∷ entries) all small = entries_small small_in policy epochs closed entries (with_fate policy epochs closed e.name e.fate all) (fate_small small_in policy epochs closed e.name e.fate all small)

-- What comes of each domain, one after the other.
use Rattle.std.proofs.Common.{◌≡◌, ◌∙◌, ℕ, zero, suc, ◌+◌, ◌<◌, Bool, List, [], ◌∷◌, ◌++◌, Option, Result, Ok, Err, drop, get_or, length, slice_get, sym, refl, ap, arith, add-one, append_assoc}
use Rattle.std.proofs.lemmas.List.{drop_more}
use Rattle.vm_samples.specs.Policies.{PolicyView}
use Rattle.vm_steer.specs.declared.fate.LeftDomain.{LeftDomain}
use Rattle.vm_steer.specs.declared.outcome.Outcome.{Outcome}
use Rattle.vm_steer.specs.Entries.{EntryView, names_in}
use Rattle.vm_steer.specs.NumbersView.{NumbersView}
use Rattle.vm_steer.specs.Sights.{rows_of_one}
use Rattle.vm_steer.specs.Told.{entries_of, entry_of, outcomes_behind}

first_left : (outcomes : List Outcome) (n : ℕ) → slice_get (drop n outcomes) 0 ≡ slice_get outcomes n
first_left [] zero = refl
first_left [] (suc n) = refl
first_left (o ∷ outcomes) zero = refl
first_left (o ∷ outcomes) (suc n) = first_left outcomes n

drop_one : (outcomes : List Outcome) (n : ℕ) → drop 1 (drop n outcomes) ≡ drop (suc n) outcomes
drop_one [] zero = refl
drop_one [] (suc n) = refl
drop_one (o ∷ outcomes) zero = refl
drop_one (o ∷ outcomes) (suc n) = drop_one outcomes n

behind_left : (sight : Result NumbersView LeftDomain) (outcomes : List Outcome) (n : ℕ) → outcomes_behind sight (drop n outcomes) ≡ drop (n + rows_of_one sight) outcomes
behind_left (Ok numbers) outcomes n = drop_one outcomes n ∙ ap (λ k. drop k outcomes) (sym (add-one n))
behind_left (Err left) outcomes n = let e : n ≡ n + 0 = omega arith in ap (λ k. drop k outcomes) e

-- one domain more
pub step_entry : (policy : PolicyView) (rises : Bool) (done : List EntryView) (names : List (List ℕ)) (sights : List (Result NumbersView LeftDomain)) (outcomes : List Outcome) (whole : List EntryView)
    → (i n : ℕ) (name : List ℕ) (sight : Result NumbersView LeftDomain) (entry : EntryView) → i < length names → i < length sights → name ≡ get_or names i [] → get_or sights i sight ≡ sight
    → entry ≡ entry_of policy rises name sight (slice_get outcomes n) → done ++ entries_of policy rises (drop i names) (drop i sights) (drop n outcomes) ≡ whole
    → (done ++ entry ∷ []) ++ entries_of policy rises (drop (i + 1) names) (drop (i + 1) sights) (drop (n + rows_of_one sight) outcomes) ≡ whole
step_entry policy rises done names sights outcomes whole i n name sight entry in_names in_sights name_is sight_is is all =
    let later = entries_of policy rises (drop (i + 1) names) (drop (i + 1) sights) (drop (n + rows_of_one sight) outcomes) in
    let split_names : drop i names ≡ name ∷ drop (i + 1) names = drop_more names i [] in_names ∙ ap (λ (x : List ℕ). x ∷ drop (i + 1) names) (sym name_is) in
    let split_sights : drop i sights ≡ sight ∷ drop (i + 1) sights = drop_more sights i sight in_sights ∙ ap (λ (x : Result NumbersView LeftDomain). x ∷ drop (i + 1) sights) sight_is in
    let same : entries_of policy rises (drop i names) (drop i sights) (drop n outcomes) ≡ entry ∷ later =
    (λ j. entries_of policy rises (split_names j) (split_sights j) (drop n outcomes))
    ∙ (λ j. (ap (λ (o : Option Outcome). entry_of policy rises name sight o) (first_left outcomes n) ∙ sym is) j ∷ entries_of policy rises (drop (i + 1) names) (drop (i + 1) sights) (behind_left sight outcomes n j)) in
    simp append_assoc (ap (λ (l : List EntryView). done ++ l) (sym same) ∙ all)

-- the names stay
pub names_stay : (policy : PolicyView) (rises : Bool) (names : List (List ℕ)) (sights : List (Result NumbersView LeftDomain)) (outcomes : List Outcome) → length sights ≡ length names
    → names_in (entries_of policy rises names sights outcomes) ≡ names
names_stay policy rises [] sights outcomes same = refl
names_stay policy rises (name ∷ names) [] outcomes same = absurd (omega arith)
names_stay policy rises (name ∷ names) (sight ∷ sights) outcomes same = ap (λ l. name ∷ l) (names_stay policy rises names sights (outcomes_behind sight outcomes) (omega arith))

-- Whether a guest runs in any of a list of slots.
use Rattle.std.proofs.Common.{◌≡◌, ◌+◌, ◌<◌, ℕ, zero, suc, List, [], ◌∷◌, ap, arith, get_or, length, map, refl}
use Rattle.std.specs.Prelude.{IsTrue, OnOk, Option, Some, None, Result, Ok, Err, false, true}
use Rattle.std.specs.Option.{is_some, option_map}
use Rattle.vm_pool.specs.declared.slot.Slot.{Slot}
use Rattle.vm_pool.specs.declared.slot.Slot.TheVariants.{Stopped, Running, Away}
use Rattle.vm_pool.specs.Pool.{one_if_runs, running_count}
use Rattle.vm_pool.specs.Slots.{guest_in, slot_run}
use Rattle.vm_pool.specs.Turns.{running_in}
use Rattle.vm_pool.proofs.FirstLemmas.{first_total}

-- none does
pub none-running : (slots : List Slot) → ((k : ℕ) → k < length slots → guest_in (get_or slots k Away) ≡ None) → running_count (map guest_in slots) ≡ 0
none-running [] none = refl
none-running (Stopped config ∷ slots) none =
    let rest = none-running slots (λ k below. none (suc k) (omega (arith, below))) in omega (arith, rest)
none-running (Running s ∷ slots) none = let no : Some s.guest ≡ None = none 0 (omega arith) in absurd (cc)
none-running (Away ∷ slots) none =
    let rest = none-running slots (λ k below. none (suc k) (omega (arith, below))) in omega (arith, rest)

-- one does
pub some-running : (slots : List Slot) (i : ℕ) → i < length slots → is_some (guest_in (get_or slots i Away)) ≡ true → 0 < running_count (map guest_in slots)
some-running [] i there runs = absurd (omega (arith, there))
some-running (Stopped config ∷ slots) zero there runs = let no : false ≡ true = runs in absurd (cc)
some-running (Running s ∷ slots) zero there runs = omega arith
some-running (Away ∷ slots) zero there runs = let no : false ≡ true = runs in absurd (cc)
some-running (Stopped config ∷ slots) (suc i) there runs =
    let rest = some-running slots i (omega (arith, there)) runs in omega (arith, rest)
some-running (Running s ∷ slots) (suc i) there runs = omega arith
some-running (Away ∷ slots) (suc i) there runs =
    let rest = some-running slots i (omega (arith, there)) runs in omega (arith, rest)

pub is_some-map : {A : Type 0} {B : Type 0} (f : A → B) (x : Option A) → is_some (option_map f x) ≡ is_some x
is_some-map f None = refl
is_some-map f (Some a) = refl

-- where none does, an epoch changes nothing
pub idle-run : (slots : List Slot) → running_count (map guest_in slots) ≡ 0 → map slot_run slots ≡ slots
idle-run [] none = refl
idle-run (Stopped config ∷ slots) none = ap (λ rest. Stopped config ∷ rest) (idle-run slots (omega (arith, none)))
idle-run (Running s ∷ slots) none = absurd (omega (arith, none))
idle-run (Away ∷ slots) none = ap (λ rest. Away ∷ rest) (idle-run slots (omega (arith, none)))

pub not-more : (n : ℕ) → (0 < n → IsTrue false) → n ≡ 0
not-more zero more = refl
not-more (suc n) more = let no : false ≡ true = more (omega arith) in absurd (cc)

-- those that run, one after the other
pub all-running : (slots : List Slot) → first_total (λ slot. one_if_runs (guest_in slot)) (length slots) slots ≡ running_count (map guest_in slots)
all-running [] = refl
all-running (slot ∷ slots) = ap (λ n. one_if_runs (guest_in slot) + n) (all-running slots)

pub length-running : (slots : List Slot) → length (running_in slots) ≡ running_count (map guest_in slots)
length-running [] = refl
length-running (Stopped config ∷ slots) = let rest = length-running slots in omega (arith, rest)
length-running (Running s ∷ slots) = let rest = length-running slots in omega (arith, rest)
length-running (Away ∷ slots) = let rest = length-running slots in omega (arith, rest)

pub on-ok : {A E : Type 0} (r : Result A E) (P Q : Type 0) → (P → Q) → OnOk r P → OnOk r Q
on-ok (Ok a) P Q more h = more h
on-ok (Err e) P Q more h = h

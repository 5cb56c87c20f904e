-- What guests become by a call, guest by guest. A relation between each guest before and after says it once for all calls: which facts
-- stay, and which sums.
use Rattle.std.proofs.Common.{◌≡◌, ℕ, zero, suc, ◌+◌, ◌≤◌, List, [], ◌∷◌, Option, Some, None, IfSome, length, refl, sym, ap₂, subst, arith}
use Rattle.std.specs.Prelude.{⊤}
use Rattle.std.proofs.lemmas.List.Elements.{All-cons, All-head, All-tail}
use Rattle.std.proofs.lemmas.Option.{none-some}
use Rattle.vm_guest.specs.Boundary.{released, surplus}
use Rattle.vm_guest.specs.Record.{GuestRecord}
use Rattle.vm_pool.specs.Changes.{AreReleasable}
use Rattle.vm_pool.specs.Guests.{Guests, each_changed, each_released, guest_changed, guest_in, of_running, total, EachRunning}

-- what a guest is before a call, and after it
abbrev pub Step : Type 1
Step = GuestRecord → GuestRecord → Type 0

-- the guest of an entry took the step, or none runs there before and after
abbrev pub Becomes : Step → Option GuestRecord → Option GuestRecord → Type 0
Becomes R None None = ⊤
Becomes R None (Some new) = ⊥
Becomes R (Some old) None = ⊥
Becomes R (Some old) (Some new) = R old new

-- each guest took the step, and none started or stopped
abbrev pub EachBecomes : Step → Guests → Guests → Type 0
EachBecomes R [] [] = ⊤
EachBecomes R [] (new ∷ news) = ⊥
EachBecomes R (old ∷ olds) [] = ⊥
EachBecomes R (old ∷ olds) (new ∷ news) = Becomes R old new × EachBecomes R olds news

-- ---- steps

pub become-none : (R : Step) → ((g : GuestRecord) → R g g) → (guests : Guests) → EachBecomes R guests guests
become-none R stays [] = tt
become-none R stays (None ∷ guests) = (tt, become-none R stays guests)
become-none R stays (Some g ∷ guests) = (stays g, become-none R stays guests)

pub become-then : (R : Step) → ((a b c : GuestRecord) → R a b → R b c → R a c) → (old middle new : Guests) → EachBecomes R old middle → EachBecomes R middle new → EachBecomes R old new
become-then R joins [] [] [] first second = tt
become-then R joins [] [] (new ∷ news) first second = absurd second
become-then R joins [] (middle ∷ middles) news first second = absurd first
become-then R joins (old ∷ olds) [] news first second = absurd first
become-then R joins (old ∷ olds) (middle ∷ middles) [] first second = absurd second
become-then R joins (old ∷ olds) (middle ∷ middles) (new ∷ news) first second = (one old middle new first.0 second.0, become-then R joins olds middles news first.1 second.1)
  where
    one : (old middle new : Option GuestRecord) → Becomes R old middle → Becomes R middle new → Becomes R old new
    one None None None first second = tt
    one None None (Some c) first second = absurd second
    one None (Some b) c first second = absurd first
    one (Some a) None c first second = absurd first
    one (Some a) (Some b) None first second = absurd second
    one (Some a) (Some b) (Some c) first second = joins a b c first second

-- each guest is changed
pub become-all : (R : Step) (change : GuestRecord → GuestRecord) (guests : Guests) → EachRunning (λ g. R g (change g)) guests → EachBecomes R guests (each_changed change guests)
become-all R change [] steps = tt
become-all R change (None ∷ guests) steps = (tt, become-all R change guests (All-tail (λ o. IfSome o (λ g. R g (change g))) None guests steps))
become-all R change (Some g ∷ guests) steps =
    (All-head (λ o. IfSome o (λ g. R g (change g))) (Some g) guests steps, become-all R change guests (All-tail (λ o. IfSome o (λ g. R g (change g))) (Some g) guests steps))

-- the guest at a position is changed
pub become-at : (R : Step) (change : GuestRecord → GuestRecord) (guests : Guests) (k : ℕ) → ((g : GuestRecord) → R g g) → IfSome (guest_in guests k) (λ g. R g (change g))
    → EachBecomes R guests (guest_changed change guests k)
become-at R change [] k stays step = tt
become-at R change (None ∷ guests) zero stays step = (tt, become-none R stays guests)
become-at R change (Some g ∷ guests) zero stays step = (step, become-none R stays guests)
become-at R change (None ∷ guests) (suc k) stays step = (tt, become-at R change guests k stays step)
become-at R change (Some g ∷ guests) (suc k) stays step = (stays g, become-at R change guests k stays step)

-- each guest gives up so many frames
pub become-released : (R : Step) (counts : List ℕ) (guests : Guests) → ((g : GuestRecord) → R g g) → ((count : ℕ) (g : GuestRecord) → count ≤ surplus g → R g (released count g))
    → AreReleasable counts guests → EachBecomes R guests (each_released counts guests)
become-released R [] guests stays step few = become-none R stays guests
become-released R (count ∷ counts) [] stays step few = tt
become-released R (count ∷ counts) (None ∷ guests) stays step few = (tt, become-released R counts guests stays step (λ i within. few (suc i) (omega (arith, within))))
become-released R (count ∷ counts) (Some g ∷ guests) stays step few =
    (step count g (few 0 (omega arith)), become-released R counts guests stays step (λ i within. few (suc i) (omega (arith, within))))

-- ---- what stays

pub length-become : (R : Step) (old new : Guests) → EachBecomes R old new → length new ≡ length old
length-become R [] [] steps = refl
length-become R [] (new ∷ news) steps = absurd steps
length-become R (old ∷ olds) [] steps = absurd steps
length-become R (old ∷ olds) (new ∷ news) steps = let rest = length-become R olds news steps.1 in omega (arith, rest)

-- a fact that each step keeps
pub each-become : (R : Step) (Fact : GuestRecord → Type 0) → ((old new : GuestRecord) → R old new → Fact old → Fact new) → (olds news : Guests) → EachBecomes R olds news
    → EachRunning Fact olds → EachRunning Fact news
each-become R Fact keeps [] [] steps each = each
each-become R Fact keeps [] (new ∷ news) steps each = absurd steps
each-become R Fact keeps (old ∷ olds) [] steps each = absurd steps
each-become R Fact keeps (old ∷ olds) (new ∷ news) steps each =
    All-cons (λ o. IfSome o Fact) new news (one old new steps.0 (All-head (λ o. IfSome o Fact) old olds each))
    (each-become R Fact keeps olds news steps.1 (All-tail (λ o. IfSome o Fact) old olds each))
  where
    one : (old new : Option GuestRecord) → Becomes R old new → IfSome old Fact → IfSome new Fact
    one None None step fact = tt
    one None (Some new) step fact = absurd step
    one (Some old) None step fact = absurd step
    one (Some old) (Some new) step fact = keeps old new step fact

-- a number that each step keeps
pub total-become : (R : Step) (number : GuestRecord → ℕ) → ((old new : GuestRecord) → R old new → number new ≡ number old) → (olds news : Guests) → EachBecomes R olds news
    → total number news ≡ total number olds
total-become R number keeps [] [] steps = refl
total-become R number keeps [] (new ∷ news) steps = absurd steps
total-become R number keeps (old ∷ olds) [] steps = absurd steps
total-become R number keeps (old ∷ olds) (new ∷ news) steps = ap₂ (λ n m. n + m) (one old new steps.0) (total-become R number keeps olds news steps.1)
  where
    one : (old new : Option GuestRecord) → Becomes R old new → of_running number new ≡ of_running number old
    one None None step = refl
    one None (Some new) step = absurd step
    one (Some old) None step = absurd step
    one (Some old) (Some new) step = keeps old new step

-- ---- the guest at a position

-- what it was
pub before-become : (R : Step) (olds news : Guests) (k : ℕ) (new : GuestRecord) → EachBecomes R olds news → guest_in news k ≡ Some new
    → (old : GuestRecord) × (guest_in olds k ≡ Some old) × R old new
before-become R [] [] k new steps here = absurd (none-some new here)
before-become R [] (o ∷ news) k new steps here = absurd steps
before-become R (o ∷ olds) [] k new steps here = absurd steps
before-become R (old ∷ olds) (o ∷ news) zero new steps here = one old o steps.0 here
  where
    one : (old o : Option GuestRecord) → Becomes R old o → guest_in (o ∷ []) zero ≡ Some new → (before : GuestRecord) × (guest_in (old ∷ []) zero ≡ Some before) × R before new
    one None None step here = absurd (none-some new here)
    one None (Some g) step here = absurd step
    one (Some g) None step here = absurd step
    one (Some g) (Some h) step here = let same : h ≡ new = cc in (g, refl, subst (R g) same step)
before-become R (old ∷ olds) (o ∷ news) (suc k) new steps here = before-become R olds news k new steps.1 here

-- what it became
pub after-become : (R : Step) (olds news : Guests) (k : ℕ) (old : GuestRecord) → EachBecomes R olds news → guest_in olds k ≡ Some old
    → (new : GuestRecord) × (guest_in news k ≡ Some new) × R old new
after-become R [] news k old steps here = absurd (none-some old here)
after-become R (o ∷ olds) [] k old steps here = absurd steps
after-become R (o ∷ olds) (new ∷ news) zero old steps here = one o new steps.0 here
  where
    one : (o new : Option GuestRecord) → Becomes R o new → guest_in (o ∷ []) zero ≡ Some old → (after : GuestRecord) × (guest_in (new ∷ []) zero ≡ Some after) × R old after
    one None None step here = absurd (none-some old here)
    one None (Some g) step here = absurd step
    one (Some g) None step here = absurd step
    one (Some g) (Some h) step here = let same : g ≡ old = cc in (h, refl, subst (λ (x : GuestRecord). R x h) same step)
after-become R (o ∷ olds) (new ∷ news) (suc k) old steps here = after-become R olds news k old steps.1 here

-- none runs there
pub none-become : (R : Step) (olds news : Guests) (k : ℕ) → EachBecomes R olds news → guest_in olds k ≡ None → guest_in news k ≡ None
none-become R [] [] k steps none = refl
none-become R [] (new ∷ news) k steps none = absurd steps
none-become R (old ∷ olds) [] k steps none = refl
none-become R (None ∷ olds) (None ∷ news) zero steps none = refl
none-become R (None ∷ olds) (Some new ∷ news) zero steps none = absurd steps.0
none-become R (Some old ∷ olds) (new ∷ news) zero steps none = absurd (none-some old (sym none))
none-become R (old ∷ olds) (new ∷ news) (suc k) steps none = none-become R olds news k steps.1 none

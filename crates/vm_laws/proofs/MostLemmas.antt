-- The most pages in swap of a run, and of each guest.
use Rattle.std.proofs.Common.{◌≡◌, ℕ, zero, suc, ◌<◌, ◌≤◌, [], ◌∷◌, Option, Some, None, IfSome, length, refl, sym, ap, ◌∙◌, subst, inl, inr, slice_get, arith}
use Rattle.std.proofs.lemmas.Bool.{cases_eq}
use Rattle.std.proofs.lemmas.Option.{slice_get-map}
use Rattle.std.specs.Option.{option_map}
use Rattle.vm_config.specs.declared.config.Config.{Config}
use Rattle.vm_config.specs.Limits.{IsConfig}
use Rattle.vm_guest.specs.Epoch.{epoch}
use Rattle.vm_guest.specs.Good.{HasNothingPosted, IsGood}
use Rattle.vm_guest.specs.Pieces.{pieces}
use Rattle.vm_guest.specs.Record.{GuestRecord}
use Rattle.vm_guest.proofs.PieceLemmas.{pieces-epoch}
use Rattle.vm_host.specs.World.{guest_at}
use Rattle.vm_pool.specs.Guests.{Guests, each_changed, guest_in, of_running, running}
use Rattle.vm_runs.specs.Served.{IsServed, LawOfCourse}
use Rattle.vm_runs.specs.Course.{Run}
use Rattle.vm_sim.specs.Course.{after_boundary, course_of, lines_at}
use Rattle.vm_tally.specs.Counting.{greatest_over, sum_over}
use Rattle.vm_tally.specs.Counts.{swapped_of}
use Rattle.vm_tally.specs.GuestSummary.{guest_summary_after, most_swapped_in as most_of_guest}
use Rattle.vm_tally.specs.Summary.{after_in, most_swapped_in, ready_in, summary_after, summary_of}
use Rattle.vm_laws.specs.Swapped.{IsMostAtAnEnd, IsMostOfEach, IsNoneExactly, NothingInSwap, swapped_after}

-- ---- a number of each of so many

part-of_sum : (f : ℕ → ℕ) (n k : ℕ) → k < n → f k ≤ sum_over f n
part-of_sum f zero k within = absurd (omega arith)
part-of_sum f (suc n) k within =
    elim (cases_eq k n) [
      | inl same ↦ omega (arith, ap f same)
      | inr other ↦
          let before : k < n = omega (arith, within, other) in
          omega (arith, part-of_sum f n k before)
    ]

sum-of_zeros : (f : ℕ → ℕ) (n : ℕ) → ((k : ℕ) → f k ≡ 0) → sum_over f n ≡ 0
sum-of_zeros f zero zeros = refl
sum-of_zeros f (suc n) zeros = omega (arith, sum-of_zeros f n zeros, zeros n)

one-of_greatest : (f : ℕ → ℕ) (n k : ℕ) → k < n → f k ≤ greatest_over f n
one-of_greatest f zero k within = absurd (omega arith)
one-of_greatest f (suc n) k within =
    elim (cases_eq k n) [
      | inl same ↦ omega (arith, ap f same)
      | inr other ↦
          let before : k < n = omega (arith, within, other) in
          omega (arith, one-of_greatest f n k before)
    ]

greatest-of_zeros : (f : ℕ → ℕ) (n : ℕ) → ((k : ℕ) → k < n → f k ≡ 0) → greatest_over f n ≡ 0
greatest-of_zeros f zero zeros = refl
greatest-of_zeros f (suc n) zeros =
    let earlier : (k : ℕ) → k < n → f k ≡ 0 = λ k within. zeros k (omega arith) in
    let last : f n ≡ 0 = zeros n (omega arith) in
    omega (arith, greatest-of_zeros f n earlier, last)

-- ---- a guest of a run

-- a guest that runs has a position
running-within : (guests : Guests) (position : ℕ) (g : GuestRecord) → guest_in guests position ≡ Some g → position < length guests
running-within [] position g is = absurd cc
running-within (guest ∷ guests) zero g is = omega arith
running-within (guest ∷ guests) (suc position) g is = let later = running-within guests position g is in omega arith

running-epoch : (entry : Option (Option GuestRecord)) → running (option_map (option_map epoch) entry) ≡ option_map epoch (running entry)
running-epoch None = refl
running-epoch (Some guest) = refl

epoch-at : (guests : Guests) (position : ℕ) → guest_in (each_changed epoch guests) position ≡ option_map epoch (guest_in guests position)
epoch-at guests position = ap running (slice_get-map (option_map epoch) guests position) ∙ running-epoch (slice_get guests position)

after-at : (course : Run) (k position : ℕ) → guest_at (after_in course k) position ≡ option_map epoch (guest_at (ready_in course k) position)
unfolding after_in ready_in after_boundary
after-at course k position = epoch-at (ready_in course k).pool.guests position

entry-of : (entry : Option (Option GuestRecord)) (g : GuestRecord) → running entry ≡ Some g → entry ≡ Some (Some g)
entry-of None g is = absurd cc
entry-of (Some guest) g is = ap Some is

-- both numbers of the guest at a position in epoch k
ready-number : (course : Run) (k position : ℕ) (g : GuestRecord) → guest_at (ready_in course k) position ≡ Some g
    → of_running swapped_of (guest_at (ready_in course k) position) ≡ swapped_of g
ready-number course k position g is = ap (of_running swapped_of) is

after-number : (course : Run) (k position : ℕ) (g : GuestRecord) → guest_at (ready_in course k) position ≡ Some g
    → of_running swapped_of (guest_at (after_in course k) position) ≡ swapped_of (epoch g)
after-number course k position g is = ap (of_running swapped_of) (after-at course k position ∙ ap (option_map epoch) is)

-- a fact of the guest at a position, if there is one
if-there : (P : GuestRecord → Type 0) (guest : Option GuestRecord) → ((g : GuestRecord) → guest ≡ Some g → P g) → IfSome guest P
if-there P None fact = tt
if-there P (Some g) fact = fact g refl

there : (P : GuestRecord → Type 0) (guest : Option GuestRecord) (g : GuestRecord) → guest ≡ Some g → IfSome guest P → P g
there P guest g is fact = subst (λ o. IfSome o P) is fact

module _ (c : Config) (is : IsConfig c) (law : LawOfCourse)
    (at_an_end : (g : GuestRecord) → IsGood g → HasNothingPosted g → IsMostAtAnEnd g) where
  abbrev course : Run
  course = course_of c

  served : IsServed course
  served = law c.machine c.domains (lines_at c) c.epochs is.machine is.domains is.few

  -- each guest that a boundary leaves
  ready-at_an_end : (k position : ℕ) (g : GuestRecord) → guest_at (ready_in course k) position ≡ Some g → IsMostAtAnEnd g
  unfolding ready_in after_boundary
  ready-at_an_end k position g here =
      let left = served.left_right (suc k) in
      let ordered = left.guests position g (entry-of (slice_get (ready_in course k).pool.guests position) g here) in
      at_an_end g ordered.good ordered.nothing_posted

  pub is-most_of_each : IsMostOfEach c
  unfolding guest_summary_after
  is-most_of_each k position within =
      if-there _ (guest_at (ready_in course k) position)
      (λ g here n few.
      let most = ready-at_an_end k position g here n few in
      let one = one-of_greatest (most_of_guest course position) c.epochs k within in
      omega (arith, most, one, ready-number course k position g here, after-number course k position g here))

  guest-zero : (k position : ℕ) → k < c.epochs → NothingInSwap c → of_running swapped_of (guest_at (ready_in course k) position) ≡ 0
  guest-zero k position within nothing = go (guest_at (ready_in course k) position) (nothing k position within)
    where
      go : (guest : Option GuestRecord) → IfSome guest (λ g. (n : ℕ) → n ≤ pieces g → swapped_after n g ≡ 0) → of_running swapped_of guest ≡ 0
      go None fact = refl
      go (Some g) fact = fact 0 (omega arith)

  guest-zero_after : (k position : ℕ) → k < c.epochs → NothingInSwap c → of_running swapped_of (guest_at (after_in course k) position) ≡ 0
  guest-zero_after k position within nothing =
      ap (of_running swapped_of) (after-at course k position) ∙ go (guest_at (ready_in course k) position) (nothing k position within)
    where
      go : (guest : Option GuestRecord) → IfSome guest (λ g. (n : ℕ) → n ≤ pieces g → swapped_after n g ≡ 0) → of_running swapped_of (option_map epoch guest) ≡ 0
      go None fact = refl
      go (Some g) fact = ap swapped_of (sym (pieces-epoch g)) ∙ fact (pieces g) (omega arith)

  nothing-is_none : NothingInSwap c → (summary_of c).most_swapped ≡ 0
  unfolding summary_after
  nothing-is_none nothing =
      greatest-of_zeros (most_swapped_in course) c.epochs
      (λ k within.
      let ready = sum-of_zeros (λ p. of_running swapped_of (guest_at (ready_in course k) p)) (length (ready_in course k).names)
      (λ p. guest-zero k p within nothing) in
      let after = sum-of_zeros (λ p. of_running swapped_of (guest_at (after_in course k) p)) (length (after_in course k).names)
      (λ p. guest-zero_after k p within nothing) in
      omega (arith, ready, after))

  -- the guest at a position has one of the host's names
  position-within : (k position : ℕ) (g : GuestRecord) → guest_at (ready_in course k) position ≡ Some g
      → (position < length (ready_in course k).names) × (position < length (after_in course k).names)
  unfolding after_in ready_in after_boundary
  position-within k position g here =
      let sound = served.sound (suc k) in
      let named = sound.named in
      let paired = sound.pool.paired in
      let runs = running-within (after_in course k).pool.guests position (epoch g) (after-at course k position ∙ ap (option_map epoch) here) in
      let below : position < length (after_in course k).names = omega (arith, named, paired, runs) in
      (below, below)

  none-is_nothing : (summary_of c).most_swapped ≡ 0 → NothingInSwap c
  unfolding summary_after
  none-is_nothing none k position within =
      if-there _ (guest_at (ready_in course k) position)
      (λ g here n few.
      let most = ready-at_an_end k position g here n few in
      let whole = one-of_greatest (most_swapped_in course) c.epochs k within in
      let below = position-within k position g here in
      let ready = part-of_sum (λ p. of_running swapped_of (guest_at (ready_in course k) p)) (length (ready_in course k).names) position below.0 in
      let after = part-of_sum (λ p. of_running swapped_of (guest_at (after_in course k) p)) (length (after_in course k).names) position below.1 in
      omega (arith, none, most, whole, ready, after, ready-number course k position g here, after-number course k position g here))

  pub is-none_exactly : IsNoneExactly c
  is-none_exactly = (none-is_nothing, nothing-is_none)

-- The commands of a host, guest by guest.
use Rattle.std.proofs.Common.{◌≡◌, ◌∙◌, ℕ, zero, suc, ◌+◌, ◌-◌, ◌==◌, ◌<◌, ◌&&◌, List, [], ◌∷◌, ◌++◌, codes, length, nat_lt, if◌then◌else◌, inl, inr, refl, ap, arith, length-append}
use Rattle.std.specs.Prelude.{nat_le}
use Rattle.std.proofs.lemmas.Bool.Decides.{eqb_tells, nat_tests}
use Rattle.vm_recorded.specs.Commands.{all_come, all_go, capped_at, comes_at, command_of, commands_from, goes_at, start_at}
use Rattle.vm_recorded.specs.Hosts.{GuestView, end_of}
use Rattle.vm_recorded.specs.Lengths.{coming_bytes, commands_bytes, going_bytes, own_bytes}
use Rattle.vm_recorded.specs.Parts.{ended}
use Rattle.vm_recorded.proofs.PartLemmas.{ended_append}

-- the commands of an epoch, and of those behind it
pub commands_from_next : (unit at epochs : ℕ) (guests : List GuestView) → at < epochs
    → commands_from unit at (epochs - at) guests
    ≡ all_go at guests ++ (all_come unit at guests ++ commands_from unit (at + 1) (epochs - (at + 1)) guests)
commands_from_next unit at epochs guests less =
    let same : epochs - at ≡ suc (epochs - (at + 1)) = omega arith in
    ap (λ (n : ℕ). commands_from unit at n guests) same

-- ---- how many bytes that is

length_ended : (xs ys : List (List ℕ)) → length (ended (xs ++ ys)) ≡ length (ended xs) + length (ended ys)
length_ended xs ys = ap length (ended_append xs ys) ∙ length-append (ended xs) (ended ys)

abbrev bytes_from : (unit at count : ℕ) → List GuestView → ℕ
bytes_from unit at count guests = length (ended (commands_from unit at count guests))

bytes_next : (unit at count : ℕ) (guests : List GuestView)
    → bytes_from unit at (suc count) guests
    ≡ length (ended (all_go at guests)) + (length (ended (all_come unit at guests)) + bytes_from unit (at + 1) count guests)
bytes_next unit at count guests =
    length_ended (all_go at guests) (all_come unit at guests ++ commands_from unit (at + 1) count guests)
    ∙ ap (λ (n : ℕ). length (ended (all_go at guests)) + n) (length_ended (all_come unit at guests) (commands_from unit (at + 1) count guests))

bytes_none : (unit at count : ℕ) → bytes_from unit at count [] ≡ 0
bytes_none unit at zero = refl
bytes_none unit at (suc count) = bytes_none unit (at + 1) count

-- a guest in front of others
bytes_first : (unit at count : ℕ) (g : GuestView) (guests : List GuestView)
    → bytes_from unit at count (g ∷ guests) ≡ bytes_from unit at count (g ∷ []) + bytes_from unit at count guests
bytes_first unit at zero g guests = refl
bytes_first unit at (suc count) g guests =
    omega (
      arith,
      bytes_next unit at count (g ∷ guests),
      bytes_next unit at count (g ∷ []),
      bytes_next unit at count guests,
      length_ended (goes_at at g) (all_go at guests),
      length_ended (goes_at at g) [],
      length_ended (comes_at unit at g) (all_come unit at guests),
      length_ended (comes_at unit at g) [],
      bytes_first unit (at + 1) count g guests,
    )

-- so much where a moment is among so many epochs from one on
abbrev among : (at count moment bytes : ℕ) → ℕ
among at count moment bytes = if nat_le at moment && nat_lt moment (at + count) then bytes else 0

among_none : (at moment bytes : ℕ) → among at 0 moment bytes ≡ 0
among_none at moment bytes = grind (arith, nat_tests)

among_next : (at count moment bytes : ℕ)
    → among at (suc count) moment bytes ≡ (if moment == at then bytes else 0) + among (at + 1) count moment bytes
among_next at count moment bytes = grind (arith, nat_tests)

among_all : (epochs moment bytes : ℕ) → among 0 epochs moment bytes ≡ (if nat_lt moment epochs then bytes else 0)
among_all epochs moment bytes = grind (arith, nat_tests)

at_moment : (commands : ℕ → List (List ℕ)) (moment at : ℕ)
    → length (ended (if moment == at then commands at else [])) ≡ (if moment == at then length (ended (commands moment)) else 0)
at_moment commands moment at =
    elim (eqb_tells moment at) [ inl h ↦ rw (h.0, h.1) refl | inr h ↦ rw (h.0) refl ]

going_at : (at : ℕ) (g : GuestView) → length (ended (goes_at at g)) ≡ (if end_of g == at then going_bytes g else 0)
unfolding going_bytes
going_at at g = at_moment (λ (n : ℕ). command_of n (codes "destroy " ++ g.name) ∷ []) (end_of g) at

coming_at : (unit at : ℕ) (g : GuestView) → length (ended (comes_at unit at g)) ≡ (if g.first == at then coming_bytes unit g else 0)
unfolding coming_bytes
coming_at unit at g = at_moment (λ (n : ℕ). start_at n g.name ++ capped_at unit n g) g.first at

-- a guest by itself: its commands stand at two moments
bytes_own : (unit at count : ℕ) (g : GuestView)
    → bytes_from unit at count (g ∷ []) ≡ among at count (end_of g) (going_bytes g) + among at count g.first (coming_bytes unit g)
bytes_own unit at zero g = omega (arith, among_none at (end_of g) (going_bytes g), among_none at g.first (coming_bytes unit g))
bytes_own unit at (suc count) g =
    omega (
      arith,
      bytes_next unit at count (g ∷ []),
      length_ended (goes_at at g) [],
      length_ended (comes_at unit at g) [],
      going_at at g,
      coming_at unit at g,
      among_next at count (end_of g) (going_bytes g),
      among_next at count g.first (coming_bytes unit g),
      bytes_own unit (at + 1) count g,
    )

-- the commands of all guests, counted guest by guest
pub commands_bytes_none : (unit epochs : ℕ) → commands_bytes unit epochs [] ≡ 0
unfolding commands_bytes
commands_bytes_none unit epochs = bytes_none unit 0 epochs

pub commands_bytes_first : (unit epochs : ℕ) (g : GuestView) (guests : List GuestView)
    → commands_bytes unit epochs (g ∷ guests) ≡ own_bytes unit epochs g + commands_bytes unit epochs guests
unfolding commands_bytes
commands_bytes_first unit epochs g guests =
    omega (
      arith,
      bytes_first unit 0 epochs g guests,
      bytes_own unit 0 epochs g,
      among_all epochs (end_of g) (going_bytes g),
      among_all epochs g.first (coming_bytes unit g),
    )

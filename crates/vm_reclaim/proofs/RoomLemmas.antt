-- What making room leaves as it was.
use Rattle.std.proofs.Common.{◌≡◌, ◌∙◌, ℕ, ◌-◌, ◌≤◌, IfSome, IsSome, List, [], ◌∷◌, Option, Some, None, length, fold, ⊎_elim, sym, refl, ap, subst, arith}
use Rattle.std.specs.Option.{option_map}
use Rattle.std.proofs.lemmas.List.{length-set}
use Rattle.vm_guest.specs.Boundary.{released, revoked, with_min}
use Rattle.vm_guest.specs.Good.{IsGood}
use Rattle.vm_guest.specs.Record.{GuestRecord}
use Rattle.vm_guest.specs.declared.allotment.Allotment.{Allotment}
use Rattle.vm_guest.proofs.BoundaryLemmas.{released-allotment}
use Rattle.vm_pool.specs.Changes.{taken_at}
use Rattle.vm_plan.specs.Revocation.{IsRevocationList, revocation_list}
use Rattle.vm_plan.specs.Row.{Row}
use Rattle.vm_plan.proofs.ListLemmas.{revocation_list-meets}
use Rattle.vm_pool.specs.Guests.{Guests, guest_changed, guest_in, sum_of}
use Rattle.vm_pool.specs.Pool.{PoolView, EachGuest}
use Rattle.vm_pool.proofs.EachLemmas.{each-changed}
use Rattle.vm_tax.specs.Ratio.{Tax}
use Rattle.vm_reclaim.specs.declared.room.Raise.{Raise}
use Rattle.vm_reclaim.specs.Making.{CanRaise}
use Rattle.std.specs.Prelude.{slice_index_or}
use Rattle.vm_reclaim.specs.Room.{raised, room_made, surplus_counts, revocations_for_room, with_surplus_back}
use Rattle.vm_sound.specs.Sound.{HasSameSetup}
use Rattle.vm_reclaim.specs.Rows.{rows_of}
use Rattle.vm_reclaim.proofs.CanLemmas.{changed_here}
use Rattle.vm_reclaim.proofs.FairLemmas.{HasShares, each-shares, guests-taken, have-shares}
use Rattle.vm_reclaim.proofs.HeldLemmas.{list-same, rows-left}
use Rattle.vm_reclaim.proofs.TakeLemmas.{good_left, length-left, other_same, raise_left, released_in, same_or_apart}
use Rattle.vm_reclaim.proofs.RowLemmas.{length-raised, length-shares}

-- the guest at a position after a frame was taken: the same, or it lost one
taken_fact : (P : Option GuestRecord → Type 0) (pool : PoolView) (k i : ℕ) → ((o : Option GuestRecord) → P o → P (option_map (λ g. released 1 (revoked g)) o))
    → P (guest_in pool.guests i) → P (guest_in (taken_at pool k).guests i)
taken_fact P pool k i keeps fact =
    let change = λ (g : GuestRecord). released 1 (revoked g) in
    subst (λ (guests : Guests). P (guest_in guests i)) (sym (guests-taken pool k))
    (⊎_elim
    (λ e. subst (λ j. P (guest_in (guest_changed change pool.guests k) j)) e
    (subst P (sym (changed_here change pool.guests k)) (keeps (guest_in pool.guests k) (subst (λ j. P (guest_in pool.guests j)) (sym e) fact))))
    (λ apart. subst P (sym (other_same change pool.guests k i apart)) fact)
    (same_or_apart k i))

all_taken : (P : Option GuestRecord → Type 0) (moves : List ℕ) (pool : PoolView) (i : ℕ) → ((o : Option GuestRecord) → P o → P (option_map (λ g. released 1 (revoked g)) o))
    → P (guest_in pool.guests i) → P (guest_in (fold taken_at pool moves).guests i)
all_taken P [] pool i keeps fact = fact
all_taken P (position ∷ moves) pool i keeps fact = all_taken P moves (taken_at pool position) i keeps (taken_fact P pool position i keeps fact)

length_taken : (moves : List ℕ) (pool : PoolView) → length (fold taken_at pool moves).guests ≡ length pool.guests
length_taken [] pool = refl
length_taken (position ∷ moves) pool =
    length_taken moves (taken_at pool position)
    ∙ (ap (λ (guests : Guests). length guests) (guests-taken pool position)
    ∙ length-set pool.guests position (option_map (λ g. released 1 (revoked g)) (guest_in pool.guests position)))

pub configs_taken : (moves : List ℕ) (pool : PoolView) → (fold taken_at pool moves).configs ≡ pool.configs
configs_taken [] pool = refl
configs_taken (position ∷ moves) pool = configs_taken moves (taken_at pool position)

frames_taken : (moves : List ℕ) (pool : PoolView) → (fold taken_at pool moves).frames ≡ pool.frames
frames_taken [] pool = refl
frames_taken (position ∷ moves) pool = frames_taken moves (taken_at pool position)

pub overhead_taken : (moves : List ℕ) (pool : PoolView) → (fold taken_at pool moves).overhead ≡ pool.overhead
overhead_taken [] pool = refl
overhead_taken (position ∷ moves) pool = overhead_taken moves (taken_at pool position)

pub length_room : (tax : Tax) (raise : Option Raise) (needed : ℕ) (pool : PoolView) → length (room_made tax raise needed pool).guests ≡ length pool.guests
length_room tax raise needed pool =
    length_taken (revocations_for_room tax raise needed pool) (with_surplus_back raise needed pool) ∙ length-left raise needed pool

-- who doesn't run still doesn't
none_kept : (change : GuestRecord → GuestRecord) (o : Option GuestRecord) → o ≡ None → option_map change o ≡ None
none_kept change o none = ap (option_map change) none

pub stopped_room : (tax : Tax) (raise : Option Raise) (needed : ℕ) (pool : PoolView) (i : ℕ) → guest_in pool.guests i ≡ None → guest_in (room_made tax raise needed pool).guests i ≡ None
stopped_room tax raise needed pool i none =
    let counts = surplus_counts raise needed pool in
    let there = released_in counts pool.guests i (length-shares (needed - pool.free) (raised raise pool).guests ∙ length-raised raise pool) in
    all_taken (λ (o : Option GuestRecord). o ≡ None) (revocations_for_room tax raise needed pool) (with_surplus_back raise needed pool) i
    (λ o. none_kept (λ g. released 1 (revoked g)) o) (there ∙ none_kept (released (slice_index_or counts i 0)) (guest_in pool.guests i) none)

-- a minimum that could be raised still can
some_kept : (o : Option GuestRecord) → IsSome o → IsSome (option_map (λ g. released 1 (revoked g)) o)
some_kept None runs = runs
some_kept (Some g) runs = refl

cap_kept : (least : ℕ) (o : Option GuestRecord) → IfSome o (λ g. least ≤ g.allotment.cap) → IfSome (option_map (λ g. released 1 (revoked g)) o) (λ g. least ≤ g.allotment.cap)
cap_kept least None to = tt
cap_kept least (Some g) to = subst (λ (a : Allotment). least ≤ a.cap) (sym (released-allotment 1 (revoked g))) to

pub raise_room : (tax : Tax) (raise : Raise) (needed : ℕ) (pool : PoolView) → CanRaise (Some raise) pool → CanRaise (Some raise) (room_made tax (Some raise) needed pool)
raise_room tax raise needed pool can =
    let left = with_surplus_back (Some raise) needed pool in
    let moves = revocations_for_room tax (Some raise) needed pool in
    let was = raise_left (Some raise) needed pool can in
    let long = length_taken moves left in
    let within = was.within in
    record {
      within = omega (arith, long, within);
      from = was.from;
      runs = all_taken (λ (o : Option GuestRecord). IsSome o) moves left raise.position some_kept was.runs;
      to = all_taken (λ (o : Option GuestRecord). IfSome o (λ g. raise.least ≤ g.allotment.cap)) moves left raise.position (cap_kept raise.least) was.to;
    }

-- ---- what making room keeps

pub kept_room : (tax : Tax) (raise : Option Raise) (needed : ℕ) (pool : PoolView) → HasSameSetup pool (room_made tax raise needed pool)
kept_room tax raise needed pool =
    let left = with_surplus_back raise needed pool in
    let moves = revocations_for_room tax raise needed pool in
    record { frames = frames_taken moves left; overhead = overhead_taken moves left; configs = configs_taken moves left }

pub kept_same : (old new : PoolView) → new ≡ old → HasSameSetup old new
kept_same old new same = record {
  frames = ap (λ (p : PoolView). p.frames) same;
  overhead = ap (λ (p : PoolView). p.overhead) same;
  configs = ap (λ (p : PoolView). p.configs) same;
}

-- ---- the guests that lose frames are those of the one list

seen-shares : (raise : Option Raise) (pool : PoolView) → EachGuest HasShares pool → EachGuest HasShares (raised raise pool)
seen-shares None pool have = have
seen-shares (Some raise) pool have = each-changed HasShares (λ g. with_min g raise.least) pool raise.position (λ g has. has) have

pub list_of_room : (tax : Tax) (raise : Option Raise) (needed : ℕ) (pool : PoolView) → EachGuest IsGood pool
    → IsRevocationList tax (needed - (with_surplus_back raise needed pool).free) (rows_of (raised raise (with_surplus_back raise needed pool)).guests) (revocations_for_room tax raise needed pool)
list_of_room tax raise needed pool good =
    let left = with_surplus_back raise needed pool in
    revocation_list-meets tax (needed - left.free) (rows_of (raised raise left).guests)
    (have-shares (raised raise left).guests (seen-shares raise left (each-shares left.guests (good_left raise needed pool good))))

-- the list of the guests as they are seen before any of them gives up a frame
pub list_before : (tax : Tax) (raise : Option Raise) (needed wanted : ℕ) (pool : PoolView) (rows : List Row) (moves : List ℕ)
    → wanted ≡ needed - pool.free - sum_of (surplus_counts raise needed pool) → rows ≡ rows_of (raised raise pool).guests → moves ≡ revocation_list tax wanted rows
    → moves ≡ revocations_for_room tax raise needed pool
list_before tax raise needed wanted pool rows moves short seen exact =
    let left = with_surplus_back raise needed pool in
    let after : wanted ≡ needed - left.free = omega (arith, short) in
    exact
    ∙ ((λ i. revocation_list tax (after i) (seen i))
    ∙ list-same tax (needed - left.free) (rows_of (raised raise pool).guests) (rows_of (raised raise left).guests) (rows-left raise needed pool))

-- What a boundary leaves where memory is refused: the first of its lines are obeyed, and no other is in part.
use Rattle.std.proofs.Common.{◌≡◌, ◌∙◌, ℕ, ◌+◌, ◌-◌, ◌<◌, IsSomeAnd, OnErr, Result, Ok, Err, List, [], ◌∷◌, ◌++◌, Option, Some, None, length, map, min, take, fold, get_or, refl, ap, subst, sym, arith}
use Rattle.std.specs.Option.{option_map}
use Rattle.std.proofs.lemmas.List.{map_more, take-map}
use Rattle.std.proofs.Math.Seq.{take-length}
use Rattle.vm_guest.specs.Boundary.{released, surplus}
use Rattle.vm_guest.specs.Good.{IsGood}
use Rattle.vm_guest.specs.Record.{GuestRecord}
use Rattle.vm_plan.specs.Revocation.{revocation_list}
use Rattle.vm_plan.specs.Row.{Row}
use Rattle.vm_pool.specs.Changes.{lacking, taken_at}
use Rattle.vm_pool.specs.Guests.{Guests, each_released, guest_in, of_running, sum_of}
use Rattle.vm_pool.specs.Pool.{PoolView, EachGuest}
use Rattle.vm_reclaim.specs.declared.room.Raise.{Raise}
use Rattle.vm_reclaim.specs.Policy.{Policy, policy_of}
use Rattle.vm_reclaim.specs.Room.{raised, room_made, surplus_counts, surplus_shares, revocations_for_room, with_surplus_back}
use Rattle.vm_reclaim.specs.Rows.{rows_of}
use Rattle.vm_reclaim.proofs.EnoughLemmas.{raised_room}
use Rattle.vm_sound.proofs.PlaceLemmas.{each-in}
use Rattle.vm_tax.specs.Ratio.{Tax}
use Rattle.vm_host.specs.Commands.{after_line, after_lines, IsAfterSome}
use Rattle.vm_host.specs.World.{World}

-- it holds wherever a call answered Err
pub refused : {A E : Type 0} (r : Result A E) (Left : Type 0) → Left → OnErr r Left
refused (Ok x) Left left = tt
refused (Err e) Left left = left

-- ---- no room is made for a guest that lacks nothing

same-released : (guest : Option GuestRecord) → option_map (released 0) guest ≡ guest
same-released None = refl
same-released (Some g) = refl

none-released : (short : ℕ) (guests seen : Guests) → short ≡ 0 → each_released (surplus_shares short seen) guests ≡ guests
none-released short [] [] is = refl
none-released short (guest ∷ guests) [] is = refl
none-released short [] (other ∷ seen) is = refl
none-released short (guest ∷ guests) (other ∷ seen) is =
    let none : min short (of_running surplus other) ≡ 0 = omega (arith, is) in
    let rest = none-released (short - of_running surplus other) guests seen (omega (arith, is)) in
    λ i. (ap (λ n. option_map (released n) guest) none ∙ same-released guest) i ∷ rest i

nothing-given : (short : ℕ) (seen : Guests) → short ≡ 0 → sum_of (surplus_shares short seen) ≡ 0
nothing-given short [] is = refl
nothing-given short (guest ∷ seen) is =
    let rest = nothing-given (short - of_running surplus guest) seen (omega (arith, is)) in
    omega (arith, is, rest)

none-taken : (tax : Tax) (rows : List Row) → revocation_list tax 0 rows ≡ []
unfolding revocation_list
none-taken tax rows = refl

nothing-back : (raise : Option Raise) (pool : PoolView) → with_surplus_back raise 0 pool ≡ pool
nothing-back raise pool =
    let short : 0 - pool.free ≡ 0 = omega arith in
    let seen = (raised raise pool).guests in
    let same = none-released (0 - pool.free) pool.guests seen short in
    let given = nothing-given (0 - pool.free) seen short in
    let free : pool.free + sum_of (surplus_counts raise 0 pool) ≡ pool.free = omega (arith, given) in
    λ i. record pool { guests = same i; free = free i }

pub no-room : (tax : Tax) (raise : Option Raise) (pool : PoolView) → room_made tax raise 0 pool ≡ pool
no-room tax raise pool =
    let left = with_surplus_back raise 0 pool in
    let short : 0 - left.free ≡ 0 = omega arith in
    let moves : revocations_for_room tax raise 0 pool ≡ [] =
    ap (λ n. revocation_list tax n (rows_of (raised raise left).guests)) short ∙ none-taken tax (rows_of (raised raise left).guests) in
    ap (λ moves. fold taken_at left moves) moves ∙ nothing-back raise pool

-- a guest holds each minimum that it had
holds-lower : (least : ℕ) (guest : Option GuestRecord) → ((g : GuestRecord) → guest ≡ Some g → IsGood g) → IsSomeAnd guest (λ g. least < g.allotment.least_min) → lacking least guest ≡ 0
holds-lower least None good low = refl
holds-lower least (Some g) good low =
    let here = good g refl in
    let first = here.sound.allotment.least in
    let second = here.sound.allotment.target_from in
    let third = here.has_target in
    omega (arith, low, first, second, third)

-- so what is found in a guest for which room was made is so before
pub lower-room : (tax : Tax) (raise : Raise) (needed : ℕ) (pool : PoolView) → EachGuest IsGood pool → needed ≡ lacking raise.least (guest_in pool.guests raise.position)
    → IsSomeAnd (guest_in (room_made tax (Some raise) needed pool).guests raise.position) (λ g. raise.least < g.allotment.least_min)
    → room_made tax (Some raise) needed pool ≡ pool
lower-room tax raise needed pool good is low =
    let same = raised_room tax raise needed pool good is in
    let nothing = is ∙ holds-lower raise.least (guest_in pool.guests raise.position) (λ g here. each-in IsGood pool.guests raise.position g good here)
    (subst (λ (o : Option GuestRecord). IsSomeAnd o (λ g. raise.least < g.allotment.least_min)) same low) in
    ap (λ n. room_made tax (Some raise) n pool) nothing ∙ no-room tax (Some raise) pool

-- ---- one line more

after-append : (policy : Policy) (w : World) (lines more : List (List ℕ)) → after_lines policy w (lines ++ more) ≡ after_lines policy (after_lines policy w lines) more
after-append policy w [] more = refl
after-append policy w (line ∷ lines) more = after-append policy (after_line policy w line) lines more

pub one-more : {A : Type 0} (text : A → List ℕ) (policy : Policy) (first old new : World) (xs : List A) (i : ℕ) (x : A) → i < length xs → x ≡ get_or xs i x
    → new ≡ after_line policy old (text x) → old ≡ after_lines policy first (map text (take i xs)) → new ≡ after_lines policy first (map text (take (i + 1) xs))
one-more text policy first old new xs i x there is step done =
    step
    ∙ ((λ j. after_line policy (done j) (text (is j)))
    ∙ sym (ap (after_lines policy first) (map_more text xs i x there) ∙ after-append policy first (map text (take i xs)) (text (get_or xs i x) ∷ [])))

pub some-lines : {A : Type 0} (text : A → List ℕ) (policy : Policy) (first new : World) (xs : List A) (i : ℕ) → new ≡ after_lines policy first (map text (take i xs)) → IsAfterSome policy first (map text xs) new
some-lines text policy first new xs i is = record { count = i; is = is ∙ ap (after_lines policy first) (sym (take-map text i xs)) }

-- the lines from another host that is the same
pub same-lines : (old new : World) (lines : List (List ℕ)) (left : World) → new ≡ old → IsAfterSome (policy_of new.machine) new lines left → IsAfterSome (policy_of old.machine) old lines left
same-lines old new lines left same some = subst (λ (w : World). IsAfterSome (policy_of w.machine) w lines left) same some

pub all-lines : (policy : Policy) (first new : World) (lines : List (List ℕ)) → new ≡ after_lines policy first lines → IsAfterSome policy first lines new
all-lines policy first new lines is = record { count = length lines; is = is ∙ ap (after_lines policy first) (sym (take-length lines)) }

pub on-err : {A E : Type 0} (r : Result A E) (P Q : Type 0) → (P → Q) → OnErr r P → OnErr r Q
on-err (Ok x) P Q gives is = tt
on-err (Err e) P Q gives is = gives is

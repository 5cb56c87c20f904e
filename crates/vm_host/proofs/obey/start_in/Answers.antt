use Rattle.std.proofs.Common.{◌≡◌, ◌∙◌, ◌≤◌, IfSome, List, ℕ, None, ap, arith, length, slice_get, subst, sym}
use Rattle.vm_guest.specs.Config.{GuestConfig}
use Rattle.vm_guest.specs.Room.{room_for}
use Rattle.vm_pool.specs.Changes.{frames_to_start, started_at}
use Rattle.vm_pool.specs.Pool.{PoolView, guest_at}
use Rattle.vm_tax.specs.Ratio.{hundredths}
use Rattle.vm_reclaim.specs.Room.{needed_to_start}
use Rattle.vm_reclaim.specs.Room.{room_made, revocations_for_room, with_surplus_back}
use Rattle.vm_reclaim.proofs.RoomLemmas.{configs_taken, kept_room, length_room, overhead_taken, stopped_room}
use Rattle.vm_sound.specs.Sound.{HasSameSetup}
use Rattle.vm_sound.proofs.FramesLemmas.{setup-started}
use Rattle.vm_host.proofs.RefusedLemmas.{refused}
use Rattle.vm_host.proofs.SetupLemmas.{setup-then}
use Rattle.vm_host.proofs.obey.start_in.Goals as goal

pub start-requires-clause-within : goal.start-requires-clause-within
start-requires-clause-within c =
    let long = ap (λ (p : PoolView). length p.guests) c.in_ok-plan.ensures.done in
    let room = length_room (hundredths c.args.tax) None c.needed_to_start-needed.result c.args.pool.now in
    let within = c.requires.within in
    omega (arith, long, room, within)

pub start-requires-clause-stopped : goal.start-requires-clause-stopped
start-requires-clause-stopped c =
    ap (λ (p : PoolView). guest_at p c.args.position) c.in_ok-plan.ensures.done
    ∙ stopped_room (hundredths c.args.tax) None c.needed_to_start-needed.result c.args.pool.now c.args.position c.requires.stopped

pub start-requires-clause-room : goal.start-requires-clause-room
start-requires-clause-room c =
    let pool = c.args.pool.now in
    let setup = kept_room (hundredths c.args.tax) None c.needed_to_start-needed.result pool in
    let configs = ap (λ (p : PoolView). p.configs) c.in_ok-plan.ensures.done ∙ setup.configs in
    subst (λ (configs : List GuestConfig). IfSome (slice_get configs c.args.position) (λ config. c.args.room ≡ room_for config)) (sym configs) c.requires.room

pub start-requires-clause-enough : goal.start-requires-clause-enough
start-requires-clause-enough c =
    let tax = hundredths c.args.tax in
    let pool = c.args.pool.now in
    let position = c.args.position in
    let needed = needed_to_start pool position in
    let whole = c.in_ok-plan.ensures.done ∙ ap (λ n. room_made tax None n pool) c.needed_to_start-needed.ensures in
    let moves = revocations_for_room tax None needed pool in
    let left = with_surplus_back None needed pool in
    let made = room_made tax None needed pool in
    let same : frames_to_start made.overhead (slice_get made.configs position) ≡ needed = λ i. frames_to_start (overhead_taken moves left i) (slice_get (configs_taken moves left i) position) in
    let enough = c.requires.enough in
    let fits : frames_to_start made.overhead (slice_get made.configs position) ≤ made.free = omega (arith, same, enough) in
    subst (λ (p : PoolView). frames_to_start p.overhead (slice_get p.configs position) ≤ p.free) (sym whole) fits

pub make_room-requires-clause-few : goal.make_room-requires-clause-few
make_room-requires-clause-few c =
    let paired = c.requires.sound.paired in
    let few = c.requires.sound.few in
    omega (arith, paired, few)

-- ---- it started

pub returns-clause-done : goal.returns-clause-done
returns-clause-done c =
    let pool = c.args.pool.now in
    let needed = ap (λ (n : ℕ). room_made (hundredths c.args.tax) None n pool) c.needed_to_start-needed.ensures in
    c.start.ensures ∙ ap (λ (p : PoolView). started_at p c.args.position) (c.in_ok-plan.ensures.done ∙ needed)

pub returns-clause-plan : goal.returns-clause-plan
returns-clause-plan c = c.in_ok-plan.ensures.plan ∙ ap (λ (n : ℕ). revocations_for_room (hundredths c.args.tax) None n c.args.pool.now) c.needed_to_start-needed.ensures

pub returns-clause-setup : goal.returns-clause-setup
returns-clause-setup c =
    let made = c.make_room.new.pool in
    setup-then c.args.pool.now made c.start.new.self c.in_ok-plan.ensures.setup (subst (HasSameSetup made) (sym c.start.ensures) (setup-started made c.args.position))

-- ---- memory was refused

pub returns-in_err-plan-clause-unchanged : goal.returns-in_err-plan-clause-unchanged
returns-in_err-plan-clause-unchanged c = refused c.from_residual.result (c.make_room.new.pool ≡ c.args.pool.now) c.in_err-plan.ensures.unchanged

pub returns-in_err-plan-clause-setup : goal.returns-in_err-plan-clause-setup
returns-in_err-plan-clause-setup c = c.in_err-plan.ensures.setup

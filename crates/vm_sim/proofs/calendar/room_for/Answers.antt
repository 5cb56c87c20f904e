use Rattle.std.proofs.Common.{◌≡◌, ◌<◌, ◌≤◌, length, rules, ap}
use Rattle.vm_sim.specs.declared.calendar.CalendarSize.{CalendarSize}
use Rattle.vm_sim.proofs.CalendarLemmas.{still_enough, still_least, still_within}
use Rattle.vm_sim.proofs.calendar.room_for.Goals as goal

pub loop-position-preserved : goal.loop-position-preserved
loop-position-preserved c =
    let commands = c.args.commands.now in
    let epochs = c.args.epochs in
    let position = c.loop-position.position in
    let command = c.index-commands-position.result in
    let here = c.index-commands-position.is in
    let old = c.loop-position.room in
    let new = c.more_room-room.result in
    let so_far = c.loop-position.invariant in
    let within : position < length commands = search rules in
    let runs = c.more_room-room.ensures.runs in
    let never : epochs ≤ command.at → (new.epochs ≡ old.epochs) × (new.commands ≡ old.commands) =
    λ past.
    let same = c.more_room-room.ensures.never_runs past in
    (ap (λ (r : CalendarSize). r.epochs) same, ap (λ (r : CalendarSize). r.commands) same) in
    record {
      enough = still_enough epochs commands position command within here old.epochs old.commands new.epochs new.commands runs never so_far.within so_far.enough;
      within = still_within epochs commands position command within here old.epochs old.commands new.epochs new.commands runs never so_far.within;
      least = still_least epochs commands position command within here old.epochs old.commands new.epochs new.commands runs never so_far.least;
    }

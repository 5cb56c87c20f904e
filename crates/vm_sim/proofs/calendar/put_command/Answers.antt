use Rattle.std.proofs.Common.{arith}
use Rattle.vm_sim.proofs.CalendarLemmas.{has_place, passed_over, stood_before}
use Rattle.vm_sim.proofs.calendar.put_command.Goals as goal

pub returns-then-epoch-epochs : goal.returns-then-epoch-epochs
returns-then-epoch-epochs c =
    passed_over c.args.epochs c.args.commands.now c.args.position c.index-commands-position.result c.requires.within c.index-commands-position.is
    c.args.first.now c.args.next.now c.requires.found (omega (arith, c.at-epoch.ensures, c.if-epoch-epochs.true))

pub bounds-first-epoch : goal.bounds-first-epoch
bounds-first-epoch c =
    let place = has_place c.args.epochs c.args.commands.now c.args.position c.index-commands-position.result c.requires.within c.index-commands-position.is
    c.args.first.now c.args.next.now c.requires.found (omega (arith, c.at-epoch.ensures, c.if-epoch-epochs.false)) in
    omega (arith, place.0, c.at-epoch.ensures)

pub bounds-next-position : goal.bounds-next-position
bounds-next-position c =
    let place = has_place c.args.epochs c.args.commands.now c.args.position c.index-commands-position.result c.requires.within c.index-commands-position.is
    c.args.first.now c.args.next.now c.requires.found (omega (arith, c.at-epoch.ensures, c.if-epoch-epochs.false)) in
    place.1

pub returns : goal.returns
returns c =
    stood_before c.args.epochs c.args.commands.now c.args.position c.index-commands-position.result c.requires.within c.index-commands-position.is
    c.args.first.now c.args.next.now c.requires.found c.at-epoch.result c.replace.new.dest c.replace.result c.at-epoch.ensures
    (omega (arith, c.if-epoch-epochs.false)) c.replace.ensures.after c.replace.ensures.value

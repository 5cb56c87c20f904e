use Rattle.std.proofs.Common.{◌≡◌, ◌<◌, ◌++◌, ◌∙◌, List, ℕ, get_or, length, ap, sym, arith}
use Rattle.vm_sim.proofs.CalendarLemmas.{next_line, next_due, same_lines}
use Rattle.vm_sim.specs.declared.agenda.Agenda.{Agenda}
use Rattle.vm_sim.proofs.agenda.push_commands.Goals as goal

pub loop-position-init : goal.loop-position-init
loop-position-init c =
    let first = c.first_of-position in
    record {
      so_far = ap (λ (l : List (List ℕ)). c.args.lines.now ++ l) (sym (same_lines c.args.number c.args.calendar.now.agenda.commands 0 first.result first.ensures));
      is_due = first.ensures.is_due;
    }

pub loop-position-preserved : goal.loop-position-preserved
loop-position-preserved c =
    let commands = c.args.calendar.now.agenda.commands in
    let position = c.loop-position.position in
    let next = c.next_of-position in
    let command = c.index-commands-position.result in
    let same : c.lines-commands.result.now ≡ commands = c.lines-commands.ensures ∙ ap (λ (a : Agenda). a.commands) c.agenda.ensures in
    let within : position < length commands = rw same at c.loop-position-test.true in
    let here : command ≡ get_or commands position command = rw same at c.index-commands-position.is in
    let is_due = c.loop-position.invariant.is_due in
    let epochs = c.args.calendar.now.epochs in
    let due = next_due commands position next.result command within here c.args.number epochs c.requires is_due next.ensures in
    record {
      so_far = next_line commands position next.result command within here c.args.number epochs c.requires is_due next.ensures _ _ _
          c.loop-position.invariant.so_far (rw c.line.ensures at c.in_ok-push.ensures.ok);
      is_due = due.is_due;
    }

pub loop-position-smaller : goal.loop-position-smaller
loop-position-smaller c =
    let commands = c.args.calendar.now.agenda.commands in
    let position = c.loop-position.position in
    let next = c.next_of-position in
    let command = c.index-commands-position.result in
    let same : c.lines-commands.result.now ≡ commands = c.lines-commands.ensures ∙ ap (λ (a : Agenda). a.commands) c.agenda.ensures in
    let within : position < length commands = rw same at c.loop-position-test.true in
    let here : command ≡ get_or commands position command = rw same at c.index-commands-position.is in
    let due = next_due commands position next.result command within here c.args.number c.args.calendar.now.epochs c.requires c.loop-position.invariant.is_due next.ensures in
    omega (arith, due.onward)

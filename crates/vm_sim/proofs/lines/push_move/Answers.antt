use Rattle.std.proofs.Common.{append_assoc}
use Rattle.vm_sim.specs.Lines.{move_line}
use Rattle.vm_sim.proofs.lines.push_move.Goals as goal

pub returns : goal.returns
unfolding move_line
returns c =
    simp append_assoc at
    (rw (c.in_ok-push_str-3.ensures.bytes, c.in_ok-push_str-2.ensures.bytes, c.in_ok-push_str.ensures.bytes, c.from.ensures) at c.push_last_number.ensures)

use Rattle.std.proofs.Common.{◌≡◌, ◌++◌, drop}
use Rattle.vm_steer.specs.Text.{lines_of}
use Rattle.vm_steer.proofs.lines.push_part.Given as goal

-- the domains that are left complete the text
abbrev pub invariant-loop-entry : goal.invariant-loop-entry
invariant-loop-entry l = l.text.items ++ lines_of l.part (drop l.entry-index l.entries) ≡ l.fn.text.items ++ lines_of l.part l.entries

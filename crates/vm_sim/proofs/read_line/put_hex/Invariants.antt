use Rattle.std.proofs.Common.{◌≡◌, ◌+◌, ◌*◌, ◌≤◌, ◌++◌, drop, length}
use Rattle.vm_sim.specs.Lines.{hex}
use Rattle.vm_sim.proofs.read_line.put_hex.Given as goal

-- the digits of the bytes behind those that are left stand there
abbrev pub invariant-loop-left : goal.invariant-loop-left
invariant-loop-left l = record {
  inside : l.left ≤ length l.bytes;
  start : l.at + 2 * length l.bytes ≡ l.end + 2 * l.left;
  written : drop l.at l.line ≡ hex (drop l.left l.bytes) ++ drop l.end l.fn.line;
}

abbrev pub decreases-loop-left : goal.decreases-loop-left
decreases-loop-left l = l.left

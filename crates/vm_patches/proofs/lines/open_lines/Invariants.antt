use Rattle.std.proofs.Common.{◌≡◌, ℕ, ◌<◌, ◌≤◌, true}
use Rattle.vm_patches.specs.Lines.{is_marked, masked}
use Rattle.vm_patches.proofs.lines.open_lines.Given as goal

abbrev pub invariant-loop-line : goal.invariant-loop-line
invariant-loop-line l = record {
  same : masked l.lines l.page ≡ masked l.initial.lines l.initial.page;
  marked : (line : ℕ) → l.first ≤ line → line < l.line → is_marked l.lines line ≡ true;
}

use Rattle.std.proofs.Common.{◌≡◌, drop}
use Rattle.vm_sweep.specs.Refusals.{first_refused}
use Rattle.vm_sweep.proofs.refusals.refuse_first.Given as goal

-- none of those before is refused
abbrev pub invariant-loop-number : goal.invariant-loop-number
invariant-loop-number l = record {
  left : first_refused l.setting l.number (drop l.number l.lists) l.fn.config ≡ first_refused l.setting 0 l.lists l.fn.config;
  unchanged : l.config ≡ l.fn.config;
}

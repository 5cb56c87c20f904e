use Rattle.std.proofs.Common.{◌≡◌, drop}
use Rattle.vm_variants.specs.Changes.{refusal_among}
use Rattle.vm_variants.proofs.changes.refuse_first.Given as goal

-- of the values that are left the first refusal is that of all
abbrev pub invariant-loop-value : goal.invariant-loop-value
invariant-loop-value l = record {
  unchanged : l.config ≡ l.fn.config;
  left : refusal_among l.setting (drop l.value-index l.values) l.fn.config ≡ refusal_among l.setting l.values l.fn.config;
}

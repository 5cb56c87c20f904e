use Rattle.std.proofs.Common.{◌≡◌, drop, None}
use Rattle.vm_variants.specs.Changes.{refusal_among, with_values}
use Rattle.vm_variants.proofs.changes.put_values.Given as goal

-- the values that are left, none of which is refused, complete the whole
abbrev pub invariant-loop-value : goal.invariant-loop-value
invariant-loop-value l = record {
  given : with_values l.setting (drop l.value-index l.values) l.config ≡ with_values l.setting l.values l.fn.config;
  allowed : refusal_among l.setting (drop l.value-index l.values) l.config ≡ None;
}

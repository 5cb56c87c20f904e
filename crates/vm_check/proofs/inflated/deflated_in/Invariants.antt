use Rattle.std.proofs.Common.{◌≡◌, drop, length}
use Rattle.std.specs.List.{fold}
use Rattle.vm_check.specs.Inflated.{deflated_in, with_posts}
use Rattle.vm_trace.specs.declared.step.Queue.TheVariants.{Deflate}
use Rattle.vm_check.proofs.inflated.deflated_in.Given as goal

-- the steps that are left complete the whole
abbrev pub invariant-loop-place : goal.invariant-loop-place
invariant-loop-place l = record {
  pages : fold (with_posts Deflate) l.marks (drop l.place l.trace) ≡ deflated_in l.size l.trace;
  size : length l.marks ≡ l.size;
}

use Rattle.std.proofs.Common.{ap, length, sym, ◌∙◌}
use Rattle.vm_trace.proofs.Kept.{length-trace}
use Rattle.vm_trace.proofs.trace.Trace.len.Goals as goal

pub returns : goal.returns
returns c = sym (length-trace c.self.inside.bytes.items c.self.inside.entries.items c.self.inside.steps c.self.invariant) ∙ ap length c.self.view_is

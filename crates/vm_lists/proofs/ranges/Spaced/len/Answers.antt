use Rattle.std.proofs.Common.{length, ap, sym, ◌∙◌}
use Rattle.vm_lists.proofs.RangeLaws.{length-spaced}
use Rattle.vm_lists.proofs.ranges.Spaced.len.Goals as goal

pub returns-clause-exact : goal.returns-clause-exact
returns-clause-exact c = sym (length-spaced c.self.inside.from c.self.inside.step c.self.inside.count) ∙ ap length c.self.view_is

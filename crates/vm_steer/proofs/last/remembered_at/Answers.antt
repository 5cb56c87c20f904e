use Rattle.std.proofs.Common.{◌∙◌}
use Rattle.vm_steer.proofs.LastLemmas.{remembered_read}
use Rattle.vm_steer.proofs.last.remembered_at.Goals as goal

pub returns : goal.returns
returns c = c.remembered_by.ensures ∙ remembered_read c.args.entries.now c.args.place c.index-entries-place.result c.requires c.index-entries-place.is

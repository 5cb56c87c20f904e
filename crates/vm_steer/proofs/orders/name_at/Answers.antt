use Rattle.std.proofs.Common.{sym}
use Rattle.vm_steer.proofs.NameLemmas.{name_read}
use Rattle.vm_steer.proofs.orders.name_at.Goals as goal

pub returns : goal.returns
returns c = sym (name_read c.args.names.now c.args.place _ c.requires)

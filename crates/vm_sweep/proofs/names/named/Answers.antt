use Rattle.std.proofs.Common.{string_bytes}
use Rattle.vm_sweep.proofs.SweepLemmas.{if_named}
use Rattle.vm_sweep.proofs.names.named.Goals as goal

pub returns-else-is_empty : goal.returns-else-is_empty
returns-else-is_empty c = if_named c.join.result string_bytes string_bytes c.args.words.now c.if-is_empty.ensures c.join.ensures.ok

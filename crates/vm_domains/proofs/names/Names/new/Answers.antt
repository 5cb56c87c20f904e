use Rattle.std.proofs.Common.{string_bytes}
use Rattle.vm_domains.proofs.StepLemmas.{views-none}
use Rattle.vm_domains.proofs.names.Names.new.Goals as goal

-- `assumption` finds what `new` ensures, under any name of its result
pub returns : goal.returns
returns c = views-none string_bytes _ (assumption)

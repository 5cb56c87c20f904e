use Rattle.vm_import.proofs.MarkLemmas.{replicate_at}
use Rattle.vm_import.proofs.recent.RecentPages.new.Goals as goal

pub returns : goal.returns
returns c = λ place. replicate_at 256 0xffff_ffff_ffff_ffff place

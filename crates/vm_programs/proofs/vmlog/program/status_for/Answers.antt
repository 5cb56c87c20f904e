use Rattle.vm_programs.proofs.lemmas.words.{for-some}
use Rattle.vm_programs.proofs.vmlog.program.status_for.Goals as goal

pub every_of-requires : goal.every_of-requires
every_of-requires g c = for-some _ _ c.in-Ok.ensures.numbers.0

use Rattle.vm_programs.proofs.lemmas.words.{for-some}
use Rattle.vm_programs.proofs.vmlog.program.obey.Goals as goal

pub every_of-requires : goal.every_of-requires
every_of-requires g c = for-some _ _ c.in_ok-request.ensures.numbers.0

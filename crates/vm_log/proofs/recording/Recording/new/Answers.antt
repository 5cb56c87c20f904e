use Rattle.std.proofs.Common.{◌≡◌, [], refl, rules}
use Rattle.vm_log.proofs.SettleLemmas.{begun}
use Rattle.vm_log.proofs.recording.Recording.new.Goals as goal

pub returns : goal.returns
returns c = λ policy every some. begun policy every _ (search rules) (search rules) (search rules) (search rules) refl refl some

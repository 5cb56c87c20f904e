use Rattle.std.proofs.Common.{refl}
use Rattle.vm_words.proofs.request.Request.new.Goals as goal

-- the view of what was found is what is asked
pub returns : goal.returns
returns c = refl

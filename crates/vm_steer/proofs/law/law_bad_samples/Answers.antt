use Rattle.std.proofs.Common.{refl}
use Rattle.vm_steer.proofs.CommentLemmas.{bad_comments}
use Rattle.vm_steer.proofs.law.law_bad_samples.Goals as goal

pub returns-clause-kept : goal.returns-clause-kept
returns-clause-kept c = λ s bad. refl

pub returns-clause-silent : goal.returns-clause-silent
returns-clause-silent c = bad_comments

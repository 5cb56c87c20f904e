use Rattle.vm_reclaim.specs.Policy.{policy_of}
use Rattle.vm_host.proofs.FairnessLemmas.{fair-bounded, fair-rebalanced}
use Rattle.vm_host.proofs.LineLemmas.{bounded-sound}
use Rattle.vm_host.proofs.law.law_boundary.Goals as goal

pub returns-clause-sound : goal.returns-clause-sound
returns-clause-sound c = λ w lines sound. bounded-sound (policy_of w.machine) w lines sound

pub returns-clause-fair : goal.returns-clause-fair
returns-clause-fair c = λ w lines sound. fair-bounded (policy_of w.machine) w lines sound

pub returns-clause-rebalanced : goal.returns-clause-rebalanced
returns-clause-rebalanced c = λ w lines sound. fair-rebalanced (policy_of w.machine) w lines sound

use Rattle.vm_steer.specs.Fold.{last_told}
use Rattle.vm_steer.specs.Laws.{rest_made, rows_made, state_found}
use Rattle.vm_steer.specs.Order.{in_order}
use Rattle.vm_steer.specs.Told.{sights_of}
use Rattle.vm_steer.proofs.BoundLemmas.{raises_none}
use Rattle.vm_steer.proofs.PromiseLemmas.{made_held, promised}
use Rattle.vm_steer.proofs.law.law_promise.Goals as goal

pub returns-clause-kept : goal.returns-clause-kept
returns-clause-kept c = λ policy samples domains _.
    let last = last_told policy samples in
    promised policy (state_found policy last domains) (rest_made policy last domains) (rows_made policy last domains) (made_held (sights_of policy last.domains (in_order domains)))

pub returns-clause-raised : goal.returns-clause-raised
returns-clause-raised c = λ policy samples domains _. raises_none policy (last_told policy samples) domains

use Rattle.vm_laws.proofs.MostLemmas.{is-most_of_each, is-none_exactly}
use Rattle.vm_laws.proofs.PieceLemmas.{most-at-an-end}
use Rattle.vm_laws.proofs.swapped.law_swapped.Goals as goal

pub returns-clause-pieces : goal.returns-clause-pieces
returns-clause-pieces c = λ g good posted. most-at-an-end g c.law_good.ensures.pieces good posted

pub returns-clause-none : goal.returns-clause-none
returns-clause-none c = λ config is. is-none_exactly config is c.law_course.ensures (λ g good posted. most-at-an-end g c.law_good.ensures.pieces good posted)

pub returns-clause-guests : goal.returns-clause-guests
returns-clause-guests c = λ config is. is-most_of_each config is c.law_course.ensures (λ g good posted. most-at-an-end g c.law_good.ensures.pieces good posted)

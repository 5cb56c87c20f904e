use Rattle.vm_sim.proofs.HeadlineLemmas.{adds-up, reads-last-writes, rebalances-fairly, revokes-fairly}
use Rattle.vm_sim.proofs.law.law_runs.Goals as goal

pub returns-clause-reads : goal.returns-clause-reads
returns-clause-reads c = λ config is. reads-last-writes config is c.law_course.ensures

pub returns-clause-conservation : goal.returns-clause-conservation
returns-clause-conservation c = λ config is. adds-up config is c.law_course.ensures

pub returns-clause-revocations : goal.returns-clause-revocations
returns-clause-revocations c = λ config is. revokes-fairly config is c.law_course.ensures c.law_boundary.ensures.fair

pub returns-clause-rebalancing : goal.returns-clause-rebalancing
returns-clause-rebalancing c = λ config is. rebalances-fairly config is c.law_course.ensures c.law_boundary.ensures.rebalanced

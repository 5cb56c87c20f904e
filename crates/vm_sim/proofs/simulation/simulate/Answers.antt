use Rattle.vm_sim.proofs.CourseLemmas.{front_of_run, world_of_run, written_of_run}
use Rattle.vm_sim.proofs.FrontLemmas.{cut_at_start}
use Rattle.vm_sim.proofs.simulation.simulate.Goals as goal

pub returns-in_err-calendar-clause-front : goal.returns-in_err-calendar-clause-front
returns-in_err-calendar-clause-front g c = cut_at_start c.from_residual.result _ _

pub returns-clause-host : goal.returns-clause-host
returns-clause-host g c = world_of_run c.args.config c.in_ok-calendar.calendar c.in_ok-calendar.ensures c.in-Ok.host c.in-Ok.ensures.first c.run_to_end.result c.run_to_end.ensures.host

pub returns-clause-written : goal.returns-clause-written
returns-clause-written g c = written_of_run c.args.config c.in_ok-calendar.calendar c.in_ok-calendar.ensures c.in-Ok.host c.in-Ok.ensures.first c.run_to_end.result _ _ c.run_to_end.ensures.written

pub returns-clause-front : goal.returns-clause-front
returns-clause-front g c = front_of_run c.args.config c.in_ok-calendar.calendar c.in_ok-calendar.ensures c.in-Ok.host c.in-Ok.ensures.first c.run_to_end.result _ _ c.run_to_end.ensures.front

use Rattle.std.proofs.Common.{rules}
use Rattle.vm_sim.specs.Report.{report_of_epoch}
use Rattle.vm_sim.proofs.FrontLemmas.{err_in_first, err_in_second}
use Rattle.vm_sim.proofs.simulation.epoch.Goals as goal

pub returns-in_err-tell_boundary-clause-front : goal.returns-in_err-tell_boundary-clause-front
unfolding report_of_epoch
returns-in_err-tell_boundary-clause-front g c = search (rules, err_in_first)

pub returns-in_err-tell_epoch-clause-front : goal.returns-in_err-tell_epoch-clause-front
unfolding report_of_epoch
returns-in_err-tell_epoch-clause-front g c = search (rules, err_in_second)

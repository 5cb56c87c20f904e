use Rattle.vm_sim.proofs.stepping.SteppedRun.with_shelf.Goals as goal

pub returns-in-Ok-clause-start : goal.returns-in-Ok-clause-start
returns-in-Ok-clause-start c = λ i. record {
  host = c.in-Ok.ensures.first i;
  agenda = (c.in_ok-calendar.ensures i).agenda;
  epochs = (c.in_ok-calendar.ensures i).epochs;
  done = 0;
}

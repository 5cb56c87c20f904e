use Rattle.vm_trace.proofs.parse.parse_step.Goals as goal

pub returns-clause-exact : goal.returns-clause-exact
returns-clause-exact c = c.parse_step_within.ensures.exact

pub returns-clause-within : goal.returns-clause-within
returns-clause-within c = c.parse_step_within.ensures.within

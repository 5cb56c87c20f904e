use Rattle.vm_sim.proofs.input.read_text.Goals as goal

pub returns-clause-at_most : goal.returns-clause-at_most
returns-clause-at_most g c = c.read_input.ensures.at_most

pub returns-in_err-text-clause-at_most : goal.returns-in_err-text-clause-at_most
returns-in_err-text-clause-at_most g c = c.read_input.ensures.at_most

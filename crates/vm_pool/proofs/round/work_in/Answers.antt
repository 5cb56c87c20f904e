use Rattle.std.proofs.Common.{◌∙◌, ap}
use Rattle.vm_guest.specs.declared.work.WorkAhead.{WorkAhead}
use Rattle.vm_pool.specs.Guests.{of_running}
use Rattle.vm_pool.specs.Threads.{beside_of, pages_of, steps_of}
use Rattle.vm_pool.proofs.round.work_in.Goals as goal

pub returns-in-Some-clause-steps : goal.returns-in-Some-clause-steps
returns-in-Some-clause-steps c = ap (λ (w : WorkAhead). w.steps) c.work_ahead.ensures.work ∙ ap (of_running steps_of) c.in-Some.ensures

pub returns-in-Some-clause-pages : goal.returns-in-Some-clause-pages
returns-in-Some-clause-pages c = ap (λ (w : WorkAhead). w.pages) c.work_ahead.ensures.work ∙ ap (of_running pages_of) c.in-Some.ensures

pub returns-in-Some-clause-beside : goal.returns-in-Some-clause-beside
returns-in-Some-clause-beside c = ap (λ (w : WorkAhead). w.beside) c.work_ahead.ensures.work ∙ ap (of_running beside_of) c.in-Some.ensures

pub returns-in-None-clause-steps : goal.returns-in-None-clause-steps
returns-in-None-clause-steps c = ap (of_running steps_of) c.in-None.ensures

pub returns-in-None-clause-pages : goal.returns-in-None-clause-pages
returns-in-None-clause-pages c = ap (of_running pages_of) c.in-None.ensures

pub returns-in-None-clause-beside : goal.returns-in-None-clause-beside
returns-in-None-clause-beside c = ap (of_running beside_of) c.in-None.ensures

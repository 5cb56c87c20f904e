use Rattle.std.proofs.lemmas.List.Elements.{All-map}
use Rattle.vm_guest.specs.Config.{IsWithinLimits}
use Rattle.vm_host.proofs.FirstLemmas.{sound-first}
use Rattle.vm_runs.proofs.RunLemmas.{run-served}
use Rattle.vm_runs.proofs.law.law_course.Goals as goal

pub returns : goal.returns
returns c = λ machine domains lines epochs is_machine limits few.
    let written = c.law_last_write.ensures in
    let boundary = c.law_boundary.ensures in
    let first = sound-first machine domains is_machine few (All-map IsWithinLimits (λ d. d.config) domains limits) in
    run-served boundary.sound machine domains lines epochs first written.epoch

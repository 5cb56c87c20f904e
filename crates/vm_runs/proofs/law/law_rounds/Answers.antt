use Rattle.vm_runs.proofs.RoundLemmas.{rounds}
use Rattle.vm_runs.proofs.law.law_rounds.Goals as goal
use Rattle.vm_runs.specs.Course.{run_of}

pub returns : goal.returns
returns c = λ machine domains lines epochs events is_machine limits few.
    let good = c.law_good.ensures in
    let written = c.law_last_write.ensures in
    let pieces = c.law_pieces.ensures in
    rounds (record {
      good = good.pieces;
      held = pieces.held;
      written = λ k g before within is_good nothing is_written. written.pieces k g before within is_good.sound nothing is_written;
    }) (run_of machine domains lines epochs) (c.law_course.ensures machine domains lines epochs is_machine limits few) events

use Rattle.vm_samples.specs.SampleOf.{sample_of}
use Rattle.vm_log.proofs.CourseLemmas.{follows_then, step_good, usable_then}
use Rattle.vm_log.proofs.stream.take_block.Goals as goal

pub take_told-requires-clause-usable : goal.take_told-requires-clause-usable
take_told-requires-clause-usable c = usable_then c.args.steering.now c.take.new.self c.in-Ok.sample c.in_ok-take-in-Ok.ensures.taken

pub returns-in_ok-take_told-in-Ok-clause-taken : goal.returns-in_ok-take_told-in-Ok-clause-taken
returns-in_ok-take_told-in-Ok-clause-taken c = λ samples follows.
    step_good c.args.every c.args.steering.now c.take.new.self samples c.take_told.new.recording c.in_ok-take_told-in-Ok.field-0 (sample_of c.args.block.now) c.in-Ok.sample c.in-Ok.ensures c.in_ok-take-in-Ok.ensures.taken
    (c.in_ok-take_told-in-Ok.ensures samples (follows_then c.args.every c.args.steering.now c.take.new.self c.in-Ok.sample samples c.args.recording.now c.in_ok-take-in-Ok.ensures.taken follows))

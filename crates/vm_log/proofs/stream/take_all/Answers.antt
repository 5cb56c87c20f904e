use Rattle.std.proofs.Common.{[]}
use Rattle.vm_log.proofs.CourseLemmas.{ended_under, writable_ended}
use Rattle.vm_log.proofs.stream.take_all.Goals as goal

pub returns-clause-writable : goal.returns-clause-writable
returns-clause-writable g c = writable_ended c.args.course.now.steering.policy c.args.every [] c.end.new.recording c.end.result (ended_under c.policy.result.now c.args.course.now.steering.policy c.args.every [] c.args.course.now.recording c.end.new.recording c.end.result c.policy.ensures c.requires.follows c.end.ensures)

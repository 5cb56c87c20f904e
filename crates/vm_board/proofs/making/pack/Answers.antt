use Rattle.std.proofs.Common.{◌++◌, ◌∙◌, map, length, reverse, Some, ap, refl, arith}
use Rattle.std.proofs.lemmas.List.{nil_from_length}
use Rattle.vm_board.proofs.Slots.{moved, all_moved}
use Rattle.vm_board.proofs.making.pack.Goals as goal

pub loop-job-init : goal.loop-job-init
loop-job-init g c = let none = ap length c.requires.0 in let turned = c.reverse.ensures.len in let room = c.requires.1 in
    (ap (λ os. os ++ map Some (reverse c.reverse.new.self.items)) c.requires.0, omega arith, refl)

pub loop-job-preserved : goal.loop-job-preserved
loop-job-preserved g c = let is = c.loop-job.invariant in let popped = c.in-Some.ensures in let pushed = c.push_reserved.ensures in (
  moved _ _ _ _ c.in-Some.job pushed.items popped.items ∙ is.0,
  (let one = popped.cases in let len = pushed.len in let room = pushed.capacity in let was = is.1 in omega arith),
  popped.capacity ∙ is.2,
)

pub returns-clause-jobs : goal.returns-clause-jobs
returns-clause-jobs g c = let none = c.in_default.ensures.cases in
    (nil_from_length c.pop.new.self.items (omega arith), c.pop.ensures.capacity ∙ c.loop-job.invariant.2 ∙ c.reverse.ensures.capacity)

pub returns-clause-slots : goal.returns-clause-slots
returns-clause-slots g c = let none = c.in_default.ensures.cases in
    all_moved c.loop-job.slots.items c.loop-job.jobs.items c.args.jobs.now.items c.reverse.new.self.items (nil_from_length c.loop-job.jobs.items (omega arith)) c.loop-job.invariant.0 c.reverse.ensures.items

use Rattle.std.proofs.Common.{◌∙◌, length, take, vec_capacity, ap, arith}
use Rattle.vm_pages.proofs.PageSets.{length-remove_all}
use Rattle.vm_pages.proofs.BlockRuns.{first_block, lost_few, set_run_out}
use Rattle.vm_pages.proofs.page_set.PageSet.remove_run.Goals as goal

pub index_mut-requires : goal.index_mut-requires
index_mut-requires c = omega (arith, c.self.inside.counts.ok.0, first_block _ _ _ _ _ _ c.self.invariant c.requires.some (rw (← c.self.view_is) at c.requires.in_range))

pub overflow_sub-index_mut : goal.overflow_sub-index_mut
overflow_sub-index_mut c = (set_run_out _ c.unmark_run-run.new.words.items (vec_capacity c.self.inside.words) (vec_capacity c.unmark_run-run.new.words) _ _ _ c.args.pages.now _ _ _ c.self.invariant (omega (arith, c.unmark_run-run.ensures.room)) c.requires.some (rw (← c.self.view_is) at c.requires.in_range) c.unmark_run-run.ensures.same_word c.index_mut.ensures.value (c.unmark_run-run.ensures.after c.self.inside.size) (c.unmark_run-run.ensures.lost c.self.inside.size)).of_block

pub overflow_sub-self : goal.overflow_sub-self
overflow_sub-self c = (set_run_out _ c.unmark_run-run.new.words.items (vec_capacity c.self.inside.words) (vec_capacity c.unmark_run-run.new.words) _ _ _ c.args.pages.now _ _ _ c.self.invariant (omega (arith, c.unmark_run-run.ensures.room)) c.requires.some (rw (← c.self.view_is) at c.requires.in_range) c.unmark_run-run.ensures.same_word c.index_mut.ensures.value (c.unmark_run-run.ensures.after c.self.inside.size) (c.unmark_run-run.ensures.lost c.self.inside.size)).of_set

pub invariant_of-self : goal.invariant_of-self
invariant_of-self c = (set_run_out _ c.unmark_run-run.new.words.items (vec_capacity c.self.inside.words) (vec_capacity c.unmark_run-run.new.words) _ _ _ c.args.pages.now _ _ _ c.self.invariant (omega (arith, c.unmark_run-run.ensures.room)) c.requires.some (rw (← c.self.view_is) at c.requires.in_range) c.unmark_run-run.ensures.same_word c.index_mut.ensures.value (c.unmark_run-run.ensures.after c.self.inside.size) (c.unmark_run-run.ensures.lost c.self.inside.size)).kept

pub overflow_cast-lost : goal.overflow_cast-lost
overflow_cast-lost c = omega (arith, lost_few _ c.unmark_run-run.new.words.items _ _ _ _ c.args.pages.now _ _ c.self.invariant (rw (← c.self.view_is) at c.requires.in_range) (c.unmark_run-run.ensures.lost c.self.inside.size))

pub overflow_cast-self : goal.overflow_cast-self
overflow_cast-self c = omega (arith, lost_few _ c.unmark_run-run.new.words.items _ _ _ _ c.args.pages.now _ _ c.self.invariant (rw (← c.self.view_is) at c.requires.in_range) (c.unmark_run-run.ensures.lost c.self.inside.size))

pub returns-clause-after : goal.returns-clause-after
returns-clause-after c = rw (← c.self.view_is) (c.unmark_run-run.ensures.after c.self.inside.size)

pub returns-clause-size : goal.returns-clause-size
returns-clause-size c = rw (← c.self.view_is) (ap length (c.unmark_run-run.ensures.after c.self.inside.size) ∙ length-remove_all _ (take c.unmark_run-run.result.0 c.args.pages.now))

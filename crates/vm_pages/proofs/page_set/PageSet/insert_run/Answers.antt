use Rattle.std.proofs.Common.{◌∙◌, length, take, ap, arith}
use Rattle.vm_pages.proofs.PageSets.{length-insert_all}
use Rattle.vm_pages.proofs.BlockRuns.{first_block, gained_few, set_run_in}
use Rattle.vm_pages.proofs.WordLemmas.{has_room}
use Rattle.vm_pages.proofs.page_set.PageSet.insert_run.Goals as goal

pub mark_run-run-requires-clause-room : goal.mark_run-run-requires-clause-room
mark_run-run-requires-clause-room c = has_room c.self.inside.words.items _ _ _ c.self.invariant.marks ((rw (← c.self.view_is) at c.requires.in_range) 0 0 c.requires.some)

pub index_mut-requires : goal.index_mut-requires
index_mut-requires c = omega (arith, c.self.inside.counts.ok.0, first_block _ _ _ _ _ _ c.self.invariant c.requires.some (rw (← c.self.view_is) at c.requires.in_range))

pub overflow_add-index_mut : goal.overflow_add-index_mut
overflow_add-index_mut c = (set_run_in _ c.mark_run-run.new.words.items _ _ _ _ _ c.args.pages.now _ _ _ c.self.invariant c.mark_run-run.ensures.room c.requires.some (rw (← c.self.view_is) at c.requires.in_range) c.mark_run-run.ensures.same_word c.index_mut.ensures.value (c.mark_run-run.ensures.after c.self.inside.size) (c.mark_run-run.ensures.gained c.self.inside.size)).block_fits

pub overflow_add-self : goal.overflow_add-self
overflow_add-self c = (set_run_in _ c.mark_run-run.new.words.items _ _ _ _ _ c.args.pages.now _ _ _ c.self.invariant c.mark_run-run.ensures.room c.requires.some (rw (← c.self.view_is) at c.requires.in_range) c.mark_run-run.ensures.same_word c.index_mut.ensures.value (c.mark_run-run.ensures.after c.self.inside.size) (c.mark_run-run.ensures.gained c.self.inside.size)).len_fits

pub invariant_of-self : goal.invariant_of-self
invariant_of-self c = (set_run_in _ c.mark_run-run.new.words.items _ _ _ _ _ c.args.pages.now _ _ _ c.self.invariant c.mark_run-run.ensures.room c.requires.some (rw (← c.self.view_is) at c.requires.in_range) c.mark_run-run.ensures.same_word c.index_mut.ensures.value (c.mark_run-run.ensures.after c.self.inside.size) (c.mark_run-run.ensures.gained c.self.inside.size)).kept

pub overflow_cast-gained : goal.overflow_cast-gained
overflow_cast-gained c = omega (arith, gained_few _ c.mark_run-run.new.words.items _ _ _ _ c.args.pages.now _ _ c.self.invariant (rw (← c.self.view_is) at c.requires.in_range) (c.mark_run-run.ensures.gained c.self.inside.size))

pub overflow_cast-self : goal.overflow_cast-self
overflow_cast-self c = omega (arith, gained_few _ c.mark_run-run.new.words.items _ _ _ _ c.args.pages.now _ _ c.self.invariant (rw (← c.self.view_is) at c.requires.in_range) (c.mark_run-run.ensures.gained c.self.inside.size))

pub returns-clause-after : goal.returns-clause-after
returns-clause-after c = rw (← c.self.view_is) (c.mark_run-run.ensures.after c.self.inside.size)

pub returns-clause-size : goal.returns-clause-size
returns-clause-size c = rw (← c.self.view_is) (ap length (c.mark_run-run.ensures.after c.self.inside.size) ∙ length-insert_all _ (take c.mark_run-run.result.0 c.args.pages.now))

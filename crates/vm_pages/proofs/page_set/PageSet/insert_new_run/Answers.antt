use Rattle.std.proofs.Common.{◌<◌, ◌∙◌, length, take, ap, arith}
use Rattle.std.proofs.lemmas.List.Elements.{All-take}
use Rattle.vm_pages.proofs.PageSets.{length-insert_all}
use Rattle.vm_pages.proofs.BlockRuns.{first_block, gained_few, set_run_in}
use Rattle.vm_pages.proofs.WordLemmas.{has_room, length-marked}
use Rattle.vm_pages.proofs.page_set.PageSet.insert_new_run.Goals as goal

pub mark_new_run-run-requires-clause-room : goal.mark_new_run-run-requires-clause-room
mark_new_run-run-requires-clause-room c = has_room c.self.inside.words.items _ _ _ c.self.invariant.marks ((rw (← c.self.view_is) at c.requires.in_range) 0 0 c.requires.some)

pub index_mut-requires : goal.index_mut-requires
index_mut-requires c = omega (arith, c.self.inside.counts.ok.0, first_block _ _ _ _ _ _ c.self.invariant c.requires.some (rw (← c.self.view_is) at c.requires.in_range))

pub overflow_add-index_mut : goal.overflow_add-index_mut
overflow_add-index_mut c = (set_run_in _ c.mark_new_run-run.new.words.items _ _ _ _ _ c.args.pages.now _ _ _ c.self.invariant c.mark_new_run-run.ensures.room c.requires.some (rw (← c.self.view_is) at c.requires.in_range) c.mark_new_run-run.ensures.same_word c.index_mut.ensures.value (c.mark_new_run-run.ensures.after c.self.inside.size) (c.mark_new_run-run.ensures.gained c.self.inside.size)).block_fits

pub overflow_add-self : goal.overflow_add-self
overflow_add-self c = (set_run_in _ c.mark_new_run-run.new.words.items _ _ _ _ _ c.args.pages.now _ _ _ c.self.invariant c.mark_new_run-run.ensures.room c.requires.some (rw (← c.self.view_is) at c.requires.in_range) c.mark_new_run-run.ensures.same_word c.index_mut.ensures.value (c.mark_new_run-run.ensures.after c.self.inside.size) (c.mark_new_run-run.ensures.gained c.self.inside.size)).len_fits

pub invariant_of-self : goal.invariant_of-self
invariant_of-self c = (set_run_in _ c.mark_new_run-run.new.words.items _ _ _ _ _ c.args.pages.now _ _ _ c.self.invariant c.mark_new_run-run.ensures.room c.requires.some (rw (← c.self.view_is) at c.requires.in_range) c.mark_new_run-run.ensures.same_word c.index_mut.ensures.value (c.mark_new_run-run.ensures.after c.self.inside.size) (c.mark_new_run-run.ensures.gained c.self.inside.size)).kept

pub overflow_cast-run : goal.overflow_cast-run
overflow_cast-run c = omega (arith, gained_few _ c.mark_new_run-run.new.words.items _ _ _ _ c.args.pages.now _ _ c.self.invariant (rw (← c.self.view_is) at c.requires.in_range) (c.mark_new_run-run.ensures.gained c.self.inside.size))

pub overflow_cast-self : goal.overflow_cast-self
overflow_cast-self c = omega (arith, gained_few _ c.mark_new_run-run.new.words.items _ _ _ _ c.args.pages.now _ _ c.self.invariant (rw (← c.self.view_is) at c.requires.in_range) (c.mark_new_run-run.ensures.gained c.self.inside.size))

pub returns-clause-after : goal.returns-clause-after
returns-clause-after c = rw (← c.self.view_is) (c.mark_new_run-run.ensures.after c.self.inside.size)

pub returns-clause-gained : goal.returns-clause-gained
returns-clause-gained c =
    let in_range = rw (← c.self.view_is, length-marked c.self.inside.words.items c.self.inside.size) at c.requires.in_range in
    rw (← c.self.view_is) (c.mark_new_run-run.ensures.gained c.self.inside.size (All-take (λ page. page < c.self.inside.size) c.mark_new_run-run.result c.args.pages.now in_range))

pub returns-clause-not_new : goal.returns-clause-not_new
returns-clause-not_new c =
    let in_range = rw (← c.self.view_is, length-marked c.self.inside.words.items c.self.inside.size) at c.requires.in_range in
    rw (← c.self.view_is) (c.mark_new_run-run.ensures.not_new c.self.inside.size in_range)

pub returns-clause-size : goal.returns-clause-size
returns-clause-size c = rw (← c.self.view_is) (ap length (c.mark_new_run-run.ensures.after c.self.inside.size) ∙ length-insert_all _ (take c.mark_new_run-run.result c.args.pages.now))

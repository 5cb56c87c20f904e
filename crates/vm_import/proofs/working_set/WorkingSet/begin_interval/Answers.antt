use Rattle.std.proofs.Common.{◌∙◌, ap, sym, subst}
use Rattle.std.proofs.lemmas.List.{with_items_is}
use Rattle.vm_import.specs.Sound.{IsSound}
use Rattle.vm_import.specs.WorkingSets.{WorkingSetView}
use Rattle.vm_import.proofs.SoundLemmas.{sound_none}
use Rattle.vm_import.proofs.SetStepLemmas.{Begins-empty}
use Rattle.vm_import.proofs.working_set.WorkingSet.begin_interval.Goals as goal

pub invariant_of-self : goal.invariant_of-self
invariant_of-self c =
    let same = c.clear_marks.auto.marks in
    let is = with_items_is c.self.inside.marks c.clear_marks.new.marks (same ∙ c.deref_mut.ensures.len) in
    subst (λ marks. IsSound c.self.inside.pages.keys marks c.clear.new.self.items c.new-self-inside.result c.new-self-inside-2.result) (sym is)
    (sound_none _ _ _ _ _ _ _ c.self.inside.read c.self.inside.written _ _ c.self.invariant c.deref_mut.ensures.value c.deref.ensures.value same c.clear_marks.ensures
    c.clear.ensures.items c.new-self-inside.ensures c.new-self-inside-2.ensures)

pub returns-clause-begins : goal.returns-clause-begins
returns-clause-begins c = Begins-empty c.args.self.now _ (ap (λ (set : WorkingSetView). set.pages) c.self.view_is) c.clear.ensures.items

pub returns-clause-pages : goal.returns-clause-pages
returns-clause-pages c = ap (λ (set : WorkingSetView). set.pages) c.self.view_is

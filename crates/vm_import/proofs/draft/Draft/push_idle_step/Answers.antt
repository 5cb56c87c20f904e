use Rattle.std.proofs.Common.{◌∙◌, ◌++◌, List, ℕ, codes, ap, arith}
use Rattle.vm_import.proofs.DraftLemmas.{with_one}
use Rattle.vm_import.proofs.draft.Draft.push_idle_step.Goals as goal

pub overflow_add-self : goal.overflow_add-self
overflow_add-self c = let there = rw (← c.self.view_is) at c.requires in omega (arith, there)

pub returns : goal.returns
returns c =
    rw (← c.self.view_is)
    (with_one (record { text = c.self.inside.text.items; written = c.self.inside.written; steps = c.self.inside.steps })
    (codes "i") c.push-2.new.self.items
    (c.in_ok-push-2.ensures.items
    ∙ ap (λ (l : List ℕ). l ++ codes "\"")
    (c.in_ok-push.ensures.items ∙ ap (λ (l : List ℕ). l ++ codes "i") c.in_ok-begin_step.ensures)))

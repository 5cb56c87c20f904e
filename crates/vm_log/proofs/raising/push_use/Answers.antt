use Rattle.std.proofs.Common.{◌≡◌, ◌∙◌, ◌++◌, ◌∷◌, ◌-◌, ◌<◌, [], ap, arith, List, Option, ℕ, replicate, None, Some}
use Rattle.vm_log.proofs.LoopLemmas.{none_next, nones_done}
use Rattle.vm_log.proofs.raising.push_use.Goals as goal

pub loop-left-preserved : goal.loop-left-preserved
loop-left-preserved c =
    ap (λ (l : List (Option ℕ)). l ++ replicate (c.loop-left.left - 1) None) (c.in_ok-push.ensures.items ∙ ap (λ (u : Option ℕ). c.loop-left.uses.items ++ u ∷ []) c.none.ensures)
    ∙ none_next c.loop-left.uses.items (c.args.uses.now.items ++ replicate c.args.gap None) c.loop-left.left (omega (arith, c.loop-left-test.true)) c.loop-left.invariant

pub returns : goal.returns
returns c =
    c.in_ok-push-2.ensures.items
    ∙ (ap (λ (u : Option ℕ). c.loop-left.uses.items ++ u ∷ []) c.of.ensures
    ∙ nones_done c.args.uses.now.items c.loop-left.uses.items c.args.gap c.loop-left.left c.args.used (omega (arith, c.loop-left-test.false)) c.loop-left.invariant)

use Rattle.std.proofs.Common.{◌≡◌, ◌∙◌, Option, ℕ, Some, ap, not, sym}
use Rattle.vm_log.specs.Seen.{greater}
use Rattle.vm_log.specs.Steps.{is_less}
use Rattle.vm_log.proofs.LoopLemmas.{last_set, last_stays, less_false, less_true}
use Rattle.vm_log.proofs.raising.raise_last.Goals as goal

pub returns-then-not-is_less : goal.returns-then-not-is_less
returns-then-not-is_less c =
    let u = c.index-uses-last.result in
    last_stays c.args.uses.now c.args.used u c.requires.some c.index-uses-last.is
    (less_false u c.args.used (sym (c.is_less.ensures ∙ ap (λ (o : Option ℕ). is_less o c.args.used) c.get.ensures) ∙ c.if-not-is_less.true))

pub returns : goal.returns
returns c =
    let u = c.index-uses-last.result in
    last_set c.args.uses.now c.args.used u c.of.result c.requires.some c.index-uses-last.is
    (c.of.ensures ∙ less_true u c.args.used (sym (c.is_less.ensures ∙ ap (λ (o : Option ℕ). is_less o c.args.used) c.get.ensures) ∙ c.if-not-is_less.false))

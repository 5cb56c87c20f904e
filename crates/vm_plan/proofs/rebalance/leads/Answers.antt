use Rattle.std.proofs.Common.{Option, IfSome, refl, sym, ap, ◌∙◌, subst}
use Rattle.std.specs.Option.{option_map}
use Rattle.vm_tax.specs.Price.{ratio_of}
use Rattle.vm_tax.specs.Ratio.{Ratio, IsAbove}
use Rattle.vm_plan.proofs.rebalance.leads.Goals as goal

pub returns-in-Some : goal.returns-in-Some
returns-in-Some c =
    let price = ratio_of c.args.price.now in
    let is = ap (option_map ratio_of) (sym c.in-Some.is) ∙ c.wanting_price.ensures.ratio in (
      λ yes ne. subst (λ (o : Option Ratio). IfSome o (λ that. IsAbove price c.args.position that c.args.other)) is (c.is_above.ensures.0 yes),
      λ leads. c.is_above.ensures.1 (subst (λ (o : Option Ratio). IfSome o (λ that. IsAbove price c.args.position that c.args.other)) (sym is) (leads c.if-position-other.false)),
    )

pub returns-in-None : goal.returns-in-None
returns-in-None c =
    let price = ratio_of c.args.price.now in
    let is = ap (option_map ratio_of) (sym c.in-None.is) ∙ c.wanting_price.ensures.ratio in
    (λ yes ne. subst (λ (o : Option Ratio). IfSome o (λ that. IsAbove price c.args.position that c.args.other)) is tt, λ leads. refl)

pub returns-then-position-other : goal.returns-then-position-other
returns-then-position-other c = (λ yes ne. absurd (ne c.if-position-other.true), λ leads. refl)

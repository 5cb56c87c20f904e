use Rattle.std.proofs.Common.{◌≡◌, ◌*◌, ◌∙◌, ℕ}
use Rattle.std.specs.Ordering.{nat_cmp}
use Rattle.vm_tax.specs.declared.price.Price.{Price}
use Rattle.vm_tax.specs.Ratio.{hundredths, weight_of, adjusted_ratio, ratio_cmp}
use Rattle.vm_tax.specs.Price.{ratio_of}
use Rattle.vm_tax.proofs.order.compare.Goals as goal

-- each numerator multiplied by the other's denominator, as the code converts them
by_products : (a b : Price) (left weight right weight' : ℕ)
    → left ≡ a.shares → weight ≡ b.pages * weight_of (hundredths b.tax) b.active → right ≡ b.shares → weight' ≡ a.pages * weight_of (hundredths a.tax) a.active
    → nat_cmp (left * weight) (right * weight') ≡ ratio_cmp (ratio_of a) (ratio_of b)
unfolding adjusted_ratio
by_products a b left weight right weight' e f g h = λ i. nat_cmp (e i * f i) (g i * h i)

pub returns : goal.returns
returns c =
    c.cmp.ensures
    ∙ by_products c.args.a.now c.args.b.now _ _ _ _ c.from.ensures (c.from-2.ensures ∙ c.weighted_pages.ensures.exact) c.from-3.ensures (c.from-4.ensures ∙ c.weighted_pages-2.ensures.exact)

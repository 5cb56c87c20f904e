-- Prices at one tax, as what compares them asks for, and after one of them has changed.
use Rattle.std.proofs.Common.{◌≡◌, ℕ, zero, suc, List, [], ◌∷◌, Option, Some, None, IfSome, get_or, set, sym, ◌∙◌, subst}
use Rattle.std.specs.List.{AllByRecursion}
use Rattle.vm_tax.specs.declared.price.Price.{Price}
use Rattle.vm_tax.specs.Prices.{HaveOneTax}

-- a price that is there is at this tax
abbrev pub IsAtTax : ℕ → Option Price → Type 0
IsAtTax tax offer = IfSome offer (λ price. price.tax ≡ tax)

tax_at : (tax : ℕ) (prices : List (Option Price)) (k : ℕ) (p : Price) → AllByRecursion (IsAtTax tax) prices → get_or prices k None ≡ Some p → p.tax ≡ tax
tax_at tax [] k p all is = absurd (cc)
tax_at tax (x ∷ prices) zero p all is = subst (IsAtTax tax) is all.0
tax_at tax (x ∷ prices) (suc k) p all is = tax_at tax prices k p all.1 is

pub one_tax : (tax : ℕ) (prices : List (Option Price)) → AllByRecursion (IsAtTax tax) prices → HaveOneTax prices
one_tax tax prices all j k p q first second = tax_at tax prices j p all first ∙ sym (tax_at tax prices k q all second)

pub tax_set : (tax : ℕ) (prices : List (Option Price)) (k : ℕ) (x : Option Price) → AllByRecursion (IsAtTax tax) prices → IsAtTax tax x → AllByRecursion (IsAtTax tax) (set prices k x)
tax_set tax [] k x all new = tt
tax_set tax (y ∷ prices) zero x all new = (new, all.1)
tax_set tax (y ∷ prices) (suc k) x all new = (all.0, tax_set tax prices k x all.1 new)

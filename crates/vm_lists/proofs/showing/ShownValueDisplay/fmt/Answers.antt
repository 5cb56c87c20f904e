use denote.Enum.Bare.{sameb}
use Rattle.std.proofs.Common.{◌≡◌, ◌++◌, ◌∷◌, ◌/◌, ◌%◌, ℕ, Bool, false, List, ap₂, subst, sym}
use Rattle.std.proofs.lemmas.Bool.{eq-eqb, false≢true, ne_eqb}
use Rattle.std.specs.Fmt.{HasWritten, IsPlainFormatter, decimal}
use Rattle.std.specs.Prelude.{IsOk, codes, if◌then◌else◌, not}
use Rattle.vm_lists.specs.contracts.bounds.Unit.{the_type}
use Rattle.vm_lists.specs.declared.bounds.Unit.{Unit as Units}
use Rattle.vm_lists.specs.declared.bounds.Unit.TheVariants.{Whole, Hundredths}
use Rattle.vm_lists.specs.Shown.{shown}
use Rattle.vm_lists.proofs.showing.ShownValueDisplay.fmt.Goals as goal

-- percent with one digit behind the point
tenths_shown : (unit : Units) (value : ℕ) → false ≡ sameb the_type unit Whole → value % 10 ≡ 0 → (value / 10 % 10 ≡ 0 → ⊥)
    → shown unit value ≡ decimal (value / 100) ++ (46 ∷ decimal (value / 10 % 10))
unfolding shown
tenths_shown Whole value other none some = absurd (false≢true other)
tenths_shown Hundredths value other none some =
    ap₂ (λ (a b : Bool). if not a then decimal (value / 100) ++ (codes "." ++ (decimal (value / 10 % 10) ++ decimal (value % 10)))
    else if not b then decimal (value / 100) ++ (codes "." ++ decimal (value / 10 % 10)) else decimal (value / 100))
    (eq-eqb (value % 10) 0 none) (ne_eqb (value / 10 % 10) 0 some)

pub returns-then-tenths-ne0-clause-writes : goal.returns-then-tenths-ne0-clause-writes
returns-then-tenths-ne0-clause-writes g c =
    subst (λ (text : List ℕ). IsPlainFormatter {W = g.row.W.Denot} c.args.f.now → IsOk c.write-then-tenths-ne0.result
    → HasWritten {W = g.row.W.Denot} g.W.Write.write_str_gives c.args.f.now text c.write-then-tenths-ne0.new.self)
    (sym (tenths_shown c.args.self.now.unit c.args.self.now.value c.if-eq.ensures c.if-hundredths-ne0.false c.if-tenths-ne0.true))
    c.write-then-tenths-ne0.ensures.writes

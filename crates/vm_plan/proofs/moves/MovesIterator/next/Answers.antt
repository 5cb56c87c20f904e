use Rattle.std.proofs.Common.{◌≡◌, ℕ, zero, suc, ◌-◌, ◌<◌, List, ◌∷◌, ◌++◌, replicate, refl, sym, ap, ◌∙◌, subst, arith}
use Rattle.vm_plan.specs.Growth.{AreCounted}
use Rattle.vm_plan.specs.Stretches.{moves_of}
use Rattle.vm_plan.proofs.moves.MovesIterator.next.Goals as goal
use Rattle.vm_plan.proofs.moves.MovesIterator.next.Goals.{then-self-eq0+in_ok-first, else-self-eq0}

-- the first of equal positions
taken : (count position : ℕ) (rest : List ℕ) → 0 < count → replicate count position ++ rest ≡ position ∷ (replicate (count - 1) position ++ rest)
taken zero position rest some = absurd (omega arith)
taken (suc n) position rest some = let less : suc n - 1 ≡ n = omega arith in rw less refl

pub returns-clause-steps : goal.returns-clause-steps
returns-clause-steps c =
    let position = c.self.inside.position in
    let later = c.self.inside.later.now in
    elim c.if-self-eq0.branch [
      | then-self-eq0+in_ok-first w ↦
          let first = w.in_ok-first.first.now in
          let counted = subst AreCounted w.in_ok-first.ensures.cases.0 c.self.invariant in
          let none = ap (λ n. replicate n position ++ moves_of later) w.if-self-eq0.true in
          let opened = ap moves_of w.in_ok-first.ensures.cases.0 in
          rw w.self-inside-is (sym c.self.view_is ∙ none ∙ opened ∙ taken first.count first.position (moves_of w.in_ok-first.later.now) counted.0)
      | else-self-eq0 w ↦
          rw w.self-inside-is (sym c.self.view_is ∙ taken c.self.inside.count position (moves_of later) (omega (arith, w.if-self-eq0.false)))
    ]

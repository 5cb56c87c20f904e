-- Moves that are done stretch by stretch.
use Rattle.std.proofs.Common.{◌≡◌, ◌∙◌, ℕ, ◌+◌, ◌<◌, List, [], ◌∷◌, ◌++◌, drop, fold, get_or, length, add-one, ap, subst, sym}
use Rattle.std.proofs.Math.Seq.{drop-cons}
use Rattle.std.proofs.lemmas.Grind.{fold-append}
use Rattle.vm_plan.specs.declared.stretch.Stretch.{Stretch}
use Rattle.vm_plan.specs.Stretches.{moves_of, positions_of}
use Rattle.vm_pool.specs.CanMove.{CanDo}
use Rattle.vm_pool.specs.Pool.{PoolView}

moves-left : (stretches : List Stretch) (i : ℕ) (d : Stretch) → i < length stretches → moves_of (drop i stretches) ≡ positions_of (get_or stretches i d) ++ moves_of (drop (i + 1) stretches)
moves-left stretches i d there =
    ap moves_of (drop-cons stretches i d there) ∙ ap (λ k. positions_of (get_or stretches i d) ++ moves_of (drop k stretches)) (sym (add-one i))

module _ (Can : PoolView → ℕ → Type 0) (step : PoolView → ℕ → PoolView) where
  can-first : (first later : List ℕ) (pool : PoolView) → CanDo Can step pool (first ++ later) → CanDo Can step pool first
  can-first [] later pool can = tt
  can-first (k ∷ first) later pool can = (can.0, can-first first later (step pool k) can.1)

  can-later : (first later : List ℕ) (pool : PoolView) → CanDo Can step pool (first ++ later) → CanDo Can step (fold step pool first) later
  can-later [] later pool can = can
  can-later (k ∷ first) later pool can = can-later first later (step pool k) can.1

  module _ (pool : PoolView) (stretches : List Stretch) (i : ℕ) (d : Stretch) (there : i < length stretches) where
    -- the moves of the next stretch can be done
    pub stretch-can : CanDo Can step pool (moves_of (drop i stretches)) → CanDo Can step pool (positions_of (get_or stretches i d))
    stretch-can can = can-first (positions_of (get_or stretches i d)) (moves_of (drop (i + 1) stretches)) pool (subst (CanDo Can step pool) (moves-left stretches i d there) can)

    -- and then those that are left
    pub left-can : CanDo Can step pool (moves_of (drop i stretches)) → CanDo Can step (fold step pool (positions_of (get_or stretches i d))) (moves_of (drop (i + 1) stretches))
    left-can can = can-later (positions_of (get_or stretches i d)) (moves_of (drop (i + 1) stretches)) pool (subst (CanDo Can step pool) (moves-left stretches i d there) can)

    pub left-done : fold step (fold step pool (positions_of (get_or stretches i d))) (moves_of (drop (i + 1) stretches)) ≡ fold step pool (moves_of (drop i stretches))
    left-done =
        sym (fold-append step pool (positions_of (get_or stretches i d)) (moves_of (drop (i + 1) stretches)))
        ∙ ap (fold step pool) (sym (moves-left stretches i d there))

use Rattle.std.proofs.Common.{◌≡◌, ℕ, ◌+◌, ◌<◌, ◌≤◌, nat_lt, nat_le, cond, sym, ap, subst, ◌∙◌, arith}
use Rattle.std.proofs.lemmas.Bool.{cond-true, cond-false, le-ltb, le-leb, lt-leb}
use Rattle.vm_plan.specs.declared.state.State.{State}
use Rattle.vm_plan.specs.declared.state.State.TheVariants.{High, Soft, Hard, Low}
use Rattle.vm_plan.specs.declared.thresholds.Thresholds.{Thresholds}
use Rattle.vm_plan.specs.State.{rank, one_above, threshold_of, candidate_of, next_state_of}
use Rattle.vm_plan.proofs.state.next_state.Goals as goal

-- a state that doesn't fall, and passes the threshold of the one above it, or doesn't
rises : (old above : State) (free : ℕ) (t : Thresholds) → above ≡ one_above old → rank old ≤ rank (candidate_of free t)
    → threshold_of above t + t.margin ≤ free → above ≡ next_state_of old free t
rises old above free t is high passed =
    let passes = subst (λ (s : State). threshold_of s t + t.margin ≤ free) is passed in
    let falls = nat_lt (rank (candidate_of free t)) (rank old) in
    let there = nat_le (threshold_of (one_above old) t + t.margin) free in
    let kept = cond-false falls (candidate_of free t) (cond there (one_above old) old) (le-ltb (rank (candidate_of free t)) (rank old) high) in
    is ∙ sym (kept ∙ cond-true there (one_above old) old (le-leb (threshold_of (one_above old) t + t.margin) free passes))

stays : (old above : State) (free threshold : ℕ) (t : Thresholds) → threshold ≡ threshold_of above t → above ≡ one_above old
    → rank old ≤ rank (candidate_of free t) → free < threshold + t.margin → old ≡ next_state_of old free t
stays old above free threshold t of is high below =
    let same = of ∙ ap (λ (s : State). threshold_of s t) is in
    let short = subst (λ (n : ℕ). free < n + t.margin) same below in
    let falls = nat_lt (rank (candidate_of free t)) (rank old) in
    let there = nat_le (threshold_of (one_above old) t + t.margin) free in
    let kept = cond-false falls (candidate_of free t) (cond there (one_above old) old) (le-ltb (rank (candidate_of free t)) (rank old) high) in
    sym (kept ∙ cond-false there (one_above old) old (lt-leb (threshold_of (one_above old) t + t.margin) free short))

one_up : (old above : State) → above ≡ one_above old → rank above ≤ rank old + 1
one_up old above is = subst (λ (s : State). rank s ≤ rank old + 1) (sym is) (one_more old)
  where
    one_more : (old : State) → rank (one_above old) ≤ rank old + 1
    one_more Low = omega arith
    one_more Hard = omega arith
    one_more Soft = omega arith
    one_more High = omega arith

pub returns-then-from-needed-clause-exact : goal.returns-then-from-needed-clause-exact
returns-then-from-needed-clause-exact c =
    let t = c.args.thresholds.now in
    let candidate = ap rank c.candidate-candidate.ensures in
    rises c.args.old _ c.args.free t (assumption) (omega (arith, candidate)) (omega (arith, c.threshold.ensures))

pub returns-then-from-needed-clause-one_up : goal.returns-then-from-needed-clause-one_up
returns-then-from-needed-clause-one_up c = one_up c.args.old _ (assumption)

pub returns-else-from-needed-clause-exact : goal.returns-else-from-needed-clause-exact
returns-else-from-needed-clause-exact c =
    let t = c.args.thresholds.now in
    let candidate = ap rank c.candidate-candidate.ensures in
    stays c.args.old _ c.args.free _ t c.threshold.ensures (assumption) (omega (arith, candidate)) (omega arith)

use Rattle.std.proofs.Common.{◌≡◌, ◌++◌, ◌∷◌, [], ap, ◌∙◌, length, subst, sym, append_assoc}
use Rattle.std.proofs.lemmas.Option.{slice_get_within}
use Rattle.vm_board.specs.Gates.{Rises}
use Rattle.vm_board.proofs.Gates.{rises_more}
use Rattle.vm_board.proofs.Sums.{closer}
use Rattle.vm_board.proofs.board.Board.drain.Goals as goal

pub loop-number-smaller : goal.loop-number-smaller
loop-number-smaller g c = let drew = c.in-Some.ensures.drawn in let jobs = c.args.self.now.jobs in
    closer (length jobs) _ c.loop-number.pass.drawn c.finish.new.pass.drawn (ap (λ p. p.drawn) c.finish.ensures ∙ ap (λ p. p.drawn) drew.pass) drew.above (slice_get_within jobs _ _ drew.job)

pub loop-number-preserved : goal.loop-number-preserved
loop-number-preserved g c =
    let drew = c.in-Some.ensures.drawn in
    let was = c.loop-number.pass.drawn in
    let n = c.in-Some.number in
    let left = c.finish.ensures in
    let is : c.finish.new.pass.drawn ≡ was ++ n ∷ [] = ap (λ p. p.drawn) left ∙ ap (λ p. p.drawn) drew.pass in
    let before = c.loop-number.invariant.passed in
    let first = c.args.pass.now.drawn in
    record {
      idle = (ap (λ p. p.board) left ∙ ap (λ p. p.board) drew.pass ∙ c.loop-number.invariant.idle.0, ap (λ p. p.number) left);
      passed = (
        before.0 ++ n ∷ [],
        is ∙ ap (λ ns. ns ++ n ∷ []) before.1 ∙ append_assoc first before.0 (n ∷ []),
        c.pass_through-outside.ensures.passed before.0 before.2,
      );
      rises = λ start. subst Rises (sym is) (rises_more was n drew.above (c.loop-number.invariant.rises start));
    }

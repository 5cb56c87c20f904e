use Rattle.std.proofs.Common.{◌≡◌, ◌<◌, ◌≤◌, ◌+◌, ◌++◌, ◌∷◌, [], length, ap, sym, subst, ◌∙◌, arith, length-append}
use Rattle.std.specs.List.{All}
use Rattle.std.proofs.lemmas.List.{length-map}
use Rattle.std.proofs.lemmas.List.Elements.{All-push}
use Rattle.std.proofs.lemmas.Option.{slice_get_within}
use Rattle.vm_sweep.specs.declared.lane.Made.{Made}
use Rattle.vm_sweep.specs.Lanes.{numbers, IsMade}
use Rattle.vm_sweep.specs.Offers.{IsAt}
use Rattle.vm_sweep.proofs.LaneLists.{IsSparse, sparse_snoc}
use Rattle.vm_sweep.proofs.LaneLemmas.{numbers_snoc, from_offer}
use Rattle.vm_sweep.proofs.lane.run_drawn.Goals as goal

pub run-done-requires : goal.run-done-requires
run-done-requires g c = c.loop-number.invariant.tool c.in-Some.number c.unwrap.result (from_offer c.args.board.now.jobs c.in-Some.number c.in-Some.offer c.unwrap.result c.in-Some.ensures.drawn.job c.unwrap.ensures)

pub push_reserved-requires : goal.push_reserved-requires
push_reserved-requires g c =
    let is = c.loop-number.invariant in
    let drew = c.in-Some.ensures.drawn in
    let made = c.loop-number.made in
    let less : length c.loop-number.pass.drawn ≤ c.in-Some.number = is.sparse c.in-Some.number drew.above in
    let within : c.in-Some.number < length c.args.board.now.jobs = slice_get_within _ _ _ drew.job in
    let same : length made.items ≡ length c.loop-number.pass.drawn = sym (length-map made.items (λ m. m.number)) ∙ ap length is.drawn in
    let ok = made.ok in
    let room = is.room in
    omega arith

pub loop-number-smaller : goal.loop-number-smaller
loop-number-smaller g c =
    let is = c.loop-number.invariant in
    let drew = c.in-Some.ensures.drawn in
    let was = c.loop-number.pass.drawn in
    let less : length was ≤ c.in-Some.number = is.sparse c.in-Some.number drew.above in
    let within : c.in-Some.number < length c.args.board.now.jobs = slice_get_within _ _ _ drew.job in
    let more : length c.finish.new.pass.drawn ≡ length was + 1 = ap (λ p. length p.drawn) c.finish.ensures ∙ ap (λ p. length p.drawn) drew.pass ∙ length-append was (c.in-Some.number ∷ []) in
    omega arith

pub loop-number-preserved : goal.loop-number-preserved
loop-number-preserved g c =
    let is = c.loop-number.invariant in
    let drew = c.in-Some.ensures.drawn in
    let was = c.loop-number.pass.drawn in
    let n = c.in-Some.number in
    let left = c.finish.ensures in
    let pushed = c.push_reserved.ensures in
    let now : c.finish.new.pass.drawn ≡ was ++ n ∷ [] = ap (λ p. p.drawn) left ∙ ap (λ p. p.drawn) drew.pass in
    let made : Made g.row.J-Done.Denot = record { number = n; done = c.run-done.result } in
    let at : IsAt c.args.board.now.jobs n c.unwrap.result = from_offer c.args.board.now.jobs n c.in-Some.offer c.unwrap.result drew.job c.unwrap.ensures in
    record {
      idle = (ap (λ p. p.board) left ∙ ap (λ p. p.board) drew.pass ∙ is.idle.0, ap (λ p. p.number) left);
      tool = λ k job there. c.run-done.ensures.tool job (is.tool k job there);
      drawn = ap numbers pushed.items ∙ numbers_snoc c.loop-number.made.items made ∙ ap (λ ns. ns ++ n ∷ []) is.drawn ∙ sym now;
      results = subst (All (IsMade g.J.Task.result_of c.args.board.now.jobs)) (sym pushed.items)
          (All-push (IsMade g.J.Task.result_of c.args.board.now.jobs) c.loop-number.made.items made is.results (c.unwrap.result, at, c.run-done.ensures.result));
      sparse = subst IsSparse (sym now) (sparse_snoc was n drew.above is.sparse);
      room = let room = is.room in let same = pushed.capacity in omega arith;
    }

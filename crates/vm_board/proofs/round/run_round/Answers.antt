use Rattle.std.proofs.Common.{ap, arith, length, subst, sym, refl, ◌∙◌, map}
use Rattle.std.specs.List.{All}
use Rattle.std.proofs.lemmas.Result.{IfOk-from_err, MatchResult-from_err, err_from_is_err_and}
use Rattle.std.proofs.lemmas.List.{with_items_is}
use Rattle.vm_board.specs.Boards.{EachDrawnOnce, IsOver}
use Rattle.vm_board.specs.Pieces.{finished}
use Rattle.vm_board.specs.Gates.{PassedOnce}
use Rattle.vm_board.proofs.Slots.{some_there}
use Rattle.vm_board.proofs.Gates.{passed_none, passed_once}
use Rattle.vm_board.proofs.round.run_round.Goals as goal

pub returns-clause-passed : goal.returns-clause-passed
returns-clause-passed g c =
    let left = c.drain_all.ensures in
    let made = c.in_ok-board.ensures in
    let seats = c.min-seats.ensures in
    let back = with_items_is c.in_ok-board.passes.list c.drain_all.new.passes (omega (arith, left.same, c.as_mut_slice.ensures.len)) in
    let closed = subst (λ passes. EachDrawnOnce (length c.in_ok-board.board.jobs) passes) back c.close.ensures.once in
    let once = subst (λ count. EachDrawnOnce count c.drain_all.new.passes) (ap length made.board.0) closed in
    passed_once g.G.Gate.passed c.args.workers (length c.args.jobs) c.drain_all.new.passes
    (omega (arith, left.same, c.as_mut_slice.ensures.len, made.passes.0, seats)) left.passed left.rise once

pub close-requires : goal.close-requires
close-requires g c =
    let left = c.drain_all.ensures in
    let made = c.in_ok-board.ensures in
    let back = with_items_is c.in_ok-board.passes.list c.drain_all.new.passes (omega (arith, left.same, c.as_mut_slice.ensures.len)) in record {
      all = made.passes.0 ∙ sym made.board.1;
      over = subst (All (IsOver c.in_ok-board.board)) (sym back) left.over;
      room = (let long = ap length made.board.0 in let room = made.room in omega arith);
    }

pub returns-clause-ok : goal.returns-clause-ok
returns-clause-ok g c = c.close.ensures.results ∙ ap (map (finished g.J.Work.pieces g.J.Work.piece)) c.in_ok-board.ensures.board.0

pub returns-in_err-board : goal.returns-in_err-board
returns-in_err-board g c =
    let failed = c.from_residual.ensures.0 in
    let is = err_from_is_err_and c.from_residual.result c.from_residual.ensures.1 in record {
      ok = IfOk-from_err _ _ failed;
      err = rw (is.1, is.2) c.in_err-board.ensures.err;
      memory = MatchResult-from_err _ _ _ failed (λ _. some_there c.args.jobs (λ e. let no = c.if-is_empty.ensures.1 e in cc));
      passed = IfOk-from_err _ _ failed;
    }

pub returns-then-is_empty : goal.returns-then-is_empty
returns-then-is_empty g c =
    let empty = c.if-is_empty.ensures.0 refl in record {
      ok = empty ∙ sym (ap (map (finished g.J.Work.pieces g.J.Work.piece)) empty);
      err = tt;
      memory = tt;
      passed = subst (PassedOnce g.G.Gate.passed c.args.workers) (sym (ap length empty)) (passed_none g.G.Gate.passed c.args.workers);
    }

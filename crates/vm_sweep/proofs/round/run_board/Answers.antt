use Rattle.std.proofs.Common.{◌≡◌, ap, sym, subst, arith, length, lt-ltb}
use Rattle.std.specs.Prelude.{nat_lt}
use Rattle.std.proofs.lemmas.List.{with_items_is}
use Rattle.vm_board.specs.Sums.{one_if}
use Rattle.vm_sweep.specs.Lanes.{IsPlaced}
use Rattle.vm_sweep.proofs.round.run_board.Goals as goal

pub returns-clause-placed : goal.returns-clause-placed
returns-clause-placed g c = λ n less.
    let jobs = c.args.board.jobs in
    let back = with_items_is c.args.places c.leave.new.places (omega (arith, c.leave.auto.places, c.as_mut_slice-2.ensures.len)) in
    let once = c.close.ensures.once n in
    let is : one_if (nat_lt n (length jobs)) ≡ 1 = ap one_if (lt-ltb n (length jobs) less) in
    subst (λ places. IsPlaced g.J.Task.result_of jobs places n) (sym back) (c.leave.ensures.placed n (omega arith))

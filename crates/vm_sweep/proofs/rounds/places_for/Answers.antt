use Rattle.std.proofs.Common.{arith, subst, sym}
use Rattle.std.proofs.lemmas.List.Elements.{All-push}
use Rattle.std.specs.List.{All}
use Rattle.vm_sweep.specs.Orders.{shape_of}
use Rattle.vm_sweep.specs.Rounds.{CanRun}
use Rattle.vm_sweep.proofs.rounds.places_for.Goals as goal

pub loop-copy-preserved : goal.loop-copy-preserved
loop-copy-preserved c =
    let is = c.loop-copy.invariant in
    let pushed = c.push_reserved.ensures in
    let can = CanRun c.args.config (shape_of c.args.like.now) in
    record {
      count = let len = pushed.len in let so_far = is.count in omega arith;
      room = let room = is.room in let same = pushed.capacity in omega arith;
      ready = subst (All can) (sym pushed.items) (All-push can c.loop-copy.places.items c.in_ok-place.place is.ready c.in_ok-place.ensures);
    }

pub returns-clause-ready : goal.returns-clause-ready
returns-clause-ready c =
    let can = CanRun c.args.config (shape_of c.args.like.now) in
    subst (All can) (sym c.push_reserved-2.ensures.items)
    (All-push can c.loop-copy.places.items c.in_ok-last.last c.loop-copy.invariant.ready c.in_ok-last.ensures)

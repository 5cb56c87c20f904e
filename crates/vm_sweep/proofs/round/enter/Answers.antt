use Rattle.std.proofs.Common.{◌≡◌, ◌+◌, length, sym, subst, ◌∙◌, arith, refl, Some, vec_len}
use Rattle.std.specs.List.{All}
use Rattle.std.proofs.lemmas.List.Elements.{All-push}
use Rattle.vm_board.specs.Boards.{IsNew}
use Rattle.vm_sweep.specs.declared.lane.Lane.{Lane}
use Rattle.vm_sweep.specs.Lanes.{IsRoomFor, ServesAll, IsReady}
use Rattle.vm_sweep.proofs.LaneLists.{popped, took_one}
use Rattle.vm_sweep.proofs.round.enter.Goals as goal

pub loop-made-preserved : goal.loop-made-preserved
loop-made-preserved g c =
    let is = c.loop-made.invariant in
    let board = c.args.board.now in
    let made = c.in-Some.made in
    let tool = c.unwrap.result in
    let pass = c.unwrap-in-Some.result in
    let lane : Lane g.row.J.Denot g.row.J-Tool.Denot g.row.J-Done.Denot = record { tool = tool; pass = pass; made = made } in
    let rooms = popped (IsRoomFor (length board.jobs)) c.loop-made.rooms.items c.pop.new.self.items (Some made) made c.in-Some.ensures.items refl is.rooms in
    let tools = popped (ServesAll g.J.Task.serves board.jobs) c.loop-made.tools.items c.pop-in-Some.new.self.items c.pop-in-Some.result tool c.pop-in-Some.ensures.items c.unwrap.ensures is.serve in
    let passes = popped (IsNew board) c.loop-made.passes.items c.pop-in-Some-2.new.self.items c.pop-in-Some-2.result pass c.pop-in-Some-2.ensures.items c.unwrap-in-Some.ensures is.fresh in
    let fewer_rooms : vec_len c.pop.new.self + 1 ≡ vec_len c.loop-made.rooms = c.in-Some.ensures.cases in
    let fewer_tools : vec_len c.pop-in-Some.new.self + 1 ≡ vec_len c.loop-made.tools = took_one c.pop-in-Some.result tool _ _ c.unwrap.ensures c.pop-in-Some.ensures.len in
    let fewer_passes : vec_len c.pop-in-Some-2.new.self + 1 ≡ vec_len c.loop-made.passes = took_one c.pop-in-Some-2.result pass _ _ c.unwrap-in-Some.ensures c.pop-in-Some-2.ensures.len in
    let pushed = c.push_reserved.ensures in
    let more : vec_len c.push_reserved.new.self ≡ vec_len c.loop-made.lanes + 1 = pushed.len in
    record {
      passes = let same = is.passes in omega arith;
      fresh = passes.0;
      tools = let enough = is.tools in omega arith;
      serve = tools.0;
      rooms = rooms.0;
      ready = subst (All (IsReady g.J.Task.serves board)) (sym pushed.items)
          (All-push (IsReady g.J.Task.serves board) c.loop-made.lanes.items lane is.ready (record { pass = passes.1; tool = tools.1; room = rooms.1 }));
      room = let room = is.room in let same = pushed.capacity in omega arith;
      entered = let entered = is.entered in omega arith;
      taken = let taken = is.taken in omega arith;
      passes_stay = c.pop-in-Some-2.ensures.capacity ∙ is.passes_stay;
      tools_stay = c.pop-in-Some.ensures.capacity ∙ is.tools_stay;
    }

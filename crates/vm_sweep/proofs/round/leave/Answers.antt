use Rattle.std.proofs.Common.{◌≡◌, ◌+◌, sym, subst, arith, vec_len}
use Rattle.std.specs.List.{All}
use Rattle.std.proofs.lemmas.List.Elements.{All-push}
use Rattle.vm_board.specs.Boards.{IsOver}
use Rattle.vm_sweep.specs.Lanes.{ServesAll, HasWorked}
use Rattle.vm_sweep.proofs.LaneLists.{all_split}
use Rattle.vm_sweep.proofs.LaneLemmas.{placed_more}
use Rattle.vm_sweep.proofs.round.leave.Goals as goal

pub place-requires-clause-made : goal.place-requires-clause-made
place-requires-clause-made g c κs within =
    let Worked : _ → Type 0 = HasWorked g.J.Task.serves g.J.Task.result_of c.args.board.now in
    (all_split Worked c.pop.new.self.items c.in-Some.lane (subst (All Worked) c.in-Some.ensures.items c.loop-lane.invariant.worked)).1.results

pub loop-lane-preserved : goal.loop-lane-preserved
loop-lane-preserved g c =
    let is = c.loop-lane.invariant in
    let board = c.args.board.now in
    let lane = c.in-Some.lane in
    let Worked : _ → Type 0 = HasWorked g.J.Task.serves g.J.Task.result_of board in
    let both = all_split Worked c.pop.new.self.items lane (subst (All Worked) c.in-Some.ensures.items is.worked) in
    let fewer : vec_len c.pop.new.self + 1 ≡ vec_len c.loop-lane.lanes = c.in-Some.ensures.cases in
    let tools = c.push_reserved.ensures in
    let passes = c.push_reserved-in-Some.ensures in
    let more_tools : vec_len c.push_reserved.new.self ≡ vec_len c.loop-lane.tools + 1 = tools.len in
    let more_passes : vec_len c.push_reserved-in-Some.new.self ≡ vec_len c.loop-lane.passes + 1 = passes.len in
    record {
      worked = both.0;
      back = let back = is.back in omega arith;
      over = subst (All (IsOver board)) (sym passes.items) (All-push (IsOver board) c.loop-lane.passes.items lane.pass is.over both.1.pass);
      room = let room = is.room in let same = passes.capacity in omega arith;
      tools = let had = is.tools in omega arith;
      tools_room = let room = is.tools_room in let same = tools.capacity in omega arith;
      serve = subst (All (ServesAll g.J.Task.serves board.jobs)) (sym tools.items)
          (All-push (ServesAll g.J.Task.serves board.jobs) c.loop-lane.tools.items lane.tool is.serve both.1.tool);
      placed = λ n. placed_more g.J.Task.result_of board.jobs c.loop-lane.passes.items c.push_reserved-in-Some.new.self.items lane.pass lane.made.items c.loop-lane.places c.place.new.places n
          passes.items both.1.drawn (is.placed n) (c.place.ensures.kept n) (c.place.ensures.placed n);
    }

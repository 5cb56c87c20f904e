use Rattle.std.proofs.Common.{◌<◌, length, sym, subst, arith, inr}
use mathlib.Core.Logic.{◌⊎◌}
use Rattle.std.specs.List.{All}
use Rattle.std.proofs.lemmas.Option.{slice_get_within}
use Rattle.vm_board.specs.Sums.{times}
use Rattle.vm_sweep.specs.Lanes.{numbers, IsMade, IsPlaced}
use Rattle.vm_sweep.proofs.LaneLists.{all_split}
use Rattle.vm_sweep.proofs.LaneLemmas.{place_one, all_placed}
use Rattle.vm_sweep.proofs.placing.place.Goals as goal

pub put-requires : goal.put-requires
put-requires g c =
    let both = all_split (IsMade g.J.Task.result_of c.args.board.now.jobs) c.pop.new.self.items c.in-Some.one (subst (All (IsMade g.J.Task.result_of c.args.board.now.jobs)) c.in-Some.ensures.items c.loop-one.invariant.made) in
    let within : c.in-Some.one.number < length c.args.board.now.jobs = slice_get_within _ _ _ both.1.1 in
    let long = c.requires.places in
    let same = c.loop-one.auto.places in
    omega arith

pub loop-one-preserved : goal.loop-one-preserved
loop-one-preserved g c =
    let jobs = c.args.board.now.jobs in
    let both = all_split (IsMade g.J.Task.result_of jobs) c.pop.new.self.items c.in-Some.one (subst (All (IsMade g.J.Task.result_of jobs)) c.in-Some.ensures.items c.loop-one.invariant.made) in
    record {
      made = both.0;
      whole = λ n before. subst (λ ps. (0 < times n (numbers c.pop.new.self.items)) ⊎ IsPlaced g.J.Task.result_of jobs ps n) (sym c.put.ensures)
          (place_one g.J.Task.result_of jobs c.loop-one.made.items c.pop.new.self.items c.in-Some.one c.loop-one.places n c.in-Some.ensures.items both.1
          (let long = c.requires.places in let same = c.loop-one.auto.places in omega arith) (c.loop-one.invariant.whole n before));
    }

pub returns-clause-kept : goal.returns-clause-kept
returns-clause-kept g c = λ n was.
    let made = c.loop-one.made in
    all_placed g.J.Task.result_of c.args.board.now.jobs made.items c.loop-one.places n
    (let ok = made.ok in let cases = c.in_default.ensures.cases in omega arith) (c.loop-one.invariant.whole n (inr was))

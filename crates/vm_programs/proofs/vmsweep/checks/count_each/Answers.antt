use Rattle.std.proofs.Common.{◌*◌, length, rules}
use Rattle.vm_sweep.proofs.SpreadLemmas.{drop-item}
use Rattle.vm_programs.proofs.lemmas.vmsweep.Counts.{all-counted, held-by, more-counted}
use Rattle.vm_programs.proofs.vmsweep.checks.count_each.Goals as goal

pub loop-list-preserved : goal.loop-list-preserved
loop-list-preserved c = record {
  held = held-by _ (c.loop-list.count * length c.list-item.result.values) (search rules);
  left = more-counted c.args.lists.now c.loop-list.list-index c.list-item.result c.loop-list.count _
      (drop-item _ _ _ c.loop-list-test.true c.list-item.is) (search rules) c.loop-list.invariant.left;
}

pub returns : goal.returns
returns c =
    all-counted c.args.lists.now c.loop-list.list-index c.loop-list.count c.loop-list-test.false c.loop-list.invariant.held
    c.loop-list.invariant.left

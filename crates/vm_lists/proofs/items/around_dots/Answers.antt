use Rattle.vm_lists.proofs.DotLaws.{around_dots-split, inside_split}
use Rattle.vm_lists.proofs.items.around_dots.Goals as goal

pub returns : goal.returns
returns c = record {
  parts = around_dots-split c.args.item.now c.split_once.result c.split_once.ensures.cases;
  inside = inside_split c.args.item.now c.split_once.result c.split_once.ensures.cases;
}

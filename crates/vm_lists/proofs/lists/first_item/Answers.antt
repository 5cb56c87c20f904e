use Rattle.vm_lists.proofs.ReadLaws.{item_before, item_alone}
use Rattle.vm_lists.proofs.lists.first_item.Goals as goal

pub returns-in-Some-clause-items : goal.returns-in-Some-clause-items
returns-in-Some-clause-items c = item_before c.args.text.now (c.in-Some.item, c.in-Some.rest) c.in-Some.ensures.cases

pub returns-in-None-clause-items : goal.returns-in-None-clause-items
returns-in-None-clause-items c = item_alone c.args.text.now c.in-None.ensures.cases

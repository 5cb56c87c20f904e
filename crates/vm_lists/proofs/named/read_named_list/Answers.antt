use Rattle.std.proofs.Common.{◌+◌, ◌∙◌, ap, length}
use Rattle.vm_lists.specs.NamedLists.{named_as}
use Rattle.vm_lists.proofs.GrammarLaws.{list_from}
use Rattle.vm_lists.proofs.NamedLaws.{accepted_bad, accepted_list, accepted_none, bad_list, named_list_from, no_equals, read_parts}
use Rattle.vm_lists.proofs.WithinLaws.{list_within}
use Rattle.vm_lists.proofs.named.read_named_list.Goals as goal

pub returns-in_default-clause-fault : goal.returns-in_default-clause-fault
returns-in_default-clause-fault c = no_equals c.args.limits.now c.args.text.now c.in_default.ensures.cases

pub returns-in_default-clause-accepts : goal.returns-in_default-clause-accepts
returns-in_default-clause-accepts c = accepted_none c.args.limits.now c.args.text.now c.in_default.ensures.cases

pub returns-in-Ok-clause-values : goal.returns-in-Ok-clause-values
returns-in-Ok-clause-values c =
    read_parts c.args.limits.now c.args.text.now (c.in-Some.name, c.in-Some.list) c.in-Some.ensures.cases ∙ ap (named_as c.in-Some.name.now) c.in-Ok.ensures.values

pub returns-in-Ok-clause-list : goal.returns-in-Ok-clause-list
returns-in-Ok-clause-list c =
    named_list_from c.args.limits.now c.args.text.now c.in-Ok.values (c.in-Some.name, c.in-Some.list) c.in-Some.ensures.cases
    (list_from c.args.limits.now c.in-Some.list.now c.in-Ok.values c.in-Ok.ensures.values)

pub returns-in-Ok-clause-accepts : goal.returns-in-Ok-clause-accepts
returns-in-Ok-clause-accepts c =
    accepted_list c.args.limits.now c.args.text.now (record { name = c.in-Some.name; values = c.in-Ok.values })
    (read_parts c.args.limits.now c.args.text.now (c.in-Some.name, c.in-Some.list) c.in-Some.ensures.cases ∙ ap (named_as c.in-Some.name.now) c.in-Ok.ensures.values)

pub returns-in-Ok-clause-within : goal.returns-in-Ok-clause-within
returns-in-Ok-clause-within c = (list_within c.args.limits.now c.in-Some.list.now c.in-Ok.values c.in-Ok.ensures.values).within

pub returns-in-Ok-clause-some : goal.returns-in-Ok-clause-some
returns-in-Ok-clause-some c = (list_within c.args.limits.now c.in-Some.list.now c.in-Ok.values c.in-Ok.ensures.values).some

pub returns-in-Err-clause-fault : goal.returns-in-Err-clause-fault
returns-in-Err-clause-fault c = bad_list c.args.limits.now c.args.text.now (c.in-Some.name, c.in-Some.list) c.in-Err.fault c.in-Some.ensures.cases c.in-Err.ensures.fault

pub returns-in-Err-clause-accepts : goal.returns-in-Err-clause-accepts
returns-in-Err-clause-accepts c =
    accepted_bad c.args.limits.now c.args.text.now (length c.in-Some.name.now + 1 + c.in-Err.fault.at) c.in-Err.fault
    (bad_list c.args.limits.now c.args.text.now (c.in-Some.name, c.in-Some.list) c.in-Err.fault c.in-Some.ensures.cases c.in-Err.ensures.fault)

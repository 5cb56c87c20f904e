use Rattle.std.proofs.Common.{sym}
use Rattle.vm_policy_check.proofs.ObjectLemmas.{an_item, no_item}
use Rattle.vm_policy_check.proofs.objects.value_at.Goals as goal

pub returns-then-place-values : goal.returns-then-place-values
returns-then-place-values c = sym (an_item c.args.values.now c.args.place c.index-values-place.result c.if-place-values.true c.index-values-place.is)

pub returns-else-place-values : goal.returns-else-place-values
returns-else-place-values c = sym (no_item c.args.values.now c.args.place c.if-place-values.false)

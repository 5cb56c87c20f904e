use Rattle.std.proofs.Common.{refl}
use Rattle.vm_trace.proofs.InFront.{entered_read}
use Rattle.vm_trace.proofs.entering.item_of_text.Goals as goal

pub returns-in-Some-clause-item : goal.returns-in-Some-clause-item
returns-in-Some-clause-item c =
    entered_read c.args.limits (record { pages = c.min.result; version_3 = c.args.limits.version_3 }) c.args.size c.args.text.now c.as_bytes.result.now c.args.store.now.items c.plain_item.new.store.items c.in-Some.item
    c.requires.few c.min.ensures refl c.as_bytes.ensures.value (rw c.in-Some.is at c.in_ok-item.ensures.item)

use Rattle.std.proofs.Common.{refl}
use Rattle.vm_trace.proofs.InFront.{entered_read}
use Rattle.vm_trace.proofs.entering.access_of_text.Goals as goal

pub returns-clause-item : goal.returns-clause-item
returns-clause-item c =
    entered_read c.args.limits (record { pages = c.min.result; version_3 = c.args.limits.version_3 }) c.args.size c.args.text.now c.as_bytes.result.now c.args.store.now.items c.plain_access.new.store.items c.in-Some.item
    c.requires c.min.ensures refl c.as_bytes.ensures.value (rw c.in-Some.is at c.in_ok-item.ensures.item)

use Rattle.std.proofs.Common.{Some, ◌/◌, length, ap, sym, ◌∙◌, arith}
use Rattle.vm_balloon.specs.Virtio.{stat_entry}
use Rattle.vm_balloon.proofs.VirtioLemmas.{slice_get_numbered}
use Rattle.vm_balloon.proofs.virtio.stat_at.Goals as goal

pub returns-then-i-stat_count : goal.returns-then-i-stat_count
returns-then-i-stat_count c =
    ap Some c.stat_entry.ensures ∙ sym (slice_get_numbered (stat_entry c.args.bytes.now) (length c.args.bytes.now / 10) c.args.i (omega arith))

use Rattle.vm_recorded.proofs.LengthLemmas.{guest_length}
use Rattle.vm_recorded.proofs.guest_length.guest_len.Goals as goal

pub returns-clause-exact : goal.returns-clause-exact
returns-clause-exact c =
    guest_length c.args.quantum c.args.number c.args.guest.now c.args.counts c.head_len.result c.saturating_sub.result c.requires.counts
    c.head_len.ensures.exact c.saturating_sub.ensures

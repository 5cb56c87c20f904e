use Rattle.std.proofs.Common.{◌+◌, ◌<◌, ℕ, ap, arith, length}
use Rattle.vm_recorded.proofs.StepLemmas.{guests_bytes_done, guests_bytes_next}
use Rattle.vm_recorded.proofs.guest_length.guests_len.Goals as goal

pub loop-number-preserved : goal.loop-number-preserved
loop-number-preserved c =
    let within : c.loop-number.number < length c.args.guests.now = omega arith in
    record {
      left = guests_bytes_next c.args.quantum c.args.guests.now c.loop-number.number c.index-guests-number.result c.loop-number.total _ _ within
          c.index-guests-number.is (ap (λ (n : ℕ). c.loop-number.total + (n + 1)) c.guest_len.ensures.exact) c.loop-number.invariant.left;
      few = omega arith;
    }

pub returns-clause-exact : goal.returns-clause-exact
returns-clause-exact c =
    guests_bytes_done c.args.quantum c.args.guests.now c.loop-number.number c.loop-number.total _ (omega arith) c.loop-number.invariant.left

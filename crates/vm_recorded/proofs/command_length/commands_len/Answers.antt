use Rattle.std.proofs.Common.{◌+◌, ℕ, ap, arith}
use Rattle.vm_recorded.proofs.StepLemmas.{commands_bytes_done, commands_bytes_next}
use Rattle.vm_recorded.proofs.command_length.commands_len.Goals as goal

pub loop-guest-preserved : goal.loop-guest-preserved
loop-guest-preserved c = record {
  left = commands_bytes_next c.args.unit c.args.epochs c.args.guests.now c.loop-guest.guest-index c.guest-item.result c.loop-guest.total _ _
      c.loop-guest-test.true c.guest-item.is (ap (λ (n : ℕ). c.loop-guest.total + n) c.own_len-total.ensures.exact) c.loop-guest.invariant.left;
  few = omega arith;
}

pub returns-clause-exact : goal.returns-clause-exact
returns-clause-exact c =
    commands_bytes_done c.args.unit c.args.epochs c.args.guests.now c.loop-guest.guest-index c.loop-guest.total _ (omega arith) c.loop-guest.invariant.left

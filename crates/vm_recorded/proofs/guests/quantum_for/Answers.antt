use Rattle.std.proofs.Common.{◌≤◌, arith}
use Rattle.vm_recorded.specs.Hosts.{quantum_for}
use Rattle.vm_recorded.proofs.StepLemmas.{quantum_some}
use Rattle.vm_recorded.proofs.guests.quantum_for.Goals as goal

pub loop-guest-init : goal.loop-guest-init
loop-guest-init c =
    let some : 1 ≤ quantum_for c.args.guests.now = quantum_some c.args.guests.now in record { left = omega arith; some = omega arith }

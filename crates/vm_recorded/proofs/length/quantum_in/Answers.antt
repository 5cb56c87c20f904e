use Rattle.std.proofs.Common.{◌≤◌, arith}
use Rattle.vm_recorded.specs.Lengths.{quantum_in}
use Rattle.vm_recorded.proofs.StepLemmas.{quantum_in_some}
use Rattle.vm_recorded.proofs.length.quantum_in.Goals as goal

pub loop-guest-init : goal.loop-guest-init
loop-guest-init c =
    let some : 1 ≤ quantum_in c.args.counts.now = quantum_in_some c.args.counts.now in record { left = omega arith; some = omega arith }

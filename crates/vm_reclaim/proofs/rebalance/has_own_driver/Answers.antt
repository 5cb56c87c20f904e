use Rattle.std.proofs.Common.{ap}
use Rattle.vm_guest.specs.declared.view.GuestView.{GuestView}
use Rattle.vm_reclaim.specs.Rebalance.{has_own_driver}
use Rattle.vm_reclaim.proofs.rebalance.has_own_driver.Goals as goal

pub returns : goal.returns
unfolding has_own_driver
returns c = λ g is. ap (λ (v : GuestView). v.own_driver) is

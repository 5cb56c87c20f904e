use Rattle.std.proofs.Common.{ap}
use Rattle.vm_balloon.specs.Device.{DeviceState}
use Rattle.vm_balloon.proofs.device.Device.set_num_pages.Goals as goal

pub returns : goal.returns
returns c = ap (λ (d : DeviceState). record d { num_pages = c.args.num_pages }) c.self.view_is

use Rattle.std.proofs.Common.{ap}
use Rattle.vm_balloon.specs.Device.{DeviceState}
use Rattle.vm_balloon.proofs.device.Device.set_actual.Goals as goal

pub returns : goal.returns
returns c = ap (λ (d : DeviceState). record d { actual = c.args.actual }) c.self.view_is

use Rattle.std.proofs.Common.{ℕ, ◌<◌, take, ap, subst, ◌∙◌}
use Rattle.std.specs.Prelude.{All}
use Rattle.vm_pages.specs.Pages.{members}
use Rattle.vm_balloon.specs.Device.{DeviceState}
use Rattle.vm_balloon.proofs.device.Device.list_ballooned.Goals as goal

pub returns-clause-listed : goal.returns-clause-listed
returns-clause-listed c = c.list_least.ensures.listed ∙ ap (λ (d : DeviceState). take c.args.most (members d.balloon)) c.self.view_is

pub returns-clause-in_range : goal.returns-clause-in_range
returns-clause-in_range c =
    let size = c.self.invariant.balloon_size ∙ ap (λ (d : DeviceState). d.size) c.self.view_is in
    subst (λ (n : ℕ). All (λ page. page < n) c.list_least.new.pages.items) size c.list_least.ensures.in_range

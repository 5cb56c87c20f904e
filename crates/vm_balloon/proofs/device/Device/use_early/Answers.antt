use Rattle.std.proofs.Common.{◌≡◌, ◌<◌, ◌∷◌, [], true, length, ap, sym, subst, ◌∙◌, arith}
use Rattle.std.proofs.lemmas.List.{length-append}
use Rattle.vm_pages.specs.Pages.{contains, count}
use Rattle.vm_pages.proofs.PageSets.{count-remove}
use Rattle.vm_balloon.specs.Device.{DeviceState}
use Rattle.vm_balloon.specs.DeviceFields.{state_of}
use Rattle.vm_balloon.proofs.DeviceLemmas.{used_early, AreApart-used, AreListed-used}
use Rattle.vm_balloon.proofs.device.Device.use_early.Goals as goal

pub invariant_of-self : goal.invariant_of-self
invariant_of-self c =
    let inside = c.self.inside in
    let old = c.self.invariant in
    let page = c.args.page in
    let below : page < inside.size = subst (λ (d : DeviceState). page < d.size) (sym c.self.view_is) c.requires.page_in_range in
    let there : contains inside.balloon page ≡ true = subst (λ (d : DeviceState). contains d.balloon page ≡ true) (sym c.self.view_is) c.requires.ballooned in
    let fewer = ap count c.remove.ensures.after in
    let longer = ap length c.push_reserved.ensures.items in
    record {
      few_pages = old.few_pages;
      balloon_size = c.remove.ensures.size ∙ old.balloon_size;
      early_size = c.insert.ensures.size ∙ old.early_size;
      inflates_size = old.inflates_size;
      deflates_size = old.deflates_size;
      apart = rw (c.remove.ensures.after, c.insert.ensures.after) (AreApart-used inside.balloon inside.early page old.apart);
      early_listed = rw (c.insert.ensures.after, c.push_reserved.ensures.items) (AreListed-used inside.early inside.early_list.items page inside.size below old.early_listed);
      early_left = omega (arith, fewer, longer, old.early_left, count-remove inside.balloon page there, length-append inside.early_list.items (page ∷ []));
      room_early = omega (arith, old.room_early, c.push_reserved.ensures.capacity);
      few_buffers = old.few_buffers;
      posted = old.posted;
      no_inflates = old.no_inflates;
      no_deflates = old.no_deflates;
      room_inflates = old.room_inflates;
      room_deflates = old.room_deflates;
      room_reports = old.room_reports;
      room_inflated = old.room_inflated;
      room_deflated = old.room_deflated;
    }

pub returns : goal.returns
returns c = used_early (state_of c.self.inside) c.args.self.now _ _ c.args.page c.self.view_is c.remove.ensures.after assumption

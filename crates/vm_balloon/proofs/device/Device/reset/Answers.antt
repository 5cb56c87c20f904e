use Rattle.std.proofs.Common.{◌≡◌, length, ap, ◌∙◌, arith}
use Rattle.vm_pages.specs.Pages.{no_pages, count}
use Rattle.vm_pages.proofs.PageSets.{length-no_pages, count-no_pages}
use Rattle.vm_balloon.specs.Device.{DeviceState, device_of}
use Rattle.vm_balloon.specs.Posted.{PostedPages, PostedReports}
use Rattle.vm_balloon.proofs.DeviceLemmas.{AreApart-none, AreListed-none}
use Rattle.vm_balloon.proofs.device.Device.reset.Goals as goal

pub clear_listed-requires : goal.clear_listed-requires
clear_listed-requires c = rw c.self.invariant.early_size c.self.invariant.early_listed

pub invariant_of-self : goal.invariant_of-self
invariant_of-self c =
    let old = c.self.invariant in
    let size = c.self.inside.size in
    let none_early : c.clear_listed.new.pages ≡ no_pages size = c.clear_listed.ensures.pages ∙ ap no_pages old.early_size in
    let none = c.clear-3.ensures ∙ ap no_pages old.balloon_size in
    let unused = ap count none ∙ count-no_pages size in
    let no_list = ap length c.clear_listed.ensures.list in
    let no_inflates = ap (λ (q : PostedPages). length q.buffers) c.clear.ensures in
    let no_deflates = ap (λ (q : PostedPages). length q.buffers) c.clear-2.ensures in
    let no_reports = ap (λ (r : PostedReports). length r.list) c.reset.ensures in
    let inflates_room = ap (λ (q : PostedPages). q.room) c.clear.ensures in
    let deflates_room = ap (λ (q : PostedPages). q.room) c.clear-2.ensures in
    let reports_room = ap (λ (r : PostedReports). r.room) c.reset.ensures in
    record {
      few_pages = old.few_pages;
      balloon_size = ap length none ∙ length-no_pages size;
      early_size = ap length none_early ∙ length-no_pages size;
      inflates_size = ap (λ (q : PostedPages). q.size) c.clear.ensures ∙ old.inflates_size;
      deflates_size = ap (λ (q : PostedPages). q.size) c.clear-2.ensures ∙ old.deflates_size;
      apart = AreApart-none _ _ size none_early;
      early_listed = AreListed-none _ _ size none_early c.clear_listed.ensures.list;
      early_left = omega (arith, unused, no_list);
      room_early = omega (arith, old.room_early, c.clear_listed.ensures.room);
      few_buffers = old.few_buffers;
      posted = omega (arith, no_inflates, no_deflates, no_reports);
      no_inflates = λ _. ap (λ (q : PostedPages). q.buffers) c.clear.ensures;
      no_deflates = λ _. ap (λ (q : PostedPages). q.buffers) c.clear-2.ensures;
      room_inflates = omega (arith, old.room_inflates, inflates_room);
      room_deflates = omega (arith, old.room_deflates, deflates_room);
      room_reports = omega (arith, old.room_reports, reports_room);
      room_inflated = old.room_inflated;
      room_deflated = old.room_deflated;
    }

pub returns : goal.returns
returns c =
    let old = c.self.invariant in
    let size = c.self.inside.size in
    let none_early : c.clear_listed.new.pages ≡ no_pages size = c.clear_listed.ensures.pages ∙ ap no_pages old.early_size in
    let none = c.clear-3.ensures ∙ ap no_pages old.balloon_size in
    (λ i. record {
      size = size;
      buffers = c.self.inside.buffers;
      balloon = none i;
      early = none_early i;
      inflates = (c.clear.ensures i).buffers;
      deflates = (c.clear-2.ensures i).buffers;
      statistics = (c.reset.ensures i).list;
      num_pages = 0;
      actual = 0;
      stats = (c.reset.ensures i).stats;
    })
    ∙ ap (λ (d : DeviceState). device_of d.size d.buffers) c.self.view_is

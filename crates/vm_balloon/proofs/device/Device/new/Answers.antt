use Rattle.std.proofs.Common.{ap, ◌∙◌, length, arith}
use Rattle.vm_pages.specs.Pages.{count}
use Rattle.vm_pages.proofs.PageSets.{length-no_pages, count-no_pages}
use Rattle.vm_balloon.specs.Posted.{PostedPages, PostedReports}
use Rattle.vm_balloon.proofs.DeviceLemmas.{AreApart-none, AreListed-none}
use Rattle.vm_balloon.proofs.device.Device.new.Goals as goal

pub invariant_of-result : goal.invariant_of-result
invariant_of-result c =
    let size = c.args.size in
    let unused = ap count c.in_ok-balloon.ensures.balloon ∙ count-no_pages size in
    let no_list = ap length c.in_ok-balloon.ensures.empty in
    let no_inflates = ap (λ (q : PostedPages). length q.buffers) c.in_ok-inflates.ensures.inflates in
    let no_deflates = ap (λ (q : PostedPages). length q.buffers) c.in_ok-inflates.ensures.deflates in
    let no_reports = ap (λ (r : PostedReports). length r.list) c.in_ok-inflates.ensures.reports in
    let inflates_room = ap (λ (q : PostedPages). q.room) c.in_ok-inflates.ensures.inflates in
    let deflates_room = ap (λ (q : PostedPages). q.room) c.in_ok-inflates.ensures.deflates in
    let reports_room = ap (λ (r : PostedReports). r.room) c.in_ok-inflates.ensures.reports in
    record {
      few_pages = c.requires.size_in_range;
      balloon_size = ap length c.in_ok-balloon.ensures.balloon ∙ length-no_pages size;
      early_size = ap length c.in_ok-balloon.ensures.early ∙ length-no_pages size;
      inflates_size = ap (λ (q : PostedPages). q.size) c.in_ok-inflates.ensures.inflates;
      deflates_size = ap (λ (q : PostedPages). q.size) c.in_ok-inflates.ensures.deflates;
      apart = AreApart-none _ _ size c.in_ok-balloon.ensures.early;
      early_listed = AreListed-none _ _ size c.in_ok-balloon.ensures.early c.in_ok-balloon.ensures.empty;
      early_left = omega (arith, unused, no_list);
      room_early = c.in_ok-balloon.ensures.room;
      few_buffers = c.requires.buffers_in_range;
      posted = omega (arith, no_inflates, no_deflates, no_reports);
      no_inflates = λ _. ap (λ (q : PostedPages). q.buffers) c.in_ok-inflates.ensures.inflates;
      no_deflates = λ _. ap (λ (q : PostedPages). q.buffers) c.in_ok-inflates.ensures.deflates;
      room_inflates = omega (arith, inflates_room);
      room_deflates = omega (arith, deflates_room);
      room_reports = omega (arith, reports_room);
      room_inflated = c.in_ok-served.ensures.inflated;
      room_deflated = c.in_ok-served.ensures.deflated;
    }

pub returns-clause-device : goal.returns-clause-device
returns-clause-device c =
    let sets = c.in_ok-balloon.ensures in
    let queues = c.in_ok-inflates.ensures in
    λ i. record {
      size = c.args.size;
      buffers = c.args.buffers;
      balloon = sets.balloon i;
      early = sets.early i;
      inflates = (queues.inflates i).buffers;
      deflates = (queues.deflates i).buffers;
      statistics = (queues.reports i).list;
      num_pages = 0;
      actual = 0;
      stats = (queues.reports i).stats;
    }

use Rattle.std.proofs.Common.{◌≡◌, ℕ, ◌+◌, ◌<◌, ap, subst, sym, ◌∙◌, refl, length, arith}
use Rattle.std.specs.Prelude.{All}
use Rattle.vm_pages.specs.Pages.{contains, no_pages, insert_all, remove_all}
use Rattle.vm_pages.proofs.PageSets.{contains-remove_all_before, count-le-length, length-no_pages}
use Rattle.vm_balloon.specs.Device.{inflated, deflated, filled}
use Rattle.vm_balloon.specs.DeviceFields.{state_of}
use Rattle.vm_balloon.specs.Posted.{PostedPages, PostedReports}
use Rattle.vm_balloon.specs.Service.{numbers_in, deflated_by, refused}
use Rattle.vm_balloon.proofs.DeviceLemmas.{AreApart-none, AreListed-none}
use Rattle.vm_balloon.proofs.device.Device.serve.Goals as goal

pub clear_listed-requires : goal.clear_listed-requires
clear_listed-requires c =
    let kept = c.serve_pages.ensures in
    let size : length c.serve_pages.new.early ≡ c.self.inside.size = kept.same_early_size ∙ c.self.invariant.balloon_size in
    record {
      in_range = rw size c.self.invariant.early_listed.in_range;
      covered = λ page there.
          c.self.invariant.early_listed.covered page
          (contains-remove_all_before c.self.inside.early c.serve_pages.new.served.deflated.items page (sym (ap (λ pages. contains pages page) kept.early) ∙ there));
    }

pub invariant_of-self : goal.invariant_of-self
invariant_of-self c =
    let old = c.self.invariant in
    let kept = c.serve_pages.ensures in
    let size : length c.serve_pages.new.early ≡ c.self.inside.size = kept.same_early_size ∙ old.balloon_size in
    let none_early : c.clear_listed.new.pages ≡ no_pages c.self.inside.size = c.clear_listed.ensures.pages ∙ ap no_pages size in
    let balloon_size = kept.same_balloon_size ∙ old.balloon_size in
    let few = count-le-length c.serve_pages.new.balloon in
    let no_list = ap length c.clear_listed.ensures.list in
    let no_inflates = ap (λ (q : PostedPages). length q.buffers) kept.inflates in
    let no_deflates = ap (λ (q : PostedPages). length q.buffers) kept.deflates in
    let no_reports = ap (λ (r : PostedReports). length r.list) c.serve.ensures in
    let inflates_room = ap (λ (q : PostedPages). q.room) kept.inflates in
    let deflates_room = ap (λ (q : PostedPages). q.room) kept.deflates in
    let reports_room = ap (λ (r : PostedReports). r.room) c.serve.ensures in
    record {
      few_pages = old.few_pages;
      balloon_size = balloon_size;
      early_size = ap length none_early ∙ length-no_pages c.self.inside.size;
      inflates_size = ap (λ (q : PostedPages). q.size) kept.inflates ∙ old.inflates_size;
      deflates_size = ap (λ (q : PostedPages). q.size) kept.deflates ∙ old.deflates_size;
      apart = AreApart-none _ _ c.self.inside.size none_early;
      early_listed = AreListed-none _ _ c.self.inside.size none_early c.clear_listed.ensures.list;
      early_left = omega (arith, few, no_list, balloon_size);
      room_early = omega (arith, old.room_early, c.clear_listed.ensures.room);
      few_buffers = old.few_buffers;
      posted = omega (arith, no_inflates, no_deflates, no_reports);
      no_inflates = λ _. ap (λ (q : PostedPages). q.buffers) kept.inflates;
      no_deflates = λ _. ap (λ (q : PostedPages). q.buffers) kept.deflates;
      room_inflates = omega (arith, old.room_inflates, inflates_room);
      room_deflates = omega (arith, old.room_deflates, deflates_room);
      room_reports = omega (arith, old.room_reports, reports_room);
      room_inflated = omega (arith, old.room_inflated, kept.inflated_room);
      room_deflated = omega (arith, old.room_deflated, kept.deflated_room);
    }

pub returns : goal.returns
returns c =
    let old = c.self.invariant in
    let done = c.serve_pages.ensures in
    let inside = c.self.inside in
    let state = state_of inside in
    let given = c.serve_pages.new.served.deflated.items in
    let deflated_is : given ≡ deflated state =
    done.deflated ∙ ap (λ taken. deflated_by (insert_all inside.balloon taken) inside.early (numbers_in inside.deflates.buffers)) done.inflated in
    let balloon_is : c.serve_pages.new.balloon ≡ remove_all (filled state) (deflated state) =
    done.balloon ∙ ap (λ taken. remove_all (insert_all inside.balloon taken) given) done.inflated ∙ ap (remove_all (filled state)) deflated_is in
    let early_is : c.clear_listed.new.pages ≡ no_pages inside.size =
    c.clear_listed.ensures.pages ∙ ap no_pages (done.same_early_size ∙ old.balloon_size) in
    rw (← c.self.view_is) (
      (
        refl,
        λ _. tt,
        (λ i. record {
          size = inside.size;
          buffers = inside.buffers;
          balloon = balloon_is i;
          early = early_is i;
          inflates = (done.inflates i).buffers;
          deflates = (done.deflates i).buffers;
          statistics = (c.serve.ensures i).list;
          num_pages = inside.num_pages;
          actual = inside.actual;
          stats = (c.serve.ensures i).stats;
        }),
      ),
      record {
        device = tt;
        inflated = done.inflated;
        deflated = deflated_is;
        inflated_pages = subst (λ (n : ℕ). All (λ page. page < n) c.serve_pages.new.served.inflated.items) old.balloon_size done.inflated_pages;
        deflated_pages = subst (λ (n : ℕ). All (λ page. page < n) given) old.balloon_size done.deflated_pages;
        bad =
            done.bad
            ∙ ap (λ taken. refused inside.inflates.buffers taken + refused inside.deflates.buffers given) done.inflated
            ∙ ap (λ xs. refused inside.inflates.buffers (inflated state) + refused inside.deflates.buffers xs) deflated_is;
      },
    )

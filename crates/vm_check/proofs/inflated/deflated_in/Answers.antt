use Rattle.std.proofs.Common.{ap, sym, ◌∙◌, Bool, List, drop, ◌+◌, ◌<◌, length, arith}
use Rattle.std.specs.List.{fold}
use Rattle.vm_pages.specs.Pages.{insert_all}
use Rattle.vm_trace.specs.declared.step.Queue.TheVariants.{Deflate}
use Rattle.vm_check.specs.Inflated.{with_posts}
use Rattle.vm_check.proofs.InflatedLemmas.{posted_on}
use Rattle.vm_check.proofs.inflated.deflated_in.Goals as goal

pub loop-place-preserved : goal.loop-place-preserved
loop-place-preserved c =
    let steps = c.args.trace.now in
    let place = c.loop-place.place in
    let there : place < length steps = omega arith in
    record {
      pages =
          ap (λ (marks : List Bool). fold (with_posts Deflate) marks (drop (place + 1) steps))
          (c.mark_all.ensures.pages ∙ ap (insert_all c.loop-place.marks) c.posted_at.ensures)
          ∙ sym (posted_on Deflate c.loop-place.marks steps place there)
          ∙ c.loop-place.invariant.pages;
      size = c.mark_all.ensures.size;
    }

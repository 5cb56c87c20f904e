use Rattle.std.proofs.Common.{ap, refl, sym, ◌∙◌, Bool, List, drop, ◌+◌, arith}
use Rattle.std.specs.Prelude.{slice_get}
use Rattle.vm_balloon.specs.Virtio.{page_numbers}
use Rattle.vm_pages.specs.Pages.{insert_all}
use Rattle.vm_check.proofs.InflatedLemmas.{marked_all, marked_by}
use Rattle.vm_check.proofs.inflated.mark_all.Goals as goal

pub loop-i-preserved : goal.loop-i-preserved
loop-i-preserved c =
    let pages = page_numbers c.args.bytes.now in
    record {
      pages =
          ap (λ (marks : List Bool). insert_all marks (drop (c.loop-i.i + 1) pages)) c.mark_at.ensures.pages
          ∙ sym (marked_by c.loop-i.marks pages c.loop-i.i (slice_get pages c.loop-i.i) refl)
          ∙ c.loop-i.invariant.pages;
      size = c.mark_at.ensures.size;
    }

pub returns-clause-pages : goal.returns-clause-pages
returns-clause-pages c = sym (marked_all c.loop-i.marks c.args.bytes.now c.loop-i.i (omega arith)) ∙ c.loop-i.invariant.pages

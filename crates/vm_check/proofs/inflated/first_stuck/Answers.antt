use Rattle.std.proofs.Common.{ap, sym, ◌∙◌, Bool, List, drop, ◌+◌, ◌<◌, length, arith}
use Rattle.vm_pages.specs.Pages.{insert_all}
use Rattle.vm_check.specs.Inflated.{first_stuck}
use Rattle.vm_check.proofs.InflatedLemmas.{stuck_here, stuck_later}
use Rattle.vm_check.proofs.inflated.first_stuck.Goals as goal

pub returns-in-Some : goal.returns-in-Some
returns-in-Some c =
    let there : c.loop-step.step < length c.args.trace.now = omega arith in
    sym (stuck_here c.args.deflated.now c.loop-step.inflated c.args.trace.now c.loop-step.step c.in-Some.page there c.in-Some.ensures)
    ∙ c.loop-step.invariant.found

pub loop-step-preserved : goal.loop-step-preserved
loop-step-preserved c =
    let steps = c.args.trace.now in
    let step = c.loop-step.step in
    let there : step < length steps = omega arith in
    record {
      found =
          ap (λ (marks : List Bool). first_stuck c.args.deflated.now marks (step + 1) (drop (step + 1) steps))
          (c.mark_all.ensures.pages ∙ ap (insert_all c.loop-step.inflated) c.posted_at.ensures)
          ∙ sym (stuck_later c.args.deflated.now c.loop-step.inflated steps step there c.in-None.ensures)
          ∙ c.loop-step.invariant.found;
      size = c.mark_all.ensures.size;
    }

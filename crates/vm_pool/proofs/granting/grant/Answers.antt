use Rattle.std.proofs.Common.{◌≡◌, ◌+◌, max, ap, ◌∙◌, arith}
use Rattle.vm_guest.specs.Boundary.{with_frames, with_target_raised}
use Rattle.vm_guest.specs.Record.{GuestRecord}
use Rattle.vm_guest.specs.State.{GuestState}
use Rattle.vm_guest.specs.declared.view.GuestView.{GuestView}
use Rattle.vm_pool.proofs.granting.grant.Goals as goal

pub returns-clause-guest : goal.returns-clause-guest
returns-clause-guest c =
    let g = c.args.guest.now.guest in
    let count = c.args.count in
    let lacking = c.saturating_sub-lacking.result in
    let raised = ap (λ (s : GuestState). s.guest) c.raise_target.ensures in
    let held = ap (λ (v : GuestView). v.held) c.view-view.ensures.value in
    let target = ap (λ (v : GuestView). v.target) c.view-view.ensures.value in
    let all : g.memory.held + lacking ≡ max g.memory.held (g.allotment.target + count) = omega (arith, c.saturating_sub-lacking.ensures, held, target) in
    c.add_spares.ensures.guest
    ∙ ap (λ (h : GuestRecord). with_frames h (h.memory.held + lacking)) raised
    ∙ ap (with_frames (with_target_raised count g)) all

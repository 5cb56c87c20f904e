use Rattle.std.proofs.Common.{◌≡◌, None, Some, sym, ap, ◌∙◌, if◌then◌else◌}
use Rattle.vm_guest.proofs.RunLemmas.{one_step-executed, one_step-stalled}
use Rattle.vm_guest.proofs.StepLemmas.{next_step-current, stall_of-on}
use Rattle.vm_guest.specs.Next.{next_of}
use Rattle.vm_guest.specs.Parts.{record_of}
use Rattle.vm_guest.specs.Steps.{stall_of}
use Rattle.vm_guest.proofs.steps.attempt_on.Goals as goal

pub execute_on-requires-clause-may_use : goal.execute_on-requires-clause-may_use
execute_on-requires-clause-may_use c =
    let g = record_of c.args.parts.now in
    stall_of-on g (next_of g c.args.kind) c.args.page c.requires.on
    ∙ ap (λ b. if b then Some c.args.page else None) (sym c.stalls_at.ensures ∙ c.if-stalls_at.false)

pub returns-then-stalls_at-clause-record : goal.returns-then-stalls_at-clause-record
returns-then-stalls_at-clause-record c =
    let g = record_of c.args.parts.now in
    let step = next_of g c.args.kind in
    let stalls : stall_of g step ≡ Some c.args.page =
    stall_of-on g step c.args.page c.requires.on
    ∙ ap (λ b. if b then Some c.args.page else None) (sym c.stalls_at.ensures ∙ c.if-stalls_at.true) in
    c.stall.ensures.«record» ∙ one_step-stalled g step c.args.page c.requires.runs (sym (next_step-current g step c.requires.next)) stalls

pub returns-else-stalls_at-clause-record : goal.returns-else-stalls_at-clause-record
returns-else-stalls_at-clause-record c =
    let g = record_of c.args.parts.now in
    let step = next_of g c.args.kind in
    let goes : stall_of g step ≡ None =
    stall_of-on g step c.args.page c.requires.on
    ∙ ap (λ b. if b then Some c.args.page else None) (sym c.stalls_at.ensures ∙ c.if-stalls_at.false) in
    c.execute_on.ensures.«record» ∙ one_step-executed g step c.requires.runs (sym (next_step-current g step c.requires.next)) goes

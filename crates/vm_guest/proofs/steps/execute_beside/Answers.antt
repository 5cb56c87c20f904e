use Rattle.std.proofs.Common.{ap, ◌∙◌}
use Rattle.vm_guest.specs.Next.{next_of}
use Rattle.vm_guest.specs.Parts.{record_of}
use Rattle.vm_guest.specs.Record.{GuestRecord}
use Rattle.vm_guest.specs.Steps.{effect, sampled, moved_on}
use Rattle.vm_trace.specs.Kinds.{bytes_in, with_bytes}
use Rattle.vm_guest.proofs.KeptLemmas.{IsEffectOf-effect}
use Rattle.vm_guest.proofs.StepLemmas.{effect-sound, stall_of-beside}
use Rattle.vm_guest.proofs.steps.execute_beside.Goals as goal

pub end_step-requires-clause-fit : goal.end_step-requires-clause-fit
end_step-requires-clause-fit c =
    let g = record_of c.args.parts.now in
    record {
      sound = rw c.act_beside.ensures.«record» (effect-sound g (next_of g c.args.kind) c.requires.within c.requires.step (stall_of-beside g (next_of g c.args.kind) c.requires.on) c.requires.posts c.requires.fit.sound);
      tied = c.act_beside.ensures.tied;
    }

pub returns-clause-record : goal.returns-clause-record
returns-clause-record c =
    let g = record_of c.args.parts.now in
    let step = next_of g c.args.kind in
    let same = IsEffectOf-effect g step in
    c.end_step.ensures.«record»
    ∙ ap (λ (h : GuestRecord). moved_on (sampled h) (next_of h c.args.kind)) c.act_beside.ensures.«record»
    ∙ (λ i. moved_on (sampled (effect g step)) (with_bytes c.args.kind (bytes_in (same.config i).trace (same.progress i).position)))

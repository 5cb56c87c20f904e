use Rattle.std.proofs.Common.{ap, ◌∙◌}
use Rattle.vm_guest.specs.Next.{next_of}
use Rattle.vm_guest.specs.Parts.{record_of}
use Rattle.vm_guest.specs.Record.{GuestRecord}
use Rattle.vm_guest.specs.Steps.{moved_on}
use Rattle.vm_guest.proofs.StepLemmas.{sampled-sound}
use Rattle.vm_guest.proofs.steps.end_step.Goals as goal

pub move_on-requires-clause-fit : goal.move_on-requires-clause-fit
move_on-requires-clause-fit c = record {
  sound = rw c.sample.ensures.«record» (sampled-sound (record_of c.args.parts.now) c.requires.fit.sound);
  tied = c.sample.ensures.tied;
}

pub returns-clause-record : goal.returns-clause-record
returns-clause-record c =
    c.move_on.ensures.«record»
    ∙ ap (λ (h : GuestRecord). moved_on h (next_of h c.args.kind)) c.sample.ensures.«record»

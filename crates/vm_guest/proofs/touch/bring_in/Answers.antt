use Rattle.std.proofs.Common.{◌≡◌, false, subst, sym, ap, ◌∙◌}
use Rattle.vm_guest.specs.Good.{IsSound}
use Rattle.vm_guest.specs.Memory.{is_resident}
use Rattle.vm_guest.specs.Record.{GuestRecord}
use Rattle.vm_guest.specs.Touch.{marked_used}
use Rattle.vm_guest.proofs.FitLemmas.{marked_taken-not_in, marked_taken-sound}
use Rattle.vm_guest.proofs.SoundLemmas.{taken_early-sound}
use Rattle.vm_guest.specs.Parts.{record_of}
use Rattle.vm_guest.proofs.touch.bring_in.Goals as goal

pub mark_used-requires-clause-fit : goal.mark_used-requires-clause-fit
mark_used-requires-clause-fit c = record {
  sound = rw c.take_early.ensures.«record» (taken_early-sound (record_of c.args.parts.now) c.args.page c.requires.in_range c.requires.may_use c.requires.fit.sound);
  tied = c.take_early.ensures.tied;
}

pub find_frame-requires-clause-fit : goal.find_frame-requires-clause-fit
find_frame-requires-clause-fit c = record {
  sound = subst IsSound (sym (c.mark_used.ensures.«record» ∙ ap (λ (g : GuestRecord). marked_used g c.args.page) c.take_early.ensures.«record»)) (marked_taken-sound (record_of c.args.parts.now) c.args.page c.requires.in_range c.requires.may_use c.requires.fit.sound);
  tied = c.mark_used.ensures.tied;
}

pub find_frame-requires-clause-not_in : goal.find_frame-requires-clause-not_in
find_frame-requires-clause-not_in c =
    subst (λ (g : GuestRecord). is_resident g.memory c.args.page ≡ false) (sym (c.mark_used.ensures.«record» ∙ ap (λ (g : GuestRecord). marked_used g c.args.page) c.take_early.ensures.«record»))
    (marked_taken-not_in (record_of c.args.parts.now) c.args.page c.requires.not_in)

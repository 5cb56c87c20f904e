use Rattle.std.proofs.Common.{◌∙◌, ap, subst, sym, rules}
use Rattle.vm_guest.specs.Good.{HasNothingPosted}
use Rattle.vm_guest.specs.State.{GuestState}
use Rattle.guest_cases.specs.Lone.{IsLone}
use Rattle.guest_cases.proofs.lone_guest.LoneGuest.epoch.Goals as goal

pub run_epoch-requires-clause-prepared : goal.run_epoch-requires-clause-prepared
run_epoch-requires-clause-prepared c = ap (λ (s : GuestState). s.prepared) c.in_ok-prepare.ensures.ok

pub run_epoch-requires-clause-nothing : goal.run_epoch-requires-clause-nothing
run_epoch-requires-clause-nothing c =
    subst (λ (s : GuestState). HasNothingPosted s.guest) (sym c.in_ok-prepare.ensures.ok) (c.self.invariant.nothing c.in_ok-allowed.ensures)

pub invariant_of-self : goal.invariant_of-self
invariant_of-self c =
    subst (λ (s : GuestState). IsLone c.self.inside.machine.out c.self.inside.served c.self.inside.first s) (sym c.in_err-prepare.ensures.err) c.self.invariant

pub invariant_of-self-2 : goal.invariant_of-self-2
invariant_of-self-2 c =
    let same = ap (λ (s : GuestState). s.capacity) c.run_epoch.ensures ∙ ap (λ (s : GuestState). s.capacity) c.in_ok-prepare.ensures.ok in
    record {
      own = c.self.invariant.own ∙ sym (ap (λ (s : GuestState). s.frames) c.in_ok-prepare.ensures.ok) ∙ sym (ap (λ (s : GuestState). s.frames) c.run_epoch.ensures);
      nothing = λ served. search rules;
      room = λ first. rw same (c.self.invariant.room first);
    }

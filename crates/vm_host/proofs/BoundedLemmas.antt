-- A boundary is what comes before its lines, the lines, and what comes after them.
use Rattle.std.proofs.Common.{◌≡◌, ◌∙◌, ℕ, List, IfOk, OnOk, Result, Ok, Err, ap}
use Rattle.vm_domains.specs.Machine.{MachineConfig}
use Rattle.vm_host.specs.Answers.{AnswerValue}
use Rattle.vm_host.specs.Boundary.{boundary_of, past_boundary, finished, opened_boundary, done_after_lines}
use Rattle.vm_host.specs.Commands.{after_lines, answers_to}
use Rattle.vm_host.specs.World.{World}
use Rattle.vm_host.proofs.KeptLemmas.{machine-lines}
use Rattle.vm_reclaim.specs.Policy.{policy_of}

pub bounded-of : (w mid : World) (lines : List (List ℕ)) → mid ≡ after_lines (policy_of w.machine) (opened_boundary w) lines → finished (policy_of mid.machine) mid ≡ past_boundary w lines
bounded-of w mid lines is =
    (λ j. finished (policy_of (is j).machine) (is j))
    ∙ ap (λ (m : MachineConfig). finished (policy_of m) (after_lines (policy_of w.machine) (opened_boundary w) lines)) (machine-lines (policy_of w.machine) (opened_boundary w) lines)

pub told-of : (w mid : World) (lines : List (List ℕ)) (answers : List AnswerValue) → mid ≡ after_lines (policy_of w.machine) (opened_boundary w) lines
    → answers ≡ answers_to (policy_of w.machine) (opened_boundary w) lines → done_after_lines (policy_of mid.machine) mid answers ≡ boundary_of w lines
told-of w mid lines answers is told =
    (λ j. done_after_lines (policy_of (is j).machine) (is j) (told j))
    ∙ ap (λ (m : MachineConfig). done_after_lines (policy_of m) (after_lines (policy_of w.machine) (opened_boundary w) lines) (answers_to (policy_of w.machine) (opened_boundary w) lines))
    (machine-lines (policy_of w.machine) (opened_boundary w) lines)

-- what follows where a call answered Ok
pub on-ok : {A E : Type 0} (r : Result A E) (P Q : Type 0) → (P → Q) → OnOk r P → OnOk r Q
on-ok (Ok x) P Q gives is = gives is
on-ok (Err e) P Q gives is = tt

pub if-ok : {A E : Type 0} (r : Result A E) (P Q : A → Type 0) → ((x : A) → P x → Q x) → IfOk r P → IfOk r Q
if-ok (Ok x) P Q gives is = gives x is
if-ok (Err e) P Q gives is = tt

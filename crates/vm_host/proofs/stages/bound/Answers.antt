use Rattle.std.proofs.Common.{◌≡◌, ◌∙◌, ◌<◌, ◌⊎◌, ℕ, List, ap, arith, inl, inr, length, map, refl, string_bytes, subst, sym}
use Rattle.vm_host.specs.declared.boundary.Boundary.{Boundary}
use Rattle.vm_host.specs.Boundary.{boundary_of, past_boundary, finished, opened_boundary, done_after_lines}
use Rattle.vm_host.specs.Books.{books_of}
use Rattle.vm_host.specs.Commands.{after_lines, answers_to, IsAfterSome}
use Rattle.vm_host.specs.Parts.{world_of}
use Rattle.vm_host.specs.Sound.{IsSoundWorld}
use Rattle.vm_host.specs.World.{KeepsDomains, World}
use Rattle.vm_host.proofs.BoundedLemmas.{bounded-of, if-ok, on-ok, told-of}
use Rattle.vm_host.proofs.LineLemmas.{sound-lines}
use Rattle.vm_host.proofs.RefusedLemmas.{all-lines, on-err, refused, same-lines}
use Rattle.vm_host.proofs.SoundLemmas.{books-finished, books-opened_boundary, sound-opened_boundary}
use Rattle.vm_host.proofs.StepLemmas.{keeps-domains}
use Rattle.vm_reclaim.specs.Policy.{policy_of}
use Rattle.vm_host.proofs.stages.bound.Goals as goal

pub obey_all-requires-clause-sound : goal.obey_all-requires-clause-sound
obey_all-requires-clause-sound c =
    subst (λ (w : World). IsSoundWorld w) (sym c.open.ensures) (sound-opened_boundary (world_of c.args.parts.now) c.requires.sound)

pub obey_all-requires-clause-booked : goal.obey_all-requires-clause-booked
obey_all-requires-clause-booked c =
    c.requires.booked ∙ (sym (books-opened_boundary (world_of c.args.parts.now) c.requires.sound) ∙ ap books_of (sym c.open.ensures))

pub settle-requires : goal.settle-requires
settle-requires c =
    let w = world_of c.args.parts.now in
    let lines = map string_bytes c.args.lines.now in
    let start = c.open.ensures in
    let mid = c.in_ok-answers.ensures.done ∙ (λ j. after_lines (policy_of (start j).machine) (start j) lines) in
    subst (λ (w : World). IsSoundWorld w) (sym mid) (sound-lines (policy_of w.machine) (opened_boundary w) lines (sound-opened_boundary w c.requires.sound))

pub returns-clause-done : goal.returns-clause-done
returns-clause-done c =
    let w = world_of c.args.parts.now in
    let lines = map string_bytes c.args.lines.now in
    let start = c.open.ensures in
    let left = world_of c.obey_all.new.parts in
    let mid : left ≡ after_lines (policy_of w.machine) (opened_boundary w) lines =
    c.in_ok-answers.ensures.done ∙ (λ j. after_lines (policy_of (start j).machine) (start j) lines) in
    on-ok c.settle.result (world_of c.settle.new.parts ≡ finished (policy_of left.machine) left) (world_of c.settle.new.parts ≡ past_boundary w lines)
    (λ done. done ∙ bounded-of w left lines mid) c.settle.ensures.done

pub returns-clause-told : goal.returns-clause-told
returns-clause-told c =
    let w = world_of c.args.parts.now in
    let lines = map string_bytes c.args.lines.now in
    let start = c.open.ensures in
    let left = world_of c.obey_all.new.parts in
    let answers = c.in_ok-answers.answers.items in
    let mid : left ≡ after_lines (policy_of w.machine) (opened_boundary w) lines =
    c.in_ok-answers.ensures.done ∙ (λ j. after_lines (policy_of (start j).machine) (start j) lines) in
    let told : answers ≡ answers_to (policy_of w.machine) (opened_boundary w) lines =
    c.in_ok-answers.ensures.answers ∙ (λ j. answers_to (policy_of (start j).machine) (start j) lines) in
    if-ok c.settle.result (λ (b : Boundary). b ≡ done_after_lines (policy_of left.machine) left answers) (λ (b : Boundary). b ≡ boundary_of w lines)
    (λ b is. is ∙ told-of w left lines answers mid told) c.settle.ensures.told

pub returns-clause-booked : goal.returns-clause-booked
returns-clause-booked c =
    let w = world_of c.args.parts.now in
    let lines = map string_bytes c.args.lines.now in
    let start = c.open.ensures in
    let left = world_of c.obey_all.new.parts in
    let mid = c.in_ok-answers.ensures.done ∙ (λ j. after_lines (policy_of (start j).machine) (start j) lines) in
    let sound : IsSoundWorld left =
    subst (λ (w : World). IsSoundWorld w) (sym mid) (sound-lines (policy_of w.machine) (opened_boundary w) lines (sound-opened_boundary w c.requires.sound)) in
    on-ok c.settle.result (world_of c.settle.new.parts ≡ finished (policy_of left.machine) left) (c.obey_all.new.books ≡ books_of (world_of c.settle.new.parts))
    (λ done. c.in_ok-answers.ensures.booked ∙ (sym (books-finished (policy_of left.machine) left sound) ∙ ap books_of (sym done))) c.settle.ensures.done

pub returns-clause-kept : goal.returns-clause-kept
returns-clause-kept c =
    let w = world_of c.args.parts.now in
    let first = subst (λ (v : World). KeepsDomains w v) (sym c.open.ensures) (record { machine = refl; names = refl; setup = record { frames = refl; overhead = refl; configs = refl } }) in
    let second = keeps-domains w (world_of c.open.new.parts) (world_of c.obey_all.new.parts) first c.in_ok-answers.ensures.kept in
    keeps-domains w (world_of c.obey_all.new.parts) (world_of c.settle.new.parts) second c.settle.ensures.kept

-- ---- memory was refused

pub returns-in_err-answers-clause-memory : goal.returns-in_err-answers-clause-memory
returns-in_err-answers-clause-memory c =
    let w = world_of c.args.parts.now in
    let lines = map string_bytes c.args.lines.now in
    let left = world_of c.obey_all.new.parts in
    refused c.from_residual.result (IsAfterSome (policy_of w.machine) (opened_boundary w) lines left)
    (same-lines (opened_boundary w) (world_of c.open.new.parts) lines left c.open.ensures c.in_err-answers.ensures.memory)

pub returns-clause-memory : goal.returns-clause-memory
returns-clause-memory c =
    let w = world_of c.args.parts.now in
    let lines = map string_bytes c.args.lines.now in
    let start = c.open.ensures in
    let left = world_of c.obey_all.new.parts in
    let new = world_of c.settle.new.parts in
    let mid : left ≡ after_lines (policy_of w.machine) (opened_boundary w) lines =
    c.in_ok-answers.ensures.done ∙ (λ j. after_lines (policy_of (start j).machine) (start j) lines) in
    on-err c.settle.result (new ≡ left) (IsAfterSome (policy_of w.machine) (opened_boundary w) lines new)
    (λ same. all-lines (policy_of w.machine) (opened_boundary w) new lines (same ∙ mid)) c.settle.ensures.unchanged

-- it was wanted for a line, or for a guest

pub returns-in_err-answers-clause-wanted : goal.returns-in_err-answers-clause-wanted
returns-in_err-answers-clause-wanted c = refused c.from_residual.result ((0 < length c.args.parts.now.names) ⊎ (0 < length c.args.lines.now)) (inr c.in_err-answers.ensures.wanted)

pub returns-clause-wanted : goal.returns-clause-wanted
returns-clause-wanted c =
    let w = world_of c.args.parts.now in
    let lines = map string_bytes c.args.lines.now in
    let start = c.open.ensures in
    let left = world_of c.obey_all.new.parts in
    let mid : left ≡ after_lines (policy_of w.machine) (opened_boundary w) lines =
    c.in_ok-answers.ensures.done ∙ (λ j. after_lines (policy_of (start j).machine) (start j) lines) in
    let sound : IsSoundWorld left =
    subst (λ (w : World). IsSoundWorld w) (sym mid) (sound-lines (policy_of w.machine) (opened_boundary w) lines (sound-opened_boundary w c.requires.sound)) in
    let first = subst (λ (v : World). KeepsDomains w v) (sym c.open.ensures) (record { machine = refl; names = refl; setup = record { frames = refl; overhead = refl; configs = refl } }) in
    let kept = keeps-domains w (world_of c.open.new.parts) left first c.in_ok-answers.ensures.kept in
    let paired = sound.pool.paired in
    let named = sound.named in
    let same = ap (λ (names : List (List ℕ)). length names) kept.names in
    on-err c.settle.result (0 < length left.pool.guests) ((0 < length w.names) ⊎ (0 < length c.args.lines.now))
    (λ some. inl (omega (arith, paired, named, same, some))) c.settle.ensures.wanted

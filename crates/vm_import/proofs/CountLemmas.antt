-- How many intervals there can be: each of them fills an epoch.
use Rattle.std.proofs.Common.{◌≡◌, ◌∙◌, ℕ, ◌+◌, ◌*◌, ◌==◌, ◌≤◌, Bool, true, false, if◌then◌else◌, List, length, refl, ap, arith}
use Rattle.std.proofs.Math.Nat.{le_of_mul-le-mul_right}
use Rattle.std.proofs.lemmas.List.{length-map, length-replicate}
use Rattle.vm_import.specs.declared.touch.RankedTouch.{RankedTouch}
use Rattle.vm_import.specs.Drafts.{DraftView, all_written, with_steps}
use Rattle.vm_import.specs.Importing.{after_interval}
use Rattle.vm_import.specs.Steps.{idle_steps, step_of, steps_of}

pub length-idle_steps : (count : ℕ) → length (idle_steps count) ≡ count
unfolding idle_steps
length-idle_steps count = length-replicate count _

-- the steps of an interval, with the idle ones before it
pub steps-more : (draft drafted : DraftView) (idle number : ℕ) (kept : List RankedTouch)
    → drafted ≡ with_steps (with_steps draft (idle_steps idle)) (steps_of number kept)
    → drafted.steps ≡ draft.steps + idle + length kept
steps-more draft drafted idle number kept is =
    ap (λ (d : DraftView). d.steps) is
    ∙ ap (λ (n : ℕ). draft.steps + n + length (steps_of number kept)) (length-idle_steps idle)
    ∙ ap (λ (n : ℕ). draft.steps + idle + n) (length-map kept (step_of number))

pub written-more : (draft drafted : DraftView) (idle number : ℕ) (kept : List RankedTouch)
    → drafted ≡ with_steps (with_steps draft (idle_steps idle)) (steps_of number kept) → drafted.written ≡ draft.written
written-more draft drafted idle number kept is = ap (λ (d : DraftView). d.written) is

module _ (draft : DraftView) where
  after : Bool → DraftView
  after b = if b then draft else all_written draft

  steps_after : (b : Bool) → (after b).steps ≡ draft.steps
  unfolding after
  steps_after true = refl
  steps_after false = refl

  written_after : (b : Bool) → (after b).written ≤ draft.written + length draft.text
  unfolding after
  written_after true = omega arith
  written_after false = omega arith

  pub after-steps : (pages : ℕ) → (after_interval pages draft).steps ≡ draft.steps
  unfolding after
  after-steps pages = steps_after (pages == 0)

  pub after-written : (pages : ℕ) → (after_interval pages draft).written ≤ draft.written + length draft.text
  unfolding after
  after-written pages = written_after (pages == 0)

  -- nothing is written before a page is touched
  pub after-none : (pages : ℕ) → pages ≡ 0 → after_interval pages draft ≡ draft
  after-none pages none = ap (λ (n : ℕ). after_interval n draft) none

-- an interval that fits isn't one of too many
pub few-intervals : (number quantum before after : ℕ) → 1 ≤ quantum → number * quantum ≤ before + quantum → before ≤ after
    → after ≤ 10000 * quantum → number ≤ 10001
few-intervals number quantum before after some filled grows few =
    let product : number * quantum ≤ 10001 * quantum = omega arith in
    le_of_mul-le-mul_right product (omega arith)

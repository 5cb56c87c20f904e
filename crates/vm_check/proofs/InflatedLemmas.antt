-- Pages that are put into the balloon, and steps that touch one.
use Rattle.std.proofs.Common.{◌≡◌, ℕ, ◌+◌, ◌<◌, ◌≤◌, ◌/◌, Bool, List, drop, length, Option, Some, None, add-one, ap, sym, ◌∙◌, arith}
use Rattle.std.specs.Prelude.{slice_get}
use Rattle.std.specs.List.{fold}
use Rattle.std.proofs.lemmas.List.FromFn.{length-map-range_with_len}
use Rattle.std.proofs.lemmas.Option.{slice_get_past}
use Rattle.vm_balloon.specs.Virtio.{page_number, page_numbers}
use Rattle.vm_pages.specs.Pages.{insert_all}
use Rattle.vm_trace.specs.declared.step.Action.{Action}
use Rattle.vm_trace.specs.declared.step.Action.TheVariants.{Idle}
use Rattle.vm_trace.specs.declared.step.Queue.{Queue}
use Rattle.vm_trace.specs.declared.step.Queue.TheVariants.{Inflate}
use Rattle.vm_check.specs.declared.what.What.TheVariants.{Inflated}
use Rattle.vm_check.specs.Inflated.{action_at, first_stuck, stuck_or, stuck_page, with_page, with_posts}
use Rattle.vm_check.proofs.ListLemmas.{drop_at, drop_none, drop_none_next, drop_some}

-- ---- pages of a buffer

-- the page at a place, and those behind it
pub marked_by : (marks : List Bool) (pages : List ℕ) (i : ℕ) (found : Option ℕ) → slice_get pages i ≡ found
    → insert_all marks (drop i pages) ≡ insert_all (with_page marks found) (drop (i + 1) pages)
marked_by marks pages i None none =
    rw (add-one) (ap (insert_all marks) (drop_none pages i none) ∙ sym (ap (insert_all marks) (drop_none_next pages i none)))
marked_by marks pages i (Some page) there = ap (insert_all marks) (drop_some pages i page there)

-- behind the last place no page is left
pub marked_all : (marks : List Bool) (bytes : List ℕ) (i : ℕ) → length bytes / 4 ≤ i → insert_all marks (drop i (page_numbers bytes)) ≡ marks
marked_all marks bytes i past =
    let few : length (page_numbers bytes) ≤ i = omega (arith, length-map-range_with_len (page_number bytes) 0 (length bytes / 4)) in
    ap (insert_all marks) (drop_none (page_numbers bytes) i (slice_get_past (page_numbers bytes) i few))

-- ---- steps

-- one step more has posted
pub posted_on : (queue : Queue) (marks : List Bool) (trace : List Action) (place : ℕ) → place < length trace
    → fold (with_posts queue) marks (drop place trace)
    ≡ fold (with_posts queue) (with_posts queue marks (action_at trace place)) (drop (place + 1) trace)
posted_on queue marks trace place there = ap (fold (with_posts queue) marks) (drop_at trace place Idle there)

-- what is found from a step on
stuck_from : (deflated inflated : List Bool) (trace : List Action) (step : ℕ) → step < length trace
    → first_stuck deflated inflated step (drop step trace)
    ≡ stuck_or step (stuck_page deflated inflated (action_at trace step))
    (first_stuck deflated (with_posts Inflate inflated (action_at trace step)) (step + 1) (drop (step + 1) trace))
stuck_from deflated inflated trace step there = ap (first_stuck deflated inflated step) (drop_at trace step Idle there)

pub stuck_here : (deflated inflated : List Bool) (trace : List Action) (step page : ℕ) → step < length trace
    → Some page ≡ stuck_page deflated inflated (action_at trace step)
    → first_stuck deflated inflated step (drop step trace) ≡ Some (Inflated step page)
stuck_here deflated inflated trace step page there is =
    stuck_from deflated inflated trace step there
    ∙ ap (λ (found : Option ℕ). stuck_or step found
    (first_stuck deflated (with_posts Inflate inflated (action_at trace step)) (step + 1) (drop (step + 1) trace))) (sym is)

pub stuck_later : (deflated inflated : List Bool) (trace : List Action) (step : ℕ) → step < length trace
    → None ≡ stuck_page deflated inflated (action_at trace step)
    → first_stuck deflated inflated step (drop step trace)
    ≡ first_stuck deflated (with_posts Inflate inflated (action_at trace step)) (step + 1) (drop (step + 1) trace)
stuck_later deflated inflated trace step there is =
    stuck_from deflated inflated trace step there
    ∙ ap (λ (found : Option ℕ). stuck_or step found
    (first_stuck deflated (with_posts Inflate inflated (action_at trace step)) (step + 1) (drop (step + 1) trace))) (sym is)

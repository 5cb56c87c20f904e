-- The numbers of a run are what its lines count.
use Rattle.std.proofs.Common.{◌≡◌, ℕ, Bool, List, Option, Some, None, is_some, length, refl, ap, ◌∙◌, arith}
use Rattle.vm_config.specs.declared.config.Config.{Config}
use Rattle.vm_guest.specs.declared.reads.PageRead.{PageRead}
use Rattle.vm_guest.specs.declared.view.GuestView.{GuestView}
use Rattle.vm_guest.specs.Record.{GuestRecord, ballooned, saturated}
use Rattle.vm_host.specs.declared.boundary.Boundary.{Boundary}
use Rattle.vm_host.specs.declared.boundary.Refusal.{Refusal}
use Rattle.vm_host.specs.World.{World, guest_at}
use Rattle.vm_plan.specs.declared.state.State.{State}
use Rattle.vm_plan.specs.Stretches.{stretches_of}
use Rattle.vm_pool.specs.Guests.{of_running}
use Rattle.vm_pool.specs.Readers.{stalled_of}
use Rattle.vm_runs.specs.Course.{Run, host_after}
use Rattle.vm_sim.specs.Course.{course_of}
use Rattle.vm_sim.specs.Report.{name_at}
use Rattle.vm_tally.specs.Counting.{one_if, sum_each, sum_over}
use Rattle.vm_tally.specs.Counts.{has_stalled, is_for_frames, is_for_swap, is_hard, is_high, is_low, is_refused, is_soft, over_guests, paged, refused, revoked, swapped_of}
use Rattle.vm_tally.specs.Summary.{after_in, blocked_in, granted_in, hard_in, high_in, low_in, no_memory_in, no_swap_in, paged_in, ready_in, rebalanced_in, revoked_in, soft_in, stalls_in, summary_after, told_in}
use Rattle.vm_laws.specs.Columns.{AddsUpLines, balloon_at_end, blocking, found, granting, paging, rebalancing, refusing, revoking, stalling, swapped_at_end}
use Rattle.vm_laws.specs.ReportLines.{ReportLine, guest_at_end, lines_at_end, lines_in, lines_of_boundary, lines_of_epoch, lines_of_guest, stalls_of}
use Rattle.vm_laws.specs.ReportLines.ReportLine.{End, Guest, Machine, Read, Stall}
use Rattle.vm_laws.proofs.LineLemmas.{answer_sum, end-zero, epoch-zero, of-boundary, of-end, of-epoch, of-guest, of-lines}
use Rattle.vm_laws.proofs.SumLemmas.{over-none, over-same, pages-stretches, sum-none, sum-ones, sum-same, sum-zero}

-- ---- what a boundary counts

module _ (w : World) (k : ℕ) (b : Boundary) where
  found-boundary : (is_such : State → Bool) → sum_each (found is_such) (lines_of_boundary w k b) ≡ one_if (is_such b.state)
  found-boundary is_such =
      let answers = sum-zero (answer_sum (found is_such) w) b.answers (λ a. omega (arith, sum-none (stretches_of a.revocations))) in
      omega (arith, of-boundary (found is_such) w k b, answers, sum-none (stretches_of b.revoked), sum-none b.paged, sum-none (stretches_of b.granted), sum-none (stretches_of b.rebalanced), sum-none b.blocked)

  refusing-boundary : (cause : Refusal → Bool) → sum_each (refusing cause) (lines_of_boundary w k b) ≡ refused cause b
  refusing-boundary cause =
      let answers = sum-same (answer_sum (refusing cause) w) (λ a. one_if (is_refused cause a.outcome)) b.answers
      (λ a. omega (arith, sum-none (stretches_of a.revocations))) in
      omega (arith, of-boundary (refusing cause) w k b, answers, sum-none (stretches_of b.revoked), sum-none b.paged, sum-none (stretches_of b.granted), sum-none (stretches_of b.rebalanced), sum-none b.blocked)

  revoking-boundary : sum_each revoking (lines_of_boundary w k b) ≡ revoked b
  revoking-boundary =
      let answers = sum-same (answer_sum revoking w) (λ a. length a.revocations) b.answers (λ a. omega (arith, pages-stretches a.revocations)) in
      omega (arith, of-boundary revoking w k b, answers, pages-stretches b.revoked, sum-none b.paged, sum-none (stretches_of b.granted), sum-none (stretches_of b.rebalanced), sum-none b.blocked)

  paging-boundary : sum_each paging (lines_of_boundary w k b) ≡ paged b
  paging-boundary =
      let answers = sum-zero (answer_sum paging w) b.answers (λ a. omega (arith, sum-none (stretches_of a.revocations))) in
      omega (arith, of-boundary paging w k b, answers, sum-none (stretches_of b.revoked), sum-none (stretches_of b.granted), sum-none (stretches_of b.rebalanced), sum-none b.blocked)

  granting-boundary : sum_each granting (lines_of_boundary w k b) ≡ length b.granted
  granting-boundary =
      let answers = sum-zero (answer_sum granting w) b.answers (λ a. omega (arith, sum-none (stretches_of a.revocations))) in
      omega (arith, of-boundary granting w k b, answers, sum-none (stretches_of b.revoked), sum-none b.paged, pages-stretches b.granted, sum-none (stretches_of b.rebalanced), sum-none b.blocked)

  rebalancing-boundary : sum_each rebalancing (lines_of_boundary w k b) ≡ length b.rebalanced
  rebalancing-boundary =
      let answers = sum-zero (answer_sum rebalancing w) b.answers (λ a. omega (arith, sum-none (stretches_of a.revocations))) in
      omega (arith, of-boundary rebalancing w k b, answers, sum-none (stretches_of b.revoked), sum-none b.paged, sum-none (stretches_of b.granted), pages-stretches b.rebalanced, sum-none b.blocked)

  blocking-boundary : sum_each blocking (lines_of_boundary w k b) ≡ length b.blocked
  blocking-boundary =
      let answers = sum-zero (answer_sum blocking w) b.answers (λ a. omega (arith, sum-none (stretches_of a.revocations))) in
      omega (arith, of-boundary blocking w k b, answers, sum-none (stretches_of b.revoked), sum-none b.paged, sum-none (stretches_of b.granted), sum-none (stretches_of b.rebalanced), sum-ones b.blocked)

  -- no line of a boundary counts for what an epoch or the end tells
  stalling-boundary : sum_each stalling (lines_of_boundary w k b) ≡ 0
  stalling-boundary =
      let answers = sum-zero (answer_sum stalling w) b.answers (λ a. omega (arith, sum-none (stretches_of a.revocations))) in
      omega (arith, of-boundary stalling w k b, answers, sum-none (stretches_of b.revoked), sum-none b.paged, sum-none (stretches_of b.granted), sum-none (stretches_of b.rebalanced), sum-none b.blocked)

  swapped-boundary : sum_each swapped_at_end (lines_of_boundary w k b) ≡ 0
  swapped-boundary =
      let answers = sum-zero (answer_sum swapped_at_end w) b.answers (λ a. omega (arith, sum-none (stretches_of a.revocations))) in
      omega (arith, of-boundary swapped_at_end w k b, answers, sum-none (stretches_of b.revoked), sum-none b.paged, sum-none (stretches_of b.granted), sum-none (stretches_of b.rebalanced), sum-none b.blocked)

  balloon-boundary : sum_each balloon_at_end (lines_of_boundary w k b) ≡ 0
  balloon-boundary =
      let answers = sum-zero (answer_sum balloon_at_end w) b.answers (λ a. omega (arith, sum-none (stretches_of a.revocations))) in
      omega (arith, of-boundary balloon_at_end w k b, answers, sum-none (stretches_of b.revoked), sum-none b.paged, sum-none (stretches_of b.granted), sum-none (stretches_of b.rebalanced), sum-none b.blocked)

-- ---- what an epoch counts

stalled-page : (name : List ℕ) (g : Option GuestRecord) → sum_each stalling (stalls_of name (stalled_of g)) ≡ of_running has_stalled g
stalled-page name None = refl
stalled-page name (Some g) = go g.progress.stalled_on
  where
    go : (page : Option ℕ) → sum_each stalling (stalls_of name page) ≡ one_if (is_some page)
    go None = refl
    go (Some page) = refl

stalling-epoch : (w : World) → sum_each stalling (lines_of_epoch w) ≡ over_guests has_stalled w
stalling-epoch w =
    of-epoch stalling w
    ∙ over-same (λ p. sum_each stalling (lines_of_guest w p)) (λ p. of_running has_stalled (guest_at w p)) (length w.names)
    (λ p. of-guest stalling w p (λ read. refl) ∙ stalled-page (name_at w p) (guest_at w p))

-- ---- what the end counts

swapped-guest : (name : List ℕ) (g : Option GuestRecord) → sum_each swapped_at_end (guest_at_end name g) ≡ of_running swapped_of g
swapped-guest name None = refl
swapped-guest name (Some g) = omega arith

balloon-guest : (name : List ℕ) (g : Option GuestRecord) → sum_each balloon_at_end (guest_at_end name g) ≡ of_running ballooned g
balloon-guest name None = refl
balloon-guest name (Some g) = omega arith

swapped-end : (w : World) → sum_each swapped_at_end (lines_at_end w) ≡ over_guests swapped_of w
swapped-end w =
    let all = over-same (λ p. sum_each swapped_at_end (guest_at_end (name_at w p) (guest_at w p))) (λ p. of_running swapped_of (guest_at w p)) (length w.names)
    (λ p. swapped-guest (name_at w p) (guest_at w p)) in
    omega (arith, of-end swapped_at_end w, all)

balloon-end : (w : World) → sum_each balloon_at_end (lines_at_end w) ≡ over_guests ballooned w
balloon-end w =
    let all = over-same (λ p. sum_each balloon_at_end (guest_at_end (name_at w p) (guest_at w p))) (λ p. of_running ballooned (guest_at w p)) (length w.names)
    (λ p. balloon-guest (name_at w p) (guest_at w p)) in
    omega (arith, of-end balloon_at_end w, all)

-- ---- the run

-- a number that boundaries count, and nothing else
of-boundaries : (f : ReportLine → ℕ) (number : ℕ → ℕ) (course : Run)
    → ((k : ℕ) → sum_each f (lines_of_boundary (ready_in course k) k (told_in course k)) ≡ number k)
    → ((w : World) → sum_each f (lines_of_epoch w) ≡ 0) → ((w : World) → sum_each f (lines_at_end w) ≡ 0)
    → sum_over number course.epochs ≡ sum_each f (lines_in course)
of-boundaries f number course boundary epoch end =
    let all = of-lines f course number (λ k. omega (arith, boundary k, epoch (after_in course k))) in
    omega (arith, all, end (host_after course course.epochs))

module _ (course : Run) where
  -- what is added up of lines of boundaries
  told-column : (f : ReportLine → ℕ) (number : ℕ → ℕ)
      → ((k : ℕ) → sum_each f (lines_of_boundary (ready_in course k) k (told_in course k)) ≡ number k)
      → ((name : List ℕ) (read : PageRead) → f (Read name read) ≡ 0) → ((name : List ℕ) (page : ℕ) → f (Stall name page) ≡ 0)
      → f End ≡ 0 → ((name : List ℕ) (view : GuestView) → f (Guest name view) ≡ 0) → ((w : World) → f (Machine w) ≡ 0)
      → saturated (sum_over number course.epochs) ≡ saturated (sum_each f (lines_in course))
  told-column f number boundary reads stalls first guests last =
      ap saturated (of-boundaries f number course boundary (λ w. epoch-zero f w reads stalls) (λ w. end-zero f w first guests (last w)))

  stalls-column : saturated (sum_over (stalls_in course) course.epochs) ≡ saturated (sum_each stalling (lines_in course))
  stalls-column =
      let all = of-lines stalling course (stalls_in course)
      (λ k. omega (arith, stalling-boundary (ready_in course k) k (told_in course k), stalling-epoch (after_in course k))) in
      let none = end-zero stalling (host_after course course.epochs) refl (λ name view. refl) refl in
      ap saturated (omega (arith, all, none))

  swapped-column : over_guests swapped_of (host_after course course.epochs) ≡ sum_each swapped_at_end (lines_in course)
  swapped-column =
      let all = of-lines swapped_at_end course (λ _. 0)
      (λ k. omega (
        arith,
        swapped-boundary (ready_in course k) k (told_in course k),
        epoch-zero swapped_at_end (after_in course k) (λ name read. refl) (λ name page. refl),
      )) in
      omega (arith, all, over-none course.epochs, swapped-end (host_after course course.epochs))

  balloon-column : over_guests ballooned (host_after course course.epochs) ≡ sum_each balloon_at_end (lines_in course)
  balloon-column =
      let all = of-lines balloon_at_end course (λ _. 0)
      (λ k. omega (
        arith,
        balloon-boundary (ready_in course k) k (told_in course k),
        epoch-zero balloon_at_end (after_in course k) (λ name read. refl) (λ name page. refl),
      )) in
      omega (arith, all, over-none course.epochs, balloon-end (host_after course course.epochs))

pub adds-up-lines : (c : Config) → AddsUpLines c
unfolding summary_after
adds-up-lines c =
    let course = course_of c in
    record {
      high = told-column course (found is_high) (high_in course) (λ k. found-boundary (ready_in course k) k (told_in course k) is_high) (λ name read. refl) (λ name page. refl) refl (λ name view. refl) (λ w. refl);
      soft = told-column course (found is_soft) (soft_in course) (λ k. found-boundary (ready_in course k) k (told_in course k) is_soft) (λ name read. refl) (λ name page. refl) refl (λ name view. refl) (λ w. refl);
      hard = told-column course (found is_hard) (hard_in course) (λ k. found-boundary (ready_in course k) k (told_in course k) is_hard) (λ name read. refl) (λ name page. refl) refl (λ name view. refl) (λ w. refl);
      low = told-column course (found is_low) (low_in course) (λ k. found-boundary (ready_in course k) k (told_in course k) is_low) (λ name read. refl) (λ name page. refl) refl (λ name view. refl) (λ w. refl);
      no_memory = told-column course (refusing is_for_frames) (no_memory_in course) (λ k. refusing-boundary (ready_in course k) k (told_in course k) is_for_frames) (λ name read. refl) (λ name page. refl) refl (λ name view. refl) (λ w. refl);
      no_swap = told-column course (refusing is_for_swap) (no_swap_in course) (λ k. refusing-boundary (ready_in course k) k (told_in course k) is_for_swap) (λ name read. refl) (λ name page. refl) refl (λ name view. refl) (λ w. refl);
      revoked = told-column course revoking (revoked_in course) (λ k. revoking-boundary (ready_in course k) k (told_in course k)) (λ name read. refl) (λ name page. refl) refl (λ name view. refl) (λ w. refl);
      paged = told-column course paging (paged_in course) (λ k. paging-boundary (ready_in course k) k (told_in course k)) (λ name read. refl) (λ name page. refl) refl (λ name view. refl) (λ w. refl);
      granted = told-column course granting (granted_in course) (λ k. granting-boundary (ready_in course k) k (told_in course k)) (λ name read. refl) (λ name page. refl) refl (λ name view. refl) (λ w. refl);
      rebalanced = told-column course rebalancing (rebalanced_in course) (λ k. rebalancing-boundary (ready_in course k) k (told_in course k)) (λ name read. refl) (λ name page. refl) refl (λ name view. refl) (λ w. refl);
      blocked = told-column course blocking (blocked_in course) (λ k. blocking-boundary (ready_in course k) k (told_in course k)) (λ name read. refl) (λ name page. refl) refl (λ name view. refl) (λ w. refl);
      stalls = stalls-column course;
      swapped = swapped-column course;
      balloon = balloon-column course;
    }

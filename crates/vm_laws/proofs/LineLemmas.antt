-- What the lines of a report count, part by part.
use Rattle.std.proofs.Common.{◌≡◌, ℕ, zero, suc, ◌+◌, List, [], ◌∷◌, ◌++◌, map, length, Option, Some, None, refl, ◌∙◌, arith}
use Rattle.std.specs.List.{flat_map}
use Rattle.vm_guest.specs.declared.reads.PageRead.{PageRead}
use Rattle.vm_guest.specs.declared.view.GuestView.{GuestView}
use Rattle.vm_guest.specs.Record.{GuestRecord}
use Rattle.vm_guest.specs.View.{view_of}
use Rattle.vm_host.specs.declared.boundary.Boundary.{Boundary}
use Rattle.vm_host.specs.Answers.{AnswerValue}
use Rattle.vm_host.specs.World.{World, guest_at}
use Rattle.vm_plan.specs.Stretches.{stretches_of}
use Rattle.vm_pool.specs.Readers.{stalled_of}
use Rattle.vm_runs.specs.Course.{Run, host_after}
use Rattle.vm_sim.specs.Report.{name_at, positions}
use Rattle.vm_tally.specs.Counting.{sum_each, sum_over}
use Rattle.vm_tally.specs.Summary.{after_in, ready_in, told_in}
use Rattle.vm_laws.specs.ReportLines.{ReportLine, blocked_at, guest_at_end, lines_at, lines_at_end, lines_before, lines_in, lines_of_answer, lines_of_boundary, lines_of_epoch, lines_of_guest, moved, paged_at, reads_of, stalls_of}
use Rattle.vm_laws.specs.ReportLines.ReportLine.{Answer, Command, End, Epoch, Found, Grant, Guest, Machine, Read, Rebalance, Revoke, Stall}
use Rattle.vm_laws.proofs.SumLemmas.{over-same, over-zero, sum-append, sum-flat_map, sum-map, sum-range, sum-zero}

module _ (f : ReportLine → ℕ) where
  -- ---- a boundary

  -- the lines of moves of one kind
  abbrev pub moves_sum : World → (List ℕ → ℕ → ReportLine) → List ℕ → ℕ
  moves_sum w kind positions = sum_each (λ s. f (kind (name_at w s.position) s.count)) (stretches_of positions)

  abbrev pub answer_sum : World → AnswerValue → ℕ
  answer_sum w a = f (Command a.line) + (moves_sum w Revoke a.revocations + f (Answer a.outcome))

  of-moves : (w : World) (kind : List ℕ → ℕ → ReportLine) (positions : List ℕ) → sum_each f (moved w kind positions) ≡ moves_sum w kind positions
  of-moves w kind positions = sum-map f (λ s. kind (name_at w s.position) s.count) (stretches_of positions)

  of-answer : (w : World) (a : AnswerValue) → sum_each f (lines_of_answer w a) ≡ answer_sum w a
  of-answer w a =
      omega (arith, sum-append f (moved w Revoke a.revocations) (Answer a.outcome ∷ []), of-moves w Revoke a.revocations)

  pub of-boundary : (w : World) (k : ℕ) (b : Boundary) → sum_each f (lines_of_boundary w k b)
      ≡ f (Epoch k) + sum_each (answer_sum w) b.answers + f (Found b.state b.free) + moves_sum w Revoke b.revoked
      + sum_each (λ p. f (paged_at w p)) b.paged + moves_sum w Grant b.granted + moves_sum w Rebalance b.rebalanced
      + sum_each (λ p. f (blocked_at w p)) b.blocked
  of-boundary w k b =
      let answers = sum-flat_map f (lines_of_answer w) b.answers ∙ (λ i. sum_each (λ a. of-answer w a i) b.answers) in
      let waits = map (blocked_at w) b.blocked in
      let given = moved w Rebalance b.rebalanced ++ waits in
      let paid = moved w Grant b.granted ++ given in
      let taken = map (paged_at w) b.paged ++ paid in
      omega (
        arith,
        answers,
        sum-append f (flat_map (lines_of_answer w) b.answers) (Found b.state b.free ∷ (moved w Revoke b.revoked ++ taken)),
        sum-append f (moved w Revoke b.revoked) taken,
        sum-append f (map (paged_at w) b.paged) paid,
        sum-append f (moved w Grant b.granted) given,
        sum-append f (moved w Rebalance b.rebalanced) waits,
        of-moves w Revoke b.revoked,
        sum-map f (paged_at w) b.paged,
        of-moves w Grant b.granted,
        of-moves w Rebalance b.rebalanced,
        sum-map f (blocked_at w) b.blocked,
      )

  -- ---- an epoch

  pub of-epoch : (w : World) → sum_each f (lines_of_epoch w) ≡ sum_over (λ p. sum_each f (lines_of_guest w p)) (length w.names)
  of-epoch w = sum-flat_map f (lines_of_guest w) (positions w) ∙ sum-range (λ p. sum_each f (lines_of_guest w p)) (length w.names)

  reads-zero : (name : List ℕ) (g : Option GuestRecord) → ((read : PageRead) → f (Read name read) ≡ 0) → sum_each f (reads_of name g) ≡ 0
  reads-zero name None zeros = refl
  reads-zero name (Some g) zeros = sum-map f (Read name) g.reads ∙ sum-zero (λ r. f (Read name r)) g.reads zeros

  stalls-zero : (name : List ℕ) (page : Option ℕ) → ((page : ℕ) → f (Stall name page) ≡ 0) → sum_each f (stalls_of name page) ≡ 0
  stalls-zero name None zeros = refl
  stalls-zero name (Some page) zeros = omega (arith, zeros page)

  -- what a guest did, where reads count nothing
  pub of-guest : (w : World) (p : ℕ) → ((read : PageRead) → f (Read (name_at w p) read) ≡ 0)
      → sum_each f (lines_of_guest w p) ≡ sum_each f (stalls_of (name_at w p) (stalled_of (guest_at w p)))
  of-guest w p zeros =
      let stalls = stalls_of (name_at w p) (stalled_of (guest_at w p)) in
      omega (arith, sum-append f (reads_of (name_at w p) (guest_at w p)) stalls, reads-zero (name_at w p) (guest_at w p) zeros)

  -- where stalls don't either
  pub epoch-zero : (w : World) → ((name : List ℕ) (read : PageRead) → f (Read name read) ≡ 0)
      → ((name : List ℕ) (page : ℕ) → f (Stall name page) ≡ 0) → sum_each f (lines_of_epoch w) ≡ 0
  epoch-zero w reads stalls =
      of-epoch w ∙ over-zero (λ p. sum_each f (lines_of_guest w p)) (length w.names)
      (λ p. of-guest w p (reads (name_at w p)) ∙ stalls-zero (name_at w p) (stalled_of (guest_at w p)) (stalls (name_at w p)))

  -- ---- the end

  pub of-end : (w : World) → sum_each f (lines_at_end w)
      ≡ f End + sum_over (λ p. sum_each f (guest_at_end (name_at w p) (guest_at w p))) (length w.names) + f (Machine w)
  of-end w =
      let guests = λ (p : ℕ). guest_at_end (name_at w p) (guest_at w p) in
      omega (
        arith,
        sum-append f (flat_map guests (positions w)) (Machine w ∷ []),
        sum-flat_map f guests (positions w),
        sum-range (λ p. sum_each f (guests p)) (length w.names),
      )

  guest-zero : (name : List ℕ) (g : Option GuestRecord) → ((view : GuestView) → f (Guest name view) ≡ 0) → sum_each f (guest_at_end name g) ≡ 0
  guest-zero name None zeros = refl
  guest-zero name (Some g) zeros = omega (arith, zeros (view_of g))

  pub end-zero : (w : World) → f End ≡ 0 → ((name : List ℕ) (view : GuestView) → f (Guest name view) ≡ 0) → f (Machine w) ≡ 0
      → sum_each f (lines_at_end w) ≡ 0
  end-zero w first guests last =
      let all = over-zero (λ p. sum_each f (guest_at_end (name_at w p) (guest_at w p))) (length w.names)
      (λ p. guest-zero (name_at w p) (guest_at w p) (guests (name_at w p))) in
      omega (arith, of-end w, first, all, last)

  -- ---- the run

  abbrev epoch_sum : Run → ℕ → ℕ
  epoch_sum course k = sum_each f (lines_of_boundary (ready_in course k) k (told_in course k)) + sum_each f (lines_of_epoch (after_in course k))

  of-before : (course : Run) (n : ℕ) → sum_each f (lines_before course n) ≡ sum_over (epoch_sum course) n
  of-before course zero = refl
  of-before course (suc k) =
      let boundary = lines_of_boundary (ready_in course k) k (told_in course k) in
      omega (arith, sum-append f (lines_before course k) (lines_at course k), of-before course k, sum-append f boundary (lines_of_epoch (after_in course k)))

  -- all lines, of whose epochs each counts such a number
  pub of-lines : (course : Run) (number : ℕ → ℕ)
      → ((k : ℕ) → sum_each f (lines_of_boundary (ready_in course k) k (told_in course k)) + sum_each f (lines_of_epoch (after_in course k)) ≡ number k)
      → sum_each f (lines_in course) ≡ sum_over number course.epochs + sum_each f (lines_at_end (host_after course course.epochs))
  of-lines course number each =
      let all = of-before course course.epochs ∙ over-same (epoch_sum course) number course.epochs each in
      omega (arith, all, sum-append f (lines_before course course.epochs) (lines_at_end (host_after course course.epochs)))

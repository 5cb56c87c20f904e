-- The report of a run as a list of lines, each of its kind. In the text alone a line of one kind may look like one of another: the
-- stall of a guest whose name is `page` is one.
use Rattle.std.specs.Prelude.{ℕ, zero, suc, List, [], ◌∷◌, ◌++◌, codes, map, Option, Some, None}
use Rattle.std.specs.Fmt.{decimal}
use Rattle.std.specs.List.{flat_map}
use Rattle.vm_config.specs.declared.config.Config.{Config}
use Rattle.vm_guest.specs.declared.reads.PageRead.{PageRead}
use Rattle.vm_guest.specs.declared.view.GuestView.{GuestView}
use Rattle.vm_guest.specs.Record.{GuestRecord}
use Rattle.vm_guest.specs.View.{view_of}
use Rattle.vm_host.specs.declared.boundary.Boundary.{Boundary}
use Rattle.vm_host.specs.declared.boundary.Outcome.{Outcome}
use Rattle.vm_host.specs.Answers.{AnswerValue}
use Rattle.vm_host.specs.World.{World, guest_at}
use Rattle.vm_plan.specs.declared.state.State.{State}
use Rattle.vm_plan.specs.Stretches.{stretches_of}
use Rattle.vm_pool.specs.Readers.{stalled_of}
use Rattle.vm_reclaim.specs.declared.lists.Paged.{Paged}
use Rattle.vm_runs.specs.Course.{Run, host_after}
use Rattle.vm_sim.specs.Course.{course_of}
use Rattle.vm_sim.specs.Lines.{block_line, command_line, guest_line, move_line, outcome_lines, read_line, stall_line, state_line}
use Rattle.vm_sim.specs.Report.{machine_line, name_at, positions}
use Rattle.vm_tally.specs.Summary.{after_in, ready_in, told_in}

-- a line by its kind; a guest stands in it by its name
pub data ReportLine : Type 0 where
  -- epoch NUMBER
  Epoch : ℕ → ReportLine
  -- > LINE
  Command : List ℕ → ReportLine
  -- what became of a command: `ok`, `error N TEXT`, or the lines of `virsh dommemstat`
  Answer : Outcome → ReportLine
  -- state STATE free FRAMES
  Found : State → ℕ → ReportLine
  -- revoke NAME COUNT
  Revoke : List ℕ → ℕ → ReportLine
  -- page NAME COUNT
  Page : List ℕ → ℕ → ReportLine
  -- grant NAME COUNT
  Grant : List ℕ → ℕ → ReportLine
  -- rebalance NAME COUNT
  Rebalance : List ℕ → ℕ → ReportLine
  -- block NAME
  Block : List ℕ → ReportLine
  -- NAME r PAGE OFFSET BYTES
  Read : List ℕ → PageRead → ReportLine
  -- NAME stall PAGE
  Stall : List ℕ → ℕ → ReportLine
  -- end
  End : ReportLine
  -- NAME target T held H ..
  Guest : List ℕ → GuestView → ReportLine
  -- machine N held H free F overhead O, of this host
  Machine : World → ReportLine

-- its text
abbrev pub text_of : ReportLine → List ℕ
text_of (Epoch k) = codes "epoch " ++ (decimal k ++ codes "\n")
text_of (Command line) = command_line line
text_of (Answer outcome) = outcome_lines outcome
text_of (Found state free) = state_line state free
text_of (Revoke name count) = move_line (codes "revoke") name count
text_of (Page name count) = move_line (codes "page") name count
text_of (Grant name count) = move_line (codes "grant") name count
text_of (Rebalance name count) = move_line (codes "rebalance") name count
text_of (Block name) = block_line name
text_of (Read name read) = read_line name read
text_of (Stall name page) = stall_line name page
text_of End = codes "end\n"
text_of (Guest name view) = guest_line name view
text_of (Machine w) = machine_line w

-- the texts of some lines, one behind the other
abbrev pub text_of_lines : List ReportLine → List ℕ
text_of_lines lines = flat_map text_of lines

-- ---- a boundary, which leaves this host

module _ (w : World) where
  -- what happens to guests: a line for each stretch of equal positions
  abbrev pub moved : (List ℕ → ℕ → ReportLine) → List ℕ → List ReportLine
  moved kind moves = map (λ stretch. kind (name_at w stretch.position) stretch.count) (stretches_of moves)

  -- the line, the revocations that it needed, and what became of it
  abbrev pub lines_of_answer : AnswerValue → List ReportLine
  lines_of_answer a = Command a.line ∷ (moved Revoke a.revocations ++ Answer a.outcome ∷ [])

  abbrev pub paged_at : Paged → ReportLine
  paged_at paged = Page (name_at w paged.position) paged.count

  abbrev pub blocked_at : ℕ → ReportLine
  blocked_at position = Block (name_at w position)

  -- all that the boundary before epoch k tells
  abbrev pub lines_of_boundary : ℕ → Boundary → List ReportLine
  lines_of_boundary k b =
      Epoch k ∷ (flat_map lines_of_answer b.answers ++ (Found b.state b.free ∷ (moved Revoke b.revoked
      ++ (map paged_at b.paged ++ (moved Grant b.granted ++ (moved Rebalance b.rebalanced ++ map blocked_at b.blocked))))))

-- ---- an epoch

abbrev pub reads_of : List ℕ → Option GuestRecord → List ReportLine
reads_of name None = []
reads_of name (Some g) = map (Read name) g.reads

abbrev pub stalls_of : List ℕ → Option ℕ → List ReportLine
stalls_of name None = []
stalls_of name (Some page) = Stall name page ∷ []

-- the reads of the guest at a position, and then its stall
abbrev pub lines_of_guest : World → ℕ → List ReportLine
lines_of_guest w position =
    reads_of (name_at w position) (guest_at w position) ++ stalls_of (name_at w position) (stalled_of (guest_at w position))

-- what the guests did in the epoch that leaves this host, in order
abbrev pub lines_of_epoch : World → List ReportLine
lines_of_epoch w = flat_map (lines_of_guest w) (positions w)

-- ---- the end

abbrev pub guest_at_end : List ℕ → Option GuestRecord → List ReportLine
guest_at_end name None = []
guest_at_end name (Some g) = Guest name (view_of g) ∷ []

abbrev pub lines_at_end : World → List ReportLine
lines_at_end w =
    End ∷ (flat_map (λ position. guest_at_end (name_at w position) (guest_at w position)) (positions w) ++ Machine w ∷ [])

-- ---- the run

-- the lines of epoch k of a course, and of the boundary before it
abbrev pub lines_at : Run → ℕ → List ReportLine
lines_at course k = lines_of_boundary (ready_in course k) k (told_in course k) ++ lines_of_epoch (after_in course k)

-- those of so many epochs
abbrev pub lines_before : Run → ℕ → List ReportLine
lines_before course zero = []
lines_before course (suc k) = lines_before course k ++ lines_at course k

abbrev pub lines_in : Run → List ReportLine
lines_in course = lines_before course course.epochs ++ lines_at_end (host_after course course.epochs)

-- the lines of the report of a configuration
abbrev pub lines_of : Config → List ReportLine
lines_of c = lines_in (course_of c)

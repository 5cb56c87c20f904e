-- The report of a run.
use Rattle.std.specs.Prelude.{ℕ, zero, suc, List, [], ◌++◌, codes, length, Option, Some, None, slice_get, unwrap_or}
use Rattle.std.specs.List.{flat_map, range_with_len}
use Rattle.std.specs.Fmt.{decimal}
use Rattle.vm_config.specs.declared.config.Config.{Config}
use Rattle.vm_guest.specs.Record.{GuestRecord}
use Rattle.vm_guest.specs.View.{view_of}
use Rattle.vm_host.specs.declared.boundary.Boundary.{Boundary}
use Rattle.vm_host.specs.Answers.{AnswerValue}
use Rattle.vm_host.specs.Readers.{overhead_frames}
use Rattle.vm_host.specs.World.{World, guest_at}
use Rattle.vm_plan.specs.declared.stretch.Stretch.{Stretch}
use Rattle.vm_plan.specs.Stretches.{stretches_of}
use Rattle.vm_pool.specs.Pool.{total_held}
use Rattle.vm_pool.specs.Readers.{stalled_of}
use Rattle.vm_reclaim.specs.declared.lists.Paged.{Paged}
use Rattle.vm_reclaim.specs.Policy.{Policy}
use Rattle.vm_runs.specs.Course.{Run, host_after}
use Rattle.vm_sim.specs.Course.{after_boundary, course_by, course_of, next_world, boundary_of_lines}
use Rattle.vm_sim.specs.Lines.{block_line, command_line, guest_line, move_line, outcome_lines, read_line, stall_line, state_line}

-- the positions of the domains
abbrev pub positions : World → List ℕ
positions w = range_with_len 0 (length w.names)

-- the name of the domain at a position
abbrev pub name_at : World → ℕ → List ℕ
name_at w position = unwrap_or (slice_get w.names position) []

-- ---- one boundary

-- what happens to the guest of a stretch of equal positions
abbrev pub stretch_line : List ℕ → World → Stretch → List ℕ
stretch_line move w stretch = move_line move (name_at w stretch.position) stretch.count

-- what happens to guests, one line for each stretch of equal positions
abbrev pub move_lines : List ℕ → World → List ℕ → List ℕ
move_lines move w moves = flat_map (stretch_line move w) (stretches_of moves)

-- the line, the revocations that it needed, and what became of it
unfoldable pub answer_lines : World → AnswerValue → List ℕ
answer_lines w a = command_line a.line ++ (move_lines (codes "revoke") w a.revocations ++ outcome_lines a.outcome)

-- a guest that gave up frames
abbrev pub page_line : World → Paged → List ℕ
page_line w paged = move_line (codes "page") (name_at w paged.position) paged.count

-- a guest that is blocked
abbrev pub block_line_at : World → ℕ → List ℕ
block_line_at w position = block_line (name_at w position)

-- what a boundary did: the number of its epoch, the answers to its lines, the state that it leaves, and what it took from guests and
-- gave to them
unfoldable pub boundary_text : ℕ → World → Boundary → List ℕ
boundary_text k w b =
    codes "epoch " ++ (decimal k ++ (codes "\n" ++ (flat_map (answer_lines w) b.answers
    ++ (state_line b.state b.free ++ (move_lines (codes "revoke") w b.revoked ++ (flat_map (page_line w) b.paged
    ++ (move_lines (codes "grant") w b.granted ++ (move_lines (codes "rebalance") w b.rebalanced
    ++ flat_map (block_line_at w) b.blocked))))))))

-- ---- one epoch

-- the reads of a guest, if it runs
abbrev pub read_lines : List ℕ → Option GuestRecord → List ℕ
read_lines name None = []
read_lines name (Some g) = flat_map (read_line name) g.reads

abbrev pub reads_at : World → ℕ → List ℕ
reads_at w position = read_lines (name_at w position) (guest_at w position)

-- the page on which a guest stalled in the epoch, if it runs and did
abbrev pub stall_lines : List ℕ → Option ℕ → List ℕ
stall_lines name None = []
stall_lines name (Some page) = stall_line name page

abbrev pub stall_at : World → ℕ → List ℕ
stall_at w position = stall_lines (name_at w position) (stalled_of (guest_at w position))

-- what a guest did in the epoch: its reads, in order, and then the page on which it stalled
abbrev pub shown_at : World → ℕ → List ℕ
shown_at w position = reads_at w position ++ stall_at w position

-- what the running guests did in an epoch, in order
unfoldable pub epoch_text : World → List ℕ
epoch_text w = flat_map (shown_at w) (positions w)

-- ---- the end

abbrev pub guest_lines : List ℕ → Option GuestRecord → List ℕ
guest_lines name None = []
guest_lines name (Some g) = guest_line name (view_of g)

abbrev pub lines_at_end : World → ℕ → List ℕ
lines_at_end w position = guest_lines (name_at w position) (guest_at w position)

unfoldable pub machine_line : World → List ℕ
machine_line w =
    codes "machine " ++ (decimal w.machine.frames ++ (codes " held " ++ (decimal (total_held w.pool.guests)
    ++ (codes " free " ++ (decimal w.pool.free ++ (codes " overhead " ++ (decimal (overhead_frames w) ++ codes "\n")))))))

-- each running guest, and the machine
unfoldable pub end_text : World → List ℕ
end_text w = codes "end\n" ++ (flat_map (lines_at_end w) (positions w) ++ machine_line w)

-- ---- a whole run

-- the report of the boundary before epoch k, which finds this host
unfoldable pub report_of_boundary : ℕ → Policy → List (List ℕ) → World → List ℕ
report_of_boundary k policy lines w = boundary_text k (after_boundary policy lines w) (boundary_of_lines policy lines w)

-- the report of epoch k: of its boundary, and of what its guests did
unfoldable pub report_of_epoch : ℕ → Policy → List (List ℕ) → World → List ℕ
report_of_epoch k policy lines w = report_of_boundary k policy lines w ++ epoch_text (next_world policy lines w)

-- the same of a course
abbrev pub report_at : Run → ℕ → List ℕ
report_at course k = report_of_epoch k course.policy (course.lines k) (host_after course k)

-- the report of the first epochs, so many of them
abbrev pub report_of_epochs : Run → ℕ → List ℕ
report_of_epochs course zero = []
report_of_epochs course (suc k) = report_of_epochs course k ++ report_at course k

-- the epochs, and the end
abbrev pub report_in : Run → List ℕ
report_in course = report_of_epochs course course.epochs ++ end_text (host_after course course.epochs)

-- the report of a configuration
abbrev pub report_of : Config → List ℕ
report_of c = report_in (course_of c)

-- the same by another policy
abbrev pub report_by : Policy → Config → List ℕ
report_by policy c = report_in (course_by policy c)

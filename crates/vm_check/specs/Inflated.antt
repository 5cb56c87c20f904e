-- Steps that touch a page which the trace put into the balloon and never takes out (OASIS VIRTIO 1.2, section 5.5.6): without a
-- driver of the guest's own the trace alone posts, and such a step waits to the end of the run.
use Rattle.std.specs.Prelude.{ℕ, ◌+◌, ◌&&◌, Bool, true, false, not, List, [], ◌∷◌, if◌then◌else◌, slice_get, unwrap_or, Option, Some, None}
use Rattle.std.specs.List.{fold}
use Rattle.vm_balloon.specs.Virtio.{page_numbers}
use Rattle.vm_guest.specs.Config.{GuestConfig}
use Rattle.vm_pages.specs.Pages.{contains, insert, insert_all, no_pages}
use Rattle.vm_trace.specs.declared.step.Action.{Action}
use Rattle.vm_trace.specs.declared.step.Action.TheVariants.{Read, Write, Touch, Free, Idle, Yield, Post, Actual}
use Rattle.vm_trace.specs.declared.step.Queue.{Queue}
use Rattle.vm_trace.specs.declared.step.Queue.TheVariants.{Inflate, Deflate, Stats}
use Rattle.vm_check.specs.declared.what.What.{What}
use Rattle.vm_check.specs.declared.what.What.TheVariants.{Inflated}

-- the step at a place; behind the last one nothing is done
abbrev pub action_at : List Action → ℕ → Action
action_at steps place = unwrap_or (slice_get steps place) Idle

abbrev pub is_same : Queue → Queue → Bool
is_same Inflate Inflate = true
is_same Inflate Deflate = false
is_same Inflate Stats = false
is_same Deflate Inflate = false
is_same Deflate Deflate = true
is_same Deflate Stats = false
is_same Stats Inflate = false
is_same Stats Deflate = false
is_same Stats Stats = true

-- the pages that a step posts to a queue
abbrev pub posted_by : Queue → Action → List ℕ
posted_by queue (Read page offset len) = []
posted_by queue (Write page offset bytes) = []
posted_by queue (Touch page) = []
posted_by queue (Free page) = []
posted_by queue Idle = []
posted_by queue Yield = []
posted_by queue (Post other bytes) = if is_same other queue then page_numbers bytes else []
posted_by queue (Actual pages) = []

-- the page that a step touches
abbrev pub touched_by : Action → Option ℕ
touched_by (Read page offset len) = Some page
touched_by (Write page offset bytes) = Some page
touched_by (Touch page) = Some page
touched_by (Free page) = None
touched_by Idle = None
touched_by Yield = None
touched_by (Post queue bytes) = None
touched_by (Actual pages) = None

-- a set of pages with one more, if there is one
abbrev pub with_page : List Bool → Option ℕ → List Bool
with_page pages None = pages
with_page pages (Some page) = insert pages page

-- a set of pages with those that a step posts to a queue
abbrev pub with_posts : Queue → List Bool → Action → List Bool
with_posts queue pages step = insert_all pages (posted_by queue step)

-- the pages of a guest of this size that steps take out
abbrev pub deflated_in : (size : ℕ) → List Action → List Bool
deflated_in size steps = fold (with_posts Deflate) (no_pages size) steps

-- the page, if it was put in and isn't taken out
abbrev pub if_stuck : (deflated inflated : List Bool) → Option ℕ → Option ℕ
if_stuck deflated inflated None = None
if_stuck deflated inflated (Some page) = if contains inflated page && not (contains deflated page) then Some page else None

abbrev pub stuck_page : (deflated inflated : List Bool) → Action → Option ℕ
stuck_page deflated inflated step = if_stuck deflated inflated (touched_by step)

-- a step of a number that touches such a page, or what is found of the others
abbrev pub stuck_or : (number : ℕ) → Option ℕ → Option What → Option What
stuck_or number (Some page) others = Some (Inflated number page)
stuck_or number None others = others

-- the first of these steps, whose numbers begin here, that touches such a page, where steps before put these pages in
abbrev pub first_stuck : (deflated inflated : List Bool) → (number : ℕ) → List Action → Option What
first_stuck deflated inflated number [] = None
first_stuck deflated inflated number (step ∷ steps) =
    stuck_or number (stuck_page deflated inflated step) (first_stuck deflated (with_posts Inflate inflated step) (number + 1) steps)

abbrev pub inflated_page : GuestConfig → Option What
inflated_page c = if c.own_driver then None else first_stuck (deflated_in c.size c.trace) (no_pages c.size) 0 c.trace

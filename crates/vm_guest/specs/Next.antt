-- The next step of a guest's trace, by what it does and by its bytes.
use Rattle.std.specs.Prelude.{ℕ, List, Option, Some, None}
use Rattle.vm_trace.specs.declared.kind.StepKind.{StepKind}
use Rattle.vm_trace.specs.declared.step.Action.{Action}
use Rattle.vm_trace.specs.declared.step.Action.TheVariants.{Read, Write, Touch, Free, Idle, Yield, Post, Actual}
use Rattle.vm_trace.specs.Kinds.{bytes_in, with_bytes}
use Rattle.vm_guest.specs.Record.{GuestRecord}

-- the bytes that the next step brings along
abbrev pub next_bytes : GuestRecord → List ℕ
next_bytes g = bytes_in g.config.trace g.progress.position

-- the next step, where it is of this kind
abbrev pub next_of : GuestRecord → StepKind → Action
next_of g kind = with_bytes kind (next_bytes g)

-- the page that an action touches
abbrev pub page_of : Action → Option ℕ
page_of (Read page offset len) = Some page
page_of (Write page offset bytes) = Some page
page_of (Touch page) = Some page
page_of (Free page) = None
page_of Idle = None
page_of Yield = None
page_of (Post queue bytes) = None
page_of (Actual pages) = None

-- What a step does and the bytes that it brings along, apart.
use Rattle.std.specs.Prelude.{ℕ, List, slice_get, unwrap_or}
use Rattle.vm_trace.specs.declared.kind.StepKind.{StepKind}
use Rattle.vm_trace.specs.declared.kind.StepKind.TheVariants as kind
use Rattle.vm_trace.specs.declared.step.Action.{Action}
use Rattle.vm_trace.specs.declared.step.Action.TheVariants.{Read, Write, Touch, Free, Idle, Yield, Post, Actual}
use Rattle.vm_trace.specs.Entries.{bytes_of}

-- the action of a step of this kind, with these bytes where it brings some along
abbrev pub with_bytes : StepKind → List ℕ → Action
with_bytes (kind.Read page offset len) bytes = Read page offset len
with_bytes (kind.Write page offset) bytes = Write page offset bytes
with_bytes (kind.Touch page) bytes = Touch page
with_bytes (kind.Free page) bytes = Free page
with_bytes kind.Idle bytes = Idle
with_bytes kind.Yield bytes = Yield
with_bytes (kind.Post queue) bytes = Post queue bytes
with_bytes (kind.Actual pages) bytes = Actual pages

-- the bytes that the step at a place brings along
abbrev pub bytes_in : List Action → ℕ → List ℕ
bytes_in steps place = bytes_of (unwrap_or (slice_get steps place) Idle)

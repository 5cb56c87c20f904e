-- What is true of every step.
use Rattle.std.specs.Prelude.{ℕ, ◌+◌, ◌<◌, ◌≤◌, ⊤, length}
use Rattle.vm_trace.specs.declared.step.Action.{Action}
use Rattle.vm_trace.specs.declared.step.Action.TheVariants.{Read, Write, Touch, Free, Idle, Yield, Post, Actual}

-- the pages of the greatest guest
abbrev pub most_pages : ℕ
most_pages = 262144

-- the most steps of a trace that is read from texts
abbrev pub most_steps : ℕ
most_steps = 1000000

-- the page of the action, if it has one, is one of a guest with this many pages
abbrev pub IsWithin : ℕ → Action → Type 0
IsWithin pages (Read page offset len) = page < pages
IsWithin pages (Write page offset bytes) = page < pages
IsWithin pages (Touch page) = page < pages
IsWithin pages (Free page) = page < pages
IsWithin pages Idle = ⊤
IsWithin pages Yield = ⊤
IsWithin pages (Post queue bytes) = ⊤
IsWithin pages (Actual told) = ⊤

-- 1 to 16 bytes from an offset on lie in one page of 4096 bytes
pub record IsAccess (offset len : ℕ) : Type 0 where
  pub some : 1 ≤ len
  pub few : len ≤ 16
  pub inside : offset + len ≤ 4096

-- a raw buffer has 1 to 1024 bytes
pub record IsBuffer (len : ℕ) : Type 0 where
  pub some : 1 ≤ len
  pub few : len ≤ 1024

-- the bytes that the action reads, writes or posts are as many as a step may have
abbrev pub HasFewBytes : Action → Type 0
HasFewBytes (Read page offset len) = IsAccess offset len
HasFewBytes (Write page offset bytes) = IsAccess offset (length bytes)
HasFewBytes (Touch page) = ⊤
HasFewBytes (Free page) = ⊤
HasFewBytes Idle = ⊤
HasFewBytes Yield = ⊤
HasFewBytes (Post queue bytes) = IsBuffer (length bytes)
HasFewBytes (Actual pages) = ⊤

-- the limits of a step, whatever the size of its guest
pub record IsStep (action : Action) : Type 0 where
  pub page : IsWithin most_pages action
  pub bytes : HasFewBytes action

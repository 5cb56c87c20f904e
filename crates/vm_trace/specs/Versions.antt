-- What the versions of texts differ in.
use Rattle.std.specs.Prelude.{ℕ, if◌then◌else◌, false}
use Rattle.vm_trace.specs.declared.limits.StepLimits.{StepLimits}

-- the limits of versions 1 and 2, in which a guest has at most so many pages
abbrev pub before_3 : ℕ → StepLimits
before_3 pages = record { pages = pages; version_3 = false }

-- the most bytes of a raw buffer
abbrev pub most_posted : StepLimits → ℕ
most_posted limits = if limits.version_3 then 1024 else 64

-- The guest that accesses make.
use Rattle.std.specs.Prelude.{ℕ, ◌+◌, ◌/◌, List, length, min}
use Rattle.std.specs.Option.{option_map_or}
use Rattle.vm_import.specs.declared.access.Access.{Access}
use Rattle.vm_import.specs.Kept.{first_touches}
use Rattle.vm_import.specs.Intervals.{intervals_of, kept_in, rounded_up}
use Rattle.vm_import.specs.Settings.{Settings}
use Rattle.vm_import.specs.Steps.{trace_of}
use Rattle.vm_import.specs.Touched.{touches_in}

pub record Guest : Type 0 where
  -- its pages
  pub size : ℕ
  -- its steps, as texts
  pub trace : List (List ℕ)

-- the guest that touches memory as the accesses do
unfoldable pub guest_of : Settings → List Access → Guest
guest_of settings accesses = record {
  size = length (first_touches (touches_in settings.has_code accesses));
  trace = trace_of settings.quantum (kept_in settings.has_code (intervals_of settings.interval accesses));
}

-- its minimum: what is said, at most its size, or half of its size, rounded up
abbrev pub min_of : Settings → ℕ → ℕ
min_of settings size = option_map_or (λ pages. min pages size) settings.min ((size + 1) / 2)

-- the frames of a machine that has room for it
abbrev pub frames_for : ℕ → ℕ
frames_for size = min (size + size / 10 + 1) 262144

-- the epochs of so many steps
abbrev pub epochs_of : (quantum steps : ℕ) → ℕ
epochs_of quantum steps = rounded_up steps quantum

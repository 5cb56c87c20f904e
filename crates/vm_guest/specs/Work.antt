-- How long a guest's next epoch takes, by what can be seen before it: an estimate, in nanoseconds but for the steps.
use Rattle.std.specs.Prelude.{ℕ, ◌+◌, ◌-◌, ◌*◌, ◌/◌, ◌==◌, if◌then◌else◌, length, max, min}
use Rattle.vm_pages.specs.Pages.{count}
use Rattle.vm_guest.specs.Memory.{resident, spares, swapped}
use Rattle.vm_guest.specs.Record.{GuestRecord, ballooned, free_pages}
use Rattle.vm_guest.specs.declared.work.WorkAhead.{WorkAhead}

-- how many steps of its trace are in the guest's next epoch, if it neither stalls nor is blocked
abbrev pub steps_ahead : GuestRecord → ℕ
steps_ahead g = min (length g.config.trace - g.progress.position) g.config.quantum

-- the pages that it touched and hasn't given up to its balloon since
abbrev pub touched : GuestRecord → ℕ
touched g = resident g.memory + swapped g.memory

-- how many of the steps page: of a guest at its first step those beyond its frames, since it touches new pages, and else as many of
-- them as of its pages are in its swap area
abbrev pub paging_ahead : GuestRecord → ℕ
paging_ahead g = if g.progress.position == 0 then steps_ahead g - spares g.memory else steps_ahead g * swapped g.memory / max 1 (touched g)

-- the steps, of which one that pages takes as long as four
abbrev pub weighed_steps : GuestRecord → ℕ
weighed_steps g = steps_ahead g + 3 * paging_ahead g

-- how many draws the sampler makes for them
abbrev pub draws_ahead : GuestRecord → ℕ
draws_ahead g = steps_ahead g * g.config.samples / g.config.period

-- how many of its pages are cleared for the first step of all
abbrev pub cleared_ahead : GuestRecord → ℕ
cleared_ahead g = if g.progress.position == 0 then g.config.size else 0

-- what the steps take beside finding and changing pages
abbrev pub beside_steps : GuestRecord → ℕ
beside_steps g = 3 * draws_ahead g + cleared_ahead g

-- how many pages its driver puts into the balloon, of those that are free, or takes out of it
abbrev pub pages_ahead : GuestRecord → ℕ
pages_ahead g = min g.config.rate (max (min (g.device.num_pages - ballooned g) (count (free_pages g))) (ballooned g - g.device.num_pages))

-- a number of a guest that has steps ahead, and 0 of any other
abbrev pub with_steps : GuestRecord → ℕ → ℕ
with_steps g number = if steps_ahead g == 0 then 0 else number

-- all of it
abbrev pub work_ahead : GuestRecord → WorkAhead
work_ahead g = record { steps = with_steps g (weighed_steps g); pages = with_steps g (touched g); beside = with_steps g (beside_steps g) + 10 * pages_ahead g }

-- On how many threads an epoch is worth being run, by an estimate in nanoseconds: for private contracts alone.
use Rattle.std.specs.Prelude.{ℕ, ◌+◌, ◌-◌, ◌*◌, ◌/◌, min}
use Rattle.vm_guest.specs.Record.{GuestRecord}
use Rattle.vm_guest.specs.Work.{work_ahead}
use Rattle.vm_pool.specs.Guests.{Guests, total}
use Rattle.vm_pool.specs.Pool.{running_count}

abbrev pub steps_of : GuestRecord → ℕ
steps_of g = (work_ahead g).steps

abbrev pub pages_of : GuestRecord → ℕ
pages_of g = (work_ahead g).pages

abbrev pub beside_of : GuestRecord → ℕ
beside_of g = (work_ahead g).beside

-- a step: the more pages the guests touched that have steps, the fewer of them the processor's caches have
abbrev pub step_time : ℕ → ℕ
step_time pages = 25 + min 175 (pages / 1000)

-- how long the epochs of all guests take beyond twice what it takes to move the boxes of the guests into a round and back, since two
-- threads save half of the epochs
abbrev pub gain_of : Guests → ℕ
gain_of guests = total steps_of guests * step_time (total pages_of guests) + total beside_of guests - 200 * running_count guests

-- what so many threads have to gain so that the last of them saves twice its start, of 45000
abbrev pub start_of : ℕ → ℕ
start_of threads = threads * (threads - 1) * 90000

-- What a boundary tells of one guest, by its position.
use Rattle.std.specs.Prelude.{ℕ, ◌+◌, ◌==◌, List, if◌then◌else◌}
use Rattle.vm_host.specs.declared.boundary.Boundary.{Boundary}
use Rattle.vm_host.specs.Answers.{AnswerValue}
use Rattle.vm_reclaim.specs.declared.lists.Paged.{Paged}
use Rattle.vm_tally.specs.Counting.{sum_each}

-- 1 where an entry names the guest
abbrev pub one_of : (position : ℕ) → ℕ → ℕ
one_of position entry = if entry == position then 1 else 0

-- how many entries of a list name it
abbrev pub entries_of : (position : ℕ) → List ℕ → ℕ
entries_of position entries = sum_each (one_of position) entries

-- the entries of the revocations for a line that name it
abbrev pub revoked_for : (position : ℕ) → AnswerValue → ℕ
revoked_for position answer = entries_of position answer.revocations

-- the entries of all revocations that name it, those for lines first
abbrev pub revoked_from : (position : ℕ) → Boundary → ℕ
revoked_from position b = sum_each (revoked_for position) b.answers + entries_of position b.revoked

-- the frames that it gave up, where it is the guest that gave up frames
abbrev pub given_up_by : (position : ℕ) → Paged → ℕ
given_up_by position paged = if paged.position == position then paged.count else 0

-- the frames that it gave up in paging, spares too
abbrev pub paged_by : (position : ℕ) → Boundary → ℕ
paged_by position b = sum_each (given_up_by position) b.paged

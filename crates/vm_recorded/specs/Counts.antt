-- What the epochs of a guest come to, counted one after the other.
use Rattle.std.specs.Prelude.{ℕ, zero, suc, ◌+◌, List, [], ◌∷◌, length, map, max, Option, None}
use Rattle.vm_recorded.specs.declared.counts.Counts.{Counts}
use Rattle.vm_recorded.specs.Hosts.{GuestView}
use Rattle.vm_recorded.specs.Parts.{ended_steps}
use Rattle.vm_recorded.specs.Traces.{epoch_of, longest_from, steps_from, steps_in, trace_of, used_after}

-- the use in the last epoch that has one
abbrev pub last_from : (last : ℕ) → (uses : List (Option ℕ)) → ℕ
last_from last [] = last
last_from last (used ∷ uses) = last_from (used_after last used) uses

-- what the steps of an epoch take in the text, with their commas
unfoldable pub bytes_in : (last : ℕ) → (used : Option ℕ) → ℕ
bytes_in last used = length (ended_steps (epoch_of last used))

-- what epochs come to
unfoldable pub counts_of : (uses : List (Option ℕ)) → Counts
counts_of uses = record {
  last = last_from 0 uses;
  steps = steps_from 0 uses;
  longest = longest_from 0 uses;
  bytes = length (ended_steps (trace_of uses));
}

-- with one epoch more
abbrev pub counted : Counts → (used : Option ℕ) → Counts
counted counts used = record {
  last = used_after counts.last used;
  steps = counts.steps + steps_in counts.last used;
  longest = max counts.longest (steps_in counts.last used);
  bytes = counts.bytes + bytes_in counts.last used;
}

-- with so many epochs more in which it has no use
unfoldable pub absent_for : (epochs : ℕ) → Counts → Counts
absent_for zero counts = counts
absent_for (suc epochs) counts = absent_for epochs (counted counts None)

-- those of all guests
abbrev pub counts_for : List GuestView → List Counts
counts_for guests = map (λ g. counts_of g.uses) guests

-- The course of a run: its boundaries and epochs, one after the other, with one worker that serves the guests in order.
use Rattle.std.specs.Prelude.{ℕ, zero, suc, List, [], map}
use Rattle.vm_domains.specs.Domains.{Domain}
use Rattle.vm_domains.specs.Machine.{MachineConfig}
use Rattle.vm_host.specs.Boundary.{past_boundary_by, opened_boundary}
use Rattle.vm_host.specs.Epoch.{after_epoch}
use Rattle.vm_host.specs.History.{history_after_epoch, history_after_lines, history_after_service}
use Rattle.vm_host.specs.World.{World, first_world, with_pool}
use Rattle.vm_pool.specs.Guests.{Guests}
use Rattle.vm_reclaim.specs.Policy.{Policy, policy_of}
use Rattle.vm_sound.specs.Written.{History}

-- ---- the guests of a host

abbrev pub guests_of : World → Guests
guests_of w = w.pool.guests

abbrev pub with_guests : World → Guests → World
with_guests w guests = with_pool w (record w.pool { guests = guests })

-- ---- a run

-- what a run depends on
pub record Run : Type 0 where
  -- the numbers by which the host decides
  pub policy : Policy
  -- the lines of the boundary before each epoch
  pub lines : ℕ → List (List ℕ)
  -- the host before the first epoch
  pub first : World
  -- how many epochs it has
  pub epochs : ℕ

-- the host after so many epochs, each with the boundary before it
abbrev pub host_after : Run → ℕ → World
host_after r zero = r.first
host_after r (suc k) = after_epoch (past_boundary_by r.policy (host_after r k) (r.lines k))

-- the host that the last of so many boundaries leaves
abbrev pub host_left : Run → ℕ → World
host_left r zero = r.first
host_left r (suc k) = past_boundary_by r.policy (host_after r k) (r.lines k)

-- ---- what happened

-- nothing happened to any guest
abbrev pub no_history : Guests → History
no_history guests = map (λ _. []) guests

-- what happened to each guest, once a boundary with these lines is done: its device was served, and the lines were obeyed
abbrev pub history_by : Policy → World → List (List ℕ) → History → History
history_by policy w lines h = history_after_lines policy (opened_boundary w) (history_after_service (guests_of w) h) lines

-- what happened to each guest in so many epochs
abbrev pub history_after : Run → ℕ → History
history_after r zero = no_history (guests_of r.first)
history_after r (suc k) =
    history_after_epoch (guests_of (host_left r (suc k))) (history_by r.policy (host_after r k) (r.lines k) (history_after r k))

-- what happened to each guest, once the last of so many boundaries is done
abbrev pub history_left : Run → ℕ → History
history_left r zero = no_history (guests_of r.first)
history_left r (suc k) = history_by r.policy (host_after r k) (r.lines k) (history_after r k)

-- ---- the runs of a machine

-- the run of a machine and its domains by a policy, with these lines at the boundary before epoch k
abbrev pub run_by : Policy → MachineConfig → List Domain → (ℕ → List (List ℕ)) → ℕ → Run
run_by policy machine domains lines epochs = record {
  policy = policy;
  lines = lines;
  first = first_world machine domains;
  epochs = epochs;
}

-- by that of its machine
abbrev pub run_of : MachineConfig → List Domain → (ℕ → List (List ℕ)) → ℕ → Run
run_of machine domains lines epochs = run_by (policy_of machine) machine domains lines epochs

-- What holds of a run where one worker serves the guests in order.
use Rattle.std.specs.Prelude.{◌≡◌, ℕ, ◌≤◌, List, [], Some, length, slice_get}
use Rattle.vm_board.specs.Values.{values}
use Rattle.vm_domains.specs.Domains.{Domain}
use Rattle.vm_domains.specs.Limits.{AreWithinLimits}
use Rattle.vm_domains.specs.Machine.{MachineConfig, IsMachine}
use Rattle.vm_guest.specs.Epoch.{epoch}
use Rattle.vm_guest.specs.Happenings.{Happening, epoch_happenings, reads_by}
use Rattle.vm_guest.specs.Record.{GuestRecord}
use Rattle.vm_host.specs.declared.phase.Phase.TheVariants.{Waiting}
use Rattle.vm_host.specs.Sound.{IsSoundWorld}
use Rattle.vm_host.specs.World.{World, Conserves}
use Rattle.vm_runs.specs.Course.{Run, guests_of, history_after, history_left, host_after, host_left, run_of}
use Rattle.vm_sound.specs.Written.{History, happenings_at, IsKnown, IsOrdered}

-- frames add up, and this is true of each running guest and of what happened to it
pub record IsHost (P : List Happening → GuestRecord → Type 0) (w : World) (h : History) : Type 0 where
  pub conserves : Conserves w
  pub guests : (position : ℕ) (g : GuestRecord) → slice_get (guests_of w) position ≡ Some (Some g) → P (happenings_at h position) g

-- what holds of a run of one worker, at each boundary and after each epoch
pub record IsServed (r : Run) : Type 0 where
  -- it begins with no guest
  pub none_runs : values (guests_of r.first) ≡ []
  pub waits : r.first.phase ≡ Waiting
  -- after each epoch all is true of the host that is true of each host
  pub sound : (k : ℕ) → IsSoundWorld (host_after r k)
  pub left_right : (k : ℕ) → IsHost IsOrdered (host_left r k) (history_left r k)
  pub after_right : (k : ℕ) → IsHost IsKnown (host_after r k) (history_after r k)
  -- each byte that is read in an epoch is that of the last write
  pub reads : (k position : ℕ) (g : GuestRecord) → slice_get (guests_of (host_left r k)) position ≡ Some (Some g)
      → (epoch g).reads ≡ reads_by (happenings_at (history_left r k) position) (epoch_happenings g)

-- The law of one worker's runs.
abbrev pub LawOfCourse : Type 0
LawOfCourse =
    (machine : MachineConfig) (domains : List Domain) (lines : ℕ → List (List ℕ)) (epochs : ℕ)
    → IsMachine machine
    → AreWithinLimits domains
    → length domains ≤ 256
    → IsServed (run_of machine domains lines epochs)

-- What holds of the run of a configuration, whatever the configuration.
use Rattle.std.specs.Prelude.{◌≡◌, ℕ, suc, List, Option, Some, None}
use Rattle.std.specs.Option.{option_map}
use Rattle.vm_config.specs.declared.config.Config.{Config}
use Rattle.vm_guest.specs.declared.reads.PageRead.{PageRead}
use Rattle.vm_guest.specs.Happenings.{Happening, epoch_happenings, reads_by}
use Rattle.vm_guest.specs.Record.{GuestRecord}
use Rattle.vm_host.specs.Fairness.{IsFairBoundary, IsFairRebalancing}
use Rattle.vm_host.specs.World.{World, Conserves, guest_at}
use Rattle.vm_reclaim.specs.Policy.{policy_of}
use Rattle.vm_runs.specs.Course.{history_left}
use Rattle.vm_sound.specs.Written.{History, happenings_at}
use Rattle.vm_sim.specs.Course.{course_of, lines_at, ready_world, world_after}

-- frames free, held by guests and set aside for them add up to the machine, at each boundary and after each epoch
pub record ConservesFrames (c : Config) : Type 0 where
  pub boundaries : (k : ℕ) → Conserves (ready_world c k)
  pub epochs : (k : ℕ) → Conserves (world_after c k)

-- each revocation takes from a guest above its minimum whose adjusted ratio of shares to pages is least
pub record RevokesFairly (c : Config) : Type 0 where
  pub boundaries : (k : ℕ) → IsFairBoundary (policy_of c.machine) (world_after c k) (lines_at c k)

-- each page that moves at a boundary is given by a guest above its minimum and above what it uses, whose adjusted ratio of shares to pages
-- is least of those that are, where those that take count as having what was given for them
pub record RebalancesFairly (c : Config) : Type 0 where
  pub boundaries : (k : ℕ) → IsFairRebalancing (policy_of c.machine) (world_after c k) (lines_at c k)

-- what happened to each guest before epoch k, once the boundary before it is done
abbrev pub history_ready : Config → ℕ → History
history_ready c k = history_left (course_of c) (suc k)

-- the reads of the guest at a position that a host shows, if one runs there
abbrev pub reads_shown : World → ℕ → Option (List PageRead)
reads_shown w position = option_map (λ g. g.reads) (guest_at w position)

-- the reads of an epoch of a guest, if one runs: each byte is that of the last write before it
abbrev pub reads_of_last_writes : List Happening → Option GuestRecord → Option (List PageRead)
reads_of_last_writes before None = None
reads_of_last_writes before (Some g) = Some (reads_by before (epoch_happenings g))

-- each read that is shown after an epoch gives the last write before it; a start, a free of a page and an accepted inflate of it write
-- zeros
pub record ReadsLastWrites (c : Config) : Type 0 where
  pub epochs : (k position : ℕ) → reads_shown (world_after c (suc k)) position
      ≡ reads_of_last_writes (happenings_at (history_ready c k) position) (guest_at (ready_world c k) position)

-- What holds of the run of a configuration, from the laws of runs and of boundaries.
use Rattle.std.proofs.Common.{◌≡◌, ℕ, suc, List, Option, Some, None, refl, ap, ◌∙◌, subst, slice_get}
use Rattle.std.proofs.lemmas.Option.{slice_get-map}
use Rattle.std.specs.Option.{option_map}
use Rattle.vm_config.specs.declared.config.Config.{Config}
use Rattle.vm_config.specs.Limits.{IsConfig}
use Rattle.vm_domains.specs.Machine.{MachineConfig}
use Rattle.vm_guest.specs.Epoch.{epoch}
use Rattle.vm_guest.specs.Happenings.{Happening, epoch_happenings, reads_by}
use Rattle.vm_guest.specs.Record.{GuestRecord}
use Rattle.vm_host.specs.Fairness.{IsFairBoundary, IsFairRebalancing}
use Rattle.vm_host.specs.Sound.{IsSoundWorld}
use Rattle.vm_host.specs.World.{World, guest_at}
use Rattle.vm_pool.specs.Guests.{Guests, each_changed, guest_in, running}
use Rattle.vm_reclaim.specs.Policy.{policy_of}
use Rattle.vm_runs.specs.Served.{IsServed, LawOfCourse}
use Rattle.vm_sound.specs.Written.{happenings_at}
use Rattle.vm_sim.proofs.CourseLemmas.{machine-in}
use Rattle.vm_sim.specs.Course.{course_of, lines_at, ready_world, world_after}
use Rattle.vm_sim.specs.Headline.{ConservesFrames, ReadsLastWrites, RebalancesFairly, RevokesFairly, history_ready, reads_of_last_writes, reads_shown}

module _ (c : Config) (is : IsConfig c) (law : LawOfCourse) where
  served : IsServed (course_of c)
  served = law c.machine c.domains (lines_at c) c.epochs is.machine is.domains is.few

  pub adds-up : ConservesFrames c
  adds-up = record {
    boundaries = λ k. (let left = served.left_right (suc k) in left.conserves);
    epochs = λ k. (let after = served.after_right k in after.conserves);
  }

  pub revokes-fairly : ((w : World) (lines : List (List ℕ)) → IsSoundWorld w → IsFairBoundary (policy_of w.machine) w lines) → RevokesFairly c
  revokes-fairly fair = record {
    boundaries = λ k.
        subst (λ (m : MachineConfig). IsFairBoundary (policy_of m) (world_after c k) (lines_at c k)) (machine-in (course_of c) k)
        (fair (world_after c k) (lines_at c k) (served.sound k));
  }

  pub rebalances-fairly : ((w : World) (lines : List (List ℕ)) → IsSoundWorld w → IsFairRebalancing (policy_of w.machine) w lines) → RebalancesFairly c
  rebalances-fairly fair = record {
    boundaries = λ k.
        subst (λ (m : MachineConfig). IsFairRebalancing (policy_of m) (world_after c k) (lines_at c k)) (machine-in (course_of c) k)
        (fair (world_after c k) (lines_at c k) (served.sound k));
  }

-- ---- reads

running-epoch : (entry : Option (Option GuestRecord)) → running (option_map (option_map epoch) entry) ≡ option_map epoch (running entry)
running-epoch None = refl
running-epoch (Some guest) = refl

-- the guest at a position after an epoch
epoch_at : (guests : Guests) (position : ℕ) → guest_in (each_changed epoch guests) position ≡ option_map epoch (guest_in guests position)
epoch_at guests position = ap running (slice_get-map (option_map epoch) guests position) ∙ running-epoch (slice_get guests position)

-- the entry at a position, where a guest runs there
entry_of : (entry : Option (Option GuestRecord)) (g : GuestRecord) → running entry ≡ Some g → entry ≡ Some (Some g)
entry_of None g is = absurd cc
entry_of (Some guest) g is = ap Some is

shown-reads : (before : List Happening) (guest : Option GuestRecord)
    → ((g : GuestRecord) → guest ≡ Some g → (epoch g).reads ≡ reads_by before (epoch_happenings g))
    → option_map (λ g. g.reads) (option_map epoch guest) ≡ reads_of_last_writes before guest
shown-reads before None reads = refl
shown-reads before (Some g) reads = ap Some (reads g refl)

module _ (c : Config) (is : IsConfig c) (law : LawOfCourse) where
  reads_at_epoch : (k position : ℕ) → reads_shown (world_after c (suc k)) position
      ≡ reads_of_last_writes (happenings_at (history_ready c k) position) (guest_at (ready_world c k) position)
  reads_at_epoch k position =
      let runs = served c is law in
      let guests = (ready_world c k).pool.guests in
      ap (option_map (λ g. g.reads)) (epoch_at guests position)
      ∙ shown-reads (happenings_at (history_ready c k) position) (guest_in guests position)
      (λ g here. runs.reads (suc k) position g (entry_of (slice_get guests position) g here))

  pub reads-last-writes : ReadsLastWrites c
  reads-last-writes = record { epochs = reads_at_epoch }

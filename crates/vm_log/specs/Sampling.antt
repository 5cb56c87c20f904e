-- A recording with one sample more, and without its open epoch: for private contracts alone.
use Rattle.std.specs.Prelude.{◌≡◌, ℕ, ◌+◌, ◌-◌, ◌==◌, ◌≤◌, List, length, map, if◌then◌else◌}
use Rattle.vm_samples.specs.Policies.{PolicyView}
use Rattle.vm_steer.specs.Entries.{EntryView, names_in}
use Rattle.vm_steer.specs.Names.{AreRising}
use Rattle.vm_log.specs.declared.recording.Recording.{Recording}
use Rattle.vm_log.specs.Growing.{growing_in}
use Rattle.vm_log.specs.Steps.{all_taken_back, alone_back, alone_names, counted_all, kept_all, kept_alone, names_of, raised_all, raised_alone, with_entries}
use Rattle.vm_log.specs.Told.{AreFew, AreKeptSmall, AreSmall}

-- how many epochs have ended
abbrev pub ended_by : (open_ epochs : ℕ) → ℕ
ended_by open_ epochs = if open_ == 0 then epochs else epochs - 1

-- what a recording has to be like for one sample more
pub record IsReady (r : Recording) : Type 0 where
  pub guests : AreRising (names_of r.guests.items)
  pub beside : AreRising (alone_names r.beside.items)
  pub kept : length r.kept.items ≡ length r.guests.items
  pub counts : length r.counts.items ≡ length r.guests.items
  pub few : r.epochs ≤ 10000
  pub open_few : r.open ≤ 10000
  pub small : AreKeptSmall (ended_by r.open r.epochs) r.kept.items

-- .. and a sample
pub record IsUsable (entries : List EntryView) : Type 0 where
  pub rising : AreRising (names_in entries)
  pub few : AreFew entries

pub record HasAdded (policy : PolicyView) (entries : List EntryView) (old new : Recording) : Type 0 where
  pub kept : new.kept.items ≡ (with_entries policy old.epochs (ended_by old.open old.epochs) entries (growing_in old)).kept
  pub guests : new.guests.items ≡ raised_all policy.most (ended_by old.open old.epochs) entries new.kept.items
      (with_entries policy old.epochs (ended_by old.open old.epochs) entries (growing_in old)).guests
  pub counts : new.counts.items ≡ counted_all (ended_by old.open old.epochs) new.kept.items new.guests.items
  pub beside : new.beside.items ≡ map (raised_alone entries) (with_entries policy old.epochs (ended_by old.open old.epochs) entries (growing_in old)).beside
  pub epochs : new.epochs ≡ ended_by old.open old.epochs + 1
  pub open_is : new.open ≡ old.open + 1
  pub small : AreSmall new.epochs new.counts.items
  pub kept_small : AreKeptSmall (ended_by old.open old.epochs) new.kept.items

pub record HasKept (old new : Recording) : Type 0 where
  pub guests : new.guests.items ≡ old.guests.items
  pub counts : new.counts.items ≡ old.counts.items
  pub kept : new.kept.items ≡ kept_all old.guests.items old.counts.items old.kept.items
  pub beside : new.beside.items ≡ map kept_alone old.beside.items
  pub epochs : new.epochs ≡ old.epochs
  pub open_is : new.open ≡ 0

pub record HasTakenBack (policy : PolicyView) (old new : Recording) : Type 0 where
  pub guests : new.guests.items ≡ all_taken_back policy.most old.kept.items old.guests.items
  pub beside : new.beside.items ≡ map alone_back old.beside.items
  pub epochs : new.epochs ≡ ended_by old.open old.epochs

-- What a recording is of the samples that it took: for private contracts alone.
use Rattle.std.specs.Prelude.{◌≡◌, ℕ, ◌+◌, ◌*◌, ◌<◌, ◌≤◌, not, List, ◌++◌, length, map, min, None}
use Rattle.vm_recorded.specs.Counts.{counts_for, counts_of}
use Rattle.vm_recorded.specs.Limits.{limit_with_bytes}
use Rattle.vm_samples.specs.Policies.{PolicyView}
use Rattle.vm_steer.specs.Entries.{EntryView}
use Rattle.vm_steer.specs.Look.{rules_of}
use Rattle.vm_log.specs.declared.kept.Kept.{Kept}
use Rattle.vm_log.specs.declared.recording.Recording.{Recording}
use Rattle.vm_log.specs.Alone.{AloneView}
use Rattle.vm_log.specs.HostOf.{guest_of, host_of, is_among}
use Rattle.vm_log.specs.Judging.{AreShort}
use Rattle.vm_log.specs.NamesSeen.{guest_names, left_names}
use Rattle.vm_log.specs.Seen.{most_left}
use Rattle.vm_log.specs.Told.{AreKeptSmall, AreSmall}

-- what is kept of a guest by the samples of all epochs that have ended
abbrev pub kept_for : PolicyView → (every : ℕ) → (closed : List (List EntryView)) → (name : List ℕ) → Kept
kept_for policy every closed name =
    let g = guest_of policy every closed name in
    record {
      rules = rules_of policy.guests name;
      is_new = not (is_among (guest_names closed) name);
      first = g.first;
      size = g.size;
      length = length g.uses;
      counts = counts_of g.uses;
    }

abbrev pub alone_for : (closed all : List (List EntryView)) → (name : List ℕ) → AloneView
alone_for closed all name = record { name = name; before = most_left name closed; most = most_left name all }

-- it is of the samples of so many epochs that have ended, and of those of the open one
pub record IsRecorded (policy : PolicyView) (every ended : ℕ) (closed opened : List (List EntryView)) (r : Recording) : Type 0 where
  pub whole : length closed ≡ ended * every
  pub open_is : r.open ≡ length opened
  pub fits : length opened ≤ every
  pub epochs_is : r.epochs ≡ ended + min 1 (length opened)
  pub few : r.epochs ≤ 10001
  pub guests : r.guests.items ≡ map (guest_of policy every (closed ++ opened)) (guest_names (closed ++ opened))
  pub kept : r.kept.items ≡ map (kept_for policy every closed) (guest_names (closed ++ opened))
  pub counts : r.counts.items ≡ counts_for r.guests.items
  pub beside : r.beside.items ≡ map (alone_for closed (closed ++ opened)) (left_names (closed ++ opened))
  pub short : AreShort r.guests.items
  pub small : AreSmall r.epochs r.counts.items
  pub kept_small : AreKeptSmall ended r.kept.items

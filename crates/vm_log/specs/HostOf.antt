-- The host that samples tell of.
use Rattle.std.specs.Prelude.{ℕ, ◌+◌, ◌-◌, Bool, List, [], ◌∷◌, bytes_eq, length, map, max, unwrap_or, if◌then◌else◌}
use Rattle.std.specs.List.{list_any}
use Rattle.vm_recorded.specs.Hosts.{GuestView, HostView}
use Rattle.vm_samples.specs.Policies.{PolicyView}
use Rattle.vm_steer.specs.Entries.{EntryView}
use Rattle.vm_steer.specs.Look.{bounds_at, rules_of}
use Rattle.vm_log.specs.Epochs.{absent_first, epochs_of, uses_of, without_end, without_front}
use Rattle.vm_log.specs.NamesSeen.{guest_names, left_names}
use Rattle.vm_log.specs.Seen.{most_left, size_in}

-- a guest: its minimum, its cap and its shares are those of the policy at its greatest size
unfoldable pub guest_of : PolicyView → (every : ℕ) → (samples : List (List EntryView)) → (name : List ℕ) → GuestView
guest_of policy every samples name =
    let size = unwrap_or (size_in name samples) 0 in
    let bounds = bounds_at policy.most (rules_of policy.guests name) size in
    let uses = uses_of every name samples in
    record {
      name = name;
      size = size;
      min = bounds.min;
      cap = bounds.cap;
      shares = bounds.shares;
      first = absent_first uses;
      uses = without_end (without_front uses);
    }

-- whether a name is among these
abbrev pub is_among : (names : List (List ℕ)) → (name : List ℕ) → Bool
is_among names name = list_any (λ n. bytes_eq n name) names

-- what those that are no guests held at most, each by itself
abbrev pub held_beside : (guests : List (List ℕ)) → (samples : List (List EntryView)) → (names : List (List ℕ)) → ℕ
held_beside guests samples [] = 0
held_beside guests samples (name ∷ names) =
    (if is_among guests name then 0 else most_left name samples) + held_beside guests samples names

-- what is left for the guests
abbrev pub frames_for : PolicyView → (samples : List (List EntryView)) → ℕ
frames_for policy samples = max 1 (policy.memory - held_beside (guest_names samples) samples (left_names samples))

unfoldable pub host_of : PolicyView → (every : ℕ) → (samples : List (List EntryView)) → HostView
host_of policy every samples = record {
  policy = policy;
  frames = frames_for policy samples;
  epochs = length (epochs_of every samples);
  guests = map (guest_of policy every samples) (guest_names samples);
}

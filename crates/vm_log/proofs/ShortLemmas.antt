-- Guests have short names.
use Rattle.std.proofs.Common.{◌≡◌, ℕ, ◌≤◌, Bool, true, false, List, [], ◌∷◌, bytes_eq, length, map, if◌then◌else◌}
use Rattle.std.specs.Prelude.{⊤}
use Rattle.vm_samples.specs.Policies.{PolicyView}
use Rattle.vm_steer.specs.declared.fate.Fate.{Fate}
use Rattle.vm_steer.specs.declared.fate.Fate.TheVariants.{Left, Steered}
use Rattle.vm_steer.specs.Entries.{EntryView}
use Rattle.vm_steer.specs.Names.{is_before}
use Rattle.vm_log.specs.HostOf.{guest_of}
use Rattle.vm_log.specs.Judging.{AreShort}
use Rattle.vm_log.specs.NamesSeen.{is_steered, with_name, with_names}
use Rattle.vm_log.specs.Told.{AreFew, IsFew}

abbrev NamesShort : List (List ℕ) → Type 0
NamesShort [] = ⊤
NamesShort (n ∷ names) = (length n ≤ 32) × NamesShort names

of_guests : (policy : PolicyView) (every : ℕ) (samples : List (List EntryView)) (names : List (List ℕ)) → AreShort (map (guest_of policy every samples) names) → NamesShort names
unfolding guest_of
of_guests policy every samples [] short = tt
of_guests policy every samples (n ∷ names) short = (short.0, of_guests policy every samples names short.1)

to_guests : (policy : PolicyView) (every : ℕ) (samples : List (List EntryView)) (names : List (List ℕ)) → NamesShort names → AreShort (map (guest_of policy every samples) names)
unfolding guest_of
to_guests policy every samples [] short = tt
to_guests policy every samples (n ∷ names) short = (short.0, to_guests policy every samples names short.1)

one_more : (m : List ℕ) (names : List (List ℕ)) → length m ≤ 32 → NamesShort names → NamesShort (with_name m names)
one_more m [] is short = (is, tt)
one_more m (n ∷ names) is short = go (bytes_eq n m) (is_before n m) (one_more m names is short.1)
  where
    go : (t u : Bool) → NamesShort (with_name m names) → NamesShort (if t then n ∷ names else (if u then n ∷ with_name m names else m ∷ n ∷ names))
    go true u later = short
    go false true later = (short.0, later)
    go false false later = (is, short)

all_more : (names : List (List ℕ)) (entries : List EntryView) → AreFew entries → NamesShort names → NamesShort (with_names is_steered names entries)
all_more names [] few short = short
all_more names (e ∷ entries) few short = go (λ (ns : List (List ℕ)). all_more ns entries few.1) e.name e.fate few.0
  where
    go : ((ns : List (List ℕ)) → NamesShort ns → NamesShort (with_names is_steered ns entries)) → (m : List ℕ) (fate : Fate) → IsFew m fate
        → NamesShort (with_names is_steered (if is_steered fate then with_name m names else names) entries)
    go again m (Left left) h = again names short
    go again m (Steered steered) h = again (with_name m names) (one_more m names h.0 short)

-- with those of a sample
pub short_more : (policy : PolicyView) (every : ℕ) (before after : List (List EntryView)) (names : List (List ℕ)) (entries : List EntryView) → AreFew entries → AreShort (map (guest_of policy every before) names)
    → AreShort (map (guest_of policy every after) (with_names is_steered names entries))
short_more policy every before after names entries few short =
    to_guests policy every after (with_names is_steered names entries) (all_more names entries few (of_guests policy every before names short))

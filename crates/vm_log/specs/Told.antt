-- The ranges of what is told of a sample, and of what a recording keeps: for private contracts alone.
use Rattle.std.specs.Prelude.{ℕ, ◌*◌, ◌≤◌, ◌^◌, ⊤, List, [], ◌∷◌, length}
use Rattle.vm_recorded.specs.declared.counts.Counts.{Counts}
use Rattle.vm_steer.specs.declared.fate.Fate.{Fate}
use Rattle.vm_steer.specs.declared.fate.Fate.TheVariants.{Left, Steered}
use Rattle.vm_steer.specs.declared.fate.SteeredDomain.{SteeredDomain}
use Rattle.vm_steer.specs.Entries.{EntryView}
use Rattle.vm_log.specs.declared.kept.Kept.{Kept}

-- who is steered has a short name, and uses no more than it may have
abbrev pub IsFew : (name : List ℕ) → Fate → Type 0
IsFew name (Left left) = ⊤
IsFew name (Steered steered) = (length name ≤ 32) × (steered.used ≤ 262144)

abbrev pub AreFew : List EntryView → Type 0
AreFew [] = ⊤
AreFew (e ∷ entries) = IsFew e.name e.fate × AreFew entries

-- what so many epochs come to at most
pub record IsSmall (epochs : ℕ) (c : Counts) : Type 0 where
  pub steps : c.steps ≤ 2 ^ 35 * epochs
  pub bytes : c.bytes ≤ 2 ^ 16 * epochs

abbrev pub AreSmall : (epochs : ℕ) → List Counts → Type 0
AreSmall epochs [] = ⊤
AreSmall epochs (c ∷ counts) = IsSmall epochs c × AreSmall epochs counts

abbrev pub AreKeptSmall : (epochs : ℕ) → List Kept → Type 0
AreKeptSmall epochs [] = ⊤
AreKeptSmall epochs (k ∷ kept) = IsSmall epochs k.counts × AreKeptSmall epochs kept

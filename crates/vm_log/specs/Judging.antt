-- What a recording has to be like to be judged: for private contracts alone.
use Rattle.std.specs.Prelude.{◌≡◌, ℕ, ◌≤◌, ⊤, List, [], ◌∷◌, length, max}
use Rattle.vm_recorded.specs.declared.counts.Counts.{Counts}
use Rattle.vm_recorded.specs.Counts.{counts_for}
use Rattle.vm_recorded.specs.Hosts.{GuestView}
use Rattle.vm_steer.specs.Names.{AreRising}
use Rattle.vm_log.specs.declared.recording.Recording.{Recording}
use Rattle.vm_log.specs.Steps.{names_of}
use Rattle.vm_log.specs.Told.{AreSmall}

abbrev pub steps_of : List Counts → ℕ
steps_of [] = 0
steps_of (c ∷ counts) = max c.steps (steps_of counts)

abbrev pub longest_of : List Counts → ℕ
longest_of [] = 0
longest_of (c ∷ counts) = max c.longest (longest_of counts)

abbrev pub AreShort : List GuestView → Type 0
AreShort [] = ⊤
AreShort (g ∷ guests) = (length g.name ≤ 32) × AreShort guests

pub record IsJudged (r : Recording) : Type 0 where
  pub rising : AreRising (names_of r.guests.items)
  pub counts : r.counts.items ≡ counts_for r.guests.items
  pub short : AreShort r.guests.items
  pub few : r.epochs ≤ 10001
  pub small : AreSmall r.epochs r.counts.items

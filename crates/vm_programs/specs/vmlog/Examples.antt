-- What words say to `vmlog`, by examples.
use Rattle.std.specs.Prelude.{◌≡◌, ℕ, List, ◌∷◌, codes}
use Rattle.clap.specs.Words.{Text}
use Rattle.vm_programs.specs.vmlog.CommandLine.{AreTaken, every_by}

-- these words behind the program's name
abbrev pub called : List Text → List Text
called words = codes "vmlog" ∷ words

-- they are taken, and ask for epochs of so many samples
pub record AskFor (words : List Text) (every : ℕ) : Type 0 where
  pub taken : AreTaken (called words)
  pub asked : every_by (called words) ≡ every

-- they are not taken
abbrev pub AreRefused : List Text → Type 0
AreRefused words = AreTaken (called words) → ⊥

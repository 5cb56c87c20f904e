-- What words say to `vmcheck`, by examples.
use Rattle.std.specs.Prelude.{◌≡◌, List, ◌∷◌, codes}
use Rattle.clap.specs.Words.{Text}
use Rattle.vm_programs.specs.declared.vmcheck.subject.Subject.{Subject}
use Rattle.vm_programs.specs.declared.vmcheck.subject.Subject.TheVariants.{Configuration, Policy}
use Rattle.vm_programs.specs.vmcheck.CommandLine.{AreTaken, subject_by}

abbrev pub configuration : Subject
configuration = Configuration

abbrev pub policy : Subject
policy = Policy

-- these words behind the program's name
abbrev pub called : List Text → List Text
called words = codes "vmcheck" ∷ words

-- they are taken, and ask for this
pub record AskFor (words : List Text) (subject : Subject) : Type 0 where
  pub taken : AreTaken (called words)
  pub asked : subject_by (called words) ≡ subject

-- they are not taken
abbrev pub AreRefused : List Text → Type 0
AreRefused words = AreTaken (called words) → ⊥

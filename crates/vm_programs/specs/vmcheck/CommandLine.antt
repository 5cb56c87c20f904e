-- Which words the command line `vmcheck [--policy] [FILE]` takes, and what they ask for.
use Rattle.std.specs.Prelude.{true, List, [], ◌∷◌, None, codes, if◌then◌else◌}
use Rattle.clap.specs.Words.{Row, Text}
use Rattle.vm_programs.specs.declared.vmcheck.subject.Subject.{Subject}
use Rattle.vm_programs.specs.declared.vmcheck.subject.Subject.TheVariants.{Configuration, Policy}
use Rattle.vm_words.specs.Words.{AreTaken as AreTakenBy, Line, asked, has_flag}

-- `vmcheck [--policy] [FILE]`
abbrev pub vmcheck_line : Line
vmcheck_line = record {
  program = codes "vmcheck";
  flags = record { name = codes "policy"; beside = None } ∷ [];
  values = [];
  takes_file = true;
}

-- words that are taken, of which the first is the program's name
abbrev pub AreTaken : List Text → Type 0
AreTaken words = AreTakenBy vmcheck_line words

-- what is checked
abbrev pub subject_of : List Row → Subject
subject_of rows = if has_flag (codes "policy") rows then Policy else Configuration

-- what words ask for that are taken
abbrev pub subject_by : List Text → Subject
subject_by words = subject_of (asked vmcheck_line words)

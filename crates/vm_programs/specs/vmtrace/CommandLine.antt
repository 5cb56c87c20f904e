-- The command line of `vmtrace`, and what it asks for.
use Rattle.std.specs.Prelude.{◌≤◌, true, List, [], ◌∷◌, None, codes, not, unwrap_or}
use Rattle.std.specs.Option.{ForSome}
use Rattle.clap.specs.Words.{Row, Text}
use Rattle.vm_words.specs.declared.command_line.ValueKind.TheVariants.{Number, Text as AnyText}
use Rattle.vm_words.specs.Words.{Line, asked, has_flag, number_of, text_of}
use Rattle.vm_import.specs.Settings.{Settings}

-- `vmtrace [--name NAME] [--min PAGES] [--interval LINES] [--quantum STEPS] [--skip LINES] [--steps N] [--no-code]
-- [FILE]`
unfoldable pub trace_line : Line
trace_line = record {
  program = codes "vmtrace";
  flags = record { name = codes "no-code"; beside = None } ∷ [];
  values =
      record { name = codes "name"; kind = AnyText }
      ∷ record { name = codes "min"; kind = Number 1 262144 }
      ∷ record { name = codes "interval"; kind = Number 1 1000000000 }
      ∷ record { name = codes "quantum"; kind = Number 1 65536 }
      ∷ record { name = codes "skip"; kind = Number 0 18446744073709551615 }
      ∷ record { name = codes "steps"; kind = Number 1 1000000 }
      ∷ [];
  takes_file = true;
}

-- what stands for each argument in words that are taken, of which the first is the program's name
abbrev pub rows_of : List Text → List Row
rows_of words = asked trace_line words

-- the guest's name
abbrev pub name_of : List Row → Text
name_of rows = unwrap_or (text_of (codes "name") rows) (codes "guest")

-- what is asked for
abbrev pub settings_in : List Row → Settings
settings_in rows = record {
  name = name_of rows;
  min = number_of (codes "min") rows;
  interval = unwrap_or (number_of (codes "interval") rows) 1000000;
  quantum = unwrap_or (number_of (codes "quantum") rows) 1024;
  skip = unwrap_or (number_of (codes "skip") rows) 0;
  steps = unwrap_or (number_of (codes "steps") rows) 1000000;
  has_code = not (has_flag (codes "no-code") rows);
}

-- each number that is given lies in its range
pub record LieInRange (rows : List Row) : Type 0 where
  pub min : ForSome (number_of (codes "min") rows) (λ n. (1 ≤ n) × (n ≤ 262144))
  pub interval : ForSome (number_of (codes "interval") rows) (λ n. (1 ≤ n) × (n ≤ 1000000000))
  pub quantum : ForSome (number_of (codes "quantum") rows) (λ n. (1 ≤ n) × (n ≤ 65536))
  pub steps : ForSome (number_of (codes "steps") rows) (λ n. (1 ≤ n) × (n ≤ 1000000))

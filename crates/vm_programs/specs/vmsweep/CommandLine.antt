-- The command line of `vmsweep`, and what its flags and its number ask for.
use Rattle.std.specs.Prelude.{ℕ, IfSome, true, List, [], ◌∷◌, Option, Some, None, codes, if◌then◌else◌}
use Rattle.clap.specs.Words.{Row, Text}
use Rattle.vm_programs.specs.runs.Words.{workers_asked, workers_rule}
use Rattle.vm_programs.specs.declared.vmsweep.asked.Form.{Form}
use Rattle.vm_programs.specs.declared.vmsweep.asked.Form.TheVariants.{Drawing, Guests, Table}
use Rattle.vm_words.specs.declared.command_line.ValueKind.TheVariants.{Number, Text as AnyText, Texts as AnyTexts}
use Rattle.vm_words.specs.Words.{LiesIn, Line, ValueRule, asked, has_flag, number_of}

-- `--seeds N`, with N from 1 to 1000
abbrev pub seeds_rule : ValueRule
seeds_rule = record { name = codes "seeds"; kind = Number 1 1000 }

-- `vmsweep [--frames LIST] [--swap LIST] [--tax LIST] [--page-rate LIST] [--rebalance LIST] [--min-percent LIST] [--min NAME=LIST]..
-- [--shares NAME=LIST].. [--seeds N] [--guests | --svg] [--progress] [--workers N] [FILE]`
unfoldable pub sweep_line : Line
sweep_line = record {
  program = codes "vmsweep";
  flags =
      record { name = codes "guests"; beside = Some (codes "svg") }
      ∷ record { name = codes "svg"; beside = Some (codes "guests") }
      ∷ record { name = codes "progress"; beside = None }
      ∷ [];
  values =
      record { name = codes "frames"; kind = AnyText }
      ∷ record { name = codes "swap"; kind = AnyText }
      ∷ record { name = codes "tax"; kind = AnyText }
      ∷ record { name = codes "page-rate"; kind = AnyText }
      ∷ record { name = codes "rebalance"; kind = AnyText }
      ∷ record { name = codes "min-percent"; kind = AnyText }
      ∷ record { name = codes "min"; kind = AnyTexts }
      ∷ record { name = codes "shares"; kind = AnyTexts }
      ∷ seeds_rule
      ∷ workers_rule
      ∷ [];
  takes_file = true;
}

-- what stands for each argument in words that are taken, of which the first is the program's name
abbrev pub rows_of : List Text → List Row
rows_of words = asked sweep_line words

abbrev pub form_of : List Row → Form
form_of rows =
    if has_flag (codes "svg") rows then Drawing
    else if has_flag (codes "guests") rows then Guests
    else Table

-- 1 where the words don't say
abbrev pub workers_of : List Row → ℕ
workers_of rows = workers_asked rows

-- how many seeds each combination is run with, where the words say
abbrev pub seeds_of : List Row → Option ℕ
seeds_of rows = number_of seeds_rule.name rows

-- their number lies in its range, where it is given
abbrev pub HasSeedsInRange : List Row → Type 0
HasSeedsInRange rows = IfSome (seeds_of rows) (LiesIn seeds_rule.kind)

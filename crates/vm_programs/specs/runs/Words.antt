-- The word `--workers N`, and how many workers are asked for by it.
use Rattle.std.specs.Prelude.{ℕ, List, IfSome, codes, unwrap_or}
use Rattle.clap.specs.Words.{Row}
use Rattle.vm_words.specs.declared.command_line.ValueKind.TheVariants.{Number}
use Rattle.vm_words.specs.Words.{LiesIn, ValueRule, number_of}

-- `--workers N`, with N from 1 to 64
abbrev pub workers_rule : ValueRule
workers_rule = record { name = codes "workers"; kind = Number 1 64 }

-- the number of workers lies in its range, where it is given
abbrev pub HasWorkersInRange : List Row → Type 0
HasWorkersInRange rows = IfSome (number_of workers_rule.name rows) (LiesIn workers_rule.kind)

-- how many workers are asked for, and 1 where the words don't say
abbrev pub workers_asked : List Row → ℕ
workers_asked rows = unwrap_or (number_of workers_rule.name rows) 1

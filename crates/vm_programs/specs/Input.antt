-- What a program reads.
use Rattle.std.specs.Prelude.{Option, Some, None, codes, if◌then◌else◌}
use Rattle.std.specs.Str.{bytes_eq}
use Rattle.clap.specs.Words.{Text}

-- the path of the file that words name: `-` names none, but standard input
abbrev pub file_in : Option Text → Option Text
file_in None = None
file_in (Some path) = if bytes_eq path (codes "-") then None else Some path

-- What is printed of a bad sample.
use Rattle.std.specs.Prelude.{ℕ, List, ◌++◌, codes}
use Rattle.std.specs.Fmt.{decimal}
use Rattle.vm_samples.specs.declared.sample.BadLine.{BadLine}
use Rattle.vm_samples.specs.declared.sample.BadLine.TheVariants.{NotALine, NotANumber, TooManyDomains, NoDomain}
use Rattle.vm_samples.specs.declared.sample.BadSample.{BadSample}

abbrev pub text_of_what : BadLine → List ℕ
text_of_what NotALine = codes "not a line of domstats"
text_of_what NotANumber = codes "not a number"
text_of_what TooManyDomains = codes "more than 256 domains"
text_of_what NoDomain = codes "no domain"

-- the line, a colon, and why it is bad
abbrev pub text_of : BadSample → List ℕ
text_of bad = codes "line " ++ (decimal bad.line ++ (codes ": " ++ text_of_what bad.what))

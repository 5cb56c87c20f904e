-- The sample that bytes mean, or its first bad line.
use Rattle.std.specs.Prelude.{◌≡◌, ℕ, ◌+◌, ⊤, nat_lt, if◌then◌else◌, List, [], ◌∷◌, length, Result, Ok, Err}
use Rattle.vm_samples.specs.declared.sample.BadLine.{BadLine}
use Rattle.vm_samples.specs.declared.sample.BadLine.TheVariants.{TooManyDomains, NoDomain}
use Rattle.vm_samples.specs.declared.sample.BadSample.{BadSample}
use Rattle.vm_samples.specs.declared.sample.SampleError.{SampleError}
use Rattle.vm_samples.specs.declared.sample.SampleError.TheVariants.{Bad, Memory}
use Rattle.vm_samples.specs.Lines.{lines_of}
use Rattle.vm_samples.specs.Outcomes.{◌>>=◌}
use Rattle.vm_samples.specs.SampleLines.{with_line}
use Rattle.vm_samples.specs.Samples.{DomainView}

-- why a sample is bad, at the line of this number
abbrev pub bad_at : ℕ → BadLine → BadSample
bad_at number what = record { line = number; what = what }

-- the domains of all lines, in front of the line of this number, which isn't there
abbrev pub judged : ℕ → List DomainView → Result (List DomainView) BadSample
judged number [] = Err (bad_at number NoDomain)
judged number (domain ∷ domains) =
    if nat_lt 256 (length (domain ∷ domains)) then Err (bad_at number TooManyDomains) else Ok (domain ∷ domains)

-- what a line of this number made, or why it is bad
abbrev pub at_line : ℕ → Result (List DomainView) BadLine → Result (List DomainView) BadSample
at_line number (Ok domains) = Ok domains
at_line number (Err what) = Err (bad_at number what)

-- the domains of these lines, counted from this number on, behind these domains
abbrev pub domains_from : ℕ → List (List ℕ) → List DomainView → Result (List DomainView) BadSample
domains_from number [] domains = judged number domains
domains_from number (line ∷ lines) domains =
    at_line number (with_line line domains) >>= (λ told. domains_from (number + 1) lines told)

-- the domains of a sample, in the order of its lines
unfoldable pub sample_of : List ℕ → Result (List DomainView) BadSample
sample_of bytes = domains_from 1 (lines_of bytes) []

-- the answer is the one that is wanted, or want of memory
abbrev pub ReadsSample : Result (List DomainView) SampleError → Result (List DomainView) BadSample → Type 0
ReadsSample (Ok sample) wanted = wanted ≡ Ok sample
ReadsSample (Err (Bad bad)) wanted = wanted ≡ Err bad
ReadsSample (Err Memory) wanted = ⊤

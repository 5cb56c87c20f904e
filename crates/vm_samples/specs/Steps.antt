-- How the reading of a sample goes on.
use Rattle.std.specs.Prelude.{◌≡◌, ℕ, ◌+◌, ◌<◌, ⊤, ◌⊎◌, List, [], ◌∷◌, ◌++◌, length, Err}
use Rattle.vm_samples.specs.declared.line.LineError.{LineError}
use Rattle.vm_samples.specs.declared.line.LineError.TheVariants.{Bad, Memory}
use Rattle.vm_samples.specs.declared.line.KeyLine.{KeyLine}
use Rattle.vm_samples.specs.declared.sample.SampleError.{SampleError}
use Rattle.vm_samples.specs.declared.sample.SampleError.TheVariants as sample
use Rattle.vm_samples.specs.SampleLines.{KeyView, with_line}
use Rattle.vm_samples.specs.SampleOf.{bad_at, domains_from}
use Rattle.vm_samples.specs.Samples.{DomainView}

-- Whatever lines follow, the sample is the same from the domains behind the line on. Of more than 256 domains only that is kept, so
-- that these need not be all of them.
abbrev pub GoesOn : List ℕ → List DomainView → List DomainView → Type 0
GoesOn line old new =
    (number : ℕ) (lines : List (List ℕ)) → domains_from number (line ∷ lines) old ≡ domains_from (number + 1) lines new

-- the line is bad, and for this
abbrev pub IsBad : List ℕ → List DomainView → LineError → Type 0
IsBad line domains (Bad what) = with_line line domains ≡ Err what
IsBad line domains Memory = ⊤

-- the domain comes last, unless there are more than 256 already
abbrev pub IsAdded : DomainView → List DomainView → List DomainView → Type 0
IsAdded domain old new = (new ≡ old ++ domain ∷ []) ⊎ ((256 < length old) × (new ≡ old))

-- a line of a key, as the code reads it
abbrev pub key_seen : KeyLine → KeyView
key_seen line = record { key = line.key.now; value = line.value.now }

-- why no sample is read, at the line of this number
abbrev pub error_at : ℕ → LineError → SampleError
error_at number (Bad what) = sample.Bad (bad_at number what)
error_at number Memory = sample.Memory

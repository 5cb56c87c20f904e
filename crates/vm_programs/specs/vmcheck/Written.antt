-- What is written of a text that is checked, and what the exit statuses say of the reader and the writer.
use Rattle.std.specs.Prelude.{◌⊎◌, ◌++◌, ℕ, List, [], ◌∷◌, Option, length, map}
use Rattle.std.specs.Io.KnownBytes.{Appends, Keeps}
use Rattle.vm_check.specs.Check.{lines_in}
use Rattle.vm_check.specs.Report.{text_of_lines}
use Rattle.vm_policy_check.specs.Findings.{findings}
use Rattle.vm_policy_check.specs.Texts.{text_of}
use Rattle.vm_programs.specs.declared.vmcheck.subject.Subject.{Subject}
use Rattle.vm_programs.specs.declared.vmcheck.subject.Subject.TheVariants.{Configuration, Policy}
use Rattle.vm_sim.specs.Run.{TakesAll}
use Rattle.vm_streams.specs.Streams.{AppendsFront}

-- the lines of a policy: one for each of its findings
abbrev pub policy_lines : List ℕ → List (List ℕ)
policy_lines text = map text_of (findings text)

-- a text with a line more, and its end
abbrev pub with_line : List ℕ → List ℕ → List ℕ
with_line text line = text ++ (line ++ 10 ∷ [])

-- the lines of a text
abbrev pub lines_of : Subject → List ℕ → List (List ℕ)
lines_of Configuration text = lines_in text
lines_of Policy text = policy_lines text

module _ (subject : Subject) (read_old read_new written_old written_new : Option (List ℕ)) where
  -- all that the reader had was taken, and each line that is told of it was written, and nothing else; P holds of how many these are
  abbrev pub Tells : (P : ℕ → Type 0) → Type 0
  Tells P = TakesAll read_old read_new
      (λ text. P (length (lines_of subject text)) × Appends written_old written_new (text_of_lines (lines_of subject text)))

  -- a front of these lines was written, or nothing
  abbrev pub StopsEarly : Type 0
  StopsEarly =
      TakesAll read_old read_new (λ text. AppendsFront written_old written_new (text_of_lines (lines_of subject text)))
      ⊎ Keeps written_old written_new

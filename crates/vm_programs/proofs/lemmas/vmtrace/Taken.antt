-- Which words are taken, as what was read of them says.
use Rattle.std.proofs.Common.{◌≡◌, ◌⊎◌, ℕ, List, true, false, inl, inr, sym, subst}
use Rattle.clap.specs.Words.{Row, Text}
use Rattle.vm_words.specs.Words.{AreTaken as AreTakenBy, NumbersLieIn}
use Rattle.vm_programs.specs.vmtrace.CommandLine.{LieInRange, name_of, rows_of, trace_line}
use Rattle.vm_config.specs.Names.{is_name}
use Rattle.vm_programs.specs.vmtrace.Taken.{AreTaken, IsStatusOfWords}
use Rattle.vm_programs.proofs.lemmas.words.{for-some}

-- words with a bad name are not taken
pub unnamed : (words : List Text) (rows : List Row) → rows ≡ rows_of words → is_name (name_of rows) ≡ false → AreTaken words → ⊥
unnamed words rows same bad taken =
    let good : is_name (name_of rows) ≡ true = subst (λ (r : List Row). is_name (name_of r) ≡ true) (sym same) taken.named in
    absurd cc

-- a status of a name that is none, or of a lack of memory
pub refused : (words : List Text) (rows : List Row) → rows ≡ rows_of words → (status : ℕ)
    → ((status ≡ 2) × (is_name (name_of rows) ≡ false)) ⊎ (status ≡ 3) → IsStatusOfWords words status
refused words rows same status (inl (is, bad)) = inl (is, unnamed words rows same bad)
refused words rows same status (inr is) = inr is

-- words with a good name are
pub taken : (words : List Text) (rows : List Row) → rows ≡ rows_of words → AreTakenBy trace_line words → is_name (name_of rows) ≡ true
    → AreTaken words
taken words rows same formed good = record {
  formed = formed;
  named = subst (λ (r : List Row). is_name (name_of r) ≡ true) same good;
}

pub in-range : (rows : List Row) → NumbersLieIn trace_line.values rows → LieInRange rows
unfolding trace_line
in-range rows lie = record {
  min = for-some _ _ lie.1.0;
  interval = for-some _ _ lie.1.1.0;
  quantum = for-some _ _ lie.1.1.1.0;
  steps = for-some _ _ lie.1.1.1.1.1.0;
}

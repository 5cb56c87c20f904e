-- A text that is put together step by step, and written in parts.
use Rattle.std.specs.Prelude.{ℕ, ◌+◌, ◌==◌, if◌then◌else◌, List, [], ◌∷◌, ◌++◌, codes, length}
use Rattle.vm_import.specs.Texts.{quoted}

pub record DraftView : Type 0 where
  -- what waits to be written
  pub text : List ℕ
  -- how many bytes were written before it
  pub written : ℕ
  -- how many steps there are in all
  pub steps : ℕ

-- steps behind so many others, each behind a comma but the first of all
abbrev pub listed_behind : ℕ → List (List ℕ) → List ℕ
listed_behind count [] = []
listed_behind count (step ∷ steps) =
    (if count == 0 then [] else codes ",") ++ (quoted step ++ listed_behind (count + 1) steps)

-- with more steps
abbrev pub with_steps : DraftView → List (List ℕ) → DraftView
with_steps draft steps = record {
  text = draft.text ++ listed_behind draft.steps steps;
  written = draft.written;
  steps = draft.steps + length steps;
}

-- with other text behind it
abbrev pub with_text : DraftView → List ℕ → DraftView
with_text draft more = record { text = draft.text ++ more; written = draft.written; steps = draft.steps }

-- all of it written
abbrev pub all_written : DraftView → DraftView
all_written draft = record { text = []; written = draft.written + length draft.text; steps = draft.steps }

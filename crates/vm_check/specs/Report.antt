-- The lines of a report.
use Rattle.std.specs.Prelude.{ℕ, ◌+◌, List, [], ◌∷◌, ◌++◌}
use Rattle.std.specs.List.{fold}

pub record ReportView : Type 0 where
  pub text : List ℕ
  pub count : ℕ

abbrev pub empty_report : ReportView
empty_report = record { text = []; count = 0 }

-- one line more, with its end
abbrev pub with_line : ReportView → List ℕ → ReportView
with_line r line = record { text = r.text ++ (line ++ 10 ∷ []); count = r.count + 1 }

-- several
abbrev pub with_lines : ReportView → List (List ℕ) → ReportView
with_lines r lines = fold with_line r lines

-- ---- a whole report

-- lines, each with its end
abbrev pub text_of_lines : List (List ℕ) → List ℕ
text_of_lines [] = []
text_of_lines (line ∷ lines) = line ++ (10 ∷ text_of_lines lines)

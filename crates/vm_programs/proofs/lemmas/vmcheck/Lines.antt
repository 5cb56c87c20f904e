-- Lines one after the other.
use Rattle.std.proofs.Common.{◌≡◌, ℕ, List, [], ◌∷◌, ◌++◌, append_assoc, sym, ◌∙◌}
use Rattle.std.proofs.lemmas.List.{append-nil}
use Rattle.std.specs.Prelude.{fold}
use Rattle.vm_check.specs.Report.{text_of_lines}
use Rattle.vm_programs.specs.vmcheck.Written.{with_line}

-- lines that are added to a text one by one
pub lines_are : (text : List ℕ) (lines : List (List ℕ)) → fold with_line text lines ≡ text ++ text_of_lines lines
lines_are text [] = sym (append-nil text)
lines_are text (line ∷ lines) = lines_are (with_line text line) lines ∙ simp append_assoc

use Rattle.std.proofs.Common.{ℕ, ap, ◌∙◌, arith}
use Rattle.vm_pages.specs.PageTable.{Items}
use Rattle.vm_pages.specs.Words.{marked}
use Rattle.vm_pages.proofs.MarkLemmas.{AreWords-none}
use Rattle.vm_pages.proofs.WordLemmas.{marked-none}
use Rattle.vm_pages.proofs.page_marks.PageMarks.new.Goals as goal

pub invariant_of-result : goal.invariant_of-result
invariant_of-result c = rw c.in_ok-words.ensures.table (AreWords-none c.args.size c.div_ceil.result (omega (arith, c.div_ceil.ensures)))

pub returns-clause-marks : goal.returns-clause-marks
returns-clause-marks c = ap (λ (words : Items ℕ). marked words.list c.args.size) c.in_ok-words.ensures.table ∙ marked-none c.div_ceil.result c.args.size

use Rattle.vm_laws.proofs.ColumnLemmas.{adds-up-lines}
use Rattle.vm_laws.proofs.TextLemmas.{report-is_lines}
use Rattle.vm_laws.proofs.lines.law_lines.Goals as goal

pub returns-clause-report : goal.returns-clause-report
returns-clause-report c = report-is_lines

pub returns-clause-columns : goal.returns-clause-columns
returns-clause-columns c = adds-up-lines

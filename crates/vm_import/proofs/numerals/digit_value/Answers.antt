use Rattle.std.proofs.Common.{arith}
use Rattle.vm_import.proofs.NumeralLemmas.{value_in_table}
use Rattle.vm_import.proofs.numerals.digit_value.Goals as goal

pub returns : goal.returns
returns c = value_in_table c.args.byte (omega arith)

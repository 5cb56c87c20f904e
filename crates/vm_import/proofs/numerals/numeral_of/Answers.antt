use Rattle.std.proofs.Common.{arith, sym}
use Rattle.vm_import.proofs.NumeralLemmas.{whole_numeral}
use Rattle.vm_import.proofs.numerals.numeral_of.Goals as goal

pub returns : goal.returns
returns c =
    sym (whole_numeral c.args.radix c.args.most c.args.word.now c.digits_in_front-digits.result.value c.digits_in_front-digits.result.len
    c.digits_in_front-digits.ensures (omega arith) (omega arith))

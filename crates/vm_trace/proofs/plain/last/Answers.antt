use Rattle.std.proofs.lemmas.Option.{IfSome_then}
use Rattle.vm_trace.proofs.Numbers.{IsNumeral-one, IsNumeral-two}
use Rattle.vm_trace.proofs.plain.last.Goals as goal

pub returns-in-len1 : goal.returns-in-len1
returns-in-len1 c =
    IfSome_then c.decimal.result c.decimal.ensures (λ n digit. IsNumeral-one c.args.text.now n c.in-len1.len_at_least c.in-len1.len_below digit)

pub returns-in_ok-decimal-in-len2-2 : goal.returns-in_ok-decimal-in-len2-2
returns-in_ok-decimal-in-len2-2 c =
    IsNumeral-two c.args.text.now c.in_ok-decimal-in-len2.field-0 c.in_ok-decimal-in-len2-2.field-0 c.in-len2.len_at_least c.in-len2.len_below c.in_ok-decimal-in-len2.ensures c.in_ok-decimal-in-len2-2.ensures

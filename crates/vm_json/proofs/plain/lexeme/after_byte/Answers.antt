use Rattle.std.proofs.Common.{◌≡◌, ◌<◌, length, get_or, sym, ap, ◌∙◌, arith}
use Rattle.std.proofs.lemmas.Str.{IsCharBoundary-after_ascii}
use Rattle.vm_json.proofs.plain.lexeme.after_byte.Goals as goal

pub range_from-requires : goal.range_from-requires
range_from-requires c some =
    let same = c.as_bytes-bytes.ensures.value in
    let first : get_or c.args.text.now 0 0 ≡ c.args.byte = ap (λ t. get_or t 0 0) (sym same) ∙ c.if-bytes-byte.true in
    let longer : 0 < length c.args.text.now = grind (arith, ap length same) in
    IsCharBoundary-after_ascii c.args.text.now 0 c.utf8.text longer (omega (arith, first, c.requires))

use Rattle.std.proofs.Common.{arith, ap, sym, Err, refl, ◌∙◌, ◌≡◌, length, true, false, leb}
use Rattle.std.proofs.lemmas.Bool.{le-leb, lt-leb}
use Rattle.vm_trace.specs.declared.error.TraceError.TheVariants.{Length}
use Rattle.vm_trace.specs.Words.{bytes_in, is_hex, hex_pairs}
use Rattle.vm_trace.proofs.Hex.{length-hex_pairs, even_from_hex}
use Rattle.vm_trace.proofs.parse.check_hex.Goals as goal

pub returns-then-word-most-clause-fault : goal.returns-then-word-most-clause-fault
unfolding bytes_in
returns-then-word-most-clause-fault c = λ fault same.
    let is : is_hex c.args.word.now ≡ true = sym c.is_hex.ensures ∙ c.if-not-is_hex.false in
    let over : leb (length (hex_pairs c.args.word.now)) c.args.most ≡ false = lt-leb _ _ (omega (arith, length-hex_pairs c.args.word.now, even_from_hex c.args.word.now is)) in
    let length_fault : Length ≡ fault = (let z = same in cc) in
    rw (is, over) (ap Err length_fault)

pub returns-clause-bytes : goal.returns-clause-bytes
unfolding bytes_in
returns-clause-bytes c =
    let is : is_hex c.args.word.now ≡ true = sym c.is_hex.ensures ∙ c.if-not-is_hex.false in
    let fits : leb (length (hex_pairs c.args.word.now)) c.args.most ≡ true = le-leb _ _ (omega (arith, length-hex_pairs c.args.word.now, even_from_hex c.args.word.now is)) in
    rw (is, fits) refl

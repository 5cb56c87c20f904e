use Rattle.std.proofs.Common.{arith, ap, sym, ◌∙◌, ◌≡◌, ◌<◌, ◌+◌, ◌*◌, ◌/◌, ◌++◌, ◌∷◌, [], length, take, drop}
use Rattle.std.proofs.lemmas.List.{take_more_set, length-set, take_all, take-append-drop}
use Rattle.vm_trace.specs.Words.{hex_pairs}
use Rattle.vm_trace.proofs.Hex.{pairs_more, even_from_hex}
use Rattle.vm_trace.proofs.Padding.{rest_more}
use Rattle.vm_trace.proofs.bytes.put_pairs.Goals as goal

pub loop-i-preserved : goal.loop-i-preserved
loop-i-preserved c =
    let inside : 2 * c.loop-i.i + 1 < length c.args.digits.now = omega arith in
    let more = pairs_more c.loop-i.i c.args.digits.now inside in
    let fits : c.loop-i.i < length c.loop-i.buffer = let whole = c.loop-i.invariant.whole in let short = c.requires.fits in omega arith in
    record {
      whole = length-set c.loop-i.buffer c.loop-i.i _ ∙ c.loop-i.invariant.whole;
      spelled =
          take_more_set c.loop-i.buffer c.loop-i.i _ fits
          ∙ (λ i. c.loop-i.invariant.spelled i ++ c.byte_of.ensures i ∷ [])
          ∙ sym more;
      rest = rest_more c.loop-i.buffer _ c.loop-i.i _ c.loop-i.invariant.rest;
    }

pub returns : goal.returns
returns c =
    let digits = c.args.digits.now in
    let end : c.loop-i.i ≡ length digits / 2 = let below = c.loop-i.auto.i-end in let above = c.loop-i-test.false in omega arith in
    let even = even_from_hex digits c.requires.digits in
    let all : take (2 * c.loop-i.i) digits ≡ digits = take_all (2 * c.loop-i.i) digits (omega (arith, end, even)) in
    sym (take-append-drop c.loop-i.i c.loop-i.buffer)
    ∙ (λ j. (c.loop-i.invariant.spelled ∙ ap hex_pairs all) j ++ (c.loop-i.invariant.rest ∙ ap (λ n. drop n c.args.buffer.now) end) j)

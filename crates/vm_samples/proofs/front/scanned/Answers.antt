use Rattle.std.proofs.Common.{◌≡◌, ◌∙◌, ℕ, ◌+◌, ◌-◌, position, Some, true, false, take, drop, ap, sym, arith}
use Rattle.vm_samples.specs.Blocks.{is_mark}
use Rattle.vm_samples.specs.Lines.{is_line_end}
use Rattle.vm_samples.specs.LogSteps.{blocks_at}
use Rattle.vm_samples.proofs.BlockLemmas.{known_end, known_none, marked_line, nothing_known, passed_line, passed_within}
use Rattle.vm_samples.proofs.front.scanned.Goals as goal

pub returns-then-is_mark : goal.returns-then-is_mark
returns-then-is_mark c =
    let bytes = c.args.bytes.now in
    let loop = c.loop-len.invariant in
    let place = c.loop-len.place in
    let len = c.loop-len.behind + c.in-Some.len - place in
    let found : position is_line_end (drop place bytes) ≡ Some len =
    known_end bytes place c.loop-len.behind c.in-Some.len loop.ordered loop.high loop.none (sym c.line_end.ensures ∙ c.in-Some.is) in
    let mark : is_mark (take len (drop place bytes)) ≡ true = sym c.is_mark.ensures ∙ c.if-is_mark.true in
    marked_line bytes c.args.from place len loop.low found mark loop.blocks

pub loop-len-preserved : goal.loop-len-preserved
loop-len-preserved c =
    let bytes = c.args.bytes.now in
    let loop = c.loop-len.invariant in
    let place = c.loop-len.place in
    let end = c.loop-len.behind + c.in-Some.len in
    let len = end - place in
    let found : position is_line_end (drop place bytes) ≡ Some len =
    known_end bytes place c.loop-len.behind c.in-Some.len loop.ordered loop.high loop.none (sym c.line_end.ensures ∙ c.in-Some.is) in
    let other : is_mark (take len (drop place bytes)) ≡ false = sym c.is_mark.ensures ∙ c.if-is_mark.false in
    let within = passed_within bytes place len found in
    let next : place + (len + 1) ≡ end + 1 = omega (arith, loop.ordered) in
    record {
      low = omega (arith, loop.low, loop.ordered);
      ordered = omega arith;
      high = omega (arith, within, next);
      none = nothing_known bytes (end + 1);
      blocks = λ more. loop.blocks more ∙ passed_line bytes place len more found other ∙ ap (λ (n : ℕ). blocks_at bytes n more) next;
    }

pub returns : goal.returns
returns c =
    let bytes = c.args.bytes.now in
    let loop = c.loop-len.invariant in
    record {
      low = loop.low;
      high = omega (arith, loop.ordered, loop.high);
      none = known_none bytes c.loop-len.place c.loop-len.behind loop.ordered loop.high loop.none (sym c.line_end.ensures ∙ c.in_default.is);
      blocks = loop.blocks;
    }

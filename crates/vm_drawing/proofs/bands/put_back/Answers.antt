use Rattle.std.proofs.Common.{◌≡◌, ◌+◌, ◌-◌, ◌∙◌, arith, sym}
use Rattle.vm_drawing.proofs.BandLemmas.{back-ended, back-gap, back-more, back-none}
use Rattle.vm_drawing.proofs.bands.put_back.Goals as goal

pub returns-in_default : goal.returns-in_default
returns-in_default c =
    let i = c.loop-i.i in
    let next : i ≡ i - 1 + 1 = omega arith in
    back-ended c.args.area c.args.curve.now c.args.spreads.now i _ _
    (back-gap c.args.area c.args.curve.now c.args.spreads.now i (i - 1) next (sym c.spread_at.ensures ∙ c.in_default.is)) c.loop-i.invariant

pub loop-i-preserved : goal.loop-i-preserved
loop-i-preserved c =
    let i = c.loop-i.i in
    let next : i ≡ i - 1 + 1 = omega arith in
    back-more c.args.area c.args.curve.now c.args.spreads.now i (i - 1) c.in-Some.spread _ _ _ _ next
    (sym c.spread_at.ensures ∙ c.in-Some.is) c.in_ok-put.ensures c.in_ok-put_corner.ensures c.loop-i.invariant

pub returns : goal.returns
returns c =
    let i = c.loop-i.i in
    back-ended c.args.area c.args.curve.now c.args.spreads.now i _ _
    (back-none c.args.area c.args.curve.now c.args.spreads.now i (omega arith)) c.loop-i.invariant

use Rattle.std.proofs.Common.{◌<◌, ◌+◌, ◌*◌, ◌^◌, Some, slice_get, length, ap, sym, ◌∙◌, arith}
use Rattle.vm_lists.proofs.RangeLaws.{length-spaced, slice_get-spaced, value_below}
use Rattle.vm_lists.proofs.ranges.Spaced.value_at.Goals as goal

-- the value fits, since the last one does
fits : (c : goal.After-from) → c.self.inside.from + c.args.place * c.self.inside.step < 2 ^ 32
fits c =
    let count = length-spaced c.self.inside.from c.self.inside.step c.self.inside.count in
    let same = ap length c.self.view_is in
    let below : c.args.place < c.self.inside.count = omega arith in
    value_below c.self.inside.from c.self.inside.step c.self.inside.count c.args.place below c.self.invariant.0

pub overflow_mul-result : goal.overflow_mul-result
overflow_mul-result c = let small = fits c in omega arith

pub overflow_add-result : goal.overflow_add-result
overflow_add-result c = let small = fits c in let from = c.from.ensures in omega arith

pub overflow_cast-result : goal.overflow_cast-result
overflow_cast-result c =
    let count = length-spaced c.self.inside.from c.self.inside.step c.self.inside.count in
    let same = ap length c.self.view_is in
    let below : c.args.place < c.self.inside.count = omega arith in
    let small = value_below c.self.inside.from c.self.inside.step c.self.inside.count c.args.place below c.self.invariant.0 in
    let from = c.from.ensures in
    omega arith

pub returns : goal.returns
returns c =
    let count = length-spaced c.self.inside.from c.self.inside.step c.self.inside.count in
    let same = ap length c.self.view_is in
    let below : c.args.place < c.self.inside.count = omega arith in
    ap (λ values. slice_get values c.args.place) (sym c.self.view_is)
    ∙ slice_get-spaced c.self.inside.from c.self.inside.step c.self.inside.count c.args.place below
    ∙ ap (λ n. Some (n + c.args.place * c.self.inside.step)) (sym c.from.ensures)

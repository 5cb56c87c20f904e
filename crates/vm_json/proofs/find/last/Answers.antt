use Rattle.std.proofs.Common.{◌≡◌, ◌+◌, ◌-◌, [], ◌∷◌, ◌++◌, take, true, false, sym, ap, ◌∙◌, arith}
use Rattle.std.proofs.lemmas.List.{take_more}
use Rattle.std.specs.Str.{bytes_eq}
use Rattle.vm_json.proofs.ViewLemmas.{popped}
use Rattle.vm_json.proofs.find.last.Goals as goal

pub returns-then-eq : goal.returns-then-eq
returns-then-eq c =
    let ms = c.args.members.now in
    let i = c.loop-left.left - 1 in
    let m = c.index-members-left.result in
    let one : c.loop-left.left ≡ i + 1 = omega arith in
    let front : take c.loop-left.left ms ≡ take i ms ++ m ∷ [] = ap (λ n. take n ms) one ∙ take_more ms i m (omega arith) ∙ ap (λ x. take i ms ++ x ∷ []) (sym c.index-members-left.is) in
    let same : bytes_eq m.0.now c.args.name.now ≡ true = grind arith in
    sym (c.loop-left.invariant.none_behind ∙ popped c.args.name.now (take c.loop-left.left ms) (take i ms) m true front same)

pub loop-left-preserved : goal.loop-left-preserved
loop-left-preserved c =
    let ms = c.args.members.now in
    let i = c.loop-left.left - 1 in
    let m = c.index-members-left.result in
    let one : c.loop-left.left ≡ i + 1 = omega arith in
    let front : take c.loop-left.left ms ≡ take i ms ++ m ∷ [] = ap (λ n. take n ms) one ∙ take_more ms i m (omega arith) ∙ ap (λ x. take i ms ++ x ∷ []) (sym c.index-members-left.is) in
    let other : bytes_eq m.0.now c.args.name.now ≡ false = grind arith in
    record {
      none_behind = c.loop-left.invariant.none_behind ∙ popped c.args.name.now (take c.loop-left.left ms) (take i ms) m false front other;
      within = omega arith;
    }

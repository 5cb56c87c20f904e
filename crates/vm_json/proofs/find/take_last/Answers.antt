use Rattle.std.proofs.Common.{◌≡◌, ◌-◌, ◌<◌, List, [], ◌∷◌, ◌++◌, length, take, ◌∙◌, refl, sym, ap, true, false, arith}
use Rattle.std.proofs.lemmas.List.{length-append}
use Rattle.std.specs.Str.{bytes_eq}
use Rattle.json.specs.Find.{get_member}
use Rattle.vm_json.specs.Tree.{members_view}
use Rattle.vm_json.proofs.ViewLemmas.{popped}
use Rattle.vm_json.proofs.find.take_last.Goals as goal

shorter : {A : Type 0} (all left : List A) (a : A) → all ≡ left ++ a ∷ [] → length left < length all
shorter all left a is =
    let longer = ap length is ∙ length-append left (a ∷ []) in
    omega (arith, longer)

pub loop-key-init : goal.loop-key-init
loop-key-init c = refl

pub loop-key-smaller : goal.loop-key-smaller
loop-key-smaller c = shorter c.loop-key.rest.items c.pop.new.self.items _ c.in-Some.ensures.items

pub loop-key-preserved : goal.loop-key-preserved
loop-key-preserved c =
    let name = c.args.name.now in
    let other : bytes_eq c.in-Some.key.now name ≡ false = sym c.eq.ensures ∙ c.if-eq.false in
    c.loop-key.invariant ∙ popped name c.loop-key.rest.items c.pop.new.self.items (c.in-Some.key, c.in-Some.value) false c.in-Some.ensures.items other

pub returns-then-eq : goal.returns-then-eq
returns-then-eq c =
    let name = c.args.name.now in
    let same : bytes_eq c.in-Some.key.now name ≡ true = sym c.eq.ensures ∙ c.if-eq.true in
    sym (c.loop-key.invariant ∙ popped name c.loop-key.rest.items c.pop.new.self.items (c.in-Some.key, c.in-Some.value) true c.in-Some.ensures.items same)

pub returns : goal.returns
returns c =
    let all = c.loop-key.rest.items in
    let none : all ≡ [] = c.in_default.ensures.items ∙ ap (λ ms. ms ++ []) (c.in_default.ensures.rest ∙ ap (λ n. take (n - 1) all) c.in_default.ensures.cases.0) in
    sym (c.loop-key.invariant ∙ ap (λ ms. get_member c.args.name.now (members_view ms)) none)

use Rattle.std.proofs.Common.{◌≡◌, ◌∙◌, ℕ, ◌+◌, ◌-◌, ◌/◌, ◌<◌, true, false, List, [], get_or, length, map, ap, arith, subst, sym}
use Rattle.std.proofs.lemmas.List.{get_or-map, length-map}
use Rattle.vm_steer.specs.Names.{is_before}
use Rattle.vm_steer.proofs.NameLemmas.{before_behind, before_through, place_is}
use Rattle.vm_log.proofs.named.place_of.Goals as goal

pub loop-low-preserved-then-is_before : goal.loop-low-preserved-then-is_before
loop-low-preserved-then-is_before g c =
    let names = map g.T.Named.name_of c.args.items.now in
    let name = c.args.name.now in
    let middle = c.loop-low.low + (c.loop-low.high - c.loop-low.low) / 2 in
    let within : middle < length c.args.items.now = omega arith in
    let all : length names ≡ length c.args.items.now = length-map c.args.items.now g.T.Named.name_of in
    let read = get_or-map g.T.Named.name_of c.args.items.now middle c.index-items-middle.result [] within in
    let is : c.name.result.now ≡ get_or names middle [] = c.name.ensures ∙ (ap g.T.Named.name_of c.index-items-middle.is ∙ sym read) in
    let here : is_before (get_or names middle []) name ≡ true = subst (λ (n : List ℕ). is_before n name ≡ true) is (sym c.is_before.ensures ∙ c.if-is_before.true) in (
      omega arith,
      c.loop-low.invariant.1,
      λ k h. before_through (get_or names k []) (get_or names middle []) name (c.requires.rise k middle (omega arith) (omega arith)) here,
      c.loop-low.invariant.3,
    )

pub loop-low-preserved : goal.loop-low-preserved
loop-low-preserved g c =
    let names = map g.T.Named.name_of c.args.items.now in
    let name = c.args.name.now in
    let middle = c.loop-low.low + (c.loop-low.high - c.loop-low.low) / 2 in
    let within : middle < length c.args.items.now = omega arith in
    let all : length names ≡ length c.args.items.now = length-map c.args.items.now g.T.Named.name_of in
    let read = get_or-map g.T.Named.name_of c.args.items.now middle c.index-items-middle.result [] within in
    let is : c.name.result.now ≡ get_or names middle [] = c.name.ensures ∙ (ap g.T.Named.name_of c.index-items-middle.is ∙ sym read) in
    let here : is_before (get_or names middle []) name ≡ false = subst (λ (n : List ℕ). is_before n name ≡ false) is (sym c.is_before.ensures ∙ c.if-is_before.false) in (
      omega arith,
      omega arith,
      c.loop-low.invariant.2,
      λ k h l. before_behind (get_or names middle []) (get_or names k []) name (c.requires.rise middle k h (omega arith)) here,
    )

pub returns-clause-exact : goal.returns-clause-exact
returns-clause-exact g c =
    let names = map g.T.Named.name_of c.args.items.now in
    let all : length names ≡ length c.args.items.now = length-map c.args.items.now g.T.Named.name_of in
    place_is names c.args.name.now c.loop-low.low (omega arith) (c.loop-low.invariant.2) (λ h. c.loop-low.invariant.3 c.loop-low.low (omega arith) (omega arith))

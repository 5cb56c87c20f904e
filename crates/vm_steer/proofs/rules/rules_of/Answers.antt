use Rattle.std.proofs.Common.{◌∙◌, ◌<◌, length, arith, refl, sym}
use Rattle.vm_steer.proofs.KeyLemmas.{key_read, rules_behind, rules_found}
use Rattle.vm_steer.specs.Look.{rules_of}
use Rattle.vm_steer.proofs.rules.rules_of.Goals as goal

pub is_of-requires-clause-guest : goal.is_of-requires-clause-guest
is_of-requires-clause-guest c =
    let within : c.loop-position.position < length c.args.guests.now = omega (arith, c.loop-position.invariant.0, c.loop-position-test.true) in
    key_read c.args.guests.now c.args.keys.now c.loop-position.position c.index-guests-position.result c.requires within c.index-guests-position.is

pub returns-then-is_of-clause-exact : goal.returns-then-is_of-clause-exact
returns-then-is_of-clause-exact c =
    let within : c.loop-position.position < length c.args.guests.now = omega (arith, c.loop-position.invariant.0, c.loop-position-test.true) in
    c.rules_in.ensures.exact
    ∙ rules_found c.args.guests.now c.loop-position.position c.index-guests-position.result c.args.name.now (rules_of c.args.guests.now c.args.name.now) within c.index-guests-position.is (sym c.is_of.ensures ∙ c.if-is_of.true) c.loop-position.invariant.1

pub loop-position-preserved : goal.loop-position-preserved
loop-position-preserved c =
    let within : c.loop-position.position < length c.args.guests.now = omega (arith, c.loop-position.invariant.0, c.loop-position-test.true) in
    (refl, rules_behind c.args.guests.now c.loop-position.position c.index-guests-position.result c.args.name.now (rules_of c.args.guests.now c.args.name.now) within c.index-guests-position.is (sym c.is_of.ensures ∙ c.if-is_of.false) c.loop-position.invariant.1)

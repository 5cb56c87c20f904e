use Rattle.std.proofs.Common.{refl, sym, ◌∙◌, arith}
use Rattle.vm_lists.proofs.NameLaws.{at_end, on, there}
use Rattle.vm_lists.proofs.names.checked_names.Goals as goal

pub loop-place-init : goal.loop-place-init
loop-place-init g c = refl

pub returns-in-Some : goal.returns-in-Some
returns-in-Some g c =
    sym (there g.R.NameRule.is_name c.args.lists.now c.loop-place.place c.index-lists-place.result c.in-Some.kind c.loop-place-test.true c.index-lists-place.is (sym c.name_fault.ensures ∙ c.in-Some.is))
    ∙ c.loop-place.invariant

pub loop-place-preserved : goal.loop-place-preserved
loop-place-preserved g c =
    on g.R.NameRule.is_name c.args.lists.now c.loop-place.place c.index-lists-place.result c.loop-place-test.true c.index-lists-place.is (sym c.name_fault.ensures ∙ c.in_default.is)
    ∙ c.loop-place.invariant

pub returns : goal.returns
returns g c = sym (at_end g.R.NameRule.is_name c.args.lists.now c.loop-place.place (omega (arith, c.loop-place-test.false))) ∙ c.loop-place.invariant

use Rattle.std.proofs.Common.{◌++◌, List, map, ap, ◌∙◌}
use Rattle.vm_json.specs.Tree.{value_view}
use Rattle.vm_keys.specs.OddKeys.{Odd, odd_of}
use Rattle.vm_policy_check.specs.declared.finding.Part.TheVariants.{Guest}
use Rattle.vm_policy_check.specs.Findings.{Found, found_of, odd}
use Rattle.vm_policy_check.proofs.FoundLemmas.{guests_more}
use Rattle.vm_policy_check.proofs.checking.add_guests.Goals as goal

pub loop-number-preserved : goal.loop-number-preserved
loop-number-preserved c =
    let n = c.loop-number.number in
    let before = map found_of c.loop-number.found.items in
    let keyed = map found_of c.add_odd.new.found.items in
    guests_more (value_view c.args.root.now) c.args.guests.now n c.index-guests-number.result before keyed (map found_of c.add.new.found.items) _
    c.loop-number-test.true c.index-guests-number.is
    (c.in_ok-add_odd.ensures.ok
    ∙ ap (λ (keys : List Odd). before ++ map (odd (Guest n)) keys) (ap (map odd_of) c.deref.ensures.value ∙ c.in_ok-odd.ensures))
    (c.in_ok-add.ensures.ok ∙ ap (λ (found : List Found). keyed ++ found) c.cross.ensures)
    c.loop-number.invariant

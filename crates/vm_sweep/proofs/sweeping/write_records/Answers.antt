use Rattle.std.proofs.Common.{◌∙◌, ◌∷◌, [], ap, map, rules, subst}
use Rattle.vm_sweep.specs.Table.{record_of}
use Rattle.vm_sweep.specs.Written.{HasTold}
use Rattle.vm_sweep.proofs.SpreadLemmas.{drop-item}
use Rattle.vm_sweep.proofs.WrittenLemmas.{fails-in, told-one}
use Rattle.vm_sweep.proofs.sweeping.write_records.Goals as goal

pub returns-in_err-write_record-clause-failed : goal.returns-in_err-write_record-clause-failed
returns-in_err-write_record-clause-failed g c =
    let at = ap (map record_of) (drop-item _ _ _ c.loop-one-test.true c.one-item.is) in
    fails-in _ _ _ _ (record_of c.one-item.result ∷ []) _ (subst (HasTold _ _ _) at c.loop-one.invariant.told) c.from_residual.result (search rules)

pub loop-one-preserved : goal.loop-one-preserved
loop-one-preserved g c =
    let at = ap (map record_of) (drop-item _ _ _ c.loop-one-test.true c.one-item.is) in
    record {
      told = told-one _ _ _ _ (record_of c.one-item.result) _ (subst (HasTold _ _ _) at c.loop-one.invariant.told) c.in_ok-write_record.ensures.done;
      stays = c.in_ok-write_record.ensures.stays ∙ c.loop-one.invariant.stays;
    }

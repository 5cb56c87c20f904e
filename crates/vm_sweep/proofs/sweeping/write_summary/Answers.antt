use Rattle.std.proofs.Common.{◌∷◌, [], rules}
use Rattle.vm_sweep.specs.Combinations.{numbers_of}
use Rattle.vm_sweep.proofs.WrittenLemmas.{memory-here, told-none}
use Rattle.vm_tally.specs.Table.{record_text}
use Rattle.vm_sweep.proofs.sweeping.write_summary.Goals as goal

pub returns-in_err-text-clause-failed : goal.returns-in_err-text-clause-failed
returns-in_err-text-clause-failed g c =
    let variant = c.args.variant.now in
    memory-here c.from_residual.result (search rules) _ _ (record_text c.args.rebalancing variant.combination (numbers_of variant) c.args.summary.now ∷ []) _
    (told-none _ _)

use Rattle.std.proofs.Common.{◌∷◌, [], rules}
use Rattle.vm_sweep.specs.Table.{header_for}
use Rattle.vm_sweep.proofs.WrittenLemmas.{memory-here, told-none}
use Rattle.vm_sweep.proofs.sweeping.write_header.Goals as goal

pub returns-in_err-text-clause-failed : goal.returns-in_err-text-clause-failed
returns-in_err-text-clause-failed g c =
    memory-here c.from_residual.result (search rules) _ _ (header_for c.args.detail c.args.lists.now ∷ []) _ (told-none _ _)

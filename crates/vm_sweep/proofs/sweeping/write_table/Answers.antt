use Rattle.std.proofs.Common.{◌∙◌, ◌∷◌, [], ap, map, rules}
use Rattle.vm_sweep.specs.Combinations.{variants}
use Rattle.vm_sweep.specs.Orders.{order_of}
use Rattle.vm_sweep.specs.Table.{header_for, record_of, rows_for}
use Rattle.vm_sweep.proofs.WrittenLemmas.{fails-in, memory-here, rest-fails, rest-told, told-none, told-one}
use Rattle.vm_sweep.proofs.sweeping.write_table.Goals as goal

pub returns-in_err-write_header-clause-failed : goal.returns-in_err-write_header-clause-failed
returns-in_err-write_header-clause-failed g c =
    let lists = c.args.lists.now in
    fails-in _ _ _ (rows_for c.args.detail lists c.args.config) (header_for c.args.detail lists ∷ [])
    (map record_of (map (order_of c.args.detail c.args.config) (variants lists c.args.config))) (told-none _ _) c.from_residual.result (search rules)

pub returns-in_err-jobs-clause-failed : goal.returns-in_err-jobs-clause-failed
returns-in_err-jobs-clause-failed g c =
    memory-here c.from_residual-in_err-jobs.result (search rules) _ _ (rows_for c.args.detail c.args.lists.now c.args.config) _
    (told-one _ _ _ _ (header_for c.args.detail c.args.lists.now) _ (told-none _ _) c.in_ok-write_header.ensures.done)

pub returns-clause-done : goal.returns-clause-done
returns-clause-done g c =
    let rows = rows_for c.args.detail c.args.lists.now c.args.config in
    rest-told c.write_runs.result _ _ _ rows _ _ (ap (map record_of) (c.into_iter.ensures.rest ∙ c.in_ok-jobs.ensures.jobs))
    (told-one _ _ _ rows (header_for c.args.detail c.args.lists.now) _ (told-none _ rows) c.in_ok-write_header.ensures.done) c.write_runs.ensures.done

pub returns-clause-failed : goal.returns-clause-failed
returns-clause-failed g c =
    let rows = rows_for c.args.detail c.args.lists.now c.args.config in
    rest-fails c.write_runs.result _ _ _ rows _ _ (ap (map record_of) (c.into_iter.ensures.rest ∙ c.in_ok-jobs.ensures.jobs))
    (told-one _ _ _ rows (header_for c.args.detail c.args.lists.now) _ (told-none _ rows) c.in_ok-write_header.ensures.done) c.write_runs.ensures.failed

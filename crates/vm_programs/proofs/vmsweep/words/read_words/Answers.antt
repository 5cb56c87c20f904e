use Rattle.std.proofs.Common.{◌≡◌, ◌∙◌, codes, map, string_bytes, ap, sym}
use Rattle.vm_words.specs.Words.{has_flag}
use Rattle.vm_programs.specs.vmsweep.CommandLine.{form_of, rows_of, sweep_line, workers_of}
use Rattle.vm_programs.specs.vmsweep.Lists.{lists_in, lists_of}
use Rattle.vm_programs.specs.vmsweep.Taken.{AreTaken}
use Rattle.vm_programs.proofs.lemmas.vmsweep.Taken.{refused, taken}
use Rattle.vm_programs.proofs.lemmas.words.{for-some, passed-on}
use Rattle.vm_programs.proofs.vmsweep.words.read_words.Goals as goal

pub returns-in_err-request-clause-refused : goal.returns-in_err-request-clause-refused
unfolding sweep_line
returns-in_err-request-clause-refused g c =
    let words = map string_bytes c.args.words.now in
    passed-on sweep_line words (AreTaken words) (λ taken. taken.formed) c.from_residual.result c.in_err-request.field-0.0
    c.in_err-request.ensures.refused c.from_residual.ensures.1

pub asked_of-requires-clause-workers : goal.asked_of-requires-clause-workers
asked_of-requires-clause-workers g c = for-some _ _ c.in_ok-request.ensures.numbers.1.1.1.1.1.1.1.1.1.0

pub asked_of-requires-clause-seeds : goal.asked_of-requires-clause-seeds
asked_of-requires-clause-seeds g c = for-some _ _ c.in_ok-request.ensures.numbers.1.1.1.1.1.1.1.1.0

pub returns-in-Ok-clause-lists : goal.returns-in-Ok-clause-lists
unfolding sweep_line
returns-in-Ok-clause-lists g c =
    let same : c.in_ok-request.request ≡ rows_of (map string_bytes c.args.words.now) = c.in_ok-request.ensures.asked in
    ap lists_of (sym same) ∙ c.in-Ok.ensures.lists

pub returns-in-Ok-clause-form : goal.returns-in-Ok-clause-form
unfolding sweep_line
returns-in-Ok-clause-form g c =
    let same : c.in_ok-request.request ≡ rows_of (map string_bytes c.args.words.now) = c.in_ok-request.ensures.asked in
    c.in-Ok.ensures.form ∙ ap form_of same

pub returns-in-Ok-clause-progress : goal.returns-in-Ok-clause-progress
unfolding sweep_line
returns-in-Ok-clause-progress g c =
    let same : c.in_ok-request.request ≡ rows_of (map string_bytes c.args.words.now) = c.in_ok-request.ensures.asked in
    c.in-Ok.ensures.progress ∙ ap (has_flag (codes "progress")) same

pub returns-in-Ok-clause-workers : goal.returns-in-Ok-clause-workers
unfolding sweep_line
returns-in-Ok-clause-workers g c =
    let same : c.in_ok-request.request ≡ rows_of (map string_bytes c.args.words.now) = c.in_ok-request.ensures.asked in
    c.in-Ok.ensures.workers ∙ ap workers_of same

pub returns-in-Ok-clause-taken : goal.returns-in-Ok-clause-taken
unfolding sweep_line
returns-in-Ok-clause-taken g c =
    let same : c.in_ok-request.request ≡ rows_of (map string_bytes c.args.words.now) = c.in_ok-request.ensures.asked in
    taken _ c.in_ok-request.request same c.in-Ok.asked.form (lists_in c.in-Ok.asked) c.in_ok-request.ensures.taken
    c.in-Ok.ensures.lists c.in-Ok.ensures.form c.in-Ok.ensures.few_lists c.in-Ok.ensures.few c.in-Ok.ensures.drawn

pub returns-clause-refused : goal.returns-clause-refused
unfolding sweep_line
returns-clause-refused g c =
    let same : c.in_ok-request.request ≡ rows_of (map string_bytes c.args.words.now) = c.in_ok-request.ensures.asked in
    refused _ c.in_ok-request.request same c.in-Err.fault c.complain.result c.in-Err.ensures.refused c.complain.ensures

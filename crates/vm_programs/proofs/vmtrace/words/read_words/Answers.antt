use Rattle.std.proofs.Common.{◌≡◌, ◌∙◌, map, string_bytes, ap}
use Rattle.std.proofs.lemmas.Result.{IfErr-weaker, IfOk-weaker}
use Rattle.vm_programs.specs.vmtrace.CommandLine.{rows_of, settings_in, trace_line}
use Rattle.vm_programs.specs.vmtrace.Taken.{AreTaken}
use Rattle.vm_programs.proofs.lemmas.vmtrace.Taken.{in-range, refused, taken}
use Rattle.vm_programs.proofs.lemmas.words.{passed-on}
use Rattle.vm_programs.proofs.vmtrace.words.read_words.Goals as goal

pub returns-in_err-request-clause-refused : goal.returns-in_err-request-clause-refused
unfolding trace_line
returns-in_err-request-clause-refused g c =
    let words = map string_bytes c.args.words.now in
    passed-on trace_line words (AreTaken words) (λ taken. taken.formed) c.from_residual.result c.in_err-request.field-0.0
    c.in_err-request.ensures.refused c.from_residual.ensures.1

pub read_request-requires : goal.read_request-requires
unfolding trace_line
read_request-requires g c = in-range c.in_ok-request.request c.in_ok-request.ensures.numbers

pub returns-clause-asked : goal.returns-clause-asked
unfolding trace_line
returns-clause-asked g c =
    let same : c.in_ok-request.request ≡ rows_of (map string_bytes c.args.words.now) = c.in_ok-request.ensures.asked in
    IfOk-weaker c.read_request.result _ _ (λ settings is. is ∙ ap settings_in same) c.read_request.ensures.asked

pub returns-clause-taken : goal.returns-clause-taken
unfolding trace_line
returns-clause-taken g c =
    let same : c.in_ok-request.request ≡ rows_of (map string_bytes c.args.words.now) = c.in_ok-request.ensures.asked in
    IfOk-weaker c.read_request.result _ _ (λ settings named. taken _ c.in_ok-request.request same c.in_ok-request.ensures.taken named)
    c.read_request.ensures.named

pub returns-clause-refused : goal.returns-clause-refused
unfolding trace_line
returns-clause-refused g c =
    let same : c.in_ok-request.request ≡ rows_of (map string_bytes c.args.words.now) = c.in_ok-request.ensures.asked in
    IfErr-weaker c.read_request.result _ _ (refused _ c.in_ok-request.request same) c.read_request.ensures.refused

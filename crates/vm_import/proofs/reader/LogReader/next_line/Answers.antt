use Rattle.std.proofs.Common.{◌≡◌, ◌∙◌, ℕ, ◌+◌, ◌<◌, inr, length, Result, Ok, Err, sym, ap, rules}
use Rattle.std.proofs.lemmas.Result.{IfOk-from_err}
use Rattle.vm_import.specs.declared.faults.LineFault.{LineFault}
use Rattle.vm_import.specs.declared.faults.LogError.{LogError}
use Rattle.vm_import.specs.declared.faults.LogError.TheVariants.{Line, Read, TooLong}
use Rattle.vm_import.specs.declared.step.Step.TheVariants.{Ended, Found}
use Rattle.vm_import.specs.Lines.{line_of, process_of}
use Rattle.vm_import.specs.Logs.{first_process}
use Rattle.vm_import.specs.BlockSteps.{first_line}
use Rattle.vm_import.specs.Waiting.{all_of}
use Rattle.vm_import.proofs.BlockStepLemmas.{at, begins_with_fault, goes_on, goes_on-end}
use Rattle.vm_import.proofs.LineLemmas.{ended_found, ended_passed, err_no_value, failed_or_stays, kept_so, length_at, line_is_not, lines_small, long_at, long_then, no_error, no_line, no_value, same_error, stays_then}
use Rattle.vm_import.proofs.WaitingLemmas.{Stays-then}
use Rattle.vm_import.proofs.reader.LogReader.next_line.Goals as goal

-- what an error of a line says
line_number : {A : Type 0} (number other : ℕ) (fault told : LineFault)
    → ◌≡◌ {A = Result A LogError} (Err (Line number fault)) (Err (Line other told)) → number ≡ other
line_number number other fault told same = cc

line_fault : {A : Type 0} (number other : ℕ) (fault told : LineFault)
    → ◌≡◌ {A = Result A LogError} (Err (Line number fault)) (Err (Line other told)) → fault ≡ told
line_fault number other fault told same = cc

pub returns-then-is_empty-clause-step : goal.returns-then-is_empty-clause-step
returns-then-is_empty-clause-step g c =
    let old = c.self.inside.block in
    let full = c.fill.new.self in
    let none : length full.bytes ≡ 0 = search rules in
    rw (← c.self.view_is)
    (goes_on-end old.bytes full.bytes old.taken full.taken c.self.inside.lines c.self.inside.process _ _
    c.in_ok-fill.ensures.taken.bytes c.in_ok-fill.ensures.enough none)

pub returns-in-Err-clause-fault : goal.returns-in-Err-clause-fault
returns-in-Err-clause-fault g c = λ number fault same.
    let old = c.self.inside.block in
    let full = c.fill.new.self in
    let number_is : c.self.inside.lines + 1 ≡ number = line_number (c.self.inside.lines + 1) number c.in-Err.fault fault same in
    let fault_is : c.in-Err.fault ≡ fault = line_fault (c.self.inside.lines + 1) number c.in-Err.fault fault same in
    let some : 0 < length full.bytes = search rules in
    let line : c.window-line.result.now ≡ first_line full.bytes = c.window-line.ensures ∙ ap first_line c.bytes-2.ensures in
    let meaning : line_of c.self.inside.process (first_line full.bytes) ≡ Err fault =
    sym (ap (line_of c.self.inside.process) line) ∙ sym c.line_of.ensures.meaning ∙ c.in-Err.is ∙ ap Err fault_is in
    rw (← c.self.view_is)
    (begins_with_fault number fault old.bytes full.bytes old.taken c.self.inside.lines c.self.inside.process _ _
    c.in_ok-fill.ensures.taken.bytes c.in_ok-fill.ensures.enough some meaning (sym number_is))

pub returns-clause-step : goal.returns-clause-step
returns-clause-step g c =
    let old = c.self.inside.block in
    let full = c.fill.new.self in
    let used = c.pass_line.new.self in
    let process = c.self.inside.process in
    let some : 0 < length full.bytes = search rules in
    let line : c.window-line.result.now ≡ first_line full.bytes = c.window-line.ensures ∙ ap first_line c.bytes-2.ensures in
    let meaning : line_of process (first_line full.bytes) ≡ Ok c.in-Ok.found =
    sym (ap (line_of process) line) ∙ sym c.line_of.ensures.meaning ∙ c.in-Ok.is in
    let named : c.name_process.new.first ≡ first_process process (process_of (first_line full.bytes)) =
    c.name_process.ensures ∙ ap (first_process process) (c.named_process-process.ensures ∙ ap process_of line) in
    rw (← c.self.view_is, c.step_of.ensures)
    (goes_on c.in-Ok.found old.bytes full.bytes used.bytes old.taken used.taken c.self.inside.lines process c.name_process.new.first _ _ _
    c.in_ok-fill.ensures.taken.bytes c.in_ok-fill.ensures.enough some c.in_ok-pass_line.ensures.used.behind meaning named)

pub returns-in_err-fill-clause-step : goal.returns-in_err-fill-clause-step
returns-in_err-fill-clause-step g c =
    IfOk-from_err c.from_residual.result _ c.from_residual.ensures.0

pub returns-in_err-fill-clause-length : goal.returns-in_err-fill-clause-length
returns-in_err-fill-clause-length g c =
    IfOk-from_err c.from_residual.result _ c.from_residual.ensures.0

pub returns-in_err-fill-clause-passed : goal.returns-in_err-fill-clause-passed
returns-in_err-fill-clause-passed g c =
    IfOk-from_err c.from_residual.result _ c.from_residual.ensures.0

pub returns-in_err-fill-clause-fault : goal.returns-in_err-fill-clause-fault
returns-in_err-fill-clause-fault g c =
    λ number fault same. absurd (no_line c.from_residual.result c.in_err-fill.field-0.0 c.from_residual.ensures.1 c.in_err-fill.ensures.error number fault same)

pub returns-in_err-fill-clause-failure : goal.returns-in_err-fill-clause-failure
returns-in_err-fill-clause-failure g c =
    λ same. c.in_err-fill.ensures.failure (same_error c.from_residual.result c.in_err-fill.field-0.0 Read c.from_residual.ensures.1 same)

pub returns-in_err-fill-clause-valid : goal.returns-in_err-fill-clause-valid
returns-in_err-fill-clause-valid g c =
    λ access same. absurd (no_value c.from_residual.result c.in_err-fill.field-0.0 (Found access) c.from_residual.ensures.1 same)

pub returns-in_err-fill-clause-small : goal.returns-in_err-fill-clause-small
returns-in_err-fill-clause-small g c =
    lines_small c.self.inside.block.bytes c.self.inside.block.taken c.self.inside.lines c.self.invariant

pub returns-in_err-fill-clause-stays : goal.returns-in_err-fill-clause-stays
returns-in_err-fill-clause-stays g c =
    failed_or_stays (g.R.Source.has_failed c.fill.new.source ≡ g.R.Source.has_failed c.args.source.now) c.from_residual.result c.in_err-fill.field-0.0 c.from_residual.ensures.1 c.in_err-fill.ensures.stays

pub returns-in_err-fill-clause-long : goal.returns-in_err-fill-clause-long
returns-in_err-fill-clause-long g c =
    λ same.
    long_at c.args.self.now c.self.inside.block.bytes c.self.inside.block.taken c.self.inside.lines c.self.inside.process (g.R.Source.remaining c.args.source.now) c.self.view_is
    (c.in_err-fill.ensures.long (same_error c.from_residual.result c.in_err-fill.field-0.0 TooLong c.from_residual.ensures.1 same))

pub returns-in_err-pass_line-clause-step : goal.returns-in_err-pass_line-clause-step
returns-in_err-pass_line-clause-step g c =
    IfOk-from_err c.from_residual-in_err-pass_line.result _ c.from_residual-in_err-pass_line.ensures.0

pub returns-in_err-pass_line-clause-length : goal.returns-in_err-pass_line-clause-length
returns-in_err-pass_line-clause-length g c =
    IfOk-from_err c.from_residual-in_err-pass_line.result _ c.from_residual-in_err-pass_line.ensures.0

pub returns-in_err-pass_line-clause-passed : goal.returns-in_err-pass_line-clause-passed
returns-in_err-pass_line-clause-passed g c =
    IfOk-from_err c.from_residual-in_err-pass_line.result _ c.from_residual-in_err-pass_line.ensures.0

pub returns-in_err-pass_line-clause-fault : goal.returns-in_err-pass_line-clause-fault
returns-in_err-pass_line-clause-fault g c =
    λ number fault same. absurd (no_line c.from_residual-in_err-pass_line.result c.in_err-pass_line.field-0.0 c.from_residual-in_err-pass_line.ensures.1 c.in_err-pass_line.ensures.error number fault same)

pub returns-in_err-pass_line-clause-failure : goal.returns-in_err-pass_line-clause-failure
returns-in_err-pass_line-clause-failure g c =
    λ same. c.in_err-pass_line.ensures.failure (same_error c.from_residual-in_err-pass_line.result c.in_err-pass_line.field-0.0 Read c.from_residual-in_err-pass_line.ensures.1 same)

pub returns-in_err-pass_line-clause-valid : goal.returns-in_err-pass_line-clause-valid
returns-in_err-pass_line-clause-valid g c =
    λ access same. absurd (no_value c.from_residual-in_err-pass_line.result c.in_err-pass_line.field-0.0 (Found access) c.from_residual-in_err-pass_line.ensures.1 same)

pub returns-in_err-pass_line-clause-small : goal.returns-in_err-pass_line-clause-small
returns-in_err-pass_line-clause-small g c =
    lines_small c.self.inside.block.bytes c.self.inside.block.taken c.self.inside.lines c.self.invariant

pub returns-in_err-pass_line-clause-stays : goal.returns-in_err-pass_line-clause-stays
returns-in_err-pass_line-clause-stays g c =
    stays_then (g.R.Source.has_failed c.pass_line.new.source) (g.R.Source.has_failed c.fill.new.source) (g.R.Source.has_failed c.args.source.now)
    (failed_or_stays (g.R.Source.has_failed c.pass_line.new.source ≡ g.R.Source.has_failed c.fill.new.source) c.from_residual-in_err-pass_line.result c.in_err-pass_line.field-0.0 c.from_residual-in_err-pass_line.ensures.1 c.in_err-pass_line.ensures.stays)
    (kept_so (g.R.Source.has_failed c.fill.new.source ≡ g.R.Source.has_failed c.args.source.now) _ c.in_ok-fill.ensures.stays)

pub returns-in_err-pass_line-clause-long : goal.returns-in_err-pass_line-clause-long
returns-in_err-pass_line-clause-long g c =
    λ same.
    long_at c.args.self.now c.self.inside.block.bytes c.self.inside.block.taken c.self.inside.lines c.self.inside.process (g.R.Source.remaining c.args.source.now) c.self.view_is
    (long_then (all_of c.self.inside.block.taken (g.R.Source.remaining c.args.source.now)) (all_of c.fill.new.self.taken (g.R.Source.remaining c.fill.new.source)) c.in_ok-fill.ensures.taken.all
    (c.in_err-pass_line.ensures.long (same_error c.from_residual-in_err-pass_line.result c.in_err-pass_line.field-0.0 TooLong c.from_residual-in_err-pass_line.ensures.1 same)))

pub returns-then-is_empty-clause-fault : goal.returns-then-is_empty-clause-fault
returns-then-is_empty-clause-fault g c =
    λ number fault same. absurd (no_error Ended (Line number fault) same)

pub returns-then-is_empty-clause-failure : goal.returns-then-is_empty-clause-failure
returns-then-is_empty-clause-failure g c =
    λ same. absurd (no_error Ended Read same)

pub returns-then-is_empty-clause-long : goal.returns-then-is_empty-clause-long
returns-then-is_empty-clause-long g c =
    λ same. absurd (no_error Ended TooLong same)

pub returns-then-is_empty-clause-stays : goal.returns-then-is_empty-clause-stays
returns-then-is_empty-clause-stays g c =
    inr (kept_so (g.R.Source.has_failed c.fill.new.source ≡ g.R.Source.has_failed c.args.source.now) _ c.in_ok-fill.ensures.stays)

pub returns-then-is_empty-clause-length : goal.returns-then-is_empty-clause-length
returns-then-is_empty-clause-length g c =
    length_at c.args.self.now (at c.fill.new.self.bytes c.fill.new.self.taken c.self.inside.lines c.self.inside.process)
    c.self.inside.block.bytes c.self.inside.block.taken c.self.inside.lines c.self.inside.process
    (g.R.Source.remaining c.args.source.now) (g.R.Source.remaining c.fill.new.source) c.self.view_is c.in_ok-fill.ensures.taken.all

pub returns-then-is_empty-clause-valid : goal.returns-then-is_empty-clause-valid
returns-then-is_empty-clause-valid g c =
    λ access same. absurd (ended_found access same)

pub returns-then-is_empty-clause-passed : goal.returns-then-is_empty-clause-passed
returns-then-is_empty-clause-passed g c =
    λ same. absurd (ended_passed same)

pub returns-then-is_empty-clause-small : goal.returns-then-is_empty-clause-small
returns-then-is_empty-clause-small g c =
    lines_small c.self.inside.block.bytes c.self.inside.block.taken c.self.inside.lines c.self.invariant

pub returns-in-Err-clause-failure : goal.returns-in-Err-clause-failure
returns-in-Err-clause-failure g c =
    λ same. absurd (line_is_not _ c.in-Err.fault Read tt same)

pub returns-in-Err-clause-long : goal.returns-in-Err-clause-long
returns-in-Err-clause-long g c =
    λ same. absurd (line_is_not _ c.in-Err.fault TooLong tt same)

pub returns-in-Err-clause-stays : goal.returns-in-Err-clause-stays
returns-in-Err-clause-stays g c =
    inr (kept_so (g.R.Source.has_failed c.fill.new.source ≡ g.R.Source.has_failed c.args.source.now) _ c.in_ok-fill.ensures.stays)

pub returns-in-Err-clause-valid : goal.returns-in-Err-clause-valid
returns-in-Err-clause-valid g c =
    λ access same. absurd (err_no_value _ (Found access) same)

pub returns-in-Err-clause-small : goal.returns-in-Err-clause-small
returns-in-Err-clause-small g c =
    lines_small c.self.inside.block.bytes c.self.inside.block.taken c.self.inside.lines c.self.invariant

pub returns-clause-fault : goal.returns-clause-fault
returns-clause-fault g c =
    λ number fault same. absurd (no_error c.step_of.result (Line number fault) same)

pub returns-clause-failure : goal.returns-clause-failure
returns-clause-failure g c =
    λ same. absurd (no_error c.step_of.result Read same)

pub returns-clause-long : goal.returns-clause-long
returns-clause-long g c =
    λ same. absurd (no_error c.step_of.result TooLong same)

pub returns-clause-stays : goal.returns-clause-stays
returns-clause-stays g c =
    inr (kept_so (g.R.Source.has_failed c.pass_line.new.source ≡ g.R.Source.has_failed c.fill.new.source) _ c.in_ok-pass_line.ensures.stays
    ∙ kept_so (g.R.Source.has_failed c.fill.new.source ≡ g.R.Source.has_failed c.args.source.now) _ c.in_ok-fill.ensures.stays)

pub returns-clause-length : goal.returns-clause-length
returns-clause-length g c =
    length_at c.args.self.now (at c.pass_line.new.self.bytes c.pass_line.new.self.taken (c.self.inside.lines + 1) c.name_process.new.first)
    c.self.inside.block.bytes c.self.inside.block.taken c.self.inside.lines c.self.inside.process
    (g.R.Source.remaining c.args.source.now) (g.R.Source.remaining c.pass_line.new.source) c.self.view_is
    (Stays-then (all_of c.self.inside.block.taken (g.R.Source.remaining c.args.source.now)) (all_of c.fill.new.self.taken (g.R.Source.remaining c.fill.new.source))
    (all_of c.pass_line.new.self.taken (g.R.Source.remaining c.pass_line.new.source)) c.in_ok-fill.ensures.taken.all c.in_ok-pass_line.ensures.used.all)

use Rattle.std.proofs.Common.{◌∙◌}
use Rattle.clap.specs.Words.{app_of}
use Rattle.vm_words.proofs.WordsLemmas.{asked-ok, checked-err, taken-err, taken-ok}
use Rattle.vm_words.proofs.command_line.CommandLine.parse.Goals as goal

pub returns-in_err-try_get_matches_from_mut-clause-refused : goal.returns-in_err-try_get_matches_from_mut-clause-refused
returns-in_err-try_get_matches_from_mut-clause-refused c =
    taken-err c.args.self.now (app_of c.in_ok-command.command) _ c.in_ok-command.ensures
    c.from_residual-in_err-try_get_matches_from_mut.result c.in_err-try_get_matches_from_mut.field-0.0
    c.in_err-try_get_matches_from_mut.ensures.kinds c.from_residual-in_err-try_get_matches_from_mut.ensures.1

pub returns-in_err-check-clause-refused : goal.returns-in_err-check-clause-refused
returns-in_err-check-clause-refused c =
    let asked = c.new-request.ensures
    ∙ asked-ok c.args.self.now (app_of c.in_ok-command.command) _ c.in_ok-command.ensures _ c.in_ok-try_get_matches_from_mut.ensures.ok.2 in
    checked-err c.args.self.now (app_of c.in_ok-command.command) _ c.in_ok-command.ensures c.new-request.result asked
    c.from_residual-in_err-check.result c.in_err-check.field-0.0 c.in_err-check.ensures.refused c.from_residual-in_err-check.ensures.1

pub returns-clause-asked : goal.returns-clause-asked
returns-clause-asked c =
    c.new-request.ensures
    ∙ asked-ok c.args.self.now (app_of c.in_ok-command.command) _ c.in_ok-command.ensures _ c.in_ok-try_get_matches_from_mut.ensures.ok.2

pub returns-clause-taken : goal.returns-clause-taken
returns-clause-taken c =
    let asked = c.new-request.ensures
    ∙ asked-ok c.args.self.now (app_of c.in_ok-command.command) _ c.in_ok-command.ensures _ c.in_ok-try_get_matches_from_mut.ensures.ok.2 in
    taken-ok c.args.self.now (app_of c.in_ok-command.command) _ c.in_ok-command.ensures c.new-request.result asked
    c.in_ok-try_get_matches_from_mut.ensures.kinds c.in_ok-check.ensures.apart c.in_ok-check.ensures.fit

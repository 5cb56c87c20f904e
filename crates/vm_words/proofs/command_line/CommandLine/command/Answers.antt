use Rattle.std.proofs.Common.{◌∙◌, ap, map}
use Rattle.std.proofs.lemmas.Result.{IfOk-weaker}
use Rattle.clap.specs.Words.{App}
use Rattle.vm_words.specs.Words.{command_line, file_options, flag_option, flag_rule, value_option, value_rule, with_options}
use Rattle.vm_words.proofs.command_line.CommandLine.command.Goals as goal

pub returns : goal.returns
unfolding command_line
returns c =
    let flags = map flag_option (map flag_rule c.args.self.now.flags.now) in
    let values = map value_option (map value_rule c.args.self.now.values.now) in
    let file = file_options c.args.self.now.takes_file in
    let flagged = c.in_ok-command.ensures ∙ ap (λ (app : App). with_options app flags) c.named.ensures in
    let valued = c.in_ok-command-2.ensures ∙ ap (λ (app : App). with_options app values) flagged in
    IfOk-weaker c.with_file.result _ _ (λ command is. is ∙ ap (λ (app : App). with_options app file) valued) c.with_file.ensures

use Rattle.std.proofs.Common.{◌≡◌, ◌∙◌, Some, Bool, ap}
use Rattle.clap.specs.Words.{Rule, Text, new_rule, rule_of}
use Rattle.clap.specs.declared.builder.action.ArgAction.TheVariants.{SetTrue}
use Rattle.clap.specs.declared.builder.arg.Arg.{Arg}
use Rattle.vm_words.specs.Words.{flag_option}
use Rattle.vm_words.proofs.command_line.flag_argument.Goals as goal

abbrev named : Text → Rule → Rule
named name rule = record rule { long = Some name }

abbrev set : Rule → Rule
set rule = record rule { action = Some SetTrue }

abbrev is_global : Arg → Bool
is_global argument = argument.global

pub returns-clause-rule : goal.returns-clause-rule
unfolding flag_option
returns-clause-rule c =
    let long_is : rule_of c.long.result ≡ named c.args.flag.now.name.now (new_rule c.args.flag.now.name.now) =
    ap rule_of c.long.ensures ∙ ap (named c.args.flag.now.name.now) c.new.ensures.rule in
    ap rule_of c.action.ensures ∙ ap set (ap rule_of c.help.ensures ∙ long_is)

pub returns-clause-local : goal.returns-clause-local
returns-clause-local c =
    ap is_global c.action.ensures ∙ ap is_global c.help.ensures ∙ ap is_global c.long.ensures ∙ c.new.ensures.optional.1

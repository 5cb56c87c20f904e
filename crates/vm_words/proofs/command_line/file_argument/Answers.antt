use Rattle.std.proofs.Common.{◌≡◌, ◌∙◌, Some, Bool, ap, codes}
use Rattle.clap.specs.Words.{Rule, new_rule, rule_of}
use Rattle.clap.specs.declared.builder.action.ArgAction.TheVariants.{Set}
use Rattle.clap.specs.declared.builder.arg.Arg.{Arg}
use Rattle.vm_words.proofs.command_line.file_argument.Goals as goal

abbrev valued : Rule → Rule
valued rule = record rule { value_names = 1 }

abbrev set : Rule → Rule
set rule = record rule { action = Some Set }

abbrev is_global : Arg → Bool
is_global argument = argument.global

pub returns-clause-rule : goal.returns-clause-rule
returns-clause-rule c =
    let valued_is : rule_of c.value_name.result ≡ valued (new_rule (codes "FILE")) = ap rule_of c.value_name.ensures ∙ ap valued c.new.ensures.rule in
    ap rule_of c.action.ensures ∙ ap set (ap rule_of c.help.ensures ∙ valued_is)

pub returns-clause-local : goal.returns-clause-local
returns-clause-local c =
    ap is_global c.action.ensures ∙ ap is_global c.help.ensures ∙ ap is_global c.value_name.ensures ∙ c.new.ensures.optional.1

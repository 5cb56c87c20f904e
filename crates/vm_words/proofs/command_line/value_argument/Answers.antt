use Rattle.std.proofs.Common.{◌≡◌, ◌∙◌, Bool, Option, Some, ap, ap₂, sym}
use Rattle.clap.specs.Words.{Rule, Text, new_rule, rule_of}
use Rattle.clap.specs.declared.builder.action.ArgAction.{ArgAction}
use Rattle.clap.specs.declared.builder.arg.Arg.{Arg}
use Rattle.clap.specs.declared.builder.value_parser.ValueParser.{ValueParser}
use Rattle.vm_words.specs.declared.command_line.ValueKind.{ValueKind}
use Rattle.vm_words.specs.Words.{action_for, value_option}
use Rattle.vm_words.proofs.command_line.value_argument.Goals as goal

abbrev named : Text → Rule → Rule
named name rule = record rule { long = Some name }

abbrev valued : Rule → Rule
valued rule = record rule { value_names = 1 }

abbrev doing : Rule → ArgAction → Rule
doing rule action = record rule { action = Some action }

abbrev is_global : Arg → Bool
is_global argument = argument.global

-- as its kind says
abbrev of_kind : Text → ValueKind → Rule
of_kind name kind = value_option (record { name = name; kind = kind })

-- before its parser is set
abbrev unread : Text → ValueKind → Rule
unread name kind = doing (valued (named name (new_rule name))) (action_for kind)

pub returns-in-Text-clause-rule : goal.returns-in-Text-clause-rule
unfolding value_option
returns-in-Text-clause-rule c =
    let name = c.args.value.now.name.now in
    let long_is : rule_of c.long.result ≡ named name (new_rule name) = ap rule_of c.long.ensures ∙ ap (named name) c.new.ensures.rule in
    let valued_is : rule_of c.value_name.result ≡ valued (named name (new_rule name)) = ap rule_of c.value_name.ensures ∙ ap valued long_is in
    let unread_is : rule_of c.action-argument.result ≡ unread name c.args.value.now.kind =
    ap rule_of c.action-argument.ensures ∙ ap₂ doing (ap rule_of c.help.ensures ∙ valued_is) c.action_for.ensures in
    unread_is ∙ ap (unread name) c.in-Text.is ∙ ap (of_kind name) (sym c.in-Text.is)

pub returns-in-Texts-clause-rule : goal.returns-in-Texts-clause-rule
unfolding value_option
returns-in-Texts-clause-rule c =
    let name = c.args.value.now.name.now in
    let long_is : rule_of c.long.result ≡ named name (new_rule name) = ap rule_of c.long.ensures ∙ ap (named name) c.new.ensures.rule in
    let valued_is : rule_of c.value_name.result ≡ valued (named name (new_rule name)) = ap rule_of c.value_name.ensures ∙ ap valued long_is in
    let unread_is : rule_of c.action-argument.result ≡ unread name c.args.value.now.kind =
    ap rule_of c.action-argument.ensures ∙ ap₂ doing (ap rule_of c.help.ensures ∙ valued_is) c.action_for.ensures in
    unread_is ∙ ap (unread name) c.in-Texts.is ∙ ap (of_kind name) (sym c.in-Texts.is)

pub returns-in-Number-clause-rule : goal.returns-in-Number-clause-rule
unfolding value_option
returns-in-Number-clause-rule c =
    let name = c.args.value.now.name.now in
    let given = c.value_parser.ensures.given in
    let parser_is = given.1 ∙ ap Some (given.2 ∙ c.unsigned.ensures) in
    let long_is : rule_of c.long.result ≡ named name (new_rule name) = ap rule_of c.long.ensures ∙ ap (named name) c.new.ensures.rule in
    let valued_is : rule_of c.value_name.result ≡ valued (named name (new_rule name)) = ap rule_of c.value_name.ensures ∙ ap valued long_is in
    let unread_is : rule_of c.action-argument.result ≡ unread name c.args.value.now.kind =
    ap rule_of c.action-argument.ensures ∙ ap₂ doing (ap rule_of c.help.ensures ∙ valued_is) c.action_for.ensures in
    ap rule_of c.value_parser.ensures.others
    ∙ ap₂ (λ (rule : Rule) (parser : Option ValueParser). record rule { parser = parser }) (unread_is ∙ ap (unread name) c.in-Number.is) parser_is
    ∙ ap (of_kind name) (sym c.in-Number.is)

pub returns-in-Text-clause-local : goal.returns-in-Text-clause-local
returns-in-Text-clause-local c =
    ap is_global c.action-argument.ensures ∙ ap is_global c.help.ensures ∙ ap is_global c.value_name.ensures ∙ ap is_global c.long.ensures
    ∙ c.new.ensures.optional.1

pub returns-in-Texts-clause-local : goal.returns-in-Texts-clause-local
returns-in-Texts-clause-local c =
    ap is_global c.action-argument.ensures ∙ ap is_global c.help.ensures ∙ ap is_global c.value_name.ensures ∙ ap is_global c.long.ensures
    ∙ c.new.ensures.optional.1

pub returns-in-Number-clause-local : goal.returns-in-Number-clause-local
returns-in-Number-clause-local c =
    ap is_global c.value_parser.ensures.others ∙ ap is_global c.action-argument.ensures ∙ ap is_global c.help.ensures
    ∙ ap is_global c.value_name.ensures ∙ ap is_global c.long.ensures ∙ c.new.ensures.optional.1

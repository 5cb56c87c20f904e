use Rattle.std.proofs.Common.{◌≡◌, drop, map}
use Rattle.clap.specs.Words.{app_of}
use Rattle.vm_words.specs.Words.{value_option, value_rule, with_options}
use Rattle.vm_words.proofs.command_line.with_values.Given as goal

-- with the values that are left it is the whole
abbrev pub invariant-loop-value : goal.invariant-loop-value
invariant-loop-value l =
    with_options (app_of l.with) (map value_option (map value_rule (drop l.value-index l.values)))
    ≡ with_options (app_of l.fn.command) (map value_option (map value_rule l.values))

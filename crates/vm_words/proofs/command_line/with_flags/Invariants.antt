use Rattle.std.proofs.Common.{◌≡◌, drop, map}
use Rattle.clap.specs.Words.{app_of}
use Rattle.vm_words.specs.Words.{flag_option, flag_rule, with_options}
use Rattle.vm_words.proofs.command_line.with_flags.Given as goal

-- with the flags that are left it is the whole
abbrev pub invariant-loop-flag : goal.invariant-loop-flag
invariant-loop-flag l =
    with_options (app_of l.with) (map flag_option (map flag_rule (drop l.flag-index l.flags)))
    ≡ with_options (app_of l.fn.command) (map flag_option (map flag_rule l.flags))

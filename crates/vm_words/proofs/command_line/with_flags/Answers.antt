use Rattle.vm_words.specs.Words.{flag_option, flag_rule}
use Rattle.clap.specs.Words.{app_of}
use Rattle.vm_words.proofs.OptionLemmas.{one-more}
use Rattle.vm_words.proofs.command_line.with_flags.Goals as goal

pub loop-flag-preserved : goal.loop-flag-preserved
loop-flag-preserved c =
    one-more flag_option flag_rule c.args.flags.now c.loop-flag.flag-index _ (app_of c.loop-flag.with) (app_of c.in_ok-with.with) _ _
    c.loop-flag-test.true (c.in_ok-with.ensures.shape c.flag_argument.ensures.local) c.flag_argument.ensures.rule c.loop-flag.invariant

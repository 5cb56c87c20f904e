use Rattle.vm_words.specs.Words.{value_option, value_rule}
use Rattle.clap.specs.Words.{app_of}
use Rattle.vm_words.proofs.OptionLemmas.{one-more}
use Rattle.vm_words.proofs.command_line.with_values.Goals as goal

pub loop-value-preserved : goal.loop-value-preserved
loop-value-preserved c =
    one-more value_option value_rule c.args.values.now c.loop-value.value-index _ (app_of c.loop-value.with) (app_of c.in_ok-with.with) _ _
    c.loop-value-test.true (c.in_ok-with.ensures.shape c.value_argument.ensures.local) c.value_argument.ensures.rule c.loop-value.invariant

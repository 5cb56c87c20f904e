use Rattle.std.proofs.Common.{refl}
use Rattle.clap.proofs.OnLiterals.{clap_on_literals}
use Rattle.vm_words.specs.Words.{AreTaken, asked, command_line, flag_option, has_flag, text_of, value_option}
use Rattle.vm_programs.proofs.lemmas.words.{has-fault}
use Rattle.vm_programs.proofs.vmseries.law.law_words.Goals as goal

pub returns-clause-none : goal.returns-clause-none
unfolding clap_on_literals AreTaken asked command_line flag_option has_flag text_of value_option
returns-clause-none c = (record { faultless = refl; apart = refl; fit = refl }, refl)

pub returns-clause-svg : goal.returns-clause-svg
unfolding clap_on_literals AreTaken asked command_line flag_option has_flag text_of value_option
returns-clause-svg c = (record { faultless = refl; apart = refl; fit = refl }, refl)

pub returns-clause-both : goal.returns-clause-both
unfolding clap_on_literals AreTaken asked command_line flag_option has_flag text_of value_option
returns-clause-both c = (record { faultless = refl; apart = refl; fit = refl }, refl)

pub returns-clause-workers : goal.returns-clause-workers
unfolding clap_on_literals AreTaken asked command_line flag_option has_flag text_of value_option
returns-clause-workers c = (record { faultless = refl; apart = refl; fit = refl }, refl)

pub returns-clause-twice : goal.returns-clause-twice
unfolding clap_on_literals AreTaken asked command_line flag_option has_flag text_of value_option
returns-clause-twice c = λ taken. has-fault _ _ taken.faultless

pub returns-clause-value : goal.returns-clause-value
unfolding clap_on_literals AreTaken asked command_line flag_option has_flag text_of value_option
returns-clause-value c = λ taken. has-fault _ _ taken.faultless

pub returns-clause-more : goal.returns-clause-more
unfolding clap_on_literals AreTaken asked command_line flag_option has_flag text_of value_option
returns-clause-more c = λ taken. has-fault _ _ taken.faultless

pub returns-clause-help : goal.returns-clause-help
unfolding clap_on_literals AreTaken asked command_line flag_option has_flag text_of value_option
returns-clause-help c = λ taken. has-fault _ _ taken.faultless

pub returns-clause-file : goal.returns-clause-file
unfolding clap_on_literals AreTaken asked command_line flag_option has_flag text_of value_option
returns-clause-file c = (record { faultless = refl; apart = refl; fit = refl }, refl)

pub returns-clause-drawn_file : goal.returns-clause-drawn_file
unfolding clap_on_literals AreTaken asked command_line flag_option has_flag text_of value_option
returns-clause-drawn_file c = (record { faultless = refl; apart = refl; fit = refl }, refl)

pub returns-clause-two_files : goal.returns-clause-two_files
unfolding clap_on_literals AreTaken asked command_line flag_option has_flag text_of value_option
returns-clause-two_files c = λ taken. has-fault _ _ taken.faultless

pub returns-clause-version : goal.returns-clause-version
unfolding clap_on_literals AreTaken asked command_line flag_option has_flag text_of value_option
returns-clause-version c = λ taken. has-fault _ _ taken.faultless

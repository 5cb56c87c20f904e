use Rattle.std.proofs.Common.{refl}
use Rattle.clap.proofs.OnLiterals.{clap_on_literals}
use Rattle.vm_words.specs.Words.{AreTaken, asked, command_line, flag_option, has_flag, text_of, value_option}
use Rattle.vm_words.proofs.WordsLemmas.{has-fault}
use Rattle.vm_words.proofs.law.law_file.Goals as goal

pub returns-clause-none : goal.returns-clause-none
unfolding clap_on_literals AreTaken asked command_line flag_option has_flag text_of value_option
returns-clause-none c = record { taken = record { faultless = refl; apart = refl; fit = refl }; file_is = refl }

pub returns-clause-alone : goal.returns-clause-alone
unfolding clap_on_literals AreTaken asked command_line flag_option has_flag text_of value_option
returns-clause-alone c = record { taken = record { faultless = refl; apart = refl; fit = refl }; file_is = refl }

pub returns-clause-last : goal.returns-clause-last
unfolding clap_on_literals AreTaken asked command_line flag_option has_flag text_of value_option
returns-clause-last c = record { taken = record { faultless = refl; apart = refl; fit = refl }; file_is = refl }

pub returns-clause-first : goal.returns-clause-first
unfolding clap_on_literals AreTaken asked command_line flag_option has_flag text_of value_option
returns-clause-first c = record { taken = record { faultless = refl; apart = refl; fit = refl }; file_is = refl }

pub returns-clause-empty : goal.returns-clause-empty
unfolding clap_on_literals AreTaken asked command_line flag_option has_flag text_of value_option
returns-clause-empty c = record { taken = record { faultless = refl; apart = refl; fit = refl }; file_is = refl }

pub returns-clause-dash : goal.returns-clause-dash
unfolding clap_on_literals AreTaken asked command_line flag_option has_flag text_of value_option
returns-clause-dash c = record { taken = record { faultless = refl; apart = refl; fit = refl }; file_is = refl }

pub returns-clause-escaped : goal.returns-clause-escaped
unfolding clap_on_literals AreTaken asked command_line flag_option has_flag text_of value_option
returns-clause-escaped c = record { taken = record { faultless = refl; apart = refl; fit = refl }; file_is = refl }

pub returns-clause-two : goal.returns-clause-two
unfolding clap_on_literals AreTaken asked command_line flag_option has_flag text_of value_option
returns-clause-two c = λ taken. has-fault _ _ taken.faultless

pub returns-clause-unknown : goal.returns-clause-unknown
unfolding clap_on_literals AreTaken asked command_line flag_option has_flag text_of value_option
returns-clause-unknown c = λ taken. has-fault _ _ taken.faultless

pub returns-clause-help : goal.returns-clause-help
unfolding clap_on_literals AreTaken asked command_line flag_option has_flag text_of value_option
returns-clause-help c = λ taken. has-fault _ _ taken.faultless

pub returns-clause-version : goal.returns-clause-version
unfolding clap_on_literals AreTaken asked command_line flag_option has_flag text_of value_option
returns-clause-version c = λ taken. has-fault _ _ taken.faultless

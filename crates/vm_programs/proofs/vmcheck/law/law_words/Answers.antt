use Rattle.std.proofs.Common.{refl}
use Rattle.clap.proofs.OnLiterals.{clap_on_literals}
use Rattle.vm_words.specs.Words.{AreTaken, asked, command_line, flag_option, has_flag, text_of, value_option}
use Rattle.vm_programs.proofs.lemmas.words.{has-fault}
use Rattle.vm_programs.proofs.vmcheck.law.law_words.Goals as goal

pub returns-clause-none : goal.returns-clause-none
unfolding clap_on_literals AreTaken asked command_line flag_option has_flag text_of value_option
returns-clause-none c = record { taken = record { faultless = refl; apart = refl; fit = refl }; asked = refl }

pub returns-clause-file : goal.returns-clause-file
unfolding clap_on_literals AreTaken asked command_line flag_option has_flag text_of value_option
returns-clause-file c = record { taken = record { faultless = refl; apart = refl; fit = refl }; asked = refl }

pub returns-clause-standard : goal.returns-clause-standard
unfolding clap_on_literals AreTaken asked command_line flag_option has_flag text_of value_option
returns-clause-standard c = record { taken = record { faultless = refl; apart = refl; fit = refl }; asked = refl }

pub returns-clause-policy : goal.returns-clause-policy
unfolding clap_on_literals AreTaken asked command_line flag_option has_flag text_of value_option
returns-clause-policy c = record { taken = record { faultless = refl; apart = refl; fit = refl }; asked = refl }

pub returns-clause-policy_of_file : goal.returns-clause-policy_of_file
unfolding clap_on_literals AreTaken asked command_line flag_option has_flag text_of value_option
returns-clause-policy_of_file c = record { taken = record { faultless = refl; apart = refl; fit = refl }; asked = refl }

pub returns-clause-policy_behind : goal.returns-clause-policy_behind
unfolding clap_on_literals AreTaken asked command_line flag_option has_flag text_of value_option
returns-clause-policy_behind c = record { taken = record { faultless = refl; apart = refl; fit = refl }; asked = refl }

pub returns-clause-file_of_that_name : goal.returns-clause-file_of_that_name
unfolding clap_on_literals AreTaken asked command_line flag_option has_flag text_of value_option
returns-clause-file_of_that_name c = record { taken = record { faultless = refl; apart = refl; fit = refl }; asked = refl }

pub returns-clause-twice : goal.returns-clause-twice
unfolding clap_on_literals AreTaken asked command_line flag_option has_flag text_of value_option
returns-clause-twice c = λ taken. has-fault _ _ taken.faultless

pub returns-clause-value : goal.returns-clause-value
unfolding clap_on_literals AreTaken asked command_line flag_option has_flag text_of value_option
returns-clause-value c = λ taken. has-fault _ _ taken.faultless

pub returns-clause-two_files : goal.returns-clause-two_files
unfolding clap_on_literals AreTaken asked command_line flag_option has_flag text_of value_option
returns-clause-two_files c = λ taken. has-fault _ _ taken.faultless

pub returns-clause-other : goal.returns-clause-other
unfolding clap_on_literals AreTaken asked command_line flag_option has_flag text_of value_option
returns-clause-other c = λ taken. has-fault _ _ taken.faultless

pub returns-clause-help : goal.returns-clause-help
unfolding clap_on_literals AreTaken asked command_line flag_option has_flag text_of value_option
returns-clause-help c = λ taken. has-fault _ _ taken.faultless

pub returns-clause-version : goal.returns-clause-version
unfolding clap_on_literals AreTaken asked command_line flag_option has_flag text_of value_option
returns-clause-version c = λ taken. has-fault _ _ taken.faultless

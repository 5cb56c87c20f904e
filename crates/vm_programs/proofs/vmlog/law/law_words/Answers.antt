use Rattle.std.proofs.Common.{refl}
use Rattle.clap.proofs.OnLiterals.{clap_on_literals}
use Rattle.vm_words.specs.Words.{AreTaken, asked, command_line, flag_option, number_of, text_of, value_option}
use Rattle.vm_programs.proofs.lemmas.words.{has-fault}
use Rattle.vm_programs.proofs.vmlog.law.law_words.Goals as goal

pub returns-clause-none : goal.returns-clause-none
unfolding clap_on_literals AreTaken asked command_line flag_option number_of text_of value_option
returns-clause-none c = record { taken = record { faultless = refl; apart = refl; fit = refl }; asked = refl }

pub returns-clause-least : goal.returns-clause-least
unfolding clap_on_literals AreTaken asked command_line flag_option number_of text_of value_option
returns-clause-least c = record { taken = record { faultless = refl; apart = refl; fit = refl }; asked = refl }

pub returns-clause-some : goal.returns-clause-some
unfolding clap_on_literals AreTaken asked command_line flag_option number_of text_of value_option
returns-clause-some c = record { taken = record { faultless = refl; apart = refl; fit = refl }; asked = refl }

pub returns-clause-greatest : goal.returns-clause-greatest
unfolding clap_on_literals AreTaken asked command_line flag_option number_of text_of value_option
returns-clause-greatest c = record { taken = record { faultless = refl; apart = refl; fit = refl }; asked = refl }

pub returns-clause-no_samples : goal.returns-clause-no_samples
unfolding clap_on_literals AreTaken asked command_line flag_option number_of text_of value_option
returns-clause-no_samples c = λ taken. absurd (has-fault _ _ taken.faultless)

pub returns-clause-more_samples : goal.returns-clause-more_samples
unfolding clap_on_literals AreTaken asked command_line flag_option number_of text_of value_option
returns-clause-more_samples c = λ taken. absurd (has-fault _ _ taken.faultless)

pub returns-clause-no_number : goal.returns-clause-no_number
unfolding clap_on_literals AreTaken asked command_line flag_option number_of text_of value_option
returns-clause-no_number c = λ taken. absurd (has-fault _ _ taken.faultless)

pub returns-clause-no_value : goal.returns-clause-no_value
unfolding clap_on_literals AreTaken asked command_line flag_option number_of text_of value_option
returns-clause-no_value c = λ taken. absurd (has-fault _ _ taken.faultless)

pub returns-clause-twice : goal.returns-clause-twice
unfolding clap_on_literals AreTaken asked command_line flag_option number_of text_of value_option
returns-clause-twice c = λ taken. absurd (has-fault _ _ taken.faultless)

pub returns-clause-other : goal.returns-clause-other
unfolding clap_on_literals AreTaken asked command_line flag_option number_of text_of value_option
returns-clause-other c = λ taken. absurd (has-fault _ _ taken.faultless)

pub returns-clause-help : goal.returns-clause-help
unfolding clap_on_literals AreTaken asked command_line flag_option number_of text_of value_option
returns-clause-help c = λ taken. absurd (has-fault _ _ taken.faultless)

pub returns-clause-two_files : goal.returns-clause-two_files
unfolding clap_on_literals AreTaken asked command_line flag_option number_of text_of value_option
returns-clause-two_files c = λ taken. absurd (has-fault _ _ taken.faultless)

pub returns-clause-version : goal.returns-clause-version
unfolding clap_on_literals AreTaken asked command_line flag_option number_of text_of value_option
returns-clause-version c = λ taken. absurd (has-fault _ _ taken.faultless)

pub returns-clause-file : goal.returns-clause-file
unfolding clap_on_literals AreTaken asked command_line flag_option number_of text_of value_option
returns-clause-file c = record { taken = record { faultless = refl; apart = refl; fit = refl }; asked = refl }

pub returns-clause-file_behind : goal.returns-clause-file_behind
unfolding clap_on_literals AreTaken asked command_line flag_option number_of text_of value_option
returns-clause-file_behind c = record { taken = record { faultless = refl; apart = refl; fit = refl }; asked = refl }

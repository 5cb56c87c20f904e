use Rattle.std.proofs.Common.{refl}
use Rattle.clap.proofs.OnLiterals.{clap_on_literals}
use Rattle.vm_words.specs.Words.{AreTaken, asked, command_line, text_of, value_option}
use Rattle.vm_programs.proofs.lemmas.words.{has-fault}
use Rattle.vm_programs.proofs.vmmem.law.law_words.Goals as goal

pub returns-clause-none : goal.returns-clause-none
unfolding clap_on_literals AreTaken asked command_line text_of value_option
returns-clause-none c = record { faultless = refl; apart = refl; fit = refl }

pub returns-clause-one : goal.returns-clause-one
unfolding clap_on_literals AreTaken asked command_line text_of value_option
returns-clause-one c = record { faultless = refl; apart = refl; fit = refl }

pub returns-clause-most : goal.returns-clause-most
unfolding clap_on_literals AreTaken asked command_line text_of value_option
returns-clause-most c = record { faultless = refl; apart = refl; fit = refl }

pub returns-clause-zero : goal.returns-clause-zero
unfolding clap_on_literals AreTaken asked command_line text_of value_option
returns-clause-zero c = λ taken. has-fault _ _ taken.faultless

pub returns-clause-more : goal.returns-clause-more
unfolding clap_on_literals AreTaken asked command_line text_of value_option
returns-clause-more c = λ taken. has-fault _ _ taken.faultless

pub returns-clause-missing : goal.returns-clause-missing
unfolding clap_on_literals AreTaken asked command_line text_of value_option
returns-clause-missing c = λ taken. has-fault _ _ taken.faultless

pub returns-clause-help : goal.returns-clause-help
unfolding clap_on_literals AreTaken asked command_line text_of value_option
returns-clause-help c = λ taken. has-fault _ _ taken.faultless

pub returns-clause-other : goal.returns-clause-other
unfolding clap_on_literals AreTaken asked command_line text_of value_option
returns-clause-other c = λ taken. has-fault _ _ taken.faultless

pub returns-clause-version : goal.returns-clause-version
unfolding clap_on_literals AreTaken asked command_line text_of value_option
returns-clause-version c = λ taken. has-fault _ _ taken.faultless

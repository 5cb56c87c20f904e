use Rattle.std.proofs.Common.{refl, true≢false}
use Rattle.clap.proofs.OnLiterals.{clap_on_literals}
use Rattle.vm_words.specs.Words.{AreTaken, asked, command_line, flag_option, has_flag, number_of, text_of, texts_of, value_option}
use Rattle.vm_words.proofs.WordsLemmas.{has-fault}
use Rattle.vm_words.proofs.law.law_words.Goals as goal

pub returns-clause-none : goal.returns-clause-none
unfolding clap_on_literals AreTaken asked command_line flag_option has_flag number_of text_of texts_of value_option
returns-clause-none c = record {
  taken = record { faultless = refl; apart = refl; fit = refl };
  guests_is = refl;
  svg_is = refl;
  name_is = refl;
  workers_is = refl;
  added_is = refl;
}

pub returns-clause-flag : goal.returns-clause-flag
unfolding clap_on_literals AreTaken asked command_line flag_option has_flag number_of text_of texts_of value_option
returns-clause-flag c = record {
  taken = record { faultless = refl; apart = refl; fit = refl };
  guests_is = refl;
  svg_is = refl;
  name_is = refl;
  workers_is = refl;
  added_is = refl;
}

pub returns-clause-other_flag : goal.returns-clause-other_flag
unfolding clap_on_literals AreTaken asked command_line flag_option has_flag number_of text_of texts_of value_option
returns-clause-other_flag c = record {
  taken = record { faultless = refl; apart = refl; fit = refl };
  guests_is = refl;
  svg_is = refl;
  name_is = refl;
  workers_is = refl;
  added_is = refl;
}

pub returns-clause-number : goal.returns-clause-number
unfolding clap_on_literals AreTaken asked command_line flag_option has_flag number_of text_of texts_of value_option
returns-clause-number c = record {
  taken = record { faultless = refl; apart = refl; fit = refl };
  guests_is = refl;
  svg_is = refl;
  name_is = refl;
  workers_is = refl;
  added_is = refl;
}

pub returns-clause-least : goal.returns-clause-least
unfolding clap_on_literals AreTaken asked command_line flag_option has_flag number_of text_of texts_of value_option
returns-clause-least c = record {
  taken = record { faultless = refl; apart = refl; fit = refl };
  guests_is = refl;
  svg_is = refl;
  name_is = refl;
  workers_is = refl;
  added_is = refl;
}

pub returns-clause-text : goal.returns-clause-text
unfolding clap_on_literals AreTaken asked command_line flag_option has_flag number_of text_of texts_of value_option
returns-clause-text c = record {
  taken = record { faultless = refl; apart = refl; fit = refl };
  guests_is = refl;
  svg_is = refl;
  name_is = refl;
  workers_is = refl;
  added_is = refl;
}

pub returns-clause-many : goal.returns-clause-many
unfolding clap_on_literals AreTaken asked command_line flag_option has_flag number_of text_of texts_of value_option
returns-clause-many c = record {
  taken = record { faultless = refl; apart = refl; fit = refl };
  guests_is = refl;
  svg_is = refl;
  name_is = refl;
  workers_is = refl;
  added_is = refl;
}

pub returns-clause-beside : goal.returns-clause-beside
unfolding clap_on_literals AreTaken asked command_line flag_option has_flag number_of text_of texts_of value_option
returns-clause-beside c = λ taken. absurd (true≢false taken.apart)

pub returns-clause-twice : goal.returns-clause-twice
unfolding clap_on_literals AreTaken asked command_line flag_option has_flag number_of text_of texts_of value_option
returns-clause-twice c = λ taken. has-fault _ _ taken.faultless

pub returns-clause-flag_value : goal.returns-clause-flag_value
unfolding clap_on_literals AreTaken asked command_line flag_option has_flag number_of text_of texts_of value_option
returns-clause-flag_value c = λ taken. has-fault _ _ taken.faultless

pub returns-clause-less : goal.returns-clause-less
unfolding clap_on_literals AreTaken asked command_line flag_option has_flag number_of text_of texts_of value_option
returns-clause-less c = λ taken. has-fault _ _ taken.faultless

pub returns-clause-more : goal.returns-clause-more
unfolding clap_on_literals AreTaken asked command_line flag_option has_flag number_of text_of texts_of value_option
returns-clause-more c = λ taken. has-fault _ _ taken.faultless

pub returns-clause-no_number : goal.returns-clause-no_number
unfolding clap_on_literals AreTaken asked command_line flag_option has_flag number_of text_of texts_of value_option
returns-clause-no_number c = λ taken. has-fault _ _ taken.faultless

pub returns-clause-no_value : goal.returns-clause-no_value
unfolding clap_on_literals AreTaken asked command_line flag_option has_flag number_of text_of texts_of value_option
returns-clause-no_value c = λ taken. has-fault _ _ taken.faultless

pub returns-clause-unknown : goal.returns-clause-unknown
unfolding clap_on_literals AreTaken asked command_line flag_option has_flag number_of text_of texts_of value_option
returns-clause-unknown c = λ taken. has-fault _ _ taken.faultless

pub returns-clause-stray : goal.returns-clause-stray
unfolding clap_on_literals AreTaken asked command_line flag_option has_flag number_of text_of texts_of value_option
returns-clause-stray c = λ taken. has-fault _ _ taken.faultless

pub returns-clause-help : goal.returns-clause-help
unfolding clap_on_literals AreTaken asked command_line flag_option has_flag number_of text_of texts_of value_option
returns-clause-help c = λ taken. has-fault _ _ taken.faultless

pub returns-clause-version : goal.returns-clause-version
unfolding clap_on_literals AreTaken asked command_line flag_option has_flag number_of text_of texts_of value_option
returns-clause-version c = λ taken. has-fault _ _ taken.faultless

pub returns-clause-added : goal.returns-clause-added
unfolding clap_on_literals AreTaken asked command_line flag_option has_flag number_of text_of texts_of value_option
returns-clause-added c = record {
  taken = record { faultless = refl; apart = refl; fit = refl };
  guests_is = refl;
  svg_is = refl;
  name_is = refl;
  workers_is = refl;
  added_is = refl;
}

pub returns-clause-text_twice : goal.returns-clause-text_twice
unfolding clap_on_literals AreTaken asked command_line flag_option has_flag number_of text_of texts_of value_option
returns-clause-text_twice c = λ taken. has-fault _ _ taken.faultless

pub returns-clause-nothing_added : goal.returns-clause-nothing_added
unfolding clap_on_literals AreTaken asked command_line flag_option has_flag number_of text_of texts_of value_option
returns-clause-nothing_added c = λ taken. has-fault _ _ taken.faultless

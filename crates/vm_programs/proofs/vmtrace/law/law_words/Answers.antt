use Rattle.std.proofs.Common.{refl}
use Rattle.clap.proofs.OnLiterals.{clap_on_literals}
use Rattle.vm_words.specs.Words.{AreTaken as AreTakenBy, asked, command_line, flag_option, has_flag, number_of, text_of, value_option}
use Rattle.vm_programs.specs.vmtrace.CommandLine.{trace_line}
use Rattle.vm_programs.proofs.lemmas.words.{has-fault}
use Rattle.vm_programs.proofs.vmtrace.law.law_words.Goals as goal

pub returns-clause-none : goal.returns-clause-none
unfolding clap_on_literals AreTakenBy asked command_line flag_option has_flag number_of text_of value_option trace_line
returns-clause-none c = record {
  taken = record { formed = record { faultless = refl; apart = refl; fit = refl }; named = refl };
  asked = refl;
}

pub returns-clause-least : goal.returns-clause-least
unfolding clap_on_literals AreTakenBy asked command_line flag_option has_flag number_of text_of value_option trace_line
returns-clause-least c = record {
  taken = record { formed = record { faultless = refl; apart = refl; fit = refl }; named = refl };
  asked = refl;
}

pub returns-clause-greatest : goal.returns-clause-greatest
unfolding clap_on_literals AreTakenBy asked command_line flag_option has_flag number_of text_of value_option trace_line
returns-clause-greatest c = record {
  taken = record { formed = record { faultless = refl; apart = refl; fit = refl }; named = refl };
  asked = refl;
}

pub returns-clause-no_code : goal.returns-clause-no_code
unfolding clap_on_literals AreTakenBy asked command_line flag_option has_flag number_of text_of value_option trace_line
returns-clause-no_code c = record {
  taken = record { formed = record { faultless = refl; apart = refl; fit = refl }; named = refl };
  asked = refl;
}

pub returns-clause-empty : goal.returns-clause-empty
unfolding clap_on_literals AreTakenBy asked command_line flag_option has_flag number_of text_of value_option trace_line
returns-clause-empty c = record {
  formed = record { faultless = refl; apart = refl; fit = refl };
  untaken = λ taken. let named = taken.named in absurd cc;
}

pub returns-clause-space : goal.returns-clause-space
unfolding clap_on_literals AreTakenBy asked command_line flag_option has_flag number_of text_of value_option trace_line
returns-clause-space c = record {
  formed = record { faultless = refl; apart = refl; fit = refl };
  untaken = λ taken. let named = taken.named in absurd cc;
}

pub returns-clause-dash : goal.returns-clause-dash
unfolding clap_on_literals AreTakenBy asked command_line flag_option has_flag number_of text_of value_option trace_line
returns-clause-dash c = record {
  formed = record { faultless = refl; apart = refl; fit = refl };
  untaken = λ taken. let named = taken.named in absurd cc;
}

pub returns-clause-long : goal.returns-clause-long
unfolding clap_on_literals AreTakenBy asked command_line flag_option has_flag number_of text_of value_option trace_line
returns-clause-long c = record {
  formed = record { faultless = refl; apart = refl; fit = refl };
  untaken = λ taken. let named = taken.named in absurd cc;
}

pub returns-clause-no_pages : goal.returns-clause-no_pages
unfolding clap_on_literals AreTakenBy asked command_line flag_option has_flag number_of text_of value_option trace_line
returns-clause-no_pages c = λ taken. absurd (has-fault _ _ taken.formed.faultless)

pub returns-clause-more_pages : goal.returns-clause-more_pages
unfolding clap_on_literals AreTakenBy asked command_line flag_option has_flag number_of text_of value_option trace_line
returns-clause-more_pages c = λ taken. absurd (has-fault _ _ taken.formed.faultless)

pub returns-clause-no_lines : goal.returns-clause-no_lines
unfolding clap_on_literals AreTakenBy asked command_line flag_option has_flag number_of text_of value_option trace_line
returns-clause-no_lines c = λ taken. absurd (has-fault _ _ taken.formed.faultless)

pub returns-clause-more_lines : goal.returns-clause-more_lines
unfolding clap_on_literals AreTakenBy asked command_line flag_option has_flag number_of text_of value_option trace_line
returns-clause-more_lines c = λ taken. absurd (has-fault _ _ taken.formed.faultless)

pub returns-clause-no_quantum : goal.returns-clause-no_quantum
unfolding clap_on_literals AreTakenBy asked command_line flag_option has_flag number_of text_of value_option trace_line
returns-clause-no_quantum c = λ taken. absurd (has-fault _ _ taken.formed.faultless)

pub returns-clause-more_quantum : goal.returns-clause-more_quantum
unfolding clap_on_literals AreTakenBy asked command_line flag_option has_flag number_of text_of value_option trace_line
returns-clause-more_quantum c = λ taken. absurd (has-fault _ _ taken.formed.faultless)

pub returns-clause-more_skip : goal.returns-clause-more_skip
unfolding clap_on_literals AreTakenBy asked command_line flag_option has_flag number_of text_of value_option trace_line
returns-clause-more_skip c = λ taken. absurd (has-fault _ _ taken.formed.faultless)

pub returns-clause-no_steps : goal.returns-clause-no_steps
unfolding clap_on_literals AreTakenBy asked command_line flag_option has_flag number_of text_of value_option trace_line
returns-clause-no_steps c = λ taken. absurd (has-fault _ _ taken.formed.faultless)

pub returns-clause-more_steps : goal.returns-clause-more_steps
unfolding clap_on_literals AreTakenBy asked command_line flag_option has_flag number_of text_of value_option trace_line
returns-clause-more_steps c = λ taken. absurd (has-fault _ _ taken.formed.faultless)

pub returns-clause-twice : goal.returns-clause-twice
unfolding clap_on_literals AreTakenBy asked command_line flag_option has_flag number_of text_of value_option trace_line
returns-clause-twice c = λ taken. absurd (has-fault _ _ taken.formed.faultless)

pub returns-clause-code : goal.returns-clause-code
unfolding clap_on_literals AreTakenBy asked command_line flag_option has_flag number_of text_of value_option trace_line
returns-clause-code c = λ taken. absurd (has-fault _ _ taken.formed.faultless)

pub returns-clause-help : goal.returns-clause-help
unfolding clap_on_literals AreTakenBy asked command_line flag_option has_flag number_of text_of value_option trace_line
returns-clause-help c = λ taken. absurd (has-fault _ _ taken.formed.faultless)

pub returns-clause-two_files : goal.returns-clause-two_files
unfolding clap_on_literals AreTakenBy asked command_line flag_option has_flag number_of text_of value_option trace_line
returns-clause-two_files c = λ taken. absurd (has-fault _ _ taken.formed.faultless)

pub returns-clause-version : goal.returns-clause-version
unfolding clap_on_literals AreTakenBy asked command_line flag_option has_flag number_of text_of value_option trace_line
returns-clause-version c = λ taken. absurd (has-fault _ _ taken.formed.faultless)

pub returns-clause-file : goal.returns-clause-file
unfolding clap_on_literals AreTakenBy asked command_line flag_option has_flag number_of text_of value_option trace_line
returns-clause-file c = record {
  taken = record { formed = record { faultless = refl; apart = refl; fit = refl }; named = refl };
  asked = refl;
}

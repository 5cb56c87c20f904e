use Rattle.std.proofs.Common.{refl, arith}
use Rattle.std.specs.Char.{encode_utf8}
use Rattle.std.specs.Float.Numeral.{scan_numeral}
use Rattle.std.specs.Fmt.{digits}
use Rattle.std.specs.Str.{chars, is_utf8}
use Rattle.json.specs.Json.{items, members, value}
use Rattle.json.specs.Lex.{lex, punctuate}
use Rattle.json.specs.Text.{content, code_unit, short_escape}
use Rattle.json.specs.Word.{after_number, word}
use Rattle.serde_json.specs.Read.{number_of}
use Rattle.vm_config.specs.Reading.{listed_in, keys_in, machine_in}
use Rattle.vm_config.specs.Versions.{version_2}
use Rattle.vm_import.specs.Guests.{guest_of}
use Rattle.vm_import.specs.Limits.{passed_by}
use Rattle.vm_import.specs.Steps.{idle_steps, step_of, trace_of}
use Rattle.vm_import.specs.Texts.{head_of, quoted, tail_of, text_of}
use Rattle.vm_laws.specs.Meaning.{actions_of}
use Rattle.vm_import.specs.Lines.{access_of, access_with, address_of, kind_of, line_of, process_of, size_of}
use Rattle.vm_import.specs.Logs.{log_of_lines}
use Rattle.vm_import.specs.Numerals.{numeral_of}
use Rattle.vm_trace.specs.Meaning.{read_step, step_of_words, steps_of_words, steps_within, write_step}
use Rattle.vm_trace.specs.Words.{bytes_in, number_in, number_of as number_of_word}
use Rattle.vm_import.specs.Touches.{touches_of}
use Rattle.vm_import.specs.WorkingSets.{working_set}
use Rattle.vm_laws.proofs.import_examples.law_import_examples.Goals as goal

pub returns-clause-with_code : goal.returns-clause-with_code
unfolding is_utf8 chars encode_utf8 scan_numeral items members value lex punctuate content code_unit short_escape after_number word number_of listed_in keys_in machine_in version_2 read_step step_of_words steps_of_words steps_within write_step bytes_in number_in number_of_word
returns-clause-with_code c = refl

pub returns-clause-with_code_made : goal.returns-clause-with_code_made
unfolding digits access_of access_with address_of kind_of line_of process_of size_of log_of_lines numeral_of touches_of working_set guest_of passed_by idle_steps step_of trace_of head_of quoted tail_of text_of actions_of
returns-clause-with_code_made c = record { accesses = _; written = record { limit = _; taken = refl; touched = omega arith }; config_is = refl }

pub returns-clause-no_code : goal.returns-clause-no_code
unfolding is_utf8 chars encode_utf8 scan_numeral items members value lex punctuate content code_unit short_escape after_number word number_of listed_in keys_in machine_in version_2 read_step step_of_words steps_of_words steps_within write_step bytes_in number_in number_of_word
returns-clause-no_code c = refl

pub returns-clause-no_code_made : goal.returns-clause-no_code_made
unfolding digits access_of access_with address_of kind_of line_of process_of size_of log_of_lines numeral_of touches_of working_set guest_of passed_by idle_steps step_of trace_of head_of quoted tail_of text_of actions_of
returns-clause-no_code_made c = record { accesses = _; written = record { limit = _; taken = refl; touched = omega arith }; config_is = refl }

use Rattle.std.proofs.Common.{refl}
use Rattle.vm_import.specs.Lines.{access_of, access_with, address_of, kind_of, line_of, process_of, size_of}
use Rattle.vm_import.specs.Logs.{log_of_lines}
use Rattle.vm_import.specs.Numerals.{numeral_of}
use Rattle.vm_import.proofs.law.law_lines.Goals as goal

pub returns-clause-fetch : goal.returns-clause-fetch
unfolding line_of process_of access_of kind_of address_of size_of access_with numeral_of log_of_lines
returns-clause-fetch c = refl

pub returns-clause-load : goal.returns-clause-load
unfolding line_of process_of access_of kind_of address_of size_of access_with numeral_of log_of_lines
returns-clause-load c = refl

pub returns-clause-store : goal.returns-clause-store
unfolding line_of process_of access_of kind_of address_of size_of access_with numeral_of log_of_lines
returns-clause-store c = refl

pub returns-clause-modify : goal.returns-clause-modify
unfolding line_of process_of access_of kind_of address_of size_of access_with numeral_of log_of_lines
returns-clause-modify c = refl

pub returns-clause-small : goal.returns-clause-small
unfolding line_of process_of access_of kind_of address_of size_of access_with numeral_of log_of_lines
returns-clause-small c = refl

pub returns-clause-short : goal.returns-clause-short
unfolding line_of process_of access_of kind_of address_of size_of access_with numeral_of log_of_lines
returns-clause-short c = refl

pub returns-clause-long : goal.returns-clause-long
unfolding line_of process_of access_of kind_of address_of size_of access_with numeral_of log_of_lines
returns-clause-long c = refl

pub returns-clause-empty : goal.returns-clause-empty
unfolding line_of process_of access_of kind_of address_of size_of access_with numeral_of log_of_lines
returns-clause-empty c = refl

pub returns-clause-mark : goal.returns-clause-mark
unfolding line_of process_of access_of kind_of address_of size_of access_with numeral_of log_of_lines
returns-clause-mark c = refl

pub returns-clause-other_marks : goal.returns-clause-other_marks
unfolding line_of process_of access_of kind_of address_of size_of access_with numeral_of log_of_lines
returns-clause-other_marks c = refl

pub returns-clause-stars : goal.returns-clause-stars
unfolding line_of process_of access_of kind_of address_of size_of access_with numeral_of log_of_lines
returns-clause-stars c = refl

pub returns-clause-no_process : goal.returns-clause-no_process
unfolding line_of process_of access_of kind_of address_of size_of access_with numeral_of log_of_lines
returns-clause-no_process c = refl

pub returns-clause-eleven_digits : goal.returns-clause-eleven_digits
unfolding line_of process_of access_of kind_of address_of size_of access_with numeral_of log_of_lines
returns-clause-eleven_digits c = refl

pub returns-clause-another : goal.returns-clause-another
unfolding line_of process_of access_of kind_of address_of size_of access_with numeral_of log_of_lines
returns-clause-another c = refl

pub returns-clause-zero : goal.returns-clause-zero
unfolding line_of process_of access_of kind_of address_of size_of access_with numeral_of log_of_lines
returns-clause-zero c = refl

pub returns-clause-one_space : goal.returns-clause-one_space
unfolding line_of process_of access_of kind_of address_of size_of access_with numeral_of log_of_lines
returns-clause-one_space c = refl

pub returns-clause-two_spaces : goal.returns-clause-two_spaces
unfolding line_of process_of access_of kind_of address_of size_of access_with numeral_of log_of_lines
returns-clause-two_spaces c = refl

pub returns-clause-half_mark : goal.returns-clause-half_mark
unfolding line_of process_of access_of kind_of address_of size_of access_with numeral_of log_of_lines
returns-clause-half_mark c = refl

pub returns-clause-letter : goal.returns-clause-letter
unfolding line_of process_of access_of kind_of address_of size_of access_with numeral_of log_of_lines
returns-clause-letter c = refl

pub returns-clause-seventeen : goal.returns-clause-seventeen
unfolding line_of process_of access_of kind_of address_of size_of access_with numeral_of log_of_lines
returns-clause-seventeen c = refl

pub returns-clause-no_comma : goal.returns-clause-no_comma
unfolding line_of process_of access_of kind_of address_of size_of access_with numeral_of log_of_lines
returns-clause-no_comma c = refl

pub returns-clause-no_digit : goal.returns-clause-no_digit
unfolding line_of process_of access_of kind_of address_of size_of access_with numeral_of log_of_lines
returns-clause-no_digit c = refl

pub returns-clause-nothing : goal.returns-clause-nothing
unfolding line_of process_of access_of kind_of address_of size_of access_with numeral_of log_of_lines
returns-clause-nothing c = refl

pub returns-clause-none : goal.returns-clause-none
unfolding line_of process_of access_of kind_of address_of size_of access_with numeral_of log_of_lines
returns-clause-none c = refl

pub returns-clause-too_large : goal.returns-clause-too_large
unfolding line_of process_of access_of kind_of address_of size_of access_with numeral_of log_of_lines
returns-clause-too_large c = refl

pub returns-clause-five_digits : goal.returns-clause-five_digits
unfolding line_of process_of access_of kind_of address_of size_of access_with numeral_of log_of_lines
returns-clause-five_digits c = refl

pub returns-clause-space : goal.returns-clause-space
unfolding line_of process_of access_of kind_of address_of size_of access_with numeral_of log_of_lines
returns-clause-space c = refl

pub returns-clause-past : goal.returns-clause-past
unfolding line_of process_of access_of kind_of address_of size_of access_with numeral_of log_of_lines
returns-clause-past c = refl

pub returns-clause-last : goal.returns-clause-last
unfolding line_of process_of access_of kind_of address_of size_of access_with numeral_of log_of_lines
returns-clause-last c = refl

pub returns-clause-second : goal.returns-clause-second
unfolding line_of process_of access_of kind_of address_of size_of access_with numeral_of log_of_lines
returns-clause-second c = refl

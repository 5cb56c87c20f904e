use Rattle.std.proofs.Common.{refl}
use Rattle.std.specs.Fmt.{digits}
use Rattle.vm_import.specs.Lines.{access_of, access_with, address_of, kind_of, line_of, process_of, size_of}
use Rattle.vm_import.specs.Logs.{log_of_lines}
use Rattle.vm_import.specs.Numerals.{numeral_of}
use Rattle.vm_import.specs.Touches.{touches_of}
use Rattle.vm_import.specs.WorkingSets.{working_set}
use Rattle.vm_import.specs.Guests.{guest_of}
use Rattle.vm_import.specs.Limits.{passed_by}
use Rattle.vm_import.specs.Steps.{idle_steps, step_of, trace_of}
use Rattle.vm_import.specs.Texts.{head_of, quoted, tail_of, text_of}
use Rattle.vm_import.proofs.law.law_imports.Goals as goal

pub returns-clause-kinds : goal.returns-clause-kinds
unfolding digits access_of access_with address_of kind_of line_of process_of size_of log_of_lines numeral_of touches_of working_set guest_of passed_by idle_steps step_of trace_of head_of quoted tail_of text_of
returns-clause-kinds c = record { accesses = _; taken = refl; intervals_are = refl; text_is = refl }

pub returns-clause-no_code : goal.returns-clause-no_code
unfolding digits access_of access_with address_of kind_of line_of process_of size_of log_of_lines numeral_of touches_of working_set guest_of passed_by idle_steps step_of trace_of head_of quoted tail_of text_of
returns-clause-no_code c = record { accesses = _; taken = refl; intervals_are = refl; text_is = refl }

pub returns-clause-idle : goal.returns-clause-idle
unfolding digits access_of access_with address_of kind_of line_of process_of size_of log_of_lines numeral_of touches_of working_set guest_of passed_by idle_steps step_of trace_of head_of quoted tail_of text_of
returns-clause-idle c = record { accesses = _; taken = refl; intervals_are = refl; text_is = refl }

pub returns-clause-covered : goal.returns-clause-covered
unfolding digits access_of access_with address_of kind_of line_of process_of size_of log_of_lines numeral_of touches_of working_set guest_of passed_by idle_steps step_of trace_of head_of quoted tail_of text_of
returns-clause-covered c = record { accesses = _; taken = refl; intervals_are = refl; text_is = refl }

pub returns-clause-skipped : goal.returns-clause-skipped
unfolding digits access_of access_with address_of kind_of line_of process_of size_of log_of_lines numeral_of touches_of working_set guest_of passed_by idle_steps step_of trace_of head_of quoted tail_of text_of
returns-clause-skipped c = record { accesses = _; taken = refl; intervals_are = refl; text_is = refl }

pub returns-clause-ends : goal.returns-clause-ends
unfolding digits access_of access_with address_of kind_of line_of process_of size_of log_of_lines numeral_of touches_of working_set guest_of passed_by idle_steps step_of trace_of head_of quoted tail_of text_of
returns-clause-ends c = record { accesses = _; taken = refl; intervals_are = refl; text_is = refl }

pub returns-clause-idle_ends : goal.returns-clause-idle_ends
unfolding digits access_of access_with address_of kind_of line_of process_of size_of log_of_lines numeral_of touches_of working_set guest_of passed_by idle_steps step_of trace_of head_of quoted tail_of text_of
returns-clause-idle_ends c = record { accesses = _; taken = refl; intervals_are = refl; text_is = refl }

pub returns-clause-part : goal.returns-clause-part
unfolding digits access_of access_with address_of kind_of line_of process_of size_of log_of_lines numeral_of touches_of working_set guest_of passed_by idle_steps step_of trace_of head_of quoted tail_of text_of
returns-clause-part c = record { accesses = _; taken = refl; intervals_are = refl; untouched = refl }

pub returns-clause-untouched : goal.returns-clause-untouched
unfolding digits access_of access_with address_of kind_of line_of process_of size_of log_of_lines numeral_of touches_of working_set guest_of passed_by idle_steps step_of trace_of head_of quoted tail_of text_of
returns-clause-untouched c = record { accesses = _; taken = refl; intervals_are = refl; untouched = refl }

pub returns-clause-empty : goal.returns-clause-empty
unfolding digits access_of access_with address_of kind_of line_of process_of size_of log_of_lines numeral_of touches_of working_set guest_of passed_by idle_steps step_of trace_of head_of quoted tail_of text_of
returns-clause-empty c = record { accesses = _; taken = refl; intervals_are = refl; untouched = refl }

pub returns-clause-another : goal.returns-clause-another
unfolding digits access_of access_with address_of kind_of line_of process_of size_of log_of_lines numeral_of touches_of working_set guest_of passed_by idle_steps step_of trace_of head_of quoted tail_of text_of
returns-clause-another c = refl

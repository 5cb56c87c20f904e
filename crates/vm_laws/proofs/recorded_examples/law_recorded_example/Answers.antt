use Rattle.std.proofs.Common.{refl}
use Rattle.std.specs.Fmt.{digits}
use Rattle.vm_recorded.specs.Commands.{command_of}
use Rattle.vm_recorded.specs.Texts.{guest_head, guest_text, head_of, quoted, text_of}
use Rattle.vm_laws.proofs.RecordedExampleLemmas.{in-range}
use Rattle.vm_laws.proofs.recorded_examples.law_recorded_example.Goals as goal

pub returns-clause-in_range : goal.returns-clause-in_range
returns-clause-in_range c = in-range

pub returns-clause-text_is : goal.returns-clause-text_is
unfolding digits command_of guest_head guest_text head_of quoted text_of
returns-clause-text_is c = refl

pub returns-clause-config_is : goal.returns-clause-config_is
unfolding digits
returns-clause-config_is c = refl

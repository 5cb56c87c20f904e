use Rattle.std.proofs.Common.{refl}
use Rattle.std.specs.Fmt.{digits}
use Rattle.vm_recorded.specs.Commands.{command_of}
use Rattle.vm_recorded.specs.Texts.{guest_head, guest_text, head_of, quoted, text_of}
use Rattle.vm_recorded.proofs.examples.law_texts.Goals as goal

pub returns : goal.returns
unfolding digits command_of guest_head guest_text head_of quoted text_of
returns c = record { alone = refl; several = refl; capped = refl }

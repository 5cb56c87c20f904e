use Rattle.std.proofs.Common.{ap, sym}
use Rattle.vm_drawing.specs.Shapes.{class_of}
use Rattle.vm_drawing.proofs.texts.class_of.Goals as goal

pub returns-in-Heading : goal.returns-in-Heading
returns-in-Heading c = ap class_of (sym c.in-Heading.is)

pub returns-in-Plain : goal.returns-in-Plain
returns-in-Plain c = ap class_of (sym c.in-Plain.is)

pub returns-in-Title : goal.returns-in-Title
returns-in-Title c = ap class_of (sym c.in-Title.is)

pub returns-in-End : goal.returns-in-End
returns-in-End c = ap class_of (sym c.in-End.is)

pub returns-in-Middle : goal.returns-in-Middle
returns-in-Middle c = ap class_of (sym c.in-Middle.is)

use Rattle.std.proofs.Common.{refl}
use Rattle.vm_pages.specs.Words.{outside_word}
use Rattle.vm_pages.proofs.words.marks_outside.Goals as goal

pub returns : goal.returns
unfolding outside_word
returns c = rw (c.cut.ensures, c.but.ensures, c.word_at.ensures, c.word_at-2.ensures) refl

use Rattle.std.proofs.Common.{◌≡◌, ◌+◌, ◌*◌}
use Rattle.vm_pages.specs.Pages.{count_below}
use Rattle.vm_pages.specs.Words.{marked}
use Rattle.vm_pages.proofs.words.word_of.Given as goal

abbrev pub invariant-loop-word : goal.invariant-loop-word
invariant-loop-word l = count_below (marked l.words l.pages) (l.word * 64) + l.left ≡ count_below (marked l.words l.pages) (l.first * 64) + l.k

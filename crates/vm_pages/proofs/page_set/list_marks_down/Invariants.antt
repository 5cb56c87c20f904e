use Rattle.std.proofs.Common.{◌≡◌, ℕ, ◌+◌, ◌-◌, ◌*◌, ◌%◌, ◌^◌, ◌<◌, List, get_or, min, vec_capacity}
use Rattle.vm_pages.specs.Words.{marked}
use Rattle.vm_pages.specs.Extremes.{greatest_from}
use Rattle.vm_pages.proofs.WordExtremes.{IsListedDown}
use Rattle.vm_pages.proofs.page_set.list_marks_down.Given as goal

-- what is left are the bits below a place
abbrev pub invariant-loop-lower : goal.invariant-loop-lower
invariant-loop-lower l = record {
  listed : (words : List ℕ) (pages : ℕ) → l.word * 64 < pages → l.marks ≡ get_or words l.word 0 % 2 ^ min 64 (pages - l.word * 64)
      → l.initial.list.items ≡ greatest_from (marked words pages) ((l.word + 1) * 64) l.most → IsListedDown words pages l.word l.most l.lower l.list.items;
  room : vec_capacity l.list ≡ vec_capacity l.initial.list;
}

abbrev pub decreases-loop-lower : goal.decreases-loop-lower
decreases-loop-lower l = l.lower

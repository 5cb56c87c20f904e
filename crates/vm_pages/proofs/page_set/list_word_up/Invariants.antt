use Rattle.std.proofs.Common.{◌≡◌, ℕ, ◌+◌, ◌-◌, ◌*◌, ◌%◌, ◌^◌, ◌≤◌, get_or, min, vec_capacity}
use Rattle.vm_pages.specs.Words.{marked}
use Rattle.vm_pages.specs.Extremes.{least_below}
use Rattle.vm_pages.proofs.page_set.list_word_up.Given as goal

-- what is left are the bits from a place on
abbrev pub invariant-loop-upper : goal.invariant-loop-upper
invariant-loop-upper l = record {
  place : ℕ;
  inside : place ≤ min 64 (l.pages - l.word * 64);
  bits : l.upper + get_or l.words l.word 0 % 2 ^ place ≡ get_or l.words l.word 0 % 2 ^ min 64 (l.pages - l.word * 64);
  listed : l.list.items ≡ least_below (marked l.words l.pages) (l.word * 64 + place) l.most;
  room : vec_capacity l.list ≡ vec_capacity l.initial.list;
}

abbrev pub decreases-loop-upper : goal.decreases-loop-upper
decreases-loop-upper l = l.upper

use Rattle.std.proofs.Common.{◌≡◌, ◌+◌, sum, take}
use Rattle.vm_pages.proofs.page_set.block_of.Given as goal

abbrev pub invariant-loop-block : goal.invariant-loop-block
invariant-loop-block l = sum (take l.block l.counts) + l.left ≡ l.k

use Rattle.std.proofs.Common.{◌≡◌, true, take}
use Rattle.std.specs.Prelude.{◌<◌, All}
use Rattle.vm_balloon.proofs.page_queue.are_below.Given as goal

abbrev pub invariant-loop-number : goal.invariant-loop-number
invariant-loop-number l = l.below ≡ true → All (λ number. number < l.size) (take l.number-index l.numbers)

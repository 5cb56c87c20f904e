use Rattle.std.proofs.Common.{◌+◌, ◌/◌, ap}
use Rattle.vm_lists.proofs.RangeLaws.{range_within, range_last}
use Rattle.vm_lists.specs.Ranges.{spaced}
use Rattle.vm_lists.proofs.ranges.Spaced.range.Goals as goal

pub returns-clause-exact : goal.returns-clause-exact
returns-clause-exact c = ap (λ n. spaced c.args.from c.args.step (n / c.args.step + 1)) c.from.ensures

pub returns-clause-within : goal.returns-clause-within
returns-clause-within c = rw c.from.ensures (range_within c.args.from c.args.to c.args.step c.requires.ordered)

pub returns-clause-last : goal.returns-clause-last
returns-clause-last c = rw c.from.ensures (range_last c.args.from c.args.to c.args.step c.requires.ordered c.requires.step)

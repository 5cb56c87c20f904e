use Rattle.std.proofs.Common.{◌+◌, arith, length}
use Rattle.std.proofs.lemmas.List.{length-replicate}
use Rattle.vm_sampling.proofs.MarksLemmas.{marked-later, marked-none, marks-none}
use Rattle.vm_sampling.proofs.sampler.next_number.Goals as goal

pub returns-then-number-eq65535-clause-empty : goal.returns-then-number-eq65535-clause-empty
returns-then-number-eq65535-clause-empty c =
    rw (c.clear.ensures, c.requires.from_zero) (marked-none (length c.args.marks.now.list))

pub returns-then-number-eq65535-clause-all : goal.returns-then-number-eq65535-clause-all
returns-then-number-eq65535-clause-all c = rw c.clear.ensures (length-replicate (length c.args.marks.now.list) c.args.marks.now.first)

pub returns-then-number-eq65535-clause-from_zero : goal.returns-then-number-eq65535-clause-from_zero
returns-then-number-eq65535-clause-from_zero c = rw c.clear.ensures c.requires.from_zero

pub returns-then-number-eq65535-clause-marks : goal.returns-then-number-eq65535-clause-marks
returns-then-number-eq65535-clause-marks c = rw (c.clear.ensures, c.requires.from_zero) (marks-none 1 (length c.args.marks.now.list))

pub returns-clause-empty : goal.returns-clause-empty
returns-clause-empty c = marked-later c.args.number (c.args.number + 1) c.args.marks.now.list (omega arith) c.requires.marks

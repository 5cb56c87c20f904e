use Rattle.std.proofs.Common.{◌≡◌, arith, ap, length}
use Rattle.std.proofs.lemmas.Result.{IfOk-from_err}
use Rattle.vm_frames.proofs.PageLemmas.{all_pushed}
use Rattle.vm_frames.proofs.memory.owners.Goals as goal

pub returns-in_err-owners : goal.returns-in_err-owners
returns-in_err-owners c = record { each = IfOk-from_err _ _ c.from_residual.ensures.0; all = IfOk-from_err _ _ c.from_residual.ensures.0 }

pub loop-owners-init : goal.loop-owners-init
loop-owners-init c = let made = c.in_ok-owners.ensures in let none = ap length made.items in record {
  each = λ k d less. absurd (omega arith);
  within = (let len = made.len in omega arith);
  room = (let room = made.capacity in omega arith);
}

pub push_reserved-requires : goal.push_reserved-requires
push_reserved-requires c = let fewer = c.loop-owners-test.true in let room = c.loop-owners.invariant.room in omega arith

pub loop-owners-preserved : goal.loop-owners-preserved
loop-owners-preserved c = let pushed = c.push_reserved.ensures in let is = c.loop-owners.invariant in let fewer = c.loop-owners-test.true in record {
  each = all_pushed (λ o. o.value ≡ c.args.block.value) _ _ _ pushed.items is.each c.in_ok-clone.ensures.cases;
  within = (let len = pushed.len in omega arith);
  room = (let same = pushed.capacity in let room = is.room in omega arith);
}

pub returns-clause-each : goal.returns-clause-each
returns-clause-each c = c.loop-owners.invariant.each

pub returns-clause-all : goal.returns-clause-all
returns-clause-all c = let within = c.loop-owners.invariant.within in let full = c.loop-owners-test.false in omega arith

pub returns-in_err-clone : goal.returns-in_err-clone
returns-in_err-clone c = record { each = IfOk-from_err _ _ c.from_residual-in_err-clone.ensures.0; all = IfOk-from_err _ _ c.from_residual-in_err-clone.ensures.0 }

use Rattle.std.proofs.Common.{◌≡◌, ◌+◌, vec_len, vec_capacity}
use Rattle.vm_pool.specs.Moves.{MovesAside}
use Rattle.vm_pool.proofs.MoveLemmas.{AreOut}
use Rattle.vm_pool.proofs.aside.put_back.Given as goal

abbrev pub invariant-loop : goal.invariant-loop
invariant-loop l = record {
  moved : MovesAside l.fn.aside.items l.aside.items l.fn.machine l.machine;
  count : vec_len l.aside + l.counter ≡ vec_len l.fn.aside;
  room : vec_capacity l.aside ≡ vec_capacity l.fn.aside;
  out : AreOut l.aside.items l.machine.out;
}

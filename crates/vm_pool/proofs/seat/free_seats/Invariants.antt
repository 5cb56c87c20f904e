use Rattle.std.proofs.Common.{◌≡◌, ◌≤◌, vec_len, vec_capacity}
use Rattle.vm_pool.proofs.seat.free_seats.Given as goal

-- a seat for each number that was counted, and room for all
abbrev pub invariant-loop : goal.invariant-loop
invariant-loop l = record {
  many : vec_len l.seats ≡ l.counter;
  room : l.count ≤ vec_capacity l.seats;
}

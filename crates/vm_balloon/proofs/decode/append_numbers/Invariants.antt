use Rattle.std.proofs.Common.{◌≡◌, ◌+◌, ◌++◌}
use Rattle.std.specs.Prelude.{map, vec_capacity, vec_len}
use Rattle.std.specs.List.{range_with_len}
use Rattle.vm_balloon.specs.Virtio.{page_number}
use Rattle.vm_balloon.proofs.decode.append_numbers.Given as goal

abbrev pub invariant-loop-i : goal.invariant-loop-i
invariant-loop-i l = record {
  read : l.numbers.items ≡ l.initial.numbers.items ++ map (page_number l.bytes) (range_with_len 0 l.i);
  many : vec_len l.numbers ≡ vec_len l.initial.numbers + l.i;
  room : vec_capacity l.numbers ≡ vec_capacity l.initial.numbers;
}

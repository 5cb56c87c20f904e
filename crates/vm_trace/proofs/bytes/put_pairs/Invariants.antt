use Rattle.std.proofs.Common.{◌≡◌, ◌*◌, length, take, drop}
use Rattle.vm_trace.specs.Words.{hex_pairs}
use Rattle.vm_trace.proofs.bytes.put_pairs.Given as goal

abbrev pub invariant-loop-i : goal.invariant-loop-i
invariant-loop-i l = record {
  whole : length l.buffer ≡ length l.initial.buffer;
  spelled : take l.i l.buffer ≡ hex_pairs (take (2 * l.i) l.digits);
  rest : drop l.i l.buffer ≡ drop l.i l.initial.buffer;
}

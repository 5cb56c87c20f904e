use Rattle.std.proofs.Common.{◌≡◌, ℕ, ◌+◌, ◌/◌, ◌%◌, ◌≤◌, List, ◌++◌, length, vec_capacity, vec_len}
use Rattle.vm_trace.specs.Words.{hex_pairs, is_hex}
use Rattle.vm_trace.proofs.entering.keep_pairs.Given as goal

-- the bytes of what is left complete those of the text, and what is left is hexadecimal where the text is
abbrev pub invariant-loop-left : goal.invariant-loop-left
invariant-loop-left l = record {
  digits : is_hex l.text ≡ is_hex l.left;
  spelled : (done : List ℕ) × (l.store.items ≡ l.initial.store.items ++ done) × (done ++ hex_pairs l.left ≡ hex_pairs l.text);
  even : length l.left % 2 ≡ 0;
  room : vec_len l.store + length l.left / 2 ≤ vec_capacity l.store;
}

abbrev pub decreases-loop-left : goal.decreases-loop-left
decreases-loop-left l = length l.left

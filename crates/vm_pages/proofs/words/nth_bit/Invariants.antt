use Rattle.std.proofs.Common.{◌≡◌, ◌+◌, ◌/◌, ◌%◌, ◌^◌, ◌<◌, ◌≤◌, count_ones}
use Rattle.vm_pages.proofs.words.nth_bit.Given as goal

abbrev pub invariant-loop-level : goal.invariant-loop-level
invariant-loop-level l = record {
  few : l.level ≤ 6;
  inside : l.place + 2 ^ l.level ≤ 64;
  rest : l.rest ≡ l.word / 2 ^ l.place % 2 ^ (2 ^ l.level);
  within : l.left < count_ones l.rest;
  before : count_ones (l.word % 2 ^ l.place) + l.left ≡ l.k;
}

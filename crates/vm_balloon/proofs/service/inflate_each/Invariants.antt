use Rattle.std.proofs.Common.{◌≡◌, ◌≤◌, ◌++◌, length, drop, vec_len}
use Rattle.std.specs.Prelude.{◌<◌, All}
use Rattle.std.specs.Vec.{vec_capacity}
use Rattle.vm_pages.specs.Pages.{insert_all}
use Rattle.vm_balloon.specs.Service.{inflated_by}
use Rattle.vm_balloon.proofs.service.inflate_each.Given as goal

abbrev pub invariant-loop-number : goal.invariant-loop-number
invariant-loop-number l = record {
  inflated : l.inflated.items ++ inflated_by l.balloon (drop l.number-index l.numbers) ≡ inflated_by l.initial.balloon l.numbers;
  pages : All (λ page. page < length l.initial.balloon) l.inflated.items;
  balloon : l.balloon ≡ insert_all l.initial.balloon l.inflated.items;
  same_pages : length l.balloon ≡ length l.initial.balloon;
  no_more : vec_len l.inflated ≤ l.number-index;
  capacity : vec_capacity l.initial.inflated ≤ vec_capacity l.inflated;
}

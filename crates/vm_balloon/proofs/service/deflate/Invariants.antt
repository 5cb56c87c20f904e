use Rattle.std.proofs.Common.{◌≡◌, ◌≤◌, ◌++◌, length, drop, vec_len}
use Rattle.std.specs.Prelude.{◌<◌, All}
use Rattle.std.specs.Vec.{vec_capacity}
use Rattle.vm_pages.specs.Pages.{remove_all}
use Rattle.vm_balloon.specs.Service.{deflated_by}
use Rattle.vm_balloon.proofs.service.deflate.Given as goal

abbrev pub invariant-loop-number : goal.invariant-loop-number
invariant-loop-number l = record {
  deflated : l.deflated.items ++ deflated_by l.balloon l.early (drop l.number-index l.numbers) ≡ deflated_by l.initial.balloon l.initial.early l.numbers;
  pages : All (λ page. page < length l.initial.balloon) l.deflated.items;
  balloon : l.balloon ≡ remove_all l.initial.balloon l.deflated.items;
  early_left : l.early ≡ remove_all l.initial.early l.deflated.items;
  early : length l.early ≡ length l.initial.early;
  same_pages : length l.early ≡ length l.balloon;
  no_more : vec_len l.deflated ≤ l.number-index;
  capacity : vec_capacity l.initial.deflated ≤ vec_capacity l.deflated;
}

use Rattle.std.proofs.Common.{◌+◌, ◌<◌, ◌++◌, ◌∷◌, [], length, ap, sym, ◌∙◌, arith, length-append}
use Rattle.std.proofs.lemmas.Bool.{and_parts, OnTrue_at}
use Rattle.std.proofs.lemmas.List.Elements.{All-append}
use Rattle.vm_pages.specs.Pages.{insert_all, no_pages}
use Rattle.vm_balloon.specs.PageBuffers.{bytes_of, end_of, numbers_of}
use Rattle.vm_balloon.specs.Posted.{PostedPages}
use Rattle.vm_balloon.specs.Service.{ragged}
use Rattle.vm_balloon.specs.Virtio.{page_numbers}
use Rattle.vm_balloon.proofs.MarkLemmas.{length-marked, marked-push}
use Rattle.vm_balloon.proofs.QueueLemmas.{has_room, ragged-push, length-page_numbers, numbers-kept}
use Rattle.vm_balloon.proofs.ReadBackLemmas.{posted-bytes, numbers_of-push}
use Rattle.vm_balloon.proofs.page_queue.PageQueue.push.Goals as goal

pub keep_numbers-in_range-requires-clause-room : goal.keep_numbers-in_range-requires-clause-room
keep_numbers-in_range-requires-clause-room c =
    omega (arith, has_room c.self.inside c.args.self.now c.self.view_is c.requires.room, c.self.invariant.few_numbers, c.self.invariant.room_numbers)

pub keep_numbers-in_range-requires-clause-size : goal.keep_numbers-in_range-requires-clause-size
keep_numbers-in_range-requires-clause-size c = ap length c.self.invariant.marked ∙ length-marked c.self.inside.size c.self.inside.numbers.items

pub push_reserved-requires : goal.push_reserved-requires
push_reserved-requires c = omega (arith, has_room c.self.inside c.args.self.now c.self.view_is c.requires.room)

pub invariant_of-self : goal.invariant_of-self
invariant_of-self c =
    let bytes = c.args.bytes.now in
    let inside = c.self.inside in
    let old = c.self.invariant in
    let kept = c.keep_numbers-in_range.ensures in
    let ends = c.push_reserved.ensures.items ∙ ap (λ e. inside.ends.items ++ e ∷ []) c.of.ensures in
    let before = bytes_of inside.numbers.items inside.ends.items in
    let posted = posted-bytes inside.numbers.items _ inside.ends.items _ bytes (λ i. (c.type_inv.bytes i).fits) old.all_numbers kept.numbers ends in
    let longer = ap length ends ∙ length-append inside.ends.items _ in
    let more = ap length kept.numbers ∙ length-append inside.numbers.items _ in
    record {
      few_pages = old.few_pages;
      all_numbers = omega (arith, old.all_numbers, more, length-page_numbers bytes, ap numbers_of ends, numbers_of-push inside.ends.items (end_of bytes));
      marked =
          kept.pages
          ∙ ap (λ marks. insert_all marks (page_numbers bytes)) old.marked
          ∙ marked-push inside.size inside.numbers.items (page_numbers bytes)
          ∙ sym (ap (insert_all (no_pages inside.size)) kept.numbers);
      numbers = numbers-kept _ _ before _ bytes old.numbers kept.numbers posted;
      few_numbers = omega (arith, old.few_numbers, kept.few, longer);
      room_numbers = omega (arith, old.room_numbers, kept.room, c.push_reserved.ensures.capacity);
      in_range = λ e.
          let both = and_parts inside.in_range c.keep_numbers-in_range.result e in
          rw kept.numbers
          (All-append (λ number. number < inside.size) inside.numbers.items (page_numbers bytes) (old.in_range both.0) (OnTrue_at both.1 kept.in_range));
      ragged = ap (λ n. n + c.ragged_count.result) old.ragged ∙ ap (λ n. ragged before + n) c.ragged_count.ensures.value ∙ ragged-push before bytes ∙ sym (ap ragged posted);
      few_ragged = omega (arith, old.few_ragged, c.ragged_count.ensures.few, longer);
    }

pub returns : goal.returns
returns c =
    let bytes = c.args.bytes.now in
    let inside = c.self.inside in
    let ends = c.push_reserved.ensures.items ∙ ap (λ e. inside.ends.items ++ e ∷ []) c.of.ensures in
    let posted = posted-bytes inside.numbers.items _ inside.ends.items _ bytes (λ i. (c.type_inv.bytes i).fits) c.self.invariant.all_numbers c.keep_numbers-in_range.ensures.numbers ends in
    (λ i. record { size = inside.size; room = c.push_reserved.ensures.capacity i; buffers = posted i })
    ∙ ap (λ (q : PostedPages). record q { buffers = q.buffers ++ bytes ∷ [] }) c.self.view_is

use Rattle.std.proofs.Common.{◌≡◌, ◌<◌, [], length, ap, sym, ◌∙◌, arith}
use Rattle.std.proofs.lemmas.List.Elements.{All-nil}
use Rattle.vm_pages.specs.Pages.{insert_all, no_pages, remove_all}
use Rattle.vm_balloon.specs.PageBuffers.{bytes_of, numbers_of}
use Rattle.vm_balloon.specs.Service.{numbers_in, ragged}
use Rattle.vm_balloon.proofs.MarkLemmas.{length-marked, remove_all-marked}
use Rattle.vm_balloon.proofs.page_queue.PageQueue.clear.Goals as goal

pub unmark_all-requires-clause-size : goal.unmark_all-requires-clause-size
unmark_all-requires-clause-size c = ap length c.self.invariant.marked ∙ length-marked c.self.inside.size c.self.inside.numbers.items

pub invariant_of-self : goal.invariant_of-self
invariant_of-self c =
    let inside = c.self.inside in
    let old = c.self.invariant in
    let numbers = inside.numbers.items in
    let no_numbers = c.clear.ensures.items in
    let none : bytes_of c.clear.new.self.items c.clear-2.new.self.items ≡ [] = λ i. bytes_of (no_numbers i) (c.clear-2.ensures.items i) in
    record {
      few_pages = old.few_pages;
      all_numbers = ap length no_numbers ∙ sym (ap numbers_of c.clear-2.ensures.items);
      marked =
          c.unmark_all.ensures
          ∙ ap (remove_all inside.named) c.deref.ensures.value
          ∙ ap (λ marks. remove_all marks numbers) old.marked
          ∙ remove_all-marked inside.size numbers
          ∙ sym (ap (insert_all (no_pages inside.size)) no_numbers);
      numbers = no_numbers ∙ sym (ap numbers_in none);
      few_numbers = omega (arith, ap length no_numbers);
      room_numbers = omega (arith, old.room_numbers, c.clear.ensures.capacity, c.clear-2.ensures.capacity);
      in_range = λ _. rw no_numbers (All-nil (λ number. number < inside.size));
      ragged = sym (ap ragged none);
      few_ragged = omega arith;
    }

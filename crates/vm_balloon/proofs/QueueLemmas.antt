-- One more buffer in a queue of page buffers.
use Rattle.std.proofs.Common.{◌≡◌, ℕ, ◌+◌, ◌/◌, ◌<◌, List, [], ◌∷◌, ◌++◌, length, sym, ap, ◌∙◌, arith}
use Rattle.std.specs.Prelude.{◌%◌, ◌==◌, not, cond, vec_capacity}
use Rattle.std.proofs.lemmas.List.Sums.{sum_by-append}
use Rattle.std.proofs.lemmas.List.FromFn.{length-map-range_with_len}
use Rattle.vm_balloon.specs.declared.page_queue.PageQueue.TheInside.{Inside}
use Rattle.vm_balloon.specs.PageBuffers.{bytes_of}
use Rattle.vm_balloon.specs.PageQueue.{posted_of}
use Rattle.vm_balloon.specs.Posted.{PostedPages}
use Rattle.vm_balloon.specs.Virtio.{page_buffer, page_number, page_numbers}
use Rattle.vm_balloon.specs.Service.{numbers_in, ragged}
use Rattle.vm_balloon.proofs.MarkLemmas.{numbers_in-push}
use Rattle.vm_balloon.proofs.PageBufferLemmas.{length-page_buffer}
use Rattle.vm_balloon.proofs.ReadBackLemmas.{length-bytes_of}

-- there is room for one more
pub has_room : (q : Inside) (now : PostedPages) → posted_of q ≡ now → length now.buffers < now.room → length q.ends.items < vec_capacity q.ends
has_room q now is room =
    let posted : length (bytes_of q.numbers.items q.ends.items) ≡ length now.buffers = ap (λ (p : PostedPages). length p.buffers) is in
    let most : vec_capacity q.ends ≡ now.room = ap (λ (p : PostedPages). p.room) is in
    omega (arith, posted, most, room, length-bytes_of q.numbers.items q.ends.items)

-- how many buffers end in bytes that are no page number
pub ragged-push : (buffers : List (List ℕ)) (bytes : List ℕ) → ragged buffers + ragged (bytes ∷ []) ≡ ragged (buffers ++ bytes ∷ [])
ragged-push buffers bytes = sym (sum_by-append (λ (b : List ℕ). cond (not (length b % 4 == 0)) 1 0) buffers (bytes ∷ []))

-- none of page numbers alone does
pub ragged-push_pages : (buffers : List (List ℕ)) (pages : List ℕ) → ragged buffers ≡ ragged (buffers ++ page_buffer pages ∷ [])
ragged-push_pages buffers pages =
    let bytes = page_buffer pages in
    let whole : length bytes % 4 ≡ 0 = omega (arith, length-page_buffer pages) in
    let odd : ℕ → ℕ = λ n. 0 + cond (not (n == 0)) 1 0 in
    let none : ragged (bytes ∷ []) ≡ 0 = ap odd whole in
    omega (arith, none, ragged-push buffers bytes)

-- how many page numbers a buffer has
pub length-page_numbers : (bytes : List ℕ) → length (page_numbers bytes) ≡ length bytes / 4
length-page_numbers bytes = length-map-range_with_len (page_number bytes) 0 (length bytes / 4)

-- the page numbers that stood there, with those of the buffer behind them
pub numbers-kept : (old new : List ℕ) (buffers posted : List (List ℕ)) (bytes : List ℕ) → old ≡ numbers_in buffers
    → new ≡ old ++ page_numbers bytes → posted ≡ buffers ++ bytes ∷ [] → new ≡ numbers_in posted
numbers-kept old new buffers posted bytes before behind after =
    behind ∙ ap (λ (ns : List ℕ). ns ++ page_numbers bytes) before ∙ sym (numbers_in-push buffers bytes) ∙ sym (ap numbers_in after)

-- The bytes of posted page buffers, from their page numbers and their ends.
use Rattle.std.proofs.Common.{◌≡◌, ℕ, zero, suc, ◌+◌, ◌*◌, ◌/◌, ◌<◌, ◌≤◌, List, [], ◌∷◌, ◌++◌, length, get_or, drop, take, refl, sym, ap, ◌∙◌, inl, inr, arith, append-nil}
use Rattle.std.specs.Prelude.{◌-◌, All, map}
use Rattle.std.specs.Int.{w32, to_le_bytes}
use Rattle.std.specs.List.{range_with_len}
use Rattle.std.proofs.Math.Seq.{take-add}
use Rattle.std.proofs.lemmas.Bool.{cases_lt}
use Rattle.std.proofs.lemmas.Grind.{flat_map-append}
use Rattle.std.proofs.lemmas.List.{length-drop, length-take-le, take_all, take-append-drop, drop-append-le, take-append-le, get_or_past}
use Rattle.std.proofs.lemmas.List.Elements.{All-take, All-drop, All-from_get_or}
use Rattle.std.proofs.lemmas.List.FromFn.{length-map-range_with_len}
use Rattle.std.proofs.lemmas.Nat.{le_bytes_4}
use Rattle.vm_balloon.specs.PageBuffers.{EndView, bytes_of, end_of, numbers_of}
use Rattle.vm_balloon.specs.Virtio.{page_buffer, page_number, page_numbers}
use Rattle.vm_balloon.proofs.VirtioLemmas.{map_numbered_more}

-- one more buffer
bytes_of-push : (numbers new : List ℕ) (buffers : List EndView) (b : EndView) → length numbers ≡ numbers_of buffers → b.numbers ≡ length new
    → bytes_of (numbers ++ new) (buffers ++ b ∷ []) ≡ bytes_of numbers buffers ++ (page_buffer new ++ b.rest) ∷ []
bytes_of-push [] new [] b all many = ap (λ (ns : List ℕ). (page_buffer ns ++ b.rest) ∷ []) (take_all b.numbers new (omega (arith, many)))
bytes_of-push (n ∷ ns) new [] b all many = absurd (omega (arith, all))
bytes_of-push numbers new (first ∷ buffers) b all many =
    let within : first.numbers ≤ length numbers = omega (arith, all) in
    let more = buffers ++ b ∷ [] in
    let fewer : length (drop first.numbers numbers) ≡ numbers_of buffers = length-drop first.numbers numbers ∙ omega (arith, all) in
    ap (λ (ns : List ℕ). (page_buffer ns ++ first.rest) ∷ bytes_of (drop first.numbers (numbers ++ new)) more) (take-append-le first.numbers numbers new within)
    ∙ ap (λ (ns : List ℕ). (page_buffer (take first.numbers numbers) ++ first.rest) ∷ bytes_of ns more) (drop-append-le first.numbers numbers new within)
    ∙ ap (λ (rest : List (List ℕ)). (page_buffer (take first.numbers numbers) ++ first.rest) ∷ rest) (bytes_of-push (drop first.numbers numbers) new buffers b fewer many)

-- its page numbers are more of them
pub numbers_of-push : (buffers : List EndView) (b : EndView) → numbers_of (buffers ++ b ∷ []) ≡ numbers_of buffers + b.numbers
numbers_of-push [] b = omega arith
numbers_of-push (first ∷ buffers) b =
    let rest = numbers_of-push buffers b in
    omega (arith, rest)

-- each buffer has one end
pub length-bytes_of : (numbers : List ℕ) (buffers : List EndView) → length (bytes_of numbers buffers) ≡ length buffers
length-bytes_of numbers [] = refl
length-bytes_of numbers (b ∷ buffers) =
    let rest = length-bytes_of (drop b.numbers numbers) buffers in
    omega (arith, rest)

-- a place past the bytes counts as 0
small_or_none : (bytes : List ℕ) (i : ℕ) → All (λ byte. byte < 256) bytes → get_or bytes i 0 < 256
small_or_none bytes i small = elim (cases_lt i (length bytes)) [
  | inl below ↦ small i 0 below
  | inr past ↦ rw (get_or_past bytes i 0 (omega (arith, past))) (omega arith)
]

-- page numbers that were read give their bytes
written_back : (bytes : List ℕ) (n : ℕ) → All (λ byte. byte < 256) bytes → 4 * n ≤ length bytes
    → page_buffer (map (page_number bytes) (range_with_len 0 n)) ≡ take (4 * n) bytes
written_back bytes zero small within = refl
written_back bytes (suc n) small within =
    let before = map (page_number bytes) (range_with_len 0 n) in
    let four : 4 * n + 4 - 4 * n ≡ 4 = omega arith in
    let more : suc n ≡ n + 1 = omega arith in
    let behind : 4 * n + 4 ≡ 4 * suc n = omega arith in
    let next = take (4 * n + 4 - 4 * n) (drop (4 * n) bytes) in
    let long : length next ≡ 4 = length-take-le (4 * n + 4 - 4 * n) (drop (4 * n) bytes) (omega (arith, within, length-drop (4 * n) bytes)) ∙ four in
    let bytes_alone = All-take (λ byte. byte < 256) (4 * n + 4 - 4 * n) (drop (4 * n) bytes) (All-drop (λ byte. byte < 256) (4 * n) bytes small) in
    let one : to_le_bytes w32 (page_number bytes n) ≡ next = le_bytes_4 next (page_number bytes n) long (λ i. small_or_none next i bytes_alone) refl in
    ap page_buffer (ap (λ k. map (page_number bytes) (range_with_len 0 k)) more ∙ map_numbered_more (page_number bytes) n)
    ∙ flat_map-append (to_le_bytes w32) before (page_number bytes n ∷ [])
    ∙ ap (λ (front : List ℕ). front ++ (to_le_bytes w32 (page_number bytes n) ++ [])) (written_back bytes n small (omega (arith, within)))
    ∙ ap (λ (back : List ℕ). take (4 * n) bytes ++ back) (append-nil (to_le_bytes w32 (page_number bytes n)) ∙ one ∙ ap (λ k. take k (drop (4 * n) bytes)) four)
    ∙ sym (take-add (4 * n) 4 bytes)
    ∙ ap (λ k. take k bytes) behind

-- so a buffer is the bytes of its page numbers, and what is behind them
bytes-read : (bytes : List ℕ) → All (λ byte. byte < 256) bytes → page_buffer (page_numbers bytes) ++ drop (4 * (length bytes / 4)) bytes ≡ bytes
bytes-read bytes small =
    let n = length bytes / 4 in
    ap (λ (front : List ℕ). front ++ drop (4 * n) bytes) (written_back bytes n small (omega arith)) ∙ take-append-drop (4 * n) bytes

-- a buffer of bytes is posted behind the others
pub posted-bytes : (numbers after : List ℕ) (ends more : List EndView) (bytes : List ℕ) → ((i : ℕ) → get_or bytes i 0 < 256) → length numbers ≡ numbers_of ends
    → after ≡ numbers ++ page_numbers bytes → more ≡ ends ++ end_of bytes ∷ [] → bytes_of after more ≡ bytes_of numbers ends ++ bytes ∷ []
posted-bytes numbers after ends more bytes small all kept behind =
    (λ i. bytes_of (kept i) (behind i))
    ∙ bytes_of-push numbers (page_numbers bytes) ends (end_of bytes) all (sym (length-map-range_with_len (page_number bytes) 0 (length bytes / 4)))
    ∙ ap (λ (b : List ℕ). bytes_of numbers ends ++ b ∷ []) (bytes-read bytes (All-from_get_or (λ byte. byte < 256) bytes 0 (λ i below. small i)))

-- and so is one of page numbers
pub posted-pages : (numbers after : List ℕ) (ends more : List EndView) (pages : List ℕ) → length numbers ≡ numbers_of ends
    → after ≡ numbers ++ pages → more ≡ ends ++ record { numbers = length pages; rest = [] } ∷ [] → bytes_of after more ≡ bytes_of numbers ends ++ page_buffer pages ∷ []
posted-pages numbers after ends more pages all kept behind =
    (λ i. bytes_of (kept i) (behind i))
    ∙ bytes_of-push numbers pages ends (record { numbers = length pages; rest = [] }) all refl
    ∙ ap (λ (b : List ℕ). bytes_of numbers ends ++ b ∷ []) (append-nil (page_buffer pages))

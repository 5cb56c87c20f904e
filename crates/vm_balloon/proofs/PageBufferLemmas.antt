-- Page numbers that are written as bytes, and read back.
use Rattle.std.proofs.Common.{◌≡◌, ℕ, zero, suc, ◌+◌, ◌*◌, ◌/◌, ◌^◌, ◌<◌, List, [], ◌∷◌, ◌++◌, length, get_or, drop, take, refl, ap, ◌∙◌, arith}
use Rattle.std.specs.Prelude.{◌-◌, All}
use Rattle.std.specs.Int.{w32, to_le_bytes, from_le_bytes}
use Rattle.std.specs.List.{slice_range}
use Rattle.std.proofs.Math.ListN.{drop_of_length-le}
use Rattle.std.proofs.Math.Seq.{drop-append-add}
use Rattle.std.proofs.lemmas.Grind.{same_number_lists}
use Rattle.std.proofs.lemmas.List.{length-append, at_drop_more}
use Rattle.std.proofs.lemmas.List.Concat.{flat_map-cons}
use Rattle.std.proofs.lemmas.List.FromFn.{length-map-range_with_len, get_or-map-range_with_len}
use Rattle.std.proofs.lemmas.Nat.{from_le_bytes-to_le_bytes_4}
use Rattle.vm_balloon.specs.Virtio.{page_buffer, page_number, page_numbers}

-- how many bytes there are
pub length-page_buffer : (pages : List ℕ) → length (page_buffer pages) ≡ 4 * length pages
length-page_buffer [] = refl
length-page_buffer (page ∷ pages) =
    let one = ap length (flat_map-cons (to_le_bytes w32) page pages) ∙ length-append (to_le_bytes w32 page) (page_buffer pages) in
    let rest = length-page_buffer pages in
    omega (arith, one, rest)

-- the page numbers from a place on stand behind those before it
drop-page_buffer : (pages : List ℕ) (i : ℕ) → drop (4 * i) (page_buffer pages) ≡ page_buffer (drop i pages)
drop-page_buffer pages zero = refl
drop-page_buffer [] (suc i) = drop_of_length-le [] (omega arith)
drop-page_buffer (page ∷ pages) (suc i) =
    let next : 4 * suc i ≡ length (to_le_bytes w32 page) + 4 * i = omega arith in
    ap (λ (bytes : List ℕ). drop (4 * suc i) bytes) (flat_map-cons (to_le_bytes w32) page pages)
    ∙ ap (λ n. drop n (to_le_bytes w32 page ++ page_buffer pages)) next
    ∙ drop-append-add (to_le_bytes w32 page) (page_buffer pages) (4 * i)
    ∙ drop-page_buffer pages i

-- the bytes of the page at a place
bytes_of_page : (pages : List ℕ) (i : ℕ) → i < length pages → slice_range (page_buffer pages) (4 * i) (4 * i + 4) ≡ to_le_bytes w32 (get_or pages i 0)
bytes_of_page pages i below =
    let four : 4 * i + 4 - 4 * i ≡ 4 = omega arith in
    ap (λ n. take n (drop (4 * i) (page_buffer pages))) four
    ∙ ap (λ (bytes : List ℕ). take 4 bytes) (drop-page_buffer pages i)
    ∙ at_drop_more (λ (rest : List ℕ). take 4 (page_buffer rest)) pages i 0 below
    ∙ ap (λ (bytes : List ℕ). take 4 bytes) (flat_map-cons (to_le_bytes w32) (get_or pages i 0) (drop (i + 1) pages))

-- what was written is read back
pub page_numbers-page_buffer : (pages : List ℕ) → All (λ page. page < 2 ^ 32) pages → page_numbers (page_buffer pages) ≡ pages
page_numbers-page_buffer pages fits =
    let bytes = page_buffer pages in
    let many : length bytes / 4 ≡ length pages = omega (arith, length-page_buffer pages) in
    let same_length = length-map-range_with_len (page_number bytes) 0 (length bytes / 4) ∙ many in
    same_number_lists (page_numbers bytes) pages same_length (λ k below.
    let there : k < length pages = omega (arith, below, same_length) in
    get_or-map-range_with_len (page_number bytes) 0 (length bytes / 4) k k 0 (omega (arith, there, many)) (omega arith)
    ∙ ap (from_le_bytes w32) (bytes_of_page pages k there)
    ∙ from_le_bytes-to_le_bytes_4 (get_or pages k 0) (fits k 0 there))

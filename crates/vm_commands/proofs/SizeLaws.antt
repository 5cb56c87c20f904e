-- A text is read as a size of some pages exactly where the grammar has it so.
use Rattle.std.proofs.Common.{◌≡◌, ℕ, ◌+◌, ◌*◌, ◌<◌, ◌≤◌, ◌^◌, ◌&&◌, true, nat_le, nat_lt, List, [], ◌∷◌, ◌++◌, length, take, drop, Option, Some, None, IfSome, ap, sym, subst, ◌∙◌, arith}
use Rattle.std.proofs.Math.Nat.{le_antisymm, lt_of_mul-lt-mul_left, mul-add, mul_assoc, mul_comm}
use Rattle.std.proofs.Math.Seq.{drop-append_seam, take-append_seam}
use Rattle.std.proofs.lemmas.Bool.{and_parts, and_from, le-leb, leb-true, lt-ltb, ltb-true}
use Rattle.std.proofs.lemmas.Grind.{div_ceil_times}
use Rattle.std.proofs.lemmas.List.{take-append-drop}
use Rattle.std.proofs.lemmas.List.Folds.{length-prefix_len}
use Rattle.std.proofs.lemmas.List.Sums.{AllPass-from_list_all, list_all-from_AllPass}
use Rattle.std.specs.Char.{is_ascii_digit}
use Rattle.std.specs.Int.{div_ceil}
use Rattle.std.specs.List.{list_all, prefix_len}
use Rattle.std.specs.Str.Parse.{digits_value}
use Rattle.vm_commands.specs.SizeGrammar.{IsSize, IsFewestPages}
use Rattle.vm_commands.specs.Sizes.{unit_of, digits_in_front, bytes_of_size, pages_of_bytes, pages_of_size}
use Rattle.vm_commands.proofs.Choices.{some_chosen, some_bound, some_is}
use Rattle.vm_commands.proofs.Digits.{front_digits}
use Rattle.vm_commands.proofs.UnitTable.{unit_from, unit_of-named, suffix_front}

-- the bytes of pages by the KiB of them
bytes_of_pages : (page pages : ℕ) → 1024 * page * pages ≡ 1024 * (pages * page)
bytes_of_pages page pages = mul_assoc 1024 page pages ∙ ap (λ (n : ℕ). 1024 * n) (mul_comm page pages)

-- the fewest pages for the fewest KiB are the fewest pages for the bytes
fewest_of_kib : (page bytes kib pages : ℕ) → bytes ≤ kib * 1024 → kib * 1024 < bytes + 1024 → kib ≤ pages * page → pages * page < kib + page → IsFewestPages page pages bytes
fewest_of_kib page bytes kib pages room_in_kib fewest_kib room fewest =
    let whole = bytes_of_pages page pages in
    record { enough = omega (arith, whole, room_in_kib, room); fewest = omega (arith, whole, fewest_kib, fewest) }

-- rounding to KiB and then to pages gives the fewest pages
fewest_pages : (page bytes : ℕ) → 1 ≤ page → IsFewestPages page (pages_of_bytes page bytes) bytes
fewest_pages page bytes some =
    let kib = div_ceil bytes 1024 in
    let in_kib = div_ceil_times bytes 1024 (omega arith) in
    let in_pages = div_ceil_times kib page some in
    fewest_of_kib page bytes kib (div_ceil kib page) in_kib.0 in_kib.1 in_pages.0 in_pages.1

-- no fewer pages have room for the bytes
no_fewer : (page bytes pages others : ℕ) → IsFewestPages page pages bytes → bytes ≤ 1024 * page * others → pages ≤ others
no_fewer page bytes pages others h room =
    let fewest = h.fewest in
    let next = mul-add (1024 * page) others 1 in
    let more : 1024 * page * pages < 1024 * page * (others + 1) = omega (arith, next, fewest, room) in
    let below = lt_of_mul-lt-mul_left (1024 * page) {m = pages} {n = others + 1} more in
    omega (arith, below)

pages_of_bytes-fewest : (page pages bytes : ℕ) → 1 ≤ page → IsFewestPages page pages bytes → pages_of_bytes page bytes ≡ pages
pages_of_bytes-fewest page pages bytes some h =
    let read = fewest_pages page bytes some in
    le_antisymm (no_fewer page bytes (pages_of_bytes page bytes) pages read h.enough) (no_fewer page bytes pages (pages_of_bytes page bytes) h read.enough)

-- the same of bytes and pages that go by other names
fewest_from : (page product bytes pages : ℕ) → 1 ≤ page → product ≡ bytes → pages_of_bytes page bytes ≡ pages → IsFewestPages page pages product
fewest_from page product bytes pages some same read =
    subst (λ n. IsFewestPages page n product) (ap (pages_of_bytes page) same ∙ read) (fewest_pages page product some)

-- the digits in front, where other bytes follow
front_length : (digits suffix : List ℕ) → list_all is_ascii_digit digits ≡ true → prefix_len is_ascii_digit suffix ≡ 0 → digits_in_front (digits ++ suffix) ≡ length digits
front_length [] suffix all none = none
front_length (d ∷ digits) suffix all none =
    let parts = and_parts (is_ascii_digit d) (list_all is_ascii_digit digits) all in
    let more = front_length digits suffix parts.1 none in
    rw parts.0 (omega (arith, more))

pub IsSize-from_read : (page : ℕ) (text : List ℕ) (pages : ℕ) → 1 ≤ page → pages_of_size page text ≡ Some pages → IsSize page text pages
unfolding pages_of_size bytes_of_size
IsSize-from_read page text pages some_page h =
    let count = digits_in_front text in
    let bytes = some_bound (bytes_of_size text) (λ bytes. Some (pages_of_bytes page bytes)) pages h in
    let passed = some_chosen (nat_le 1 count && nat_le count 20) _ bytes.0 bytes.1 in
    let counts = and_parts (nat_le 1 count) (nat_le count 20) passed.0 in
    let unit = some_bound (unit_of (drop count text)) _ bytes.0 passed.1 in
    let value = digits_value 10 (take count text) * unit.0 in
    let below = some_chosen (nat_lt value (2 ^ 64)) (Some value) bytes.0 unit.2 in
    let len : length (take count text) ≡ count = length-prefix_len is_ascii_digit text in
    let product = some_is value bytes.0 below.1 in
    let pages_are = some_is (pages_of_bytes page bytes.0) pages bytes.2 in
    record {
      digits = take count text;
      suffix = drop count text;
      unit = unit.0;
      whole = sym (take-append-drop count text);
      some = let one = leb-true 1 count counts.0 in omega (arith, len, one);
      short = let twenty = leb-true count 20 counts.1 in omega (arith, len, twenty);
      decimal = AllPass-from_list_all is_ascii_digit (take count text) (front_digits is_ascii_digit text);
      named = unit_from (drop count text) unit.0 unit.1;
      small = ltb-true value (2 ^ 64) below.0;
      rounded = fewest_from page _ bytes.0 pages some_page product pages_are;
    }

pub pages_of_size-spelled : (page : ℕ) (text : List ℕ) (pages : ℕ) → 1 ≤ page → IsSize page text pages → pages_of_size page text ≡ Some pages
unfolding pages_of_size bytes_of_size
pages_of_size-spelled page text pages some_page s =
    let all = list_all-from_AllPass is_ascii_digit s.digits s.decimal in
    let count : digits_in_front text ≡ length s.digits =
    ap digits_in_front s.whole ∙ front_length s.digits s.suffix all (suffix_front s.suffix s.unit s.named) in
    let front : take (digits_in_front text) text ≡ s.digits =
    (λ i. take (count i) (s.whole i)) ∙ take-append_seam s.digits s.suffix in
    let behind : drop (digits_in_front text) text ≡ s.suffix =
    (λ i. drop (count i) (s.whole i)) ∙ drop-append_seam s.digits s.suffix in
    let tests : (nat_le 1 (digits_in_front text) && nat_le (digits_in_front text) 20) ≡ true =
    rw count (and_from _ _ (le-leb _ _ s.some) (le-leb _ _ s.short)) in
    rw (
      tests,
      front,
      behind,
      unit_of-named s.suffix s.unit s.named,
      lt-ltb _ _ s.small,
    ) (ap Some (pages_of_bytes-fewest page pages _ some_page s.rounded))

-- the same of the result of a call
pub IsSize-if_some : (page : ℕ) (text : List ℕ) (answer : Option ℕ) → 1 ≤ page → answer ≡ pages_of_size page text → IfSome answer (IsSize page text)
IsSize-if_some page text (Some pages) some_page is = IsSize-from_read page text pages some_page (sym is)
IsSize-if_some page text None some_page is = tt

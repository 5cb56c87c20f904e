-- What writes make of a page.
use Rattle.std.proofs.Common.{◌≡◌, ℕ, suc, ◌+◌, ◌-◌, ◌<◌, ◌≤◌, List, [], ◌∷◌, ◌++◌, length, take, drop, set, get_or, slice_range, refl, sym, ap, ◌∙◌, arith}
use Rattle.std.proofs.lemmas.List.{length-set, length-take-le, drop-set-add, drop-set-lt, take-set-le}
use Rattle.std.proofs.lemmas.List.Elements.{All-cons}
use Rattle.std.proofs.lemmas.List.Edits.{sets, sets-eq}
use Rattle.std.proofs.Math.Seq.{take-suc, take-set-lt}
use Rattle.vm_patches.specs.declared.patch.ByteWrite.{ByteWrite}
use Rattle.vm_patches.specs.Patches.{overwritten, patched, writes_of, AreWithin}

pub patched-append : (page : List ℕ) (first more : List ByteWrite) → patched page (first ++ more) ≡ patched (patched page first) more
patched-append page [] more = refl
patched-append page (write ∷ first) more = patched-append (set page write.offset write.byte) first more

pub length-patched : (page : List ℕ) (writes : List ByteWrite) → length (patched page writes) ≡ length page
length-patched page [] = refl
length-patched page (write ∷ writes) = length-patched (set page write.offset write.byte) writes ∙ length-set page write.offset write.byte

-- one write more
pub patched-next : (page : List ℕ) (writes : List ByteWrite) (i n : ℕ) (d : ByteWrite) → n ≡ i + 1 → i < length writes
    → patched page (take n writes) ≡ set (patched page (take i writes)) (get_or writes i d).offset (get_or writes i d).byte
patched-next page writes i n d next below =
    let is : n ≡ suc i = omega (arith, next) in
    rw (is, take-suc writes i d below) (patched-append page (take i writes) (get_or writes i d ∷ []))

pub length-writes_of : (offset : ℕ) (bytes : List ℕ) → length (writes_of offset bytes) ≡ length bytes
length-writes_of offset [] = refl
length-writes_of offset (byte ∷ bytes) = ap suc (length-writes_of (offset + 1) bytes)

pub writes_of-append : (offset : ℕ) (first more : List ℕ) → writes_of offset (first ++ more) ≡ writes_of offset first ++ writes_of (offset + length first) more
writes_of-append offset [] more = let e : offset + 0 ≡ offset = omega arith in rw e refl
writes_of-append offset (byte ∷ first) more =
    let e : offset + 1 + length first ≡ offset + suc (length first) = omega arith in
    ap (λ rest. record { offset = offset; byte = byte } ∷ rest) (writes_of-append (offset + 1) first more ∙ ap (λ at. writes_of (offset + 1) first ++ writes_of at more) e)

-- bytes side by side are written over the page's
patched-sets : (page : List ℕ) (offset : ℕ) (bytes : List ℕ) → patched page (writes_of offset bytes) ≡ sets page offset bytes
patched-sets page offset [] = refl
patched-sets page offset (byte ∷ bytes) =
    let e : offset + 1 ≡ suc offset = omega arith in
    patched-sets (set page offset byte) (offset + 1) bytes ∙ ap (λ at. sets (set page offset byte) at bytes) e

pub patched-writes_of : (page : List ℕ) (offset : ℕ) (bytes : List ℕ) → offset + length bytes ≤ length page → patched page (writes_of offset bytes) ≡ take offset page ++ bytes ++ drop (offset + length bytes) page
patched-writes_of page offset bytes within = patched-sets page offset bytes ∙ sets-eq bytes page offset within

-- one byte
pub overwritten-one : (page : List ℕ) (at byte : ℕ) → at < length page → overwritten page at (byte ∷ []) ≡ set page at byte
overwritten-one page at byte below = sym (patched-writes_of page at (byte ∷ []) (omega (arith, below)))

pub writes_of-next : (offset : ℕ) (bytes : List ℕ) (i n : ℕ) (d : ℕ) → n ≡ i + 1 → i < length bytes
    → writes_of offset (take n bytes) ≡ writes_of offset (take i bytes) ++ record { offset = offset + i; byte = get_or bytes i d } ∷ []
writes_of-next offset bytes i n d next below =
    let is : n ≡ suc i = omega (arith, next) in
    let long : length (take i bytes) ≡ i = length-take-le i bytes (omega (arith, below)) in
    rw (is, take-suc bytes i d below) (writes_of-append offset (take i bytes) (get_or bytes i d ∷ []) ∙ ap (λ k. writes_of offset (take i bytes) ++ record { offset = offset + k; byte = get_or bytes i d } ∷ []) long)

pub AreWithin-writes_of : (offset : ℕ) (bytes : List ℕ) → offset + length bytes ≤ 4096 → AreWithin (writes_of offset bytes)
AreWithin-writes_of offset [] within = λ k d below. absurd (omega (arith, below))
AreWithin-writes_of offset (byte ∷ bytes) within =
    All-cons (λ (write : ByteWrite). write.offset < 4096) (record { offset = offset; byte = byte }) (writes_of (offset + 1) bytes) (omega (arith, within)) (AreWithin-writes_of (offset + 1) bytes (omega (arith, within)))

-- ---- a write, seen through a window of the page

pub inside-window : (page : List ℕ) (from to at i byte : ℕ) → at ≡ from + i → i < to - from → slice_range (set page at byte) from to ≡ set (slice_range page from to) i byte
inside-window page from to at i byte is within =
    rw is (ap (take (to - from)) (drop-set-add from page i byte) ∙ take-set-lt (to - from) (drop from page) i byte within)

pub before-window : (page : List ℕ) (from to at byte : ℕ) → at < from → slice_range (set page at byte) from to ≡ slice_range page from to
before-window page from to at byte before = ap (take (to - from)) (drop-set-lt from page at byte before)

pub past-window : (page : List ℕ) (from to at i byte : ℕ) → at ≡ from + i → to - from ≤ i → slice_range (set page at byte) from to ≡ slice_range page from to
past-window page from to at i byte is past =
    rw is (ap (take (to - from)) (drop-set-add from page i byte) ∙ take-set-le (to - from) (drop from page) i byte past)

-- What stretches of bytes write, one after the other.
use Rattle.std.proofs.Common.{◌≡◌, ℕ, zero, suc, ◌+◌, ◌-◌, ◌<◌, ◌≤◌, List, [], ◌∷◌, ◌++◌, length, take, drop, set, get_or, slice_range, append_assoc, refl, sym, ap, ◌∙◌, arith}
use Rattle.std.proofs.lemmas.List.{append-nil, drop-append-le, drop-drop, drop-take, drop_all, length-append, length-drop, length-take-le, take-append-le, take-take, take_all, take_more_set}
use Rattle.std.proofs.lemmas.List.Elements.{All-append, All-cons, All-nil}
use Rattle.std.proofs.Math.Seq.{take-suc}
use Rattle.vm_patches.specs.declared.log.Run.{Run}
use Rattle.vm_patches.specs.Patches.{overwritten, patched, writes_of}
use Rattle.vm_patches.specs.Runs.{length_of, offset_of, total, writes_in, IsLog, IsWithinPage}
use Rattle.vm_patches.proofs.Writes.{length-patched, length-writes_of, patched-append, patched-writes_of}

pub total-append : (runs : List Run) (run : Run) → total (runs ++ run ∷ []) ≡ total runs + length_of run
total-append [] run = omega arith
total-append (first ∷ runs) run = let rest = total-append runs run in omega (arith, rest)

pub total-take : (runs : List Run) (i : ℕ) → total (take i runs) ≤ total runs
total-take runs zero = omega arith
total-take [] (suc i) = omega arith
total-take (first ∷ runs) (suc i) = let rest = total-take runs i in omega (arith, rest)

-- each stretch has a byte
pub length-le-total : (runs : List Run) → length runs ≤ total runs
length-le-total [] = omega arith
length-le-total (first ∷ runs) = let rest = length-le-total runs in omega (arith, rest)

-- there are as many writes as bytes
pub length-writes_in : (runs : List Run) (bytes : List ℕ) → total runs ≤ length bytes → length (writes_in runs bytes) ≡ total runs
length-writes_in [] bytes fits = refl
length-writes_in (first ∷ runs) bytes fits =
    let rest = length-writes_in runs (drop (length_of first) bytes) (omega (arith, fits, length-drop (length_of first) bytes)) in
    length-append (writes_of (offset_of first) (take (length_of first) bytes)) (writes_in runs (drop (length_of first) bytes))
    ∙ omega (arith, rest, length-writes_of (offset_of first) (take (length_of first) bytes), length-take-le (length_of first) bytes (omega (arith, fits)))

-- one stretch more
pub total-next : (runs : List Run) (i n : ℕ) (d : Run) → n ≡ i + 1 → i < length runs → total (take n runs) ≡ total (take i runs) + length_of (get_or runs i d)
total-next runs i n d next below =
    let is : n ≡ suc i = omega (arith, next) in
    rw (is, take-suc runs i d below) (total-append (take i runs) (get_or runs i d))

pub writes_in-append : (runs : List Run) (run : Run) (bytes : List ℕ)
    → writes_in (runs ++ run ∷ []) bytes ≡ writes_in runs bytes ++ writes_of (offset_of run) (take (length_of run) (drop (total runs) bytes))
writes_in-append [] run bytes = append-nil (writes_of (offset_of run) (take (length_of run) bytes))
writes_in-append (first ∷ runs) run bytes =
    ap (λ rest. writes_of (offset_of first) (take (length_of first) bytes) ++ rest)
    (writes_in-append runs run (drop (length_of first) bytes)
    ∙ ap (λ left. writes_in runs (drop (length_of first) bytes) ++ writes_of (offset_of run) (take (length_of run) left)) (drop-drop (total runs) (length_of first) bytes))
    ∙ sym (append_assoc (writes_of (offset_of first) (take (length_of first) bytes)) (writes_in runs (drop (length_of first) bytes)) (writes_of (offset_of run) (take (length_of run) (drop (length_of first + total runs) bytes))))

pub writes_in-next : (runs : List Run) (bytes : List ℕ) (i n : ℕ) (d : Run) → n ≡ i + 1 → i < length runs
    → writes_in (take n runs) bytes ≡ writes_in (take i runs) bytes ++ writes_of (offset_of (get_or runs i d)) (take (length_of (get_or runs i d)) (drop (total (take i runs)) bytes))
writes_in-next runs bytes i n d next below =
    let is : n ≡ suc i = omega (arith, next) in
    rw (is, take-suc runs i d below) (writes_in-append (take i runs) (get_or runs i d) bytes)

-- what stands behind the bytes of the stretches is not looked at
pub writes_in-agree : (runs : List Run) (xs ys : List ℕ) (n : ℕ) → total runs ≤ n → take n xs ≡ take n ys → writes_in runs xs ≡ writes_in runs ys
writes_in-agree [] xs ys n fits same = refl
writes_in-agree (first ∷ runs) xs ys n fits same =
    ap (λ front. writes_of (offset_of first) front ++ writes_in runs (drop l xs)) fronts
    ∙ ap (λ rest. writes_of (offset_of first) (take l ys) ++ rest) (writes_in-agree runs (drop l xs) (drop l ys) (n - l) (omega (arith, fits)) backs)
  where
    l : ℕ
    l = length_of first

    fronts : take l xs ≡ take l ys
    fronts = sym (take-take l n xs (omega (arith, fits))) ∙ ap (take l) same ∙ take-take l n ys (omega (arith, fits))

    split : n ≡ l + (n - l)
    split = omega (arith, fits)

    backs : take (n - l) (drop l xs) ≡ take (n - l) (drop l ys)
    backs =
        sym (drop-take l (n - l) xs) ∙ ap (λ k. drop l (take k xs)) (sym split)
        ∙ ap (drop l) same
        ∙ ap (λ k. drop l (take k ys)) split ∙ drop-take l (n - l) ys

-- the bytes of a stretch, by where they begin and end
pub stretch-is : (runs : List Run) (written : List ℕ) (i at end : ℕ) (d : Run) → i < length runs → at ≡ total (take i runs) → end ≡ at + length_of (get_or runs i d)
    → take (length_of (get_or runs i d)) (drop (total (take i runs)) written) ≡ slice_range written at end
stretch-is runs written i at end d below from to =
    let count : length_of (get_or runs i d) ≡ end - at = omega (arith, to) in
    ap (λ k. take k (drop (total (take i runs)) written)) count ∙ ap (λ k. take (end - at) (drop k written)) (sym from)

-- a page after one stretch more
pub patched-stretch : (page : List ℕ) (runs : List Run) (written : List ℕ) (i n at end : ℕ) (d : Run) → length page ≡ 4096 → n ≡ i + 1 → i < length runs
    → at ≡ total (take i runs) → end ≡ at + length_of (get_or runs i d) → end ≤ length written → IsWithinPage (get_or runs i d)
    → patched page (writes_in (take n runs) written) ≡ overwritten (patched page (writes_in (take i runs) written)) (offset_of (get_or runs i d)) (slice_range written at end)
patched-stretch page runs written i n at end d long next below from to fits within =
    ap (patched page) (writes_in-next runs written i n d next below)
    ∙ patched-append page (writes_in (take i runs) written) (writes_of (offset_of (get_or runs i d)) stretch)
    ∙ patched-writes_of before (offset_of (get_or runs i d)) stretch (omega (arith, within, size, long, length-patched page (writes_in (take i runs) written)))
    ∙ ap (overwritten before (offset_of (get_or runs i d))) (stretch-is runs written i at end d below from to)
  where
    before : List ℕ
    before = patched page (writes_in (take i runs) written)

    stretch : List ℕ
    stretch = take (length_of (get_or runs i d)) (drop (total (take i runs)) written)

    size : length stretch ≡ length_of (get_or runs i d)
    size = length-take-le (length_of (get_or runs i d)) (drop (total (take i runs)) written) (omega (arith, length-drop (total (take i runs)) written, from, to, fits))

-- the bytes of a stretch are there
pub stretch-fits : (runs : List Run) (i at len bound : ℕ) (d : Run) → i < length runs → at ≡ total (take i runs) → len ≡ length_of (get_or runs i d) → total runs ≤ bound → at + len ≤ bound
stretch-fits runs i at len bound d below from is fits =
    let next = total-next runs i (i + 1) d refl below in
    let all = total-take runs (i + 1) in
    omega (arith, next, all, from, is, fits)

-- ---- a stretch that is put behind the others

pub IsLog-pushed : (count at used len : ℕ) (runs : List Run) (run : Run) → at ≡ count → IsLog count used runs → count < 20 → count < length runs → used + len ≤ 76 → length_of run ≡ len → IsWithinPage run
    → IsLog (count + 1) (used + len) (set runs at run)
IsLog-pushed count at used len runs run is log below there short long within =
    rw is
    (let pushed : take (count + 1) (set runs count run) ≡ take count runs ++ run ∷ [] = take_more_set runs count run there in
    record {
      few = omega (arith, below);
      short = short;
      within = rw pushed (All-append IsWithinPage (take count runs) (run ∷ []) log.within (All-cons IsWithinPage run [] within (All-nil IsWithinPage)));
      counted = rw pushed (omega (arith, total-append (take count runs) run, log.counted, long));
    })

-- writes of so many bytes are of no more stretches
pub few-writes : (count used : ℕ) (runs : List Run) (bytes : List ℕ) → IsLog count used runs → count ≤ length runs → 76 ≤ length bytes
    → (length (writes_in (take count runs) bytes) ≡ used) × (count ≤ used)
few-writes count used runs bytes log there room = (
  length-writes_in (take count runs) bytes (omega (arith, log.counted, log.short, room)) ∙ log.counted,
  omega (arith, length-le-total (take count runs), length-take-le count runs there, log.counted),
)

pub writes_in-pushed : (count at used from : ℕ) (runs : List Run) (run : Run) (bytes new rest : List ℕ) → at ≡ count → from ≡ used → total (take count runs) ≡ used → count < length runs → length_of run ≡ length new → used ≤ length bytes
    → writes_in (take (count + 1) (set runs at run)) (take from bytes ++ (new ++ rest)) ≡ writes_in (take count runs) bytes ++ writes_of (offset_of run) new
writes_in-pushed count at used from runs run bytes new rest at-is from-is counted there long fits =
    ap (λ k. writes_in (take (count + 1) (set runs k run)) (take from bytes ++ (new ++ rest))) at-is
    ∙ ap (λ k. writes_in (take (count + 1) (set runs count run)) (take k bytes ++ (new ++ rest))) from-is
    ∙ ap (λ rs. writes_in rs after) (take_more_set runs count run there)
    ∙ writes_in-append (take count runs) run after
    ∙ ap (λ ws. ws ++ writes_of (offset_of run) (take (length_of run) (drop (total (take count runs)) after))) (writes_in-agree (take count runs) after bytes used (omega (arith, counted)) front)
    ∙ ap (λ xs. writes_in (take count runs) bytes ++ writes_of (offset_of run) xs) stretch
  where
    after : List ℕ
    after = take used bytes ++ (new ++ rest)

    size : length (take used bytes) ≡ used
    size = length-take-le used bytes fits

    front : take used after ≡ take used bytes
    front = take-append-le used (take used bytes) (new ++ rest) (omega (arith, size)) ∙ take-take used used bytes (omega arith)

    back : drop (total (take count runs)) after ≡ new ++ rest
    back =
        ap (λ k. drop k after) counted
        ∙ drop-append-le used (take used bytes) (new ++ rest) (omega (arith, size))
        ∙ ap (λ xs. xs ++ (new ++ rest)) (drop_all used (take used bytes) (omega (arith, size)))

    stretch : take (length_of run) (drop (total (take count runs)) after) ≡ new
    stretch =
        ap (take (length_of run)) back
        ∙ take-append-le (length_of run) new rest (omega (arith, long))
        ∙ take_all (length_of run) new (omega (arith, long))

-- Intervals of accesses: one more behind whole ones.
use Rattle.std.proofs.Common.{◌≡◌, ◌∙◌, ℕ, zero, suc, ◌+◌, ◌-◌, ◌*◌, ◌<◌, ◌≤◌, Bool, List, [], ◌∷◌, ◌++◌, length, take, drop, refl, sym, ap, arith, append_assoc, length-drop}
use Rattle.std.proofs.Math.Nat.{div-eq_of_lt-le}
use Rattle.std.proofs.lemmas.List.{append-nil, drop-append-le, nil_from_length, take-append-drop, take-append-le, take_all}
use Rattle.std.proofs.lemmas.Grind.{flat_map-append}
use Rattle.vm_import.specs.declared.access.Access.{Access}
use Rattle.vm_import.specs.declared.touch.Touch.{Touch}
use Rattle.vm_import.specs.declared.touch.RankedTouch.{RankedTouch}
use Rattle.vm_import.specs.WorkingSets.{working_set}
use Rattle.vm_import.specs.Intervals.{cut, kept_behind, rounded_up}
use Rattle.vm_import.specs.Touched.{touched_by, touches_in}

pub touches_in-append : (has_code : Bool) (xs ys : List Access) → touches_in has_code (xs ++ ys) ≡ touches_in has_code xs ++ touches_in has_code ys
touches_in-append has_code xs ys = flat_map-append (touched_by has_code) xs ys

-- ---- how many intervals there are

-- whole intervals, and some accesses of one more
pub rounded_up-more : (count lines some : ℕ) → 1 ≤ some → some ≤ lines → rounded_up (count * lines + some) lines ≡ count + 1
rounded_up-more count lines some least most =
    let low : (count + 1) * lines ≤ count * lines + some + (lines - 1) = omega arith in
    let high : count * lines + some + (lines - 1) < (count + 1 + 1) * lines = omega arith in
    div-eq_of_lt-le lines low high

pub rounded_up-whole : (count lines : ℕ) → 1 ≤ lines → rounded_up (count * lines) lines ≡ count
rounded_up-whole count lines least =
    let low : count * lines ≤ count * lines + (lines - 1) = omega arith in
    let high : count * lines + (lines - 1) < (count + 1) * lines = omega arith in
    div-eq_of_lt-le lines low high

-- ---- what each keeps

one_interval : (has_code : Bool) (lines : ℕ) (touches : List Touch) (accesses : List Access) → length accesses ≤ lines
    → kept_behind has_code touches (take lines accesses ∷ [])
    ≡ (working_set (touches ++ []) (touches_in has_code accesses)).kept ∷ []
one_interval has_code lines touches accesses few = rw (take_all lines accesses few, append-nil touches) refl

-- the touches that one more interval keeps, behind whole intervals
pub kept_behind-more : (has_code : Bool) (lines count : ℕ) (touches : List Touch) (before accesses : List Access)
    → length before ≡ count * lines → length accesses ≤ lines
    → kept_behind has_code touches (cut lines (suc count) (before ++ accesses))
    ≡ kept_behind has_code touches (cut lines count before)
    ++ (working_set (touches ++ touches_in has_code before) (touches_in has_code accesses)).kept ∷ []
kept_behind-more has_code lines zero touches before accesses whole few =
    let none : before ≡ [] = nil_from_length before (omega (arith, whole)) in
    rw none (one_interval has_code lines touches accesses few)
kept_behind-more has_code lines (suc count) touches before accesses whole few =
    let within : lines ≤ length before = omega (arith, whole) in
    let left : length (drop lines before) ≡ count * lines = omega (arith, whole, length-drop lines before) in
    let first = touches_in has_code (take lines before) in
    let others = touches_in has_code (drop lines before) in
    let regroup : (touches ++ first) ++ others ≡ touches ++ touches_in has_code before =
    append_assoc touches first others
    ∙ ap (λ (l : List Touch). touches ++ l)
    (sym (touches_in-append has_code (take lines before) (drop lines before))
    ∙ ap (touches_in has_code) (take-append-drop lines before)) in
    rw (take-append-le lines before accesses within, drop-append-le lines before accesses within)
    (ap (λ (l : List (List RankedTouch)). (working_set touches first).kept ∷ l)
    (kept_behind-more has_code lines count (touches ++ first) (drop lines before) accesses left few
    ∙ ap (λ (t : List Touch). kept_behind has_code (touches ++ first) (cut lines count (drop lines before))
    ++ (working_set t (touches_in has_code accesses)).kept ∷ []) regroup))

-- as many lists as intervals
pub length-kept_behind : (has_code : Bool) (lines count : ℕ) (touches : List Touch) (accesses : List Access)
    → length (kept_behind has_code touches (cut lines count accesses)) ≡ count
length-kept_behind has_code lines zero touches accesses = refl
length-kept_behind has_code lines (suc count) touches accesses =
    ap (λ (n : ℕ). suc n)
    (length-kept_behind has_code lines count (touches ++ touches_in has_code (take lines accesses)) (drop lines accesses))

pub length-cut : (lines count : ℕ) (accesses : List Access) → length (cut lines count accesses) ≡ count
length-cut lines zero accesses = refl
length-cut lines (suc count) accesses = ap (λ (n : ℕ). suc n) (length-cut lines count (drop lines accesses))

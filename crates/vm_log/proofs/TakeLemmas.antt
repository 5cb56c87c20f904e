-- Which samples are taken with the last one.
use Rattle.std.proofs.Common.{◌≡◌, ◌∙◌, ℕ, ◌+◌, ◌-◌, ◌*◌, ◌/◌, ◌%◌, ◌==◌, ◌<◌, ◌≤◌, Bool, true, false, List, ◌++◌, length, take, refl, sym, ap, arith}
use Rattle.std.proofs.Math.Seq.{take-append_seam}
use Rattle.std.proofs.Math.Nat.{lt_of_mul-lt-mul_right, div-mul-le_self, lt-div-mul-add}
use Rattle.std.proofs.lemmas.List.{length-append}
use Rattle.vm_steer.specs.Entries.{EntryView}
use Rattle.vm_log.specs.Taking.{epochs_before}

-- whole epochs are in front of the open one
whole : (every ended more : ℕ) → 0 < every → 1 ≤ more → more ≤ every → (ended * every + more - 1) / every ≡ ended
whole every ended more some one few =
    let low = div-mul-le_self (ended * every + more - 1) every in
    let high : ended * every + more - 1 < (ended * every + more - 1) / every * every + every = lt-div-mul-add some in
    let d = (ended * every + more - 1) / every in
    let a : d * every < (ended + 1) * every = omega (arith, low, one, few) in
    let b : ended * every < (d + 1) * every = omega (arith, high, one) in
    let x = lt_of_mul-lt-mul_right every a in
    let y = lt_of_mul-lt-mul_right every b in
    omega (arith, x, y)

pub before-is : (every ended : ℕ) (closed opened : List (List EntryView)) → 0 < every → length closed ≡ ended * every → 1 ≤ length opened → length opened ≤ every → epochs_before every (closed ++ opened) ≡ closed
before-is every ended closed opened some is one few =
    let all : length (closed ++ opened) ≡ ended * every + length opened = omega (arith, length-append closed opened, is) in
    let count : (length (closed ++ opened) - 1) / every * every ≡ length closed =
    ap (λ (n : ℕ). (n - 1) / every * every) all ∙ (ap (λ (n : ℕ). n * every) (whole every ended (length opened) some one few) ∙ sym is) in
    ap (λ (n : ℕ). take n (closed ++ opened)) count ∙ take-append_seam closed opened

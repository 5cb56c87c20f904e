-- The bytes of a page that nobody wrote.
use Rattle.std.proofs.Common.{◌≡◌, ℕ, ◌+◌, ◌-◌, ◌≤◌, length, take, replicate, slice_range, refl, sym, ap, ◌∙◌, arith}
use Rattle.std.proofs.lemmas.List.{drop-replicate, length-replicate, take-replicate}
use Rattle.vm_patches.specs.Patches.{zero_bytes}

pub zero_bytes-is : replicate 4096 0 ≡ zero_bytes
unfolding zero_bytes
zero_bytes-is = refl

pub length-zero_bytes : length zero_bytes ≡ 4096
unfolding zero_bytes
length-zero_bytes = length-replicate {A = ℕ} 4096 0

zeros-part : (n offset size : ℕ) → offset + size ≤ n → replicate {A = ℕ} size 0 ≡ slice_range (replicate {A = ℕ} n 0) offset (offset + size)
zeros-part n offset size within =
    let count : size ≡ offset + size - offset = omega arith in
    ap (λ k. replicate {A = ℕ} k 0) count
    ∙ sym (take-replicate {X = ℕ} (offset + size - offset) (n - offset) 0 (omega (arith, within)))
    ∙ ap (take (offset + size - offset)) (sym (drop-replicate {X = ℕ} offset n 0))

-- any part of such a page is zeros
pub zeros-range : (offset size : ℕ) → offset + size ≤ 4096 → replicate {A = ℕ} size 0 ≡ slice_range zero_bytes offset (offset + size)
zeros-range offset size within = zeros-part 4096 offset size within ∙ ap (λ page. slice_range page offset (offset + size)) zero_bytes-is

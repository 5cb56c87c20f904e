-- Products of many factors, as far as 64 bits hold them.
use Rattle.std.proofs.Common.{◌≡◌, ◌∙◌, ◌≤◌, ◌<◌, ◌*◌, ◌-◌, ◌^◌, ℕ, List, [], ◌∷◌, ◌+◌, drop, min, arith, refl, ap, sym, length, ⊎_elim}
use Rattle.std.proofs.Math.Nat.{le-mul_of_pos_right, mul_assoc, mul_comm}
use Rattle.std.proofs.lemmas.Bool.{cases_lt}
use Rattle.std.proofs.lemmas.List.{drop_all}
use Rattle.vm_sweep.specs.Combinations.{NamedList}
use Rattle.vm_programs.specs.vmsweep.Lists.{count_each}

-- a product that is held, of which one factor was held already
capped-above : (most whole factor : ℕ) → most < whole → min (min whole most * factor) most ≡ min (whole * factor) most
capped-above most whole factor above =
    let capped : min whole most ≡ most = omega (arith, above) in
    rw capped (⊎_elim
    (λ (some : 0 < factor).
    let held : most ≤ most * factor = le-mul_of_pos_right most some in
    let more : whole ≤ whole * factor = le-mul_of_pos_right whole some in
    omega (arith, held, more, above))
    (λ (none : factor ≤ 0).
    let zero_is : factor ≡ 0 = omega (arith, none) in
    rw zero_is (omega arith))
    (cases_lt 0 factor))

pub capped : (most held whole factor : ℕ) → held ≡ min whole most → min (held * factor) most ≡ min (whole * factor) most
capped most held whole factor is = rw is
    (⊎_elim
    (λ (above : most < whole). capped-above most whole factor above)
    (λ (within : whole ≤ most).
    let same : min whole most ≡ whole = omega (arith, within) in
    ap (λ (n : ℕ). min (n * factor) most) same)
    (cases_lt most whole))

-- a product that is held, with one factor more
pub times : (held whole factor wanted made : ℕ) → held ≡ min whole (2 ^ 64 - 1) → factor ≡ wanted → made ≡ min (held * factor) (2 ^ 64 - 1)
    → made ≡ min (whole * wanted) (2 ^ 64 - 1)
times held whole factor wanted made is_held is_factor is =
    is ∙ ap (λ (n : ℕ). min (held * n) (2 ^ 64 - 1)) is_factor ∙ capped (2 ^ 64 - 1) held whole wanted is_held

-- the same of one that is in front
pub times-right : (factor wanted held whole made : ℕ) → factor ≡ wanted → held ≡ min whole (2 ^ 64 - 1) → made ≡ min (factor * held) (2 ^ 64 - 1)
    → made ≡ min (wanted * whole) (2 ^ 64 - 1)
times-right factor wanted held whole made is_factor is_held is =
    is
    ∙ ap (λ (n : ℕ). min (n * held) (2 ^ 64 - 1)) is_factor
    ∙ ap (λ (n : ℕ). min n (2 ^ 64 - 1)) (mul_comm wanted held)
    ∙ capped (2 ^ 64 - 1) held whole wanted is_held
    ∙ ap (λ (n : ℕ). min n (2 ^ 64 - 1)) (mul_comm whole wanted)

-- the same of a factor that is held too
pub times-held : (held whole factor wanted made : ℕ) → held ≡ min whole (2 ^ 64 - 1) → factor ≡ min wanted (2 ^ 64 - 1)
    → made ≡ min (held * factor) (2 ^ 64 - 1) → made ≡ min (whole * wanted) (2 ^ 64 - 1)
times-held held whole factor wanted made is_held is_factor is =
    is
    ∙ capped (2 ^ 64 - 1) held whole factor is_held
    ∙ ap (λ (n : ℕ). min n (2 ^ 64 - 1)) (mul_comm whole factor)
    ∙ capped (2 ^ 64 - 1) factor wanted whole is_factor
    ∙ ap (λ (n : ℕ). min n (2 ^ 64 - 1)) (mul_comm wanted whole)

-- one list more is counted
pub more-counted : (lists : List NamedList) (i : ℕ) (item : NamedList) (count made : ℕ) → drop i lists ≡ item ∷ drop (i + 1) lists
    → made ≡ min (count * length item.values) (2 ^ 64 - 1)
    → min (count * count_each (drop i lists)) (2 ^ 64 - 1) ≡ min (count_each lists) (2 ^ 64 - 1)
    → min (made * count_each (drop (i + 1) lists)) (2 ^ 64 - 1) ≡ min (count_each lists) (2 ^ 64 - 1)
more-counted lists i item count made at is left =
    let rest = count_each (drop (i + 1) lists) in
    capped (2 ^ 64 - 1) made (count * length item.values) rest is
    ∙ ap (λ (n : ℕ). min n (2 ^ 64 - 1)) (mul_assoc count (length item.values) rest)
    ∙ ap (λ ls. min (count * count_each ls) (2 ^ 64 - 1)) (sym at)
    ∙ left

-- a product that is held is no larger than 64 bits hold
pub held-by : (made whole : ℕ) → made ≡ min whole (2 ^ 64 - 1) → made ≤ 2 ^ 64 - 1
held-by made whole is = omega (arith, is)

-- all lists are counted
pub all-counted : (lists : List NamedList) (i count : ℕ) → length lists ≤ i → count ≤ 2 ^ 64 - 1
    → min (count * count_each (drop i lists)) (2 ^ 64 - 1) ≡ min (count_each lists) (2 ^ 64 - 1) → count ≡ min (count_each lists) (2 ^ 64 - 1)
all-counted lists i count end held left =
    let none : count_each (drop i lists) ≡ 1 = ap count_each (drop_all i lists end) in
    let whole : min (count * 1) (2 ^ 64 - 1) ≡ min (count_each lists) (2 ^ 64 - 1)
    = ap (λ (n : ℕ). min (count * n) (2 ^ 64 - 1)) (sym none) ∙ left in
    omega (arith, held, whole)

-- The set bits of a word: how many there are in its parts, and its least and greatest one.
use Rattle.std.proofs.Common.{◌≡◌, ℕ, zero, suc, ◌+◌, ◌-◌, ◌*◌, ◌/◌, ◌%◌, ◌^◌, bit_and, count_ones, w64, ◌<◌, ◌≤◌, refl, sym, ap, ◌∙◌, subst, inl, inr, arith}
use Rattle.std.specs.Int.{bit_at}
use Rattle.std.proofs.lemmas.Nat.{ones_cat, and_mask, leading_top, mod-pow-add, mod_below, mod_low, pow-add, pow_pos, shr-shr, shr_high, shr_split}
use Rattle.std.proofs.lemmas.Nat.Bits.{bit_at-lt, bit_at-trailing_zeros}
use Rattle.std.proofs.lemmas.Bool.{cases_lt}
use Rattle.std.proofs.Math.Pow.{mod-mod-pow, pow_mono, pow-lt}
use Rattle.std.proofs.Math.Nat.{pow-suc, mod-eq_of_lt, mod-le, mul-mod_left, zero-mod}
use lib.Count.{ones, count_leading_zeros, count_trailing_zeros}

-- those above a place and those below it
pub ones-split : (word n : ℕ) → count_ones word ≡ count_ones (word % 2 ^ n) + count_ones (word / 2 ^ n)
unfolding ones
ones-split word n = omega (arith, ones_cat n (word / 2 ^ n) (word % 2 ^ n) (mod_below word (2 ^ n) (pow_pos n)), ap count_ones (shr_split word n))

-- those below a place, and `n` bits further
pub ones-below : (word place n : ℕ) → count_ones (word % 2 ^ (place + n)) ≡ count_ones (word % 2 ^ place) + count_ones (word / 2 ^ place % 2 ^ n)
unfolding ones
ones-below word place n =
    ap (λ (k : ℕ). count_ones (word % 2 ^ k)) turned
    ∙ ap count_ones (mod-pow-add word n place)
    ∙ ones_cat place (word / 2 ^ place % 2 ^ n) (word % 2 ^ place) (mod_below word (2 ^ place) (pow_pos place))
    ∙ omega arith
  where
    turned : place + n ≡ n + place
    turned = omega arith

-- the lower and the upper half of some bits of a word, which begin at a place
pub record Halved (word place half rest : ℕ) : Type 0 where
  pub low : bit_and rest (2 ^ half - 1) ≡ word / 2 ^ place % 2 ^ half
  pub high : rest / 2 ^ half ≡ word / 2 ^ (place + half) % 2 ^ half
  pub parts : count_ones rest ≡ count_ones (bit_and rest (2 ^ half - 1)) + count_ones (rest / 2 ^ half)
  pub before : count_ones (word % 2 ^ (place + half)) ≡ count_ones (word % 2 ^ place) + count_ones (bit_and rest (2 ^ half - 1))

pub halved : (word place half rest : ℕ) → rest ≡ word / 2 ^ place % 2 ^ (half + half) → Halved word place half rest
halved word place half rest is = record {
  low = low_is;
  high = ap (λ (r : ℕ). r / 2 ^ half) is ∙ ap (λ (r : ℕ). r / 2 ^ half) (mod-pow-add (word / 2 ^ place) half half) ∙ shr_high (word / 2 ^ place / 2 ^ half % 2 ^ half) half (word / 2 ^ place % 2 ^ half) (mod_below (word / 2 ^ place) (2 ^ half) (pow_pos half)) ∙ ap (λ (w : ℕ). w % 2 ^ half) (shr-shr word place half);
  parts = ones-split rest half ∙ ap (λ (low : ℕ). count_ones low + count_ones (rest / 2 ^ half)) (sym (and_mask rest half));
  before = ones-below word place half ∙ ap (λ (low : ℕ). count_ones (word % 2 ^ place) + count_ones low) (sym low_is);
}
  where
    low_is : bit_and rest (2 ^ half - 1) ≡ word / 2 ^ place % 2 ^ half
    low_is = and_mask rest half ∙ ap (λ (r : ℕ). r % 2 ^ half) is ∙ mod-mod-pow (word / 2 ^ place) half half

-- one bit, with so many set ones before one of it
pub record IsSet (bit left : ℕ) : Type 0 where
  pub set : bit ≡ 1
  pub none : left ≡ 0

pub is_set : (bit left : ℕ) → bit < 2 → left < count_ones bit → IsSet bit left
unfolding ones
is_set zero left one within = absurd (omega arith)
is_set (suc zero) left one within = record { set = refl; none = omega arith }
is_set (suc (suc bit)) left one within = absurd (omega arith)

-- half of 2, 4, .. or 64 bits, and the mask for them
pub record IsHalf (level : ℕ) : Type 0 where
  pub twice : 2 ^ level ≡ 2 ^ (level - 1) + 2 ^ (level - 1)
  pub shifted : 1 * 2 ^ (level - 1) % 2 ^ 32 ≡ 2 ^ (level - 1)
  pub mask : 1 * 2 ^ 2 ^ (level - 1) % 2 ^ 64 ≡ 2 ^ 2 ^ (level - 1)

pub is_half : (level : ℕ) → 0 < level → level ≤ 6 → IsHalf level
is_half level some few = record {
  twice = ap (λ n. 2 ^ n) above ∙ pow-suc 2 (level - 1) ∙ omega arith;
  shifted = omega (arith, small);
  mask = omega (arith, fits);
}
  where
    above : level ≡ suc (level - 1)
    above = omega arith

    small : 2 ^ (level - 1) ≤ 2 ^ 5
    small = pow_mono {i = level - 1} {j = 5} (omega arith)

    fits : 2 ^ 2 ^ (level - 1) < 2 ^ 64
    fits = pow-lt {i = 2 ^ (level - 1)} {j = 64} (omega (arith, small))

-- the mask for fewer than 64 bits
pub low_mask : (word n : ℕ) → n < 64 → bit_and word (1 * 2 ^ n % 2 ^ 64 - 1) ≡ word % 2 ^ n
low_mask word n few = ap (λ (power : ℕ). bit_and word (power - 1)) (omega (arith, fits)) ∙ and_mask word n
  where
    fits : 2 ^ n < 2 ^ 64
    fits = pow-lt {i = n} {j = 64} few

-- the fewer bits, the fewer set ones
pub ones-mono : (word i j : ℕ) → i ≤ j → count_ones (word % 2 ^ i) ≤ count_ones (word % 2 ^ j)
ones-mono word i j up = omega (arith, ones-below word i (j - i), ap (λ (n : ℕ). count_ones (word % 2 ^ n)) whole)
  where
    whole : i + (j - i) ≡ j
    whole = omega arith

-- the greatest set bit among those below a place
pub record IsTop (word place rest bit : ℕ) : Type 0 where
  pub below : bit < place
  pub set : bit_at word bit ≡ 1
  pub same : word % 2 ^ (1 + bit) ≡ rest
  pub power : 1 * 2 ^ bit % 2 ^ 64 ≡ 2 ^ bit
  pub fits : 2 ^ bit ≤ rest
  pub left : rest - 2 ^ bit ≡ word % 2 ^ bit

-- a number of one digit more than `low`
one_digit : (digit power low rest : ℕ) → digit < 2 → rest ≡ digit * power + low → low < power → power ≤ rest → (digit ≡ 1) × (rest - power ≡ low)
one_digit zero power low rest few is small there = absurd (omega arith)
one_digit (suc zero) power low rest few is small there = (refl, omega arith)
one_digit (suc (suc digit)) power low rest few is small there = absurd (omega arith)

top_at : (word place rest bit : ℕ) → rest ≡ word % 2 ^ place → place ≤ 64 → 2 ^ bit ≤ rest → rest < 2 ^ suc bit → IsTop word place rest bit
top_at word place rest bit is few least most = record {
  below = below;
  set = digit.0;
  same = same;
  power = omega (arith, least, is, mod_below word (2 ^ place) (pow_pos place), pow_mono {i = place} {j = 64} few);
  fits = least;
  left = digit.1;
}
  where
    below : bit < place
    below =
        elim (cases_lt bit place) [
          | inl before ↦ before
          | inr past ↦ absurd (omega (arith, least, is, mod_below word (2 ^ place) (pow_pos place), pow_mono {i = place} {j = bit} past))
        ]

    next : 1 + bit ≡ suc bit
    next = omega arith

    whole : place - (1 + bit) + (1 + bit) ≡ place
    whole = omega (arith, below)

    same : word % 2 ^ (1 + bit) ≡ rest
    same =
        sym (mod-mod-pow word (place - (1 + bit)) (1 + bit))
        ∙ ap (λ (n : ℕ). word % 2 ^ n % 2 ^ (1 + bit)) whole
        ∙ ap (λ (r : ℕ). r % 2 ^ (1 + bit)) (sym is)
        ∙ mod-eq_of_lt (rw next most)

    digit : (bit_at word bit ≡ 1) × (rest - 2 ^ bit ≡ word % 2 ^ bit)
    digit = one_digit (bit_at word bit) (2 ^ bit) (word % 2 ^ bit) rest (bit_at-lt word bit) (sym same ∙ mod-pow-add word 1 bit) (mod_below word (2 ^ bit) (pow_pos bit)) least

pub is_top : (word place rest : ℕ) → rest ≡ word % 2 ^ place → place ≤ 64 → 0 < rest → IsTop word place rest (63 - count_leading_zeros 64 rest)
is_top word place rest is few some =
    let top = leading_top 64 rest some (omega (arith, is, mod_below word (2 ^ place) (pow_pos place), pow_mono {i = place} {j = 64} few)) in
    let bit : top.0 ≡ 63 - count_leading_zeros 64 rest = omega (arith, top.1) in
    subst (λ (n : ℕ). IsTop word place rest n) bit (top_at word place rest top.0 is few top.2 top.3)

-- the least set bit among those from a place on and below an end
pub record IsLowest (word place end rest bit : ℕ) : Type 0 where
  pub above : place ≤ bit
  pub below : bit < end
  pub set : bit_at word bit ≡ 1
  pub same : word % 2 ^ bit ≡ word % 2 ^ place
  pub power : 1 * 2 ^ bit % 2 ^ 64 ≡ 2 ^ bit
  pub fits : 2 ^ bit ≤ rest
  pub left : rest - 2 ^ bit + word % 2 ^ (1 + bit) ≡ word % 2 ^ end

-- a digit is 1 where the number has its power
one_of_digit : (digit power low : ℕ) → digit < 2 → 0 < power → digit * power + low ≡ power + low → digit ≡ 1
one_of_digit zero power low few some is = absurd (omega arith)
one_of_digit (suc zero) power low few some is = refl
one_of_digit (suc (suc digit)) power low few some is = absurd (omega arith)

-- a number without set bits below a place
none_below : (n place : ℕ) → ((i : ℕ) → i < place → bit_at n i ≡ 0) → n % 2 ^ place ≡ 0
none_below n zero none = omega arith
none_below n (suc place) none =
    ap (λ (k : ℕ). n % 2 ^ k) next ∙ mod-pow-add n 1 place ∙ omega (arith, ap (λ (bit : ℕ). bit * 2 ^ place) (none place (omega arith)), none_below n place (λ i below. none i (omega arith)))
  where
    next : suc place ≡ 1 + place
    next = omega arith

lowest_at : (word place end rest bit : ℕ) → rest + word % 2 ^ place ≡ word % 2 ^ end → place ≤ end → end ≤ 64 → rest % 2 ^ bit ≡ 0 → rest % 2 ^ (1 + bit) ≡ 2 ^ bit → IsLowest word place end rest bit
lowest_at word place end rest bit is few fits none one = record {
  above = above;
  below = below;
  set = one_of_digit (bit_at word bit) (2 ^ bit) (word % 2 ^ place) (bit_at-lt word bit) (pow_pos bit) (omega (arith, with_bit, mod-pow-add word 1 bit, same));
  same = same;
  power = omega (arith, least, is, mod_below word (2 ^ end) (pow_pos end), pow_mono {i = end} {j = 64} fits);
  fits = least;
  left = omega (arith, least, is, with_bit);
}
  where
    low : ℕ
    low = word % 2 ^ place

    least : 2 ^ bit ≤ rest
    least = omega (arith, one, mod-le rest (2 ^ (1 + bit)))

    below : bit < end
    below =
        elim (cases_lt bit end) [
          | inl before ↦ before
          | inr past ↦ absurd (omega (arith, least, is, mod_below word (2 ^ end) (pow_pos end), pow_mono {i = end} {j = bit} past))
        ]

    -- the bits below a place of the word are those of what is left and of its low part
    cut : (n : ℕ) → n ≤ end → word % 2 ^ n ≡ (rest + low) % 2 ^ n
    cut n within =
        let whole : end - n + n ≡ end = omega arith in
        sym (mod-mod-pow word (end - n) n) ∙ ap (λ (k : ℕ). word % 2 ^ k % 2 ^ n) whole ∙ ap (λ (bits : ℕ). bits % 2 ^ n) (sym is)

    multiple : rest % 2 ^ place ≡ 0
    multiple =
        let high : rest ≡ (rest + low) / 2 ^ place * 2 ^ place = omega (arith, shr_split (rest + low) place, cut place few) in
        ap (λ (r : ℕ). r % 2 ^ place) high ∙ mul-mod_left ((rest + low) / 2 ^ place) (2 ^ place)

    above : place ≤ bit
    above =
        elim (cases_lt bit place) [
          | inr past ↦ past
          | inl before ↦
              let whole : place - (1 + bit) + (1 + bit) ≡ place = omega arith in
              let zeros : rest % 2 ^ (1 + bit) ≡ 0 = sym (mod-mod-pow rest (place - (1 + bit)) (1 + bit)) ∙ ap (λ (k : ℕ). rest % 2 ^ k % 2 ^ (1 + bit)) whole ∙ ap (λ (r : ℕ). r % 2 ^ (1 + bit)) multiple ∙ zero-mod (2 ^ (1 + bit)) in
              absurd (omega (arith, zeros, one, pow_pos bit))
        ]

    low_fits : low < 2 ^ bit
    low_fits = omega (arith, mod_below word (2 ^ place) (pow_pos place), pow_mono {i = place} {j = bit} above)

    same : word % 2 ^ bit ≡ low
    same =
        let parts : rest + low ≡ rest / 2 ^ bit * 2 ^ bit + low = omega (arith, shr_split rest bit, none) in
        cut bit (omega (arith, below)) ∙ ap (λ (r : ℕ). r % 2 ^ bit) parts ∙ mod_low (rest / 2 ^ bit) bit low low_fits

    with_bit : word % 2 ^ (1 + bit) ≡ 2 ^ bit + low
    with_bit =
        let parts : rest + low ≡ rest / 2 ^ (1 + bit) * 2 ^ (1 + bit) + (2 ^ bit + low) = omega (arith, shr_split rest (1 + bit), one) in
        cut (1 + bit) (omega (arith, below)) ∙ ap (λ (r : ℕ). r % 2 ^ (1 + bit)) parts ∙ mod_low (rest / 2 ^ (1 + bit)) (1 + bit) (2 ^ bit + low) (omega (arith, low_fits, pow-add 2 1 bit))

pub is_lowest : (word place end rest : ℕ) → rest + word % 2 ^ place ≡ word % 2 ^ end → place ≤ end → end ≤ 64 → 0 < rest → IsLowest word place end rest (count_trailing_zeros 64 rest)
is_lowest word place end rest is few fits some =
    let lowest = bit_at-trailing_zeros w64 rest some (omega (arith, is, mod_below word (2 ^ end) (pow_pos end), pow_mono {i = end} {j = 64} fits)) in
    let none : rest % 2 ^ count_trailing_zeros 64 rest ≡ 0 = none_below rest (count_trailing_zeros 64 rest) lowest.2 in
    lowest_at word place end rest (count_trailing_zeros 64 rest) is few fits none (mod-pow-add rest 1 (count_trailing_zeros 64 rest) ∙ omega (arith, none, ap (λ (bit : ℕ). bit * 2 ^ count_trailing_zeros 64 rest) lowest.1))

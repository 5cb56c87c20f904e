-- What a host log gives block by block.
use Rattle.std.proofs.Common.{◌≡◌, ◌∙◌, ℕ, ◌+◌, ◌≤◌, Option, Some, None, Bool, true, false, List, [], ◌∷◌, ◌++◌, length, take, drop, codes, append_assoc, refl, sym, ap, arith}
use Rattle.std.proofs.Math.Seq.{drop-append-add}
use Rattle.std.proofs.lemmas.List.{append-nil, drop_all, take_all}
use Rattle.std.specs.Io.KnownBytes.{Consumes, IsAtEnd, prepend_known}
use Rattle.std.specs.Prelude.{IfSome}
use Rattle.vm_samples.specs.declared.front.Front.{Front}
use Rattle.vm_samples.specs.Blocks.{blocks_of, taken_by, unended_of}
use Rattle.vm_samples.specs.LogSteps.{EndsAt, EndsBy, EndsNowhere, Gives, IsFirstBlock, IsTaken, IsTooLong, IsUnended, Stays}

-- ---- what is known stays

pub stays_same : {A : Type 0} (x : Option A) → Stays x x
stays_same None = tt
stays_same (Some x) = refl

pub stays_then : {A : Type 0} (x y z : Option A) → Stays x y → Stays y z → Stays x z
stays_then None y z p q = tt
stays_then (Some x) None z p q = absurd p
stays_then (Some x) (Some y) None p q = absurd q
stays_then (Some x) (Some y) (Some z) p q = q ∙ p

stays_consumed : (old got : List ℕ) (before after : Option (List ℕ)) → Consumes before after got → Stays (prepend_known old before) (prepend_known (old ++ got) after)
stays_consumed old got None after taken = tt
stays_consumed old got (Some xs) None taken = absurd taken
stays_consumed old got (Some xs) (Some ys) taken = append_assoc old got ys ∙ ap (λ l. old ++ l) (sym taken)

-- what was read stands behind what was there
pub taken_more : (old got new : List ℕ) (before after : Option (List ℕ)) → Consumes before after got → new ≡ old ++ got → IsTaken old before new after
taken_more old got new before after taken is = record {
  stays = rw is (stays_consumed old got before after taken);
  got = got;
  appended = is;
}

-- what holds of all bytes that are there and to come holds of those that were there at first
pub stays_long : (old kept : List ℕ) (before after : Option (List ℕ)) → Stays (prepend_known old before) (prepend_known kept after)
    → ((more : List ℕ) → IsTooLong (kept ++ more)) → IfSome (prepend_known old before) IsTooLong
stays_long old kept None after stays long = tt
stays_long old kept (Some xs) None stays long = absurd stays
stays_long old kept (Some xs) (Some ys) stays long = rw (← stays) (long ys)

-- the same at the end of the source
pub ended_long : (old kept : List ℕ) (before after : Option (List ℕ)) → Stays (prepend_known old before) (prepend_known kept after) → IsAtEnd after
    → IsTooLong kept → IfSome (prepend_known old before) IsTooLong
ended_long old kept None after stays end long = tt
ended_long old kept (Some xs) None stays end long = absurd stays
ended_long old kept (Some xs) (Some ys) stays end long =
    let all : kept ≡ old ++ xs = sym (append-nil kept) ∙ ap (λ l. kept ++ l) (sym end) ∙ stays in
    rw (← all) long

-- ---- the block

unended_rest : (bytes block rest : List ℕ) → bytes ≡ block ++ (codes "---\n" ++ rest) → blocks_of bytes ≡ block ∷ blocks_of rest
    → unended_of bytes ≡ unended_of rest
unended_rest bytes block rest whole blocks =
    let left = taken_by (blocks_of rest) in
    let sum : length block + 4 + left ≡ length block + (4 + left) = omega arith in
    ap (λ bs. drop (taken_by bs) bytes) blocks
    ∙ ap (λ l. drop (length block + 4 + left) l) whole
    ∙ ap (λ (n : ℕ). drop n (block ++ (codes "---\n" ++ rest))) sum
    ∙ drop-append-add block (codes "---\n" ++ rest) (4 + left)
    ∙ drop-append-add (codes "---\n") rest left

first_block : (kept all more : List ℕ) (front : Front) → kept ++ more ≡ all → EndsAt kept front
    → IsFirstBlock all (take front.block kept) (drop front.used kept ++ more)
first_block kept all more front is ends =
    let block = take front.block kept in
    let rest = drop front.used kept in
    let whole : all ≡ block ++ (codes "---\n" ++ (rest ++ more)) =
    sym is ∙ ap (λ l. l ++ more) ends.whole ∙ append_assoc block (codes "---\n" ++ rest) more ∙ ap (λ l. block ++ l) (append_assoc (codes "---\n") rest more) in
    let blocks : blocks_of all ≡ block ∷ blocks_of (rest ++ more) = ap blocks_of (sym is) ∙ ends.blocks more in
    record { whole = whole; blocks = blocks; unended = unended_rest all block (rest ++ more) whole blocks }

gives_block : (old kept : List ℕ) (before after : Option (List ℕ)) (front : Front) → Stays (prepend_known old before) (prepend_known kept after)
    → EndsAt kept front → Gives (prepend_known old before) true (take front.block kept) (prepend_known (drop front.used kept) after)
gives_block old kept None after front stays ends = tt
gives_block old kept (Some xs) None front stays ends = absurd stays
gives_block old kept (Some xs) (Some ys) front stays ends = first_block kept (old ++ xs) ys front stays ends

all_unended : (kept all : List ℕ) (front : Front) → kept ≡ all → EndsNowhere kept front → IsUnended all (take front.block kept) (drop front.used kept ++ [])
all_unended kept all front is ends = record {
  whole = ap (λ (n : ℕ). take n kept) ends.block_is ∙ take_all (length kept) kept (omega arith) ∙ is;
  none = ap blocks_of (sym is) ∙ ends.none;
  nothing = append-nil (drop front.used kept) ∙ ap (λ (n : ℕ). drop n kept) ends.used_is ∙ drop_all (length kept) kept (omega arith);
}

gives_rest : (old kept : List ℕ) (before after : Option (List ℕ)) (front : Front) → Stays (prepend_known old before) (prepend_known kept after)
    → IsAtEnd after → EndsNowhere kept front → Gives (prepend_known old before) false (take front.block kept) (prepend_known (drop front.used kept) after)
gives_rest old kept None after front stays end ends = tt
gives_rest old kept (Some xs) None front stays end ends = absurd stays
gives_rest old kept (Some xs) (Some ys) front stays end ends =
    let all : kept ≡ old ++ xs = sym (append-nil kept) ∙ ap (λ l. kept ++ l) (sym end) ∙ stays in
    rw end (all_unended kept (old ++ xs) front all ends)

-- the block that a front is, and what is left behind it
pub gives_front : (is_ended : Bool) (old kept : List ℕ) (before after : Option (List ℕ)) (front : Front)
    → Stays (prepend_known old before) (prepend_known kept after) → EndsBy is_ended kept front → (is_ended ≡ false → IsAtEnd after)
    → Gives (prepend_known old before) is_ended (take front.block kept) (prepend_known (drop front.used kept) after)
gives_front true old kept before after front stays ends end = gives_block old kept before after front stays ends
gives_front false old kept before after front stays ends end = gives_rest old kept before after front stays (end refl) ends

pub front_used : (is_ended : Bool) (kept : List ℕ) (front : Front) → EndsBy is_ended kept front → front.used ≤ length kept
front_used true kept front ends = ends.within
front_used false kept front ends = let is = ends.used_is in omega arith

pub front_few : (is_ended : Bool) (kept : List ℕ) (front : Front) → EndsBy is_ended kept front → front.block ≤ 16777216
front_few true kept front ends = ends.few
front_few false kept front ends = ends.few

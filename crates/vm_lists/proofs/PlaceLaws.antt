-- The first byte that passes a test, where it stands and where none does.
use Rattle.std.proofs.Common.{◌≡◌, ℕ, ◌+◌, Bool, true, false, List, [], ◌∷◌, ◌++◌, length, take, drop, ap, sym, ◌∙◌, arith}
use Rattle.std.proofs.Math.Seq.{take-append_seam, drop-append_seam, get_or-append_seam}
use Rattle.std.proofs.lemmas.Bool.{le-ltb, lt-ltb}
use Rattle.std.proofs.lemmas.List.{append_assoc, length-append, get_or_append_left}
use Rattle.std.proofs.lemmas.List.Sums.{position_or_len_is}
use Rattle.std.specs.List.{All, position_or_len, before_first, after_first}
use Rattle.vm_lists.specs.Numbers.{has}

pub has-none : (p : ℕ → Bool) (text : List ℕ) → All (λ b. p b ≡ false) text → has p text ≡ false
has-none p text none =
    let place = position_or_len_is p text (length text) 0 (omega arith) (λ k l. none k 0 l) (λ l. absurd (omega arith)) in
    le-ltb _ _ (omega arith)

place-first : (p : ℕ → Bool) (front : List ℕ) (byte : ℕ) (behind : List ℕ) → All (λ b. p b ≡ false) front → p byte ≡ true → position_or_len p (front ++ byte ∷ behind) ≡ length front
place-first p front byte behind none here =
    position_or_len_is p (front ++ byte ∷ behind) (length front) 0 (omega (arith, length-append front (byte ∷ behind)))
    (λ k l. ap p (get_or_append_left front (byte ∷ behind) 0 k l) ∙ none k 0 l)
    (λ l. ap p (get_or-append_seam front byte behind 0) ∙ here)

drop-behind : (front : List ℕ) (byte : ℕ) (behind : List ℕ) → drop (length front + 1) (front ++ byte ∷ behind) ≡ behind
drop-behind front byte behind =
    let longer = length-append front (byte ∷ []) in
    ap (λ n. drop n (front ++ byte ∷ behind)) (sym longer) ∙ ap (drop (length (front ++ byte ∷ []))) (sym (append_assoc front (byte ∷ []) behind))
    ∙ drop-append_seam (front ++ byte ∷ []) behind

-- it stands behind the front
pub record IsFirst (p : ℕ → Bool) (text front behind : List ℕ) : Type 0 where
  pub one : has p text ≡ true
  pub before : before_first p text ≡ front
  pub after : after_first p text ≡ behind

pub stands_first : (p : ℕ → Bool) (front : List ℕ) (byte : ℕ) (behind : List ℕ) → All (λ b. p b ≡ false) front → p byte ≡ true → IsFirst p (front ++ byte ∷ behind) front behind
stands_first p front byte behind none here =
    let place = place-first p front byte behind none here in
    record {
      one = lt-ltb _ _ (omega (arith, place, length-append front (byte ∷ behind)));
      before = ap (λ k. take k (front ++ byte ∷ behind)) place ∙ take-append_seam front (byte ∷ behind);
      after = ap (λ k. drop (k + 1) (front ++ byte ∷ behind)) place ∙ drop-behind front byte behind;
    }

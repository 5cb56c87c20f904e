-- The first two points of an item.
use Rattle.std.proofs.Common.{◌≡◌, ◌≢◌, ℕ, zero, suc, ◌+◌, ◌<◌, ◌≤◌, ◌==◌, true, false, List, [], ◌∷◌, ◌++◌, length, take, drop, Option, Some, None, IfSome, MatchOption, refl, ap, sym, ◌∙◌, arith}
use Rattle.std.proofs.lemmas.Bool.{and_parts, eqb-true, false_from_ne_true}
use Rattle.std.specs.Option.{option_map}
use Rattle.std.specs.Str.Pattern.{LacksTextAt, FindsText, SplitsAroundMatch}
use Rattle.std.specs.Borrow.{Bor}
use Rattle.vm_lists.specs.Items.{begins_with_dots, around_dots}

abbrev pub dots : List ℕ
dots = 46 ∷ 46 ∷ []

-- what begins with two points, and what doesn't
begins_text : (bs : List ℕ) → begins_with_dots bs ≡ true → (rest : List ℕ) × (bs ≡ dots ++ rest)
begins_text [] h = absurd cc
begins_text (a ∷ []) h = absurd cc
begins_text (a ∷ b ∷ rest) h =
    let parts = and_parts (a == 46) (b == 46) h in
    (rest, (λ i. eqb-true a 46 parts.0 i ∷ eqb-true b 46 parts.1 i ∷ rest))

lacks_begin : (bs : List ℕ) → ((rest : List ℕ) → bs ≢ dots ++ rest) → begins_with_dots bs ≡ false
lacks_begin bs lacks = false_from_ne_true _ (λ yes. let found = begins_text bs yes in lacks found.0 found.1)

-- the first place where they stand
around_dots-first : (bs : List ℕ) (i : ℕ) (behind : List ℕ) → ((k : ℕ) → k < i → LacksTextAt dots bs k) → drop i bs ≡ dots ++ behind → around_dots bs ≡ Some (take i bs, behind)
around_dots-first [] zero behind lacks here = absurd cc
around_dots-first [] (suc i) behind lacks here = absurd cc
around_dots-first (b ∷ bs) zero behind lacks here = ap around_dots here
around_dots-first (b ∷ bs) (suc i) behind lacks here =
    rw (lacks_begin (b ∷ bs) (lacks 0 (omega arith)))
    (ap (option_map (λ parts. (b ∷ parts.0, parts.1))) (around_dots-first bs i behind (λ k h. lacks (suc k) (omega arith)) here))

-- they stand nowhere
around_dots-none : (bs : List ℕ) → ((k : ℕ) → k ≤ length bs → LacksTextAt dots bs k) → around_dots bs ≡ None
around_dots-none [] lacks = refl
around_dots-none (b ∷ bs) lacks =
    rw (lacks_begin (b ∷ bs) (lacks 0 (omega arith)))
    (ap (option_map (λ parts. (b ∷ parts.0, parts.1))) (around_dots-none bs (λ k h. lacks (suc k) (omega arith))))

abbrev pub texts : Bor (List ℕ) × Bor (List ℕ) → List ℕ × List ℕ
texts parts = (parts.0.now, parts.1.now)

-- what `split_once` gives
pub around_dots-split : (bs : List ℕ) (r : Option (Bor (List ℕ) × Bor (List ℕ))) → MatchOption r (FindsText dots bs None) (λ x. SplitsAroundMatch (FindsText dots) bs x.0.now x.1.now) → option_map texts r ≡ around_dots bs
around_dots-split bs None h = sym (around_dots-none bs h)
around_dots-split bs (Some x) h =
    let found = h.2 in
    ap Some (λ k. (h.3 k, h.4 k)) ∙ sym (around_dots-first bs h.0 (drop h.1 bs) found.0 found.1.split)

pub inside_split : (bs : List ℕ) (r : Option (Bor (List ℕ) × Bor (List ℕ))) → MatchOption r (FindsText dots bs None) (λ x. SplitsAroundMatch (FindsText dots) bs x.0.now x.1.now) → IfSome r (λ parts. length parts.0.now + 2 + length parts.1.now ≡ length bs)
inside_split bs None h = tt
inside_split bs (Some x) h =
    let front = h.6 in let behind = h.7 in let ends = h.2.1.ends in omega arith

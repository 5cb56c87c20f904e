-- Texts that are put together piece by piece.
use Rattle.std.proofs.Common.{◌≡◌, ℕ, ◌+◌, ◌<◌, ◌≤◌, List, ◌++◌, length, drop, get_or, sym, ap, ◌∙◌, append_assoc, arith}
use Rattle.std.proofs.lemmas.List.{append-nil, drop_all, drop_more}
use Rattle.std.specs.List.{enumerate_from, flat_map}

-- the piece of one element more; those that are left complete the whole
pub piece-more : {A : Type 0} (piece : ℕ × A → List ℕ) (xs : List A) (i : ℕ) (d : A) (old new whole : List ℕ) → i < length xs
    → new ≡ old ++ piece (i, get_or xs i d) → old ++ flat_map piece (enumerate_from i (drop i xs)) ≡ whole
    → new ++ flat_map piece (enumerate_from (i + 1) (drop (i + 1) xs)) ≡ whole
piece-more {A} piece xs i d old new whole within more so_far =
    let rest = flat_map piece (enumerate_from (i + 1) (drop (i + 1) xs)) in
    ap (λ (l : List ℕ). l ++ rest) more ∙ append_assoc old (piece (i, get_or xs i d)) rest
    ∙ ap (λ (l : List A). old ++ flat_map piece (enumerate_from i l)) (sym (drop_more xs i d within)) ∙ so_far

-- all pieces are there
pub pieces-end : {A : Type 0} (piece : ℕ × A → List ℕ) (xs : List A) (i : ℕ) (new whole : List ℕ) → length xs ≤ i
    → new ++ flat_map piece (enumerate_from i (drop i xs)) ≡ whole → new ≡ whole
pieces-end {A} piece xs i new whole all done =
    sym (append-nil new) ∙ ap (λ (l : List A). new ++ flat_map piece (enumerate_from i l)) (sym (drop_all i xs (omega (arith, all)))) ∙ done

-- a front, numbers and an end, behind a text
pub three-pieces : (text first second new front field numbers found end : List ℕ) → first ≡ text ++ (front ++ field) → second ≡ first ++ found
    → new ≡ second ++ end → found ≡ numbers → new ≡ text ++ (front ++ (field ++ (numbers ++ end)))
three-pieces text first second new front field numbers found end begins goes_on ends same =
    ends ∙ (λ i. (goes_on ∙ (λ t. begins t ++ same t)) i ++ end) ∙ append_assoc (text ++ (front ++ field)) numbers end
    ∙ append_assoc text (front ++ field) (numbers ++ end) ∙ ap (λ (l : List ℕ). text ++ l) (append_assoc front field (numbers ++ end))

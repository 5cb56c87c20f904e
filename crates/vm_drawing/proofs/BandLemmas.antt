-- Back along the least values of a band, and the greatest of what a curve shows.
use Rattle.std.proofs.Common.{◌≡◌, ℕ, suc, ◌+◌, List, ◌∷◌, [], ◌++◌, Option, Some, None, codes, max, ap, ◌∙◌, sym, append_assoc, arith, refl}
use Rattle.std.proofs.lemmas.List.{append-nil}
use Rattle.vm_drawing.specs.declared.area.Area.{Area}
use Rattle.vm_drawing.specs.declared.spread.Spread.{Spread}
use Rattle.vm_drawing.specs.Bands.{back_text, corner, spread_at, step_back}
use Rattle.vm_drawing.specs.Drawing.{Curve, ends_of}
use Rattle.vm_drawing.specs.Picture.{greatest_in}
use Rattle.vm_drawing.specs.Values.{greatest}

-- ---- back along the least values

-- one place further back
next-back : (area : Area) (curve : Curve) (spreads : List (Option Spread)) (j : ℕ)
    → back_text area curve spreads (suc j) ≡ step_back (spread_at spreads j) (corner area curve j) (back_text area curve spreads j)
unfolding back_text
next-back area curve spreads j = refl

back-at : (area : Area) (curve : Curve) (spreads : List (Option Spread)) (i j : ℕ) (here : Option Spread) → i ≡ j + 1
    → spread_at spreads j ≡ here
    → back_text area curve spreads i ≡ step_back here (corner area curve j) (back_text area curve spreads j)
back-at area curve spreads i j here next is =
    let same : i ≡ suc j = omega (arith, next) in
    ap (λ (k : ℕ). back_text area curve spreads k) same ∙ next-back area curve spreads j
    ∙ ap (λ (s : Option Spread). step_back s (corner area curve j) (back_text area curve spreads j)) is

pub back-none : (area : Area) (curve : Curve) (spreads : List (Option Spread)) (i : ℕ) → i ≡ 0 → back_text area curve spreads i ≡ []
unfolding back_text
back-none area curve spreads i none = ap (λ (k : ℕ). back_text area curve spreads k) none

-- the text with a place more, before the places that are left
pub back-more : (area : Area) (curve : Curve) (spreads : List (Option Spread)) (i j : ℕ) (spread : Spread) (old pen new whole : List ℕ)
    → i ≡ j + 1 → spread_at spreads j ≡ Some spread → pen ≡ old ++ codes "L" → new ≡ pen ++ corner area curve j spread.least
    → old ++ back_text area curve spreads i ≡ whole → new ++ back_text area curve spreads j ≡ whole
back-more area curve spreads i j spread old pen new whole next is first second so_far =
    let rest = back_text area curve spreads j in
    let at = corner area curve j spread.least in
    ap (λ (l : List ℕ). l ++ rest) (second ∙ ap (λ (l : List ℕ). l ++ at) first)
    ∙ append_assoc (old ++ codes "L") at rest ∙ append_assoc old (codes "L") (at ++ rest)
    ∙ ap (λ (l : List ℕ). old ++ l) (sym (back-at area curve spreads i j (Some spread) next is)) ∙ so_far

-- no place is left: at a gap, or at the first place
pub back-ended : (area : Area) (curve : Curve) (spreads : List (Option Spread)) (i : ℕ) (old whole : List ℕ)
    → back_text area curve spreads i ≡ [] → old ++ back_text area curve spreads i ≡ whole → old ≡ whole
back-ended area curve spreads i old whole none so_far =
    sym (append-nil old) ∙ ap (λ (l : List ℕ). old ++ l) (sym none) ∙ so_far

pub back-gap : (area : Area) (curve : Curve) (spreads : List (Option Spread)) (i j : ℕ) → i ≡ j + 1 → spread_at spreads j ≡ None
    → back_text area curve spreads i ≡ []
back-gap area curve spreads i j next is = back-at area curve spreads i j None next is

-- ---- the greatest of what a curve shows

pub greatest-append : (xs ys : List (Option ℕ)) → greatest (xs ++ ys) ≡ max (greatest xs) (greatest ys)
greatest-append [] ys = omega arith
greatest-append (x ∷ xs) ys = omega (arith, greatest-append xs ys)

-- the greatest of one more curve with its band, and of what is left
pub curve-counted : (curve : Curve) (left rest : List Curve) (old own own_most band most all : ℕ) → left ≡ curve ∷ rest
    → own ≡ greatest curve.values → own_most ≡ max own old → band ≡ greatest (ends_of curve.band) → most ≡ max band own_most
    → max old (greatest_in left) ≡ all → max most (greatest_in rest) ≡ all
curve-counted curve left rest old own own_most band most all first own_is own_more band_is more so_far =
    let next : greatest_in left ≡ max (greatest (ends_of curve.band ++ curve.values)) (greatest_in rest) = ap greatest_in first in
    let both = greatest-append (ends_of curve.band) curve.values in
    omega (arith, next, both, own_is, own_more, band_is, more, so_far)

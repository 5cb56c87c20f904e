-- One machine more, joined words, charts that have no words for their values, and places on their axis.
use Rattle.std.proofs.Common.{◌≡◌, ℕ, ◌+◌, ◌-◌, ◌*◌, ◌/◌, ◌<◌, ◌==◌, false, List, ◌∷◌, [], ◌++◌, codes, length, map, Result, Ok, Err, IfOk, ap, ◌∙◌, sym, subst, All, Option, arith, refl}
use Rattle.std.proofs.Math.Nat.{mul-div-le}
use Rattle.std.proofs.lemmas.List.FromFn.{get_or-map-range_with_len, length-map-range_with_len, map-range_with_len_more}
use Rattle.std.proofs.lemmas.Nat.{mul-add-lt}
use Rattle.std.specs.List.{flat_map, join_by, range_with_len}
use Rattle.vm_drawing.specs.Stacked.{Each, HasWords}
use Rattle.vm_sweep.specs.declared.points.SweptPoint.{SweptPoint}
use Rattle.vm_sweep.specs.CurveNames.{named}
use Rattle.vm_sweep.specs.OnAxis.{FramesRise, IsOnAxis}
use Rattle.vm_sweep.specs.SweepDrawing.{frame_axis, sweep_charts}
use Rattle.vm_sweep.specs.SweptRuns.{machine_count, place_of, places_of, point_at}

-- what is shown of the machines so far, and of one more
pub one_more : {X : Type 0} (f : ℕ → X) (n : ℕ) (x : X) (old new : List X) → old ≡ map f (range_with_len 0 n) → f n ≡ x
    → new ≡ old ++ x ∷ [] → new ≡ map f (range_with_len 0 (n + 1))
one_more f n x old new so_far is more =
    more ∙ ap (λ (l : List _). l ++ x ∷ []) so_far ∙ ap (λ y. map f (range_with_len 0 n) ++ y ∷ []) (sym is)
    ∙ sym (map-range_with_len_more f 0 n n (omega arith))

joined_rest : {X : Type 0} (f : X → List ℕ) (separator : List ℕ) (words : List X)
    → flat_map (λ w. separator ++ f w) words ≡ flat_map (λ w. separator ++ w) (map f words)
joined_rest f separator [] = refl
joined_rest f separator (w ∷ words) = ap (λ (l : List ℕ). (separator ++ f w) ++ l) (joined_rest f separator words)

named_by : {X : Type 0} (f : X → List ℕ) (words : List X) → false ≡ (length words == 0)
    → join_by f (codes ", ") words ≡ named (map f words)
named_by f [] some = absurd cc
named_by f (w ∷ words) some = ap (λ (l : List ℕ). f w ++ l) (joined_rest f (codes ", ") words)

-- words that are joined are a name
pub if_named : {T E X : Type 0} (r : Result T E) (text : T → List ℕ) (f : X → List ℕ) (words : List X) → false ≡ (length words == 0)
    → IfOk r (λ t. text t ≡ join_by f (codes ", ") words) → IfOk r (λ t. text t ≡ named (map f words))
if_named (Ok t) text f words some is = is ∙ named_by f words some
if_named (Err e) text f words some is = tt

-- where there is no word none is asked for
pub sweep-has_words : (seeds : Option ℕ) (names : List (List ℕ)) (points : List SweptPoint) → Each HasWords (sweep_charts seeds names points)
sweep-has_words seeds names points = ((λ some. absurd (omega (arith, some))), ((λ some. absurd (omega (arith, some))), tt))

-- ---- places

point_inside : (n curves machine curve : ℕ) → machine < n / curves → curve < curves → machine * curves + curve < n
point_inside n curves machine curve below inside =
    omega (arith, mul-add-lt machine curves curve (n / curves) below inside, mul-div-le n curves)

-- the frames of each point are between those of the first and those of the last
pub places_on_axis : (points : List SweptPoint) (curves curve : ℕ) → FramesRise points → curve < curves
    → All (IsOnAxis (frame_axis points)) (places_of points curves curve)
places_on_axis points curves curve rise inside = λ machine d below.
    let machines = machine_count points curves in
    let some : machine < machines = omega (arith, below, length-map-range_with_len (λ m. place_of (point_at points curves m curve)) 0 machines) in
    let there = point_inside (length points) curves machine curve some inside in
    subst (IsOnAxis (frame_axis points)) (sym (get_or-map-range_with_len (λ m. place_of (point_at points curves m curve)) 0 machines machine machine d some (omega arith)))
    (rise 0 (machine * curves + curve) (omega arith) there, rise (machine * curves + curve) (length points - 1) (omega (arith, there)) (omega (arith, there)))

-- One position, one name, one row more.
use Rattle.std.proofs.Common.{◌≡◌, ℕ, zero, suc, ◌+◌, ◌<◌, List, ◌∷◌, [], ◌++◌, length, map, take, slice_get, unwrap_or, refl, ap, ◌∙◌, sym, add-one, arith}
use Rattle.std.proofs.lemmas.List.{map-append}
use Rattle.std.proofs.lemmas.List.FromFn.{map-range_with_len_more}
use Rattle.std.specs.List.{range_with_len}
use Rattle.vm_config.specs.declared.config.Config.{Config}
use Rattle.vm_host.specs.World.{World}
use Rattle.vm_sim.specs.Stepping.{RunState, run_after}
use Rattle.vm_series.specs.Rows.{row_of, row_of_host}

pub map_more : {X : Type 0} (f : ℕ → X) (n : ℕ) (old new : List X) (x : X) → old ≡ map f (range_with_len 0 n) → new ≡ old ++ x ∷ [] → x ≡ f n
    → new ≡ map f (range_with_len 0 (n + 1))
map_more f n old new x so_far more is =
    more ∙ (λ i. so_far i ++ is i ∷ []) ∙ sym (map-range_with_len_more f 0 n n (omega arith))

name_more : (names : List (List ℕ)) (n : ℕ) → n < length names → take (suc n) names ≡ take n names ++ unwrap_or (slice_get names n) [] ∷ []
name_more [] n h = absurd (omega arith)
name_more (x ∷ xs) zero h = refl
name_more (x ∷ xs) (suc n) h = ap (λ (l : List (List ℕ)). x ∷ l) (name_more xs n (omega arith))

pub names_more : {S : Type 0} (f : S → List ℕ) (names : List (List ℕ)) (n : ℕ) (old new : List S) (s : S) → n < length names
    → map f old ≡ take n names → new ≡ old ++ s ∷ [] → f s ≡ unwrap_or (slice_get names n) [] → map f new ≡ take (n + 1) names
names_more f names n old new s within so_far more is =
    ap (map f) more ∙ map-append f old (s ∷ []) ∙ (λ i. so_far i ++ is i ∷ []) ∙ sym (name_more names n within)
    ∙ ap (λ (k : ℕ). take k names) (sym (add-one n))

-- ---- rows

-- what is seen of the host of a run is the row of its configuration
pub row_after : (c : Config) (k : ℕ) (run : RunState) (host : World) → run ≡ run_after c (suc k) → host ≡ run.host → row_of_host k host ≡ row_of c k
unfolding row_of
row_after c k run host is same = ap (row_of_host k) same ∙ ap (λ (r : RunState). row_of_host k r.host) is

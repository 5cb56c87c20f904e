use Rattle.std.proofs.Common.{◌≡◌, ◌∙◌, ◌<◌, List, [], ℕ, Vec, Global, ap, arith, get_or, length, map}
use Rattle.std.proofs.lemmas.List.{length-map}
use Rattle.vm_steer_charts.specs.Rows.{Row}
use Rattle.vm_steer_charts.proofs.PlaceLemmas.{domains_more}
use Rattle.vm_steer_charts.proofs.values.add_domains.Goals as goal

pub loop-place-preserved : goal.loop-place-preserved
loop-place-preserved c =
    let names = c.args.row.now.names in
    let same : map (λ (n : Vec ℕ Global). n.items) c.row.inside.names.items ≡ names = ap (λ (r : Row). r.names) c.row.view_is in
    let all : length (map (λ (n : Vec ℕ Global). n.items) c.row.inside.names.items) ≡ length c.row.inside.names.items = length-map c.row.inside.names.items (λ (n : Vec ℕ Global). n.items) in
    let less : c.loop-place.place < length names = omega (arith, c.loop-place-test.true, c.len-place-end.ensures, all, ap (λ (l : List (List ℕ)). length l) same) in
    record {
      added = domains_more _ _ _ names c.args.row.now.numbers c.loop-place.place c.name_at.result.now c.numbers_at.result
          less
          (c.name_at.ensures ∙ ap (λ (l : List (Vec ℕ Global)). get_or (map (λ (n : Vec ℕ Global). n.items) l) c.loop-place.place []) c.deref.ensures.value
          ∙ ap (λ (l : List (List ℕ)). get_or l c.loop-place.place []) same)
          c.numbers_at.ensures c.in_ok-add_steered.ensures.added c.loop-place.invariant.added;
      rising = c.in_ok-add_steered.ensures.rising;
    }

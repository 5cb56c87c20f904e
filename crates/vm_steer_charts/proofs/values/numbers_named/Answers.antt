use Rattle.std.proofs.Common.{◌≡◌, ◌∙◌, List, ℕ, Vec, Global, ap, map, subst, sym}
use Rattle.vm_steer.specs.Names.{AreRising}
use Rattle.vm_steer_charts.specs.Rows.{Row}
use Rattle.vm_steer_charts.specs.Values.{found_at}
use Rattle.vm_steer_charts.proofs.PlaceLemmas.{named_not, named_there}
use Rattle.vm_steer_charts.proofs.values.numbers_named.Goals as goal

pub returns-in-Some : goal.returns-in-Some
returns-in-Some c =
    let name = c.args.name.now in
    let same : map (λ (n : Vec ℕ Global). n.items) c.row.inside.names.items ≡ c.args.row.now.names = ap (λ (r : Row). r.names) c.row.view_is in
    c.numbers_at.ensures
    ∙ named_there c.args.row.now.names c.args.row.now.numbers name c.in-Some.place (subst AreRising same c.row.invariant)
    (sym c.in-Some.is ∙ c.find_name.ensures ∙ ap (λ (l : List (Vec ℕ Global)). found_at (map (λ (n : Vec ℕ Global). n.items) l) name) c.deref.ensures.value
    ∙ ap (λ (l : List (List ℕ)). found_at l name) same)

pub returns-in-None : goal.returns-in-None
returns-in-None c =
    let name = c.args.name.now in
    let same : map (λ (n : Vec ℕ Global). n.items) c.row.inside.names.items ≡ c.args.row.now.names = ap (λ (r : Row). r.names) c.row.view_is in
    named_not c.args.row.now.names c.args.row.now.numbers name (subst AreRising same c.row.invariant)
    (sym c.in-None.is ∙ c.find_name.ensures ∙ ap (λ (l : List (Vec ℕ Global)). found_at (map (λ (n : Vec ℕ Global). n.items) l) name) c.deref.ensures.value
    ∙ ap (λ (l : List (List ℕ)). found_at l name) same)

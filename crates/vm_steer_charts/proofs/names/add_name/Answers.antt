use Rattle.std.proofs.Common.{◌≡◌, ◌∙◌, List, ℕ, Vec, Global, true, false, map, ap, subst, sym}
use Rattle.std.specs.List.{insert}
use Rattle.vm_steer.specs.Names.{place_of, stands_at, AreRising}
use Rattle.vm_steer.proofs.OrderLemmas.{map-insert}
use Rattle.vm_steer_charts.proofs.PlaceLemmas.{added_here, added_there, inserted_rising}
use Rattle.vm_steer_charts.proofs.names.add_name.Goals as goal

pub returns-in_ok-insert-clause-added : goal.returns-in_ok-insert-clause-added
returns-in_ok-insert-clause-added c =
    let names = map (λ (n : Vec ℕ Global). n.items) c.args.names.now.items in
    let name = c.args.name.now in
    let place = c.place_of-place.result in
    let at : place ≡ place_of names name = c.place_of-place.ensures.exact ∙ ap (λ (l : List (Vec ℕ Global)). place_of (map (λ (n : Vec ℕ Global). n.items) l) name) c.deref.ensures.value in
    let no : stands_at names place name ≡ false = ap (λ (l : List (Vec ℕ Global)). stands_at (map (λ (n : Vec ℕ Global). n.items) l) place name) (sym c.deref-2.ensures.value) ∙ (sym c.is_at.ensures ∙ c.if-not-is_at.true) in
    ap (λ (l : List (Vec ℕ Global)). map (λ (n : Vec ℕ Global). n.items) l) c.in_ok-insert.ensures.items
    ∙ (map-insert (λ (n : Vec ℕ Global). n.items) c.args.names.now.items place _
    ∙ (ap (λ (n : List ℕ). insert names place n) c.in_ok-from_slice.ensures.items
    ∙ added_here names name place at no))

pub returns-in_ok-insert-clause-rising : goal.returns-in_ok-insert-clause-rising
returns-in_ok-insert-clause-rising c =
    let names = map (λ (n : Vec ℕ Global). n.items) c.args.names.now.items in
    let name = c.args.name.now in
    let place = c.place_of-place.result in
    let at : place ≡ place_of names name = c.place_of-place.ensures.exact ∙ ap (λ (l : List (Vec ℕ Global)). place_of (map (λ (n : Vec ℕ Global). n.items) l) name) c.deref.ensures.value in
    subst AreRising
    (sym (ap (λ (l : List (Vec ℕ Global)). map (λ (n : Vec ℕ Global). n.items) l) c.in_ok-insert.ensures.items
    ∙ (map-insert (λ (n : Vec ℕ Global). n.items) c.args.names.now.items place _
    ∙ ap (λ (n : List ℕ). insert names place n) c.in_ok-from_slice.ensures.items)))
    (inserted_rising names name place at c.requires.rising)

pub returns-else-not-is_at-clause-added : goal.returns-else-not-is_at-clause-added
returns-else-not-is_at-clause-added c =
    let names = map (λ (n : Vec ℕ Global). n.items) c.args.names.now.items in
    let name = c.args.name.now in
    let place = c.place_of-place.result in
    let at : place ≡ place_of names name = c.place_of-place.ensures.exact ∙ ap (λ (l : List (Vec ℕ Global)). place_of (map (λ (n : Vec ℕ Global). n.items) l) name) c.deref.ensures.value in
    let there : stands_at names place name ≡ true = ap (λ (l : List (Vec ℕ Global)). stands_at (map (λ (n : Vec ℕ Global). n.items) l) place name) (sym c.deref-2.ensures.value) ∙ (sym c.is_at.ensures ∙ c.if-not-is_at.false) in
    added_there names name place at there

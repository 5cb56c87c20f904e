use Rattle.std.proofs.Common.{◌≡◌, ◌∙◌, List, ℕ, Bor, map, ap, subst, sym}
use Rattle.std.specs.List.{insert}
use Rattle.vm_samples.specs.Samples.{DomainView}
use Rattle.vm_steer.specs.Names.{place_of, AreRising}
use Rattle.vm_steer.specs.Order.{names_of}
use Rattle.vm_steer.proofs.OrderLemmas.{map-insert, placed_both, placed_rising}
use Rattle.vm_steer.proofs.order.place.Goals as goal

pub returns-clause-placed : goal.returns-clause-placed
returns-clause-placed c =
    let d = c.args.domain.now in
    let es = map (λ (e : Bor DomainView). e.now) c.args.ordered.now.domains.items in
    let ns = map (λ (n : Bor (List ℕ)). n.now) c.args.ordered.now.names.items in
    let at : c.place_of-place.result ≡ place_of ns d.name = c.place_of-place.ensures.exact ∙ (λ i. place_of (map (λ (n : Bor (List ℕ)). n.now) (c.deref.ensures.value i)) (c.name_of-name.ensures i)) in
    ap (λ (l : List (Bor DomainView)). map (λ (e : Bor DomainView). e.now) l) c.in_ok-insert-2.ensures.items
    ∙ (map-insert (λ (e : Bor DomainView). e.now) c.args.ordered.now.domains.items c.place_of-place.result _
    ∙ (placed_both d ns es c.place_of-place.result c.requires.names at).0)

pub returns-clause-rising : goal.returns-clause-rising
returns-clause-rising c =
    let d = c.args.domain.now in
    let es = map (λ (e : Bor DomainView). e.now) c.args.ordered.now.domains.items in
    subst (λ (l : List DomainView). AreRising (names_of l)) (sym (returns-clause-placed c)) (placed_rising d es c.requires.rising)

pub returns-clause-names : goal.returns-clause-names
returns-clause-names c =
    let d = c.args.domain.now in
    let es = map (λ (e : Bor DomainView). e.now) c.args.ordered.now.domains.items in
    let ns = map (λ (n : Bor (List ℕ)). n.now) c.args.ordered.now.names.items in
    let place = c.place_of-place.result in
    let at : place ≡ place_of ns d.name = c.place_of-place.ensures.exact ∙ (λ i. place_of (map (λ (n : Bor (List ℕ)). n.now) (c.deref.ensures.value i)) (c.name_of-name.ensures i)) in
    let both = placed_both d ns es place c.requires.names at in
    ap (λ (l : List (Bor (List ℕ))). map (λ (n : Bor (List ℕ)). n.now) l) c.in_ok-insert.ensures.items
    ∙ (map-insert (λ (n : Bor (List ℕ)). n.now) c.args.ordered.now.names.items place _
    ∙ (ap (λ (n : List ℕ). insert ns place n) c.name_of-name.ensures
    ∙ (both.1 ∙ ap names_of (both.0 ∙ sym (returns-clause-placed c)))))

use Rattle.std.proofs.Common.{◌≡◌, ◌∙◌, List, ℕ, Bor, length, map, ap, arith, subst, sym}
use Rattle.std.proofs.lemmas.List.{length-map}
use Rattle.vm_samples.specs.Samples.{DomainView}
use Rattle.vm_steer.specs.Entries.{ToldView, names_in}
use Rattle.vm_steer.specs.Names.{AreRising}
use Rattle.vm_steer.specs.Order.{in_order, names_of}
use Rattle.vm_steer.specs.Told.{told_by}
use Rattle.vm_steer.proofs.OrderLemmas.{length-in_order}
use Rattle.vm_steer.proofs.StepLemmas.{ok_more, rising_told, sights_named}
use Rattle.vm_steer.proofs.steering.next_told.Goals as goal

pub look_around-requires-clause-few : goal.look_around-requires-clause-few
look_around-requires-clause-few c =
    let wide : length (map (λ (d : Bor DomainView). d.now) c.in_ok-ordered.ordered.domains.items) ≡ length c.in_ok-ordered.ordered.domains.items = length-map c.in_ok-ordered.ordered.domains.items (λ (d : Bor DomainView). d.now) in
    let all : length (map (λ (d : Bor DomainView). d.now) c.in_ok-ordered.ordered.domains.items) ≡ length c.args.domains.now = ap length c.in_ok-ordered.ensures.domains ∙ length-in_order c.args.domains.now in
    omega (arith, wide, all, c.requires.few)

pub told_by-requires-clause-all : goal.told_by-requires-clause-all
told_by-requires-clause-all c =
    let domains = map (λ (d : Bor DomainView). d.now) c.in_ok-ordered.ordered.domains.items in
    sights_named c.args.policy.now c.deref.result.now domains (in_order c.args.domains.now) c.in_ok-ordered.ordered.names.items c.in_ok-around.around.sights.items c.in_ok-around.ensures.sights c.in_ok-ordered.ensures.domains
    c.in_ok-ordered.ensures.names
    ∙ sym (ap length c.deref-2.ensures.value)

pub returns-clause-rising : goal.returns-clause-rising
returns-clause-rising c =
    let names = map (λ (n : Bor (List ℕ)). n.now) c.deref-2.result.now in
    let sights = c.in_ok-around.around.sights.items in
    let same : names ≡ names_of (in_order c.args.domains.now) = ap (λ (l : List (Bor (List ℕ))). map (λ (n : Bor (List ℕ)). n.now) l) c.deref-2.ensures.value ∙ c.in_ok-ordered.ensures.names in
    let domains = map (λ (d : Bor DomainView). d.now) c.in_ok-ordered.ordered.domains.items in
    let wide : length sights ≡ length names =
    sights_named c.args.policy.now c.deref.result.now domains (in_order c.args.domains.now) c.in_ok-ordered.ordered.names.items sights c.in_ok-around.ensures.sights c.in_ok-ordered.ensures.domains c.in_ok-ordered.ensures.names
    ∙ (sym (ap length c.deref-2.ensures.value) ∙ sym (length-map c.deref-2.result.now (λ (n : Bor (List ℕ)). n.now))) in
    let rises = rising_told c.args.policy.now c.last.inside.state names sights wide (subst AreRising (sym same) c.in_ok-ordered.ensures.rising) in
    ok_more c.told_by.result (λ told. told ≡ told_by c.args.policy.now c.last.inside.state names sights) (λ told. AreRising (names_in told.domains))
    (λ told is. subst (λ (t : ToldView). AreRising (names_in t.domains)) (sym is) rises) c.told_by.ensures

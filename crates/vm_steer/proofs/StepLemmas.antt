-- From one sample to the next.
use Rattle.std.proofs.Common.{◌≡◌, ◌∙◌, ℕ, Bor, List, length, map, ap, subst, sym}
use Rattle.std.proofs.lemmas.List.{length-map}
use Rattle.vm_plan.specs.declared.state.State.{State}
use Rattle.vm_samples.specs.Policies.{PolicyView}
use Rattle.vm_samples.specs.Samples.{DomainView}
use Rattle.std.specs.Prelude.{IfOk, Result, Ok, Err}
use Rattle.vm_steer.specs.declared.fate.LeftDomain.{LeftDomain}
use Rattle.vm_steer.specs.Entries.{EntryView, names_in, remembered_in}
use Rattle.vm_steer.specs.Names.{AreRising}
use Rattle.vm_steer.specs.NumbersView.{NumbersView}
use Rattle.vm_steer.specs.Order.{names_of}
use Rattle.vm_steer.specs.Told.{sight_of, sights_of, told_by}
use Rattle.vm_steer.proofs.EntryLemmas.{names_stay}

-- as many are seen as have names
pub sights_wide : (policy : PolicyView) (last : List EntryView) (domains : List DomainView) → length (sights_of policy last domains) ≡ length (names_of domains)
sights_wide policy last domains =
    length-map domains (λ (d : DomainView). sight_of policy (names_of domains) (remembered_in last d.name) d) ∙ sym (length-map domains (λ (d : DomainView). d.name))

-- .. in order, where the names are lent
pub sights_named : (policy : PolicyView) (last : List EntryView) (domains ordered : List DomainView) (names : List (Bor (List ℕ))) (sights : List (Result NumbersView LeftDomain)) → sights ≡ sights_of policy last domains → domains ≡ ordered
    → map (λ n. n.now) names ≡ names_of ordered → length sights ≡ length names
sights_named policy last domains ordered names sights seen same named =
    ap length seen
    ∙ (sights_wide policy last domains
    ∙ (ap (λ (l : List DomainView). length (names_of l)) same
    ∙ (sym (ap length named) ∙ length-map names (λ (n : Bor (List ℕ)). n.now))))

-- what is told has the names, in order
pub rising_told : (policy : PolicyView) (last : State) (names : List (List ℕ)) (sights : List (Result NumbersView LeftDomain)) → length sights ≡ length names → AreRising names → AreRising (names_in (told_by policy last names sights).domains)
unfolding told_by
rising_told policy last names sights same r = subst AreRising (sym (names_stay policy _ names sights _ same)) r

pub ok_more : {T E : Type 0} (r : Result T E) (P Q : T → Type 0) → ((x : T) → P x → Q x) → IfOk r P → IfOk r Q
ok_more (Ok x) P Q more h = more x h
ok_more (Err e) P Q more h = tt

-- Guests that are taken out of a configuration, changed and put back.
use Rattle.std.proofs.Common.{◌≡◌, ℕ, zero, suc, List, [], ◌∷◌, map, length, All, Result, Ok, Err, OnOk, OnErr, refl, ap, sym, ◌∙◌}
use Rattle.vm_guest.specs.Config.{GuestConfig, IsWithinLimits}
use Rattle.vm_domains.specs.Domains.{ArePaired, Domain, configs_of, domains_of, names_of}
use Rattle.vm_config.specs.declared.config.Config.{Config}
use Rattle.vm_variants.specs.Variants.{changed_at, reconfigured}

pub same-parts : (ds : List Domain) → domains_of (names_of ds) (configs_of ds) ≡ ds
same-parts [] = refl
same-parts (d ∷ ds) = ap (λ rest. d ∷ rest) (same-parts ds)

pub each-part : (change : GuestConfig → GuestConfig) (ds : List Domain)
    → domains_of (names_of ds) (map change (configs_of ds)) ≡ map (reconfigured change) ds
each-part change [] = refl
each-part change (d ∷ ds) = ap (λ rest. reconfigured change d ∷ rest) (each-part change ds)

pub part-at : (place : ℕ) (change : GuestConfig → GuestConfig) (ds : List Domain)
    → domains_of (names_of ds) (changed_at place change (configs_of ds)) ≡ changed_at place (reconfigured change) ds
part-at place change [] = refl
part-at zero change (d ∷ ds) = ap (λ rest. reconfigured change d ∷ rest) (same-parts ds)
part-at (suc place) change (d ∷ ds) = ap (λ rest. d ∷ rest) (part-at place change ds)

-- the configurations of changed domains
pub configs-each : (change : GuestConfig → GuestConfig) (ds : List Domain) → configs_of (map (reconfigured change) ds) ≡ map change (configs_of ds)
configs-each change [] = refl
configs-each change (d ∷ ds) = ap (λ rest. change d.config ∷ rest) (configs-each change ds)

pub configs-changed : (place : ℕ) (change : GuestConfig → GuestConfig) (ds : List Domain)
    → configs_of (changed_at place (reconfigured change) ds) ≡ changed_at place change (configs_of ds)
configs-changed place change [] = refl
configs-changed zero change (d ∷ ds) = refl
configs-changed (suc place) change (d ∷ ds) = ap (λ rest. d.config ∷ rest) (configs-changed place change ds)

-- the same names have other configurations, as many, which keep their limits
pub paired-anew : (names : List (List ℕ)) (configs others : List GuestConfig) → ArePaired names configs → length others ≡ length configs
    → All IsWithinLimits others → ArePaired names others
paired-anew names configs others paired many limits = record {
  paired = paired.paired ∙ sym many;
  few = rw many paired.few;
  limits = limits;
}

-- ---- what comes of the configuration

-- guests were taken out, and others put back
pub put-back : (old taken put : Config) (names : List (List ℕ)) (configs others : List GuestConfig) (ds : List Domain)
    → taken ≡ record old { domains = [] } → names ≡ names_of old.domains → configs ≡ others → domains_of (names_of old.domains) others ≡ ds
    → put ≡ record taken { domains = domains_of names configs } → put ≡ record old { domains = ds }
put-back old taken put names configs others ds takes named same becomes puts =
    puts ∙ (λ i. record (takes i) { domains = domains_of (named i) (same i) }) ∙ ap (λ (ds : List Domain). record old { domains = ds }) becomes

-- the same ones
pub put-same : (old taken put : Config) (names : List (List ℕ)) (configs : List GuestConfig)
    → taken ≡ record old { domains = [] } → names ≡ names_of old.domains → configs ≡ configs_of old.domains
    → put ≡ record taken { domains = domains_of names configs } → put ≡ old
put-same old taken put names configs takes named same puts =
    put-back old taken put names configs (configs_of old.domains) old.domains takes named same (same-parts old.domains) puts

pub on-ok : {A E : Type 0} (r : Result A E) (P Q : Type 0) → (P → Q) → OnOk r P → OnOk r Q
on-ok (Ok x) P Q next is = next is
on-ok (Err e) P Q next is = tt

pub on-err : {A E : Type 0} (r : Result A E) (P Q : Type 0) → (P → Q) → OnErr r P → OnErr r Q
on-err (Ok x) P Q next is = tt
on-err (Err e) P Q next is = next is

-- What a call leaves in a body: nothing yet, one name more, or all as it was.
use Rattle.std.proofs.Common.{◌≡◌, ◌∙◌, ℕ, List, [], ◌∷◌, ◌++◌, length, map, Result, Ok, Err, OnErr, true, sym, ap, subst, arith}
use Rattle.std.proofs.lemmas.List.{map-append}
use Rattle.std.proofs.lemmas.List.Elements.{All-nil}
use Rattle.std.specs.Result.{is_err}
use Rattle.vm_guest.specs.Config.{GuestConfig, IsWithinLimits}
use Rattle.vm_domains.specs.Domains.{Domain, domains_of, ArePaired}

pub left-err : {A E : Type 0} (r : Result A E) (P : Type 0) → is_err r ≡ true → OnErr r P → P
left-err (Ok x) P told is = absurd cc
left-err (Err e) P told is = is

pub views-none : {A B : Type 0} (view : A → B) (xs : List A) → xs ≡ [] → map view xs ≡ []
views-none view xs none = ap (map view) none

pub views-push : {A B : Type 0} (view : A → B) (xs after : List A) (x : A) (views : List B) (value : B)
    → after ≡ xs ++ x ∷ [] → map view xs ≡ views → view x ≡ value → map view after ≡ views ++ value ∷ []
views-push view xs after x views value pushed before last =
    ap (map view) pushed ∙ map-append view xs (x ∷ []) ∙ (λ i. before i ++ last i ∷ [])

pub paired-none : (names : List (List ℕ)) (configs : List GuestConfig) → names ≡ [] → configs ≡ [] → ArePaired names configs
paired-none names configs no_name none =
    let empty : length configs ≡ 0 = ap length none in
    record {
      paired = ap length no_name ∙ sym empty;
      few = omega (arith, empty);
      limits = rw none (All-nil IsWithinLimits);
    }

pub domains_of-none : (names : List (List ℕ)) (configs : List GuestConfig) → names ≡ [] → domains_of names configs ≡ []
domains_of-none names configs none = ap (λ (names : List (List ℕ)). domains_of names configs) none

pub paired-as_before : (names new_names : List (List ℕ)) (configs new_configs : List GuestConfig)
    → new_names ≡ names → new_configs ≡ configs → ArePaired names configs → ArePaired new_names new_configs
paired-as_before names new_names configs new_configs same_names same paired =
    subst (λ (names : List (List ℕ)). ArePaired names new_configs) (sym same_names)
    (subst (λ (configs : List GuestConfig). ArePaired names configs) (sym same) paired)

pub domains_of-as_before : (names new_names : List (List ℕ)) (configs new_configs : List GuestConfig) (domains : List Domain)
    → new_names ≡ names → new_configs ≡ configs → domains_of names configs ≡ domains → domains_of new_names new_configs ≡ domains
domains_of-as_before names new_names configs new_configs domains same_names same before =
    (λ i. domains_of (same_names i) (same i)) ∙ before

-- For callers: names and configurations, side by side.
use Rattle.std.proofs.Common.{◌≡◌, ℕ, List, [], ◌∷◌, ◌++◌, length, refl, ap, arith}
use Rattle.vm_guest.specs.Config.{GuestConfig}
use Rattle.vm_domains.specs.Domains.{configs_of, domains_of, names_of}

pub names_of-domains_of : (names : List (List ℕ)) (configs : List GuestConfig) → length names ≡ length configs → names_of (domains_of names configs) ≡ names
names_of-domains_of [] configs same = refl
names_of-domains_of (name ∷ names) [] same = absurd (omega (arith, same))
names_of-domains_of (name ∷ names) (config ∷ configs) same = ap (λ rest. name ∷ rest) (names_of-domains_of names configs (omega (arith, same)))

pub configs_of-domains_of : (names : List (List ℕ)) (configs : List GuestConfig) → length names ≡ length configs → configs_of (domains_of names configs) ≡ configs
configs_of-domains_of [] [] same = refl
configs_of-domains_of [] (config ∷ configs) same = absurd (omega (arith, same))
configs_of-domains_of (name ∷ names) [] same = absurd (omega (arith, same))
configs_of-domains_of (name ∷ names) (config ∷ configs) same = ap (λ rest. config ∷ rest) (configs_of-domains_of names configs (omega (arith, same)))

pub length-domains_of : (names : List (List ℕ)) (configs : List GuestConfig) → length names ≡ length configs → length (domains_of names configs) ≡ length configs
length-domains_of [] [] same = refl
length-domains_of [] (config ∷ configs) same = absurd (omega (arith, same))
length-domains_of (name ∷ names) [] same = absurd (omega (arith, same))
length-domains_of (name ∷ names) (config ∷ configs) same =
    let rest = length-domains_of names configs (omega (arith, same)) in omega (arith, rest)

pub domains_of-push : (names : List (List ℕ)) (configs : List GuestConfig) (name : List ℕ) (config : GuestConfig) → length names ≡ length configs
    → domains_of (names ++ name ∷ []) (configs ++ config ∷ []) ≡ domains_of names configs ++ record { name = name; config = config } ∷ []
domains_of-push [] [] name config same = refl
domains_of-push [] (first ∷ configs) name config same = absurd (omega (arith, same))
domains_of-push (first ∷ names) [] name config same = absurd (omega (arith, same))
domains_of-push (first ∷ names) (other ∷ configs) name config same =
    ap (λ rest. record { name = first; config = other } ∷ rest) (domains_of-push names configs name config (omega (arith, same)))

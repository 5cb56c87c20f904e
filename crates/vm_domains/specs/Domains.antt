-- The guests that a host may run.
use Rattle.std.specs.Prelude.{◌≡◌, ℕ, ◌≤◌, All, List, [], ◌∷◌, map, length, Option, position, bytes_eq}
use Rattle.vm_guest.specs.Config.{GuestConfig, IsWithinLimits}

-- a guest by its name, as it is set up (a domain, in the words of virsh)
pub record Domain : Type 0 where
  -- the bytes of the name
  pub name : List ℕ
  pub config : GuestConfig

-- the domains of these names, one for each of these configurations
abbrev pub domains_of : List (List ℕ) → List GuestConfig → List Domain
domains_of [] configs = []
domains_of (name ∷ names) [] = []
domains_of (name ∷ names) (config ∷ configs) = record { name = name; config = config } ∷ domains_of names configs

-- the names alone, in order
abbrev pub names_of : List Domain → List (List ℕ)
names_of domains = map (λ d. d.name) domains

-- the configurations alone, in order
abbrev pub configs_of : List Domain → List GuestConfig
configs_of domains = map (λ d. d.config) domains

-- the place of a name, counted from 0
abbrev pub place_of : List ℕ → List (List ℕ) → Option ℕ
place_of name names = position (bytes_eq name) names

-- the place of the domain with a name
abbrev pub position_of : List ℕ → List Domain → Option ℕ
position_of name domains = place_of name (names_of domains)

-- there is a configuration for each name, which keeps its limits, and no more of them than a host runs
pub record ArePaired (names : List (List ℕ)) (configs : List GuestConfig) : Type 0 where
  pub paired : length names ≡ length configs
  pub few : length configs ≤ 256
  pub limits : All IsWithinLimits configs

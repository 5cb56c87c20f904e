-- Domains in the order of their names.
use Rattle.std.specs.Prelude.{ℕ, List, [], ◌∷◌, map, if◌then◌else◌}
use Rattle.vm_samples.specs.Samples.{DomainView}
use Rattle.vm_steer.specs.Names.{is_before}

-- a domain in front of the first whose name doesn't stand in front of its own
abbrev pub placed : DomainView → List DomainView → List DomainView
placed d [] = d ∷ []
placed d (e ∷ es) = if is_before e.name d.name then e ∷ placed d es else d ∷ e ∷ es

-- in the order of their names, those of one name in the sample's
abbrev pub in_order : List DomainView → List DomainView
in_order [] = []
in_order (d ∷ ds) = placed d (in_order ds)

-- the names of domains
abbrev pub names_of : List DomainView → List (List ℕ)
names_of domains = map (λ d. d.name) domains

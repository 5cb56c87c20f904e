-- The limits of the domains that a host is set up from.
use Rattle.std.specs.Prelude.{All, List}
use Rattle.vm_guest.specs.Config.{IsWithinLimits}
use Rattle.vm_domains.specs.Domains.{Domain}

-- each domain keeps the limits of a guest
abbrev pub AreWithinLimits : List Domain → Type 0
AreWithinLimits domains = All (λ d. IsWithinLimits d.config) domains

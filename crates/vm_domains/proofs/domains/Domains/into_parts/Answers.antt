use Rattle.std.proofs.Common.{sym}
use Rattle.vm_domains.proofs.DomainLemmas.{configs_of-domains_of, names_of-domains_of}
use Rattle.vm_domains.proofs.domains.Domains.into_parts.Goals as goal

pub returns-clause-names : goal.returns-clause-names
returns-clause-names c = rw (← c.self.view_is) (sym (names_of-domains_of c.self.inside.names c.self.inside.specs.items c.self.invariant.paired))

pub returns-clause-configs : goal.returns-clause-configs
returns-clause-configs c = rw (← c.self.view_is) (sym (configs_of-domains_of c.self.inside.names c.self.inside.specs.items c.self.invariant.paired))

pub returns-clause-parts : goal.returns-clause-parts
returns-clause-parts c = c.self.view_is

pub returns-clause-paired : goal.returns-clause-paired
returns-clause-paired c = c.self.invariant

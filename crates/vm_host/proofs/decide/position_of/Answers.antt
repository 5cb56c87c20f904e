use Rattle.std.proofs.Common.{◌∙◌, ℕ, List, Option, ap}
use Rattle.std.specs.Option.{ok_or}
use Rattle.vm_domains.specs.Domains.{place_of}
use Rattle.vm_host.specs.declared.boundary.Refusal.TheVariants.{NoSuchDomain}
use Rattle.vm_host.proofs.decide.position_of.Goals as goal

pub returns : goal.returns
returns c =
    let names = c.args.parts.now.names in
    c.ok_or.ensures.value ∙ ap (λ (o : Option ℕ). ok_or o NoSuchDomain) (c.position.ensures ∙ ap (λ (name : List ℕ). place_of name names) c.as_str.ensures)

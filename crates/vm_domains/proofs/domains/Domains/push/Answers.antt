use Rattle.std.proofs.Common.{◌≡◌, ◌<◌, ◌∙◌, All, [], ◌∷◌, ◌++◌, refl, sym, subst, ap, arith, length, length-append, rules, List}
use Rattle.std.proofs.lemmas.List.Elements.{All-push}
use Rattle.vm_guest.specs.Config.{GuestConfig, IsWithinLimits}
use Rattle.vm_domains.specs.Domains.{place_of}
use Rattle.vm_domains.proofs.DomainLemmas.{names_of-domains_of, length-domains_of, domains_of-push}
use Rattle.vm_domains.proofs.StepLemmas.{domains_of-as_before, left-err, paired-as_before}
use Rattle.vm_domains.proofs.domains.Domains.push.Goals as goal
use Rattle.vm_domains.proofs.domains.Domains.push.Goals.{then-is_err-via-then-is_err, then-is_err-via-else-is_err+then-is_err-2}

pub push-requires : goal.push-requires
push-requires c =
    sym (ap (place_of c.args.name.now) (names_of-domains_of _ _ c.self.invariant.paired)) ∙ (rw (← c.self.view_is) at c.requires.new_name)

pub invariant_of-self-2 : goal.invariant_of-self-2
invariant_of-self-2 c =
    let paired = c.self.invariant.paired in
    let few : length c.self.inside.specs.items < 256 =
    rw (length-domains_of c.self.inside.names c.self.inside.specs.items paired) at (rw (← c.self.view_is) at c.requires.few) in
    let within = subst IsWithinLimits c.spec.view_is c.spec.invariant in
    let limits = All-push IsWithinLimits c.self.inside.specs.items c.args.spec c.self.invariant.limits within in
    let whole : c.push_reserved.new.self.items ≡ c.self.inside.specs.items ++ c.args.spec ∷ [] = cc in
    record {
      paired = grind (arith, rules, length-append, paired);
      few = grind (arith, rules, length-append, few);
      limits = subst (λ (configs : List GuestConfig). All IsWithinLimits configs) (sym whole) limits;
    }

pub returns-clause-ok : goal.returns-clause-ok
returns-clause-ok c =
    rw (← c.self.view_is) (grind (rules, domains_of-push c.self.inside.names c.self.inside.specs.items c.args.name.now c.args.spec c.self.invariant.paired))

pub invariant_of-self-then-is_err-2 : goal.invariant_of-self-then-is_err-2
invariant_of-self-then-is_err-2 c =
    let refused = sym c.is_err-else-is_err.ensures.value ∙ c.if-is_err-2.true in
    let names = left-err c.push.result (c.push.new.self ≡ c.self.inside.names) refused c.push.ensures.err in
    paired-as_before _ _ _ _ names c.reserve.ensures.items c.self.invariant

pub returns-then-is_err-clause-err : goal.returns-then-is_err-clause-err
returns-then-is_err-clause-err c =
    elim c.then-is_err.branch [
      | then-is_err-via-then-is_err w ↦ w.self-is ∙ domains_of-as_before _ _ _ _ _ refl (assumption) c.self.view_is
      | then-is_err-via-else-is_err+then-is_err-2 w ↦
          let refused = sym w.is_err-else-is_err.ensures.value ∙ w.if-is_err-2.true in
          let names = left-err _ (_ ≡ c.self.inside.names) refused w.push.ensures.err in
          w.self-is ∙ domains_of-as_before _ _ _ _ _ names (assumption) c.self.view_is
    ]

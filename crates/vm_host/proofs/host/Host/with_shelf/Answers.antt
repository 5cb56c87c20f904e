use Rattle.std.proofs.Common.{◌≡◌, ◌∙◌, All, List, ap, arith, subst, sym}
use Rattle.vm_admission.specs.Accounts.{empty_accounts}
use Rattle.vm_domains.specs.Domains.{configs_of, domains_of}
use Rattle.vm_domains.specs.Machine.{IsMachine, MachineConfig}
use Rattle.vm_domains.proofs.DomainLemmas.{configs_of-domains_of, length-domains_of, names_of-domains_of}
use Rattle.vm_guest.specs.Config.{GuestConfig, IsWithinLimits}
use Rattle.vm_plan.specs.declared.state.State.TheVariants.{High}
use Rattle.vm_pool.specs.Pool.{first_pool}
use Rattle.vm_host.specs.declared.phase.Phase.TheVariants.{Waiting}
use Rattle.vm_host.specs.Books.{books_of}
use Rattle.vm_host.specs.Parts.{world_of}
use Rattle.vm_host.specs.Sound.{IsSoundWorld}
use Rattle.vm_host.specs.World.{World, first_world}
use Rattle.vm_host.proofs.FirstLemmas.{books-first, sound-first}
use Rattle.vm_host.proofs.SoundLemmas.{paired-domains}
use Rattle.vm_host.proofs.host.Host.with_shelf.Goals as goal

pub returns-in-Ok-clause-first : goal.returns-in-Ok-clause-first
returns-in-Ok-clause-first c =
    let spec = c.args.spec in
    let names = c.into_parts-names.result.0 in
    let specs = c.into_parts-names.result.1.items in
    let paired = c.into_parts-names.ensures.paired.paired in
    let frames = ap (λ (m : MachineConfig). m.frames) c.spec.view_is in
    let overhead = ap (λ (m : MachineConfig). m.overhead) c.spec.view_is in
    let named = sym (names_of-domains_of names specs paired) in
    let configs = sym (configs_of-domains_of names specs paired) in
    let pool : c.in-Ok.pool ≡ first_pool spec.frames spec.overhead (configs_of (domains_of names specs)) =
    c.in-Ok.ensures.first ∙ (λ i. first_pool (frames i) (overhead i) (configs i)) in
    c.first_parts.ensures
    ∙ ((λ i. record { machine = spec; names = named i; pool = pool i; state = High; phase = Waiting }) ∙ ap (first_world spec) c.into_parts-names.ensures.parts)

pub invariant_of-result : goal.invariant_of-result
invariant_of-result c =
    let spec = c.args.spec in
    let names = c.into_parts-names.result.0 in
    let specs = c.into_parts-names.result.1.items in
    let domains = domains_of names specs in
    let paired = c.into_parts-names.ensures.paired.paired in
    let few = c.into_parts-names.ensures.paired.few in
    let frames = ap (λ (m : MachineConfig). m.frames) c.spec.view_is in
    let overhead = ap (λ (m : MachineConfig). m.overhead) c.spec.view_is in
    let named = sym (names_of-domains_of names specs paired) in
    let configs = sym (configs_of-domains_of names specs paired) in
    let pool : c.in-Ok.pool ≡ first_pool spec.frames spec.overhead (configs_of domains) =
    c.in-Ok.ensures.first ∙ (λ i. first_pool (frames i) (overhead i) (configs i)) in
    let machine : IsMachine spec = subst IsMachine c.spec.view_is c.spec.invariant in
    let long = length-domains_of names specs paired in
    let limits = subst (λ (list : List GuestConfig). All IsWithinLimits list) configs c.into_parts-names.ensures.paired.limits in
    let is : world_of c.first_parts.result ≡ first_world spec domains =
    c.first_parts.ensures ∙ (λ i. record { machine = spec; names = named i; pool = pool i; state = High; phase = Waiting }) in
    let sound = subst (λ (w : World). IsSoundWorld w) (sym is) (sound-first spec domains machine (omega (arith, long, few)) limits) in
    record {
      paired = paired-domains _ sound;
      adds_up = sound.conserves;
      sound = λ _. sound;
      booked = λ _. c.new.ensures ∙ (ap (λ (m : MachineConfig). empty_accounts m.frames m.swap m.overhead) c.spec-in-Ok.view_is ∙ (books-first spec domains ∙ ap books_of (sym is)));
    }

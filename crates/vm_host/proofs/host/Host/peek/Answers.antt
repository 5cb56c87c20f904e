use Rattle.std.proofs.Common.{◌∙◌, ap, false, refl, subst, sym}
use Rattle.vm_domains.specs.Domains.{place_of}
use Rattle.vm_pool.specs.Readers.{Peeks}
use Rattle.vm_host.specs.Readers.{page_at, unless_failed}
use Rattle.vm_host.specs.World.{World}
use Rattle.vm_host.specs.declared.phase.Phase.{Phase}
use Rattle.vm_host.proofs.host.Host.peek.Goals as goal

pub returns-in-Failed : goal.returns-in-Failed
returns-in-Failed c =
    let host = c.args.self.now in
    let page = page_at host (place_of c.args.name.now host.names) c.args.page in
    let failed = sym (ap (λ (w : World). w.phase) c.self.view_is) ∙ c.in-Failed.is in
    subst (λ (phase : Phase). Peeks (unless_failed phase page) false c.args.bytes.now c.args.bytes.now) (sym failed) (refl, refl)

use Rattle.std.proofs.Common.{◌≡◌, length, arith, sym, ap, ◌∙◌}
use Rattle.vm_sampling.specs.Drawn.{Drawn}
use Rattle.vm_sampling.proofs.DrawsLemmas.{length-pages_drawn}
use Rattle.vm_sampling.proofs.draws.Draws.len.Goals as goal

pub returns : goal.returns
returns c =
    let inside = c.self.inside in
    let count : c.len.result ≡ length inside.drawn.items = omega (arith, c.len.ensures, inside.drawn.ok.0) in
    count
    ∙ sym (length-pages_drawn inside.due inside.drawn.items inside.size)
    ∙ ap (λ (d : Drawn). length d.pages) c.self.view_is

use Rattle.std.proofs.Common.{◌≡◌, length, arith, sym, ap, ◌∙◌}
use Rattle.vm_sampling.specs.Drawn.{Drawn}
use Rattle.vm_sampling.specs.Words.{draws, words_after}
use Rattle.vm_sampling.proofs.DrawsLemmas.{length-pages_drawn}
use Rattle.vm_sampling.proofs.draws.Draws.renew.Goals as goal

pub returns-clause-pages : goal.returns-clause-pages
returns-clause-pages c =
    let inside = c.self.inside in
    let size = inside.size in
    let count : length inside.drawn.items ≡ length c.args.self.now.pages =
    sym (length-pages_drawn inside.due inside.drawn.items size) ∙ ap (λ (d : Drawn). length d.pages) c.self.view_is in
    let same : size ≡ c.args.self.now.size = ap (λ (d : Drawn). d.size) c.self.view_is in
    let first : c.set_aside.result ≡ c.args.words.now = c.set_aside.ensures.first in
    λ i. record {
      pages = draws (count i) (same i) (first i);
      size = same i;
    }

pub returns-clause-words : goal.returns-clause-words
returns-clause-words c =
    let inside = c.self.inside in
    let count : length inside.drawn.items ≡ length c.args.self.now.pages =
    sym (length-pages_drawn inside.due inside.drawn.items inside.size) ∙ ap (λ (d : Drawn). length d.pages) c.self.view_is in
    let used : c.len.result ≡ length c.args.self.now.pages = omega (arith, c.len.ensures, inside.drawn.ok.0, count) in
    c.set_aside.ensures.words ∙ ap (λ n. words_after n c.args.words.now) used

use Rattle.std.proofs.Common.{◌≡◌, ℕ, length, arith, ap, ◌∙◌}
use Rattle.vm_pages.specs.PageTable.{Items, first_items}
use Rattle.vm_pages.specs.Pages.{no_pages}
use Rattle.vm_sampling.specs.Drawn.{Drawn}
use Rattle.vm_sampling.specs.Marks.{marked}
use Rattle.vm_sampling.specs.Sampling.{Sampling, sampler_of}
use Rattle.vm_sampling.specs.SamplerFields.{sampling}
use Rattle.vm_sampling.proofs.CountsLemmas.{AreSamples-drawn}
use Rattle.vm_sampling.proofs.DrawsLemmas.{length-draws}
use Rattle.vm_sampling.proofs.MarksLemmas.{length-marked, marked-none, marks-none}
use Rattle.vm_sampling.proofs.sampler.Sampler.restart.Goals as goal

pub invariant_of-self : goal.invariant_of-self
invariant_of-self c =
    let inside = c.self.inside in
    let old = c.self.invariant.samples in
    let drawn = c.renew.ensures.pages in
    let count = ap (λ (d : Drawn). length d.pages) drawn ∙ length-draws (length inside.draws.pages) inside.draws.size c.args.words.now in
    let size : c.renew.new.self.size ≡ inside.draws.size = ap (λ (d : Drawn). d.size) drawn in
    let pages : length inside.touched_in.list ≡ c.renew.new.self.size = omega (arith, size, old.same_pages, length-marked inside.number inside.touched_in.list) in
    let table : c.clear.new.self ≡ first_items 0 (length inside.touched_in.list) = c.clear.ensures ∙ ap (λ first. first_items first (length inside.touched_in.list)) c.self.invariant.from_zero in
    let untouched : marked 1 c.clear.new.self.list ≡ no_pages c.renew.new.self.size = rw table (marked-none (length inside.touched_in.list) ∙ ap no_pages pages) in
    record {
      samples = AreSamples-drawn c.renew.new.self _ (omega (arith, count, old.some_drawn)) (omega (arith, count, old.few_drawn)) untouched;
      from_zero = ap (λ (t : Items ℕ). t.first) table;
      marks = rw table (marks-none 1 (length inside.touched_in.list));
      in_period = omega arith;
      short_period = omega arith;
      slow = omega arith;
      fast = omega arith;
    }

pub returns-clause-sampler : goal.returns-clause-sampler
returns-clause-sampler c =
    let inside = c.self.inside in
    let old = c.self.invariant.samples in
    let s = sampling inside in
    let drawn = c.renew.ensures.pages in
    let count = ap (λ (d : Drawn). length d.pages) drawn ∙ length-draws (length inside.draws.pages) inside.draws.size c.args.words.now in
    let size : c.renew.new.self.size ≡ inside.draws.size = ap (λ (d : Drawn). d.size) drawn in
    let pages = ap (λ (d : Drawn). d.pages) drawn in
    let table : c.clear.new.self ≡ first_items 0 (length inside.touched_in.list) = c.clear.ensures ∙ ap (λ first. first_items first (length inside.touched_in.list)) c.self.invariant.from_zero in
    let same : length inside.touched_in.list ≡ inside.draws.size = omega (arith, old.same_pages, length-marked inside.number inside.touched_in.list) in
    let touched : marked 1 c.clear.new.self.list ≡ no_pages inside.draws.size = rw table (marked-none (length inside.touched_in.list) ∙ ap no_pages same) in
    let begun : sampling (record inside {
      draws = c.renew.new.self;
      touched_in = c.clear.new.self;
      number = 1;
      hits = 0;
      period = c.args.period;
      steps = 0;
      slow = 65536;
      fast = 65536;
    }) ≡ sampler_of s.n c.args.period s.size c.args.words.now = λ i. record {
      n = count i;
      period = c.args.period;
      size = size i;
      drawn = pages i;
      touched = touched i;
      steps = 0;
      slow = 65536;
      fast = 65536;
    } in
    begun ∙ ap (λ (t : Sampling). sampler_of t.n c.args.period t.size c.args.words.now) c.self.view_is

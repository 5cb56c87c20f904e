use Rattle.std.proofs.Common.{◌≡◌, ◌<◌, ◌%◌, inl, inr, length, sym, ◌∙◌, arith}
use Rattle.vm_sampling.proofs.CountsLemmas.{class_below, count_alone, undrawn}
use Rattle.vm_sampling.proofs.draws.count_in.Goals as goal

pub returns-else-size-gt-CLASSES : goal.returns-else-size-gt-CLASSES
returns-else-size-gt-CLASSES c =
    let page = c.args.page in
    let drawn = c.args.drawn.now in
    let counts = c.args.counts.now in
    let class = class_below c.args.size page c.requires.in_range in
    let within : page % 4096 < length counts = omega (arith, class, c.requires.all) in
    elim c.else-size-gt-CLASSES.either [
      | inl large ↦
          let none : c.from-count.result ≡ 0 = omega (arith, large.1) in
          none ∙ undrawn drawn counts page within c.requires.counted (sym c.from-count.ensures ∙ none)
      | inr few ↦
          c.from-count.ensures ∙ count_alone drawn counts c.args.size page few c.requires.in_range within c.requires.pages c.requires.counted
    ]

use Rattle.std.proofs.Common.{◌≡◌, ap, rules}
use Rattle.vm_config.specs.declared.config.Config.{Config}
use Rattle.vm_sweep.specs.Orders.{shape_of}
use Rattle.vm_tally.specs.Combinations.{configured}
use Rattle.vm_variants.specs.Changes.{changed}
use Rattle.vm_sweep.proofs.rounds.copied_place.Goals as goal

pub returns : goal.returns
returns c =
    let same : c.in_ok-copy.copy ≡ c.args.config.now = search rules in
    record {
      shape = ap shape_of c.in_ok-seen.ensures;
      config = λ v w alike. ap (λ (d : Config). changed w (configured v d)) same;
    }

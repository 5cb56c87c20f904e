use Rattle.std.proofs.Common.{◌∙◌, ap, subst, sym}
use Rattle.vm_steer.specs.Entries.{ToldView, names_in}
use Rattle.vm_steer.specs.Names.{AreRising}
use Rattle.vm_steer.specs.Steering.{SteeringView}
use Rattle.vm_steer_charts.proofs.SeriesLemmas.{steered_rising}
use Rattle.vm_steer_charts.proofs.series.Series.take.Goals as goal

pub of_told-requires : goal.of_told-requires
of_told-requires c =
    subst (λ (t : ToldView). AreRising (names_in t.domains)) (sym (c.told.ensures ∙ ap (λ (s : SteeringView). s.last) c.in_ok-take.ensures.taken))
    (steered_rising c.self.inside.steering c.args.sample.now)

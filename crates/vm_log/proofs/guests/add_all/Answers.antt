use Rattle.std.proofs.Common.{◌≡◌, ◌∙◌, ◌<◌, arith, length, subst, sym}
use Rattle.vm_steer.specs.Names.{AreRising}
use Rattle.vm_log.specs.Growing.{growing_in}
use Rattle.vm_log.specs.Steps.{alone_names, names_of, with_entries, Growing}
use Rattle.vm_log.proofs.GrowLemmas.{add_next, beside_rising, guests_rising}
use Rattle.vm_log.proofs.guests.add_all.Goals as goal

pub loop-entry-preserved : goal.loop-entry-preserved
loop-entry-preserved c =
    let e = c.entry-item.result in
    let old = growing_in c.loop-entry.recording in
    let added = c.in_ok-add.ensures.added in
    record {
      added = add_next c.args.policy.now c.args.recording.now.epochs c.loop-entry.recording.epochs c.args.closed c.args.entries.now c.loop-entry.entry-index e old (growing_in c.add.new.recording)
          (with_entries c.args.policy.now c.args.recording.now.epochs c.args.closed c.args.entries.now (growing_in c.args.recording.now)) c.loop-entry-test.true c.entry-item.is c.loop-entry.invariant.epochs added c.loop-entry.invariant.added;
      guests = subst (λ (g : Growing). AreRising (names_of g.guests)) (sym added) (guests_rising c.args.policy.now c.loop-entry.recording.epochs c.args.closed e.name e.fate old c.loop-entry.invariant.guests);
      beside = subst (λ (g : Growing). AreRising (alone_names g.beside)) (sym added) (beside_rising c.args.policy.now c.loop-entry.recording.epochs c.args.closed e.name e.fate old c.loop-entry.invariant.beside);
      kept = c.in_ok-add.ensures.kept;
      counts = c.in_ok-add.ensures.counts;
      epochs = c.add.ensures.epochs ∙ c.loop-entry.invariant.epochs;
      samples = c.add.ensures.samples ∙ c.loop-entry.invariant.samples;
    }

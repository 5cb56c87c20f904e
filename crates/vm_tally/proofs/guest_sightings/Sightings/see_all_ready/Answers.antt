use Rattle.std.proofs.Common.{List, ◌∙◌, ◌<◌, ap, arith, length}
use Rattle.std.proofs.lemmas.List.{length-set}
use Rattle.vm_host.specs.World.{guest_at}
use Rattle.vm_tally.specs.declared.guest_sightings.Sighting.{Sighting}
use Rattle.vm_tally.specs.GuestTally.{seen_ready, unseen}
use Rattle.vm_tally.proofs.EachLemmas.{all-changed, one-more}
use Rattle.vm_tally.proofs.guest_sightings.Sightings.see_all_ready.Goals as goal

pub loop-position-preserved : goal.loop-position-preserved
loop-position-preserved c =
    let host = c.args.host.now in
    let old = c.loop-position.self in
    let i = c.loop-position.position in
    let within : i < length old = omega (arith, c.loop-position.invariant.guests) in
    record {
      guests = ap (λ (l : List Sighting). length l) c.see_ready.ensures ∙ length-set old i _ ∙ c.loop-position.invariant.guests;
      seen = one-more (λ p s. seen_ready (guest_at host p) s) i unseen old c.see_ready.new.self _ within c.see_ready.ensures c.loop-position.invariant.seen;
    }

pub returns : goal.returns
returns c =
    let host = c.args.host.now in
    let i = c.loop-position.position in
    all-changed (λ p s. seen_ready (guest_at host p) s) i c.loop-position.self _ (omega (arith, c.loop-position.invariant.guests))
    c.loop-position.invariant.seen

use Rattle.std.proofs.Common.{◌≡◌, ◌∙◌, ℕ, ◌+◌, ◌-◌, ap, arith}
use Rattle.vm_guest.specs.Record.{ballooned, saturated, steps_left}
use Rattle.vm_host.specs.World.{World}
use Rattle.vm_tally.specs.declared.summary.Summary.{Summary}
use Rattle.vm_tally.specs.Counts.{evicted_from, executed_by, has_stalled, over_guests, swapped_of}
use Rattle.vm_tally.specs.Tally.{with_epoch, with_seen, with_sent}
use Rattle.vm_tally.proofs.tally.add_epoch.Goals as goal

-- what was seen and counted of a host, number by number
epoch-added : (w : World) (epoch before : ℕ) (s seen worse : Summary) (free swapped sent evicted stalls done left balloon : ℕ)
    → free ≡ w.pool.free → swapped ≡ over_guests swapped_of w → seen ≡ with_seen free swapped s
    → sent ≡ saturated (over_guests evicted_from w) → worse ≡ with_sent epoch sent seen
    → evicted ≡ saturated (s.evicted + over_guests evicted_from w)
    → stalls ≡ saturated (s.stalls + over_guests has_stalled w) → done ≡ saturated (s.done + (over_guests executed_by w - before))
    → left ≡ saturated (over_guests steps_left w) → balloon ≡ over_guests ballooned w
    → record worse { evicted = evicted; stalls = stalls; done = done; left = left; swapped = swapped; balloon = balloon }
    ≡ with_epoch epoch before w s
epoch-added w epoch before s seen worse free swapped sent _ _ _ _ _ is-free is-swapped is-seen is-sent is-worse is-evicted is-stalls is-done is-left is-balloon =
    let there : worse ≡ with_sent epoch (saturated (over_guests evicted_from w)) (with_seen w.pool.free (over_guests swapped_of w) s) =
    is-worse ∙ (λ t. with_sent epoch (is-sent t) ((is-seen ∙ (λ u. with_seen (is-free u) (is-swapped u) s)) t)) in
    λ i. record (there i) {
      evicted = is-evicted i;
      stalls = is-stalls i;
      done = is-done i;
      left = is-left i;
      swapped = is-swapped i;
      balloon = is-balloon i;
    }

-- src/tally.rt:114:1
pub returns : goal.returns
returns c =
    let counts = c.counts_of-counts.ensures in
    let worse = c.see_sent.ensures ∙ ap (with_sent c.args.epoch c.counts_of-counts.result.evicted) c.see.ensures in
    let evicted = ap (λ (s : Summary). s.evicted) worse in
    let stalls = ap (λ (s : Summary). s.stalls) worse in
    let done = ap (λ (s : Summary). s.done) worse in
    epoch-added c.args.host.now c.args.epoch c.args.before c.args.summary.now c.see.new.summary c.see_sent.new.summary c.free.result
    c.counts_of-counts.result.swapped c.counts_of-counts.result.evicted
    _ _ _ _ _ c.free.ensures.free counts.swapped c.see.ensures counts.evicted c.see_sent.ensures
    (omega (arith, evicted, counts.evicted, c.saturating_add-summary.ensures))
    (omega (arith, stalls, counts.stalled, c.saturating_add-summary-2.ensures))
    (omega (arith, done, counts.executed, c.saturating_add-summary-3.ensures)) counts.left counts.balloon

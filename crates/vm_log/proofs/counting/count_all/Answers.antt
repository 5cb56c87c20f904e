use Rattle.std.proofs.Common.{◌<◌, ◌≡◌, ◌∙◌, ◌+◌, length, arith, refl, sym, List, Option, ℕ, None, false, get_or, ap, subst}
use Rattle.vm_recorded.specs.Hosts.{GuestView}
use Rattle.vm_log.specs.declared.kept.Kept.{Kept}
use Rattle.vm_log.specs.Steps.{counted_all, counts_with}
use Rattle.vm_log.specs.Told.{AreSmall}
use Rattle.vm_log.proofs.LoopLemmas.{counted_next, kept_small_at, length_counted, put_all, small_all, small_more}
use Rattle.vm_log.proofs.counting.count_all.Goals as goal

pub counts_with-requires-clause-small : goal.counts_with-requires-clause-small
counts_with-requires-clause-small c =
    let less : c.loop-place.place < length c.args.counts.now = omega (arith, c.loop-place.invariant.ends, c.loop-place-test.true) in
    kept_small_at c.args.epoch c.args.kept.now c.loop-place.place _ c.requires.small (omega (arith, less, c.requires.kept, c.requires.counts))

none : Kept
none = record {
  rules = record { min = None; max = None; shares = 0; steer = false };
  is_new = false;
  first = 0;
  size = 0;
  length = 0;
  counts = record { last = 0; steps = 0; longest = 0; bytes = 0 };
}

pub loop-place-preserved : goal.loop-place-preserved
unfolding none
loop-place-preserved c =
    let less : c.loop-place.place < length c.args.counts.now = omega (arith, c.loop-place.invariant.ends, c.loop-place-test.true) in
    let uses : c.deref.result.now ≡ c.index-guests-place.result.uses = c.deref.ensures.value ∙ ap (λ (g : GuestView). g.uses) c.guest.view_is in
    let is : c.counts_with.result ≡ counts_with (get_or c.args.kept.now c.loop-place.place none) c.args.epoch c.index-guests-place.result.uses =
    c.counts_with.ensures.exact ∙ ap (λ (l : List (Option ℕ)). counts_with (get_or c.args.kept.now c.loop-place.place none) c.args.epoch l) uses in
    let next = counted_next c.args.epoch c.args.kept.now c.args.guests.now c.args.counts.now c.loop-place.counts c.loop-place.place none c.index-guests-place.result c.counts_with.result c.requires.kept c.requires.counts less c.loop-place.invariant.done c.index-guests-place.is is in
    record {
      ends = refl;
      done = next.0;
      small = small_more (c.args.epoch + 1) (counted_all c.args.epoch c.args.kept.now c.args.guests.now) c.loop-place.place c.counts_with.result c.loop-place.invariant.small
          (omega (arith, less, length_counted c.args.epoch c.args.kept.now c.args.guests.now c.requires.kept, c.requires.counts)) next.1 c.counts_with.ensures.small;
    }

pub returns-clause-exact : goal.returns-clause-exact
returns-clause-exact c =
    let end : c.loop-place.place ≡ length c.args.counts.now = omega (arith, c.loop-place.invariant.ends, c.loop-place-test.false) in
    put_all (counted_all c.args.epoch c.args.kept.now c.args.guests.now) c.args.counts.now c.loop-place.counts c.loop-place.place (length_counted c.args.epoch c.args.kept.now c.args.guests.now c.requires.kept ∙ sym c.requires.counts) end c.loop-place.invariant.done

pub returns-clause-small : goal.returns-clause-small
returns-clause-small c =
    let whole = counted_all c.args.epoch c.args.kept.now c.args.guests.now in
    let wide : length whole ≡ length c.args.counts.now = length_counted c.args.epoch c.args.kept.now c.args.guests.now c.requires.kept ∙ sym c.requires.counts in
    let end : c.loop-place.place ≡ length c.args.counts.now = omega (arith, c.loop-place.invariant.ends, c.loop-place-test.false) in
    let exact : c.loop-place.counts ≡ whole = put_all whole c.args.counts.now c.loop-place.counts c.loop-place.place wide end c.loop-place.invariant.done in
    subst (AreSmall (c.args.epoch + 1)) (sym exact) (small_all (c.args.epoch + 1) whole c.loop-place.place (end ∙ sym wide) c.loop-place.invariant.small)

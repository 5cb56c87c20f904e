use Rattle.std.proofs.Common.{◌≡◌, ◌∙◌, ◌≤◌, inl, inr, length, refl, ap, arith}
use Rattle.vm_samples.proofs.BlockLemmas.{known_before, long_all, no_blocks, too_many}
use Rattle.vm_samples.proofs.FrontLemmas.{found_mark, found_none, grown_blocks, grown_within, none_at_hand, unended_front, unended_long}
use Rattle.vm_samples.proofs.LogLemmas.{ended_long, stays_long, stays_then}
use Rattle.vm_samples.proofs.front.find_front.Goals as goal

pub ended_at-requires : goal.ended_at-requires
ended_at-requires g c =
    let mark = found_mark c.deref.result.now c.deref.result.now c.loop-seen.seen c.scanned-scan.result refl c.scanned-scan.ensures c.if-scan.true in
    let few = c.deref.type_inv.0 in
    omega (arith, mark.high, few)

pub returns-then-len-ge-TOO_MANY-clause-long : goal.returns-then-len-ge-TOO_MANY-clause-long
returns-then-len-ge-TOO_MANY-clause-long g c = λ _.
    let bytes = c.loop-seen.bytes.items in
    let place = c.scanned-scan.result.place in
    let none = found_none c.deref.result.now bytes c.loop-seen.seen c.scanned-scan.result c.deref.ensures.value c.scanned-scan.ensures c.if-scan.false in
    let many : 16777220 ≤ length bytes = omega (arith, c.if-len-ge-TOO_MANY.true, c.len.ensures, c.deref.ensures.len, ap length c.deref.ensures.value) in
    stays_long c.args.bytes.now.items bytes (g.R.Source.remaining c.args.source.now) (g.R.Source.remaining c.loop-seen.source) c.loop-seen.invariant.stays
    (λ more. too_many bytes place more none.high none.none (c.loop-seen.invariant.blocks more ∙ none.blocks more) many)

pub returns-in_err-read_more-clause-at_hand : goal.returns-in_err-read_more-clause-at_hand
returns-in_err-read_more-clause-at_hand g c = λ some.
    let bytes = c.loop-seen.bytes.items in
    let none = found_none c.deref.result.now bytes c.loop-seen.seen c.scanned-scan.result c.deref.ensures.value c.scanned-scan.ensures c.if-scan.false in
    let now = no_blocks bytes c.scanned-scan.result.place none.none (λ more. c.loop-seen.invariant.blocks more ∙ none.blocks more) in
    absurd (some (none_at_hand c.loop-seen.source c.args.source.now c.args.bytes.now.items bytes c.loop-seen.invariant.at_hand now))

pub returns-then-not-branch-clause-front : goal.returns-then-not-branch-clause-front
returns-then-not-branch-clause-front g c =
    let bytes = c.loop-seen.bytes.items in
    let all = c.read_more.new.bytes.items in
    let none = found_none c.deref.result.now bytes c.loop-seen.seen c.scanned-scan.result c.deref.ensures.value c.scanned-scan.ensures c.if-scan.false in
    let now = no_blocks bytes c.scanned-scan.result.place none.none (λ more. c.loop-seen.invariant.blocks more ∙ none.blocks more) in
    let same : all ≡ bytes = c.in_ok-read_more.ensures.none c.if-not-branch.true in
    unended_front c.unended.result all c.len-then-not-branch.result c.unended.ensures.front c.unended.ensures.short
    (c.len-then-not-branch.ensures ∙ c.read_more.new.bytes.ok.0) (rw same now)

pub returns-then-not-branch-clause-at_hand : goal.returns-then-not-branch-clause-at_hand
returns-then-not-branch-clause-at_hand g c = λ some.
    let bytes = c.loop-seen.bytes.items in
    let none = found_none c.deref.result.now bytes c.loop-seen.seen c.scanned-scan.result c.deref.ensures.value c.scanned-scan.ensures c.if-scan.false in
    let now = no_blocks bytes c.scanned-scan.result.place none.none (λ more. c.loop-seen.invariant.blocks more ∙ none.blocks more) in
    absurd (some (none_at_hand c.loop-seen.source c.args.source.now c.args.bytes.now.items bytes c.loop-seen.invariant.at_hand now))

pub returns-then-not-branch-clause-long : goal.returns-then-not-branch-clause-long
returns-then-not-branch-clause-long g c = λ is.
    let bytes = c.loop-seen.bytes.items in
    let all = c.read_more.new.bytes.items in
    let none = found_none c.deref.result.now bytes c.loop-seen.seen c.scanned-scan.result c.deref.ensures.value c.scanned-scan.ensures c.if-scan.false in
    let now = no_blocks bytes c.scanned-scan.result.place none.none (λ more. c.loop-seen.invariant.blocks more ∙ none.blocks more) in
    let same : all ≡ bytes = c.in_ok-read_more.ensures.none c.if-not-branch.true in
    let long = unended_long c.unended.result c.len-then-not-branch.result c.unended.ensures.long is in
    let count : c.len-then-not-branch.result ≡ length all = c.len-then-not-branch.ensures ∙ c.read_more.new.bytes.ok.0 in
    let before = g.R.Source.remaining c.args.source.now in
    let after = g.R.Source.remaining c.read_more.new.source in
    ended_long c.args.bytes.now.items all before after
    (stays_then _ _ _ c.loop-seen.invariant.stays c.in_ok-read_more.ensures.taken.stays)
    (c.in_ok-read_more.ensures.end c.if-not-branch.true)
    (long_all all (rw same now) (omega (arith, long, count)))

pub loop-seen-preserved : goal.loop-seen-preserved
loop-seen-preserved g c =
    let bytes = c.loop-seen.bytes.items in
    let all = c.read_more.new.bytes.items in
    let place = c.scanned-scan.result.place in
    let none = found_none c.deref.result.now bytes c.loop-seen.seen c.scanned-scan.result c.deref.ensures.value c.scanned-scan.ensures c.if-scan.false in
    let taken = c.in_ok-read_more.ensures.taken in
    let now = no_blocks bytes place none.none (λ more. c.loop-seen.invariant.blocks more ∙ none.blocks more) in
    let known : c.len-known.result ≡ length bytes = c.len-known.ensures ∙ c.loop-seen.bytes.ok.0 in
    record {
      ordered = omega (arith, none.high, known);
      within = omega (arith, grown_within bytes taken.got all (length bytes) taken.appended (omega arith), c.read_more.new.bytes.ok.0, known);
      none = known_before bytes taken.got all place c.len-known.result taken.appended none.high known none.none;
      blocks = grown_blocks bytes taken.got all place taken.appended none.high (λ more. c.loop-seen.invariant.blocks more ∙ none.blocks more);
      stays = stays_then _ _ _ c.loop-seen.invariant.stays taken.stays;
      failed = elim c.in_ok-read_more.ensures.stays [ inl bad ↦ absurd (cc) | inr same ↦ same ∙ c.loop-seen.invariant.failed ];
      at_hand = inl (none_at_hand c.loop-seen.source c.args.source.now c.args.bytes.now.items bytes c.loop-seen.invariant.at_hand now);
    }

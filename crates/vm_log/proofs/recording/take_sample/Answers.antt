use Rattle.std.proofs.Common.{◌≡◌, ◌∙◌, ◌++◌, ◌∷◌, ◌<◌, ◌≤◌, [], List, append_assoc, ap, arith, length, subst, sym}
use Rattle.std.proofs.lemmas.List.{length-append}
use Rattle.vm_steer.specs.Entries.{EntryView}
use Rattle.vm_log.specs.Following.{IsTakenWith}
use Rattle.vm_log.proofs.AddLemmas.{recorded-more}
use Rattle.vm_log.proofs.CloseLemmas.{as-many-counts, as-many-kept, is-judged, is-ready}
use Rattle.vm_log.proofs.SettleLemmas.{either, settled}
use Rattle.vm_log.proofs.recording.take_sample.Goals as goal

pub add_sample-requires-clause-ready : goal.add_sample-requires-clause-ready
add_sample-requires-clause-ready c =
    let f = c.requires.follows.1 in
    is-ready c.args.policy.now c.args.every f.ended f.closed f.opened c.args.recording.now f.recorded c.requires.few f.few

pub settle-requires-clause-judged : goal.settle-requires-clause-judged
settle-requires-clause-judged c =
    let f = c.requires.follows.1 in
    let s = c.args.entries.now in
    is-judged c.args.policy.now c.args.every f.ended f.closed (f.opened ++ s ∷ []) c.add_sample.new.recording
    (recorded-more c.args.policy.now c.args.every f.ended c.requires.some f.closed f.opened s c.args.recording.now c.add_sample.new.recording f.recorded f.room f.few c.in_ok-add_sample.ensures c.requires.usable.few)

pub settle-requires-clause-kept : goal.settle-requires-clause-kept
settle-requires-clause-kept c =
    let f = c.requires.follows.1 in
    let s = c.args.entries.now in
    as-many-kept c.args.policy.now c.args.every f.ended f.closed (f.opened ++ s ∷ []) c.add_sample.new.recording
    (recorded-more c.args.policy.now c.args.every f.ended c.requires.some f.closed f.opened s c.args.recording.now c.add_sample.new.recording f.recorded f.room f.few c.in_ok-add_sample.ensures c.requires.usable.few)

pub settle-requires-clause-counts : goal.settle-requires-clause-counts
settle-requires-clause-counts c =
    let f = c.requires.follows.1 in
    let s = c.args.entries.now in
    as-many-counts c.args.policy.now c.args.every f.ended f.closed (f.opened ++ s ∷ []) c.add_sample.new.recording
    (recorded-more c.args.policy.now c.args.every f.ended c.requires.some f.closed f.opened s c.args.recording.now c.add_sample.new.recording f.recorded f.room f.few c.in_ok-add_sample.ensures c.requires.usable.few)

pub returns : goal.returns
returns c = λ samples f.
    let s = c.args.entries.now in
    let mid = c.add_sample.new.recording in
    let opened = f.opened ++ s ∷ [] in
    let l = length-append f.opened (s ∷ []) in
    let is = recorded-more c.args.policy.now c.args.every f.ended c.requires.some f.closed f.opened s c.args.recording.now mid f.recorded f.room f.few c.in_ok-add_sample.ensures c.requires.usable.few in
    let all : samples ++ s ∷ [] ≡ f.closed ++ opened = ap (λ (x : List (List EntryView)). x ++ s ∷ []) f.is ∙ append_assoc f.closed f.opened (s ∷ []) in
    subst (λ (x : List (List EntryView)). IsTakenWith c.args.policy.now c.args.every x c.settle.new.recording c.settle.result) (sym all)
    (settled c.args.policy.now c.args.every f.ended c.requires.some f.closed opened mid c.settle.new.recording is (omega (arith, l)) f.judged c.settle.result
    c.settle.ensures.ends c.settle.ensures.goes_on c.settle.ensures.passed c.settle.ensures.full c.settle.ensures.more (either (length opened) c.args.every (omega (arith, l, f.room))))

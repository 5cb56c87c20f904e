use Rattle.std.proofs.Common.{◌≡◌, ◌∙◌, List, Some, None, subst, sym}
use Rattle.vm_steer.specs.Entries.{EntryView}
use Rattle.vm_log.specs.Following.{IsEndedWith}
use Rattle.vm_log.proofs.CloseLemmas.{as-many-kept, is-judged}
use Rattle.vm_log.proofs.SettleLemmas.{ends_none, ends_some}
use Rattle.vm_log.proofs.recording.end.Goals as goal

pub limit_with_bytes-requires : goal.limit_with_bytes-requires
limit_with_bytes-requires c = let f = c.requires.follows.1 in is-judged c.args.policy.now c.args.every f.ended f.closed f.opened c.args.recording.now f.recorded

pub take_back-requires : goal.take_back-requires
take_back-requires c = let f = c.requires.follows.1 in as-many-kept c.args.policy.now c.args.every f.ended f.closed f.opened c.args.recording.now f.recorded

pub returns-in-Some : goal.returns-in-Some
returns-in-Some c = λ samples f.
    subst (λ (x : List (List EntryView)). IsEndedWith c.args.policy.now c.args.every x c.take_back.new.recording (Some c.in-Some.limit)) (sym f.is)
    (ends_some c.args.policy.now c.args.every f.ended c.requires.some f.closed f.opened c.args.recording.now c.take_back.new.recording f.recorded f.judged c.in-Some.limit (sym c.limit_with_bytes.ensures ∙ c.in-Some.is) c.take_back.ensures)

pub returns-in-None : goal.returns-in-None
returns-in-None c = λ samples f.
    subst (λ (x : List (List EntryView)). IsEndedWith c.args.policy.now c.args.every x c.args.recording.now None) (sym f.is)
    (ends_none c.args.policy.now c.args.every f.ended c.requires.some f.closed f.opened c.args.recording.now c.args.recording.now f.recorded f.judged (sym c.limit_with_bytes.ensures ∙ c.in-None.is))

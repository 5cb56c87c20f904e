use Rattle.std.proofs.Common.{◌≡◌, ◌∙◌, Option, ap, sym}
use Rattle.vm_recorded.specs.declared.limit.Limit.{Limit}
use Rattle.vm_recorded.specs.Limits.{is_long, or_bytes}
use Rattle.vm_log.specs.Growing.{hosted_in}
use Rattle.vm_log.proofs.JudgeLemmas.{few_guests}
use Rattle.vm_log.proofs.judging.limit_with_bytes.Goals as goal

pub returns-in-Some : goal.returns-in-Some
returns-in-Some c =
    let host = hosted_in c.args.policy.now c.args.recording.now in
    ap (λ (o : Option Limit). or_bytes o (is_long host)) (sym c.in-Some.is ∙ c.limit_of.ensures c.args.policy.now)

pub limit_of_bytes-requires-clause-few : goal.limit_of_bytes-requires-clause-few
limit_of_bytes-requires-clause-few c = few_guests (hosted_in c.args.policy.now c.args.recording.now) (sym (c.limit_of.ensures c.args.policy.now) ∙ c.in-None.is)

pub returns-in-None : goal.returns-in-None
returns-in-None c =
    let host = hosted_in c.args.policy.now c.args.recording.now in
    c.limit_of_bytes.ensures ∙ ap (λ (o : Option Limit). or_bytes o (is_long host)) (sym c.in-None.is ∙ c.limit_of.ensures c.args.policy.now)

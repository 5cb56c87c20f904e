use Rattle.std.proofs.Common.{◌≡◌, [], ◌∷◌, map, Some, Ok, Err, sym, ap, ◌∙◌}
use Rattle.vm_json.specs.Tree.{value_view}
use Rattle.vm_json.specs.View.{json_of}
use Rattle.vm_samples.specs.PolicyOf.{policy_of}
use Rattle.vm_policy_check.specs.declared.finding.Finding.TheVariants.{Fault}
use Rattle.vm_policy_check.specs.Findings.{found_of}
use Rattle.vm_policy_check.proofs.PolicyLemmas.{findings_read, findings_refused, is_read}
use Rattle.vm_policy_check.proofs.checking.check_policy.Goals as goal

pub returns-in-Ok-read : goal.returns-in-Ok-read
returns-in-Ok-read c =
    let text = c.args.text.now in
    let p = c.in-Ok.policy in
    let j = value_view c.in-Ok-read.root in
    let policy : policy_of text ≡ Ok p = c.in-Ok.ensures.policy in
    let tree : json_of text ≡ Some j = c.in-Ok-read.ensures.tree in
    rw (findings_read text p j policy tree) c.findings_of.ensures

pub unreachable-requires : goal.unreachable-requires
unreachable-requires c =
    let text = c.args.text.now in
    let policy : policy_of text ≡ Ok c.in-Ok.policy = c.in-Ok.ensures.policy in
    is_read text c.in-Ok.policy policy (c.in-Err-NotJson.ensures.refused (ap Err c.in-Err-NotJson.field-0-is))

pub returns-in-Err-Fault : goal.returns-in-Err-Fault
returns-in-Err-Fault c =
    let text = c.args.text.now in
    let fault = c.in-Err-Fault.fault in
    let refused = rw c.in-Err-Fault.field-0-is at c.in-Err-Fault.ensures.policy in
    let pushed = rw c.new-found.ensures.items at c.in_ok-push-in-Err-Fault.ensures.items in
    let one : c.push.new.self.items ≡ Fault fault ∷ [] = cc in
    ap (map found_of) one ∙ sym (findings_refused text fault refused)

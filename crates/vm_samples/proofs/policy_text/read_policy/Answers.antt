use Rattle.vm_json.specs.View.{view}
use Rattle.vm_samples.proofs.PolicyLemmas.{by_root, no_root}
use Rattle.vm_samples.proofs.policy_text.read_policy.Goals as goal

pub returns-in-Ok-clause-policy : goal.returns-in-Ok-clause-policy
returns-in-Ok-clause-policy c = by_root c.args.text.now (view c.in-Ok.root) c.root_at.result c.in-Ok.ensures c.root_at.ensures

pub returns-clause-policy : goal.returns-clause-policy
returns-clause-policy c = no_root c.args.text.now c.in-Err.error c.in-Err.ensures

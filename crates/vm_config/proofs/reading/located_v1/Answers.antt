use Rattle.std.proofs.Common.{subst, sym, ap, ◌∙◌}
use Rattle.vm_json.specs.View.{view}
use Rattle.vm_config.specs.Limits.{IsConfig}
use Rattle.vm_config.specs.Places.{IsOrLacksMemory}
use Rattle.vm_config.specs.Seen.{root_seen}
use Rattle.vm_config.proofs.StepLemmas.{failure, failure_of, fails, no_value, value_wanted}
use Rattle.vm_config.proofs.VersionLemmas.{config_v1_is, root_fails_v1, version_fails_v1}
use Rattle.vm_config.proofs.reading.located_v1.Goals as goal

pub returns-in_err-root : goal.returns-in_err-root
returns-in_err-root c =
    let f = c.in_err-root.field-0.0 in
    let answer = c.from_residual.result in
    let is = fails answer f c.from_residual.ensures.1 in
    record {
      config = failure_of answer _ (root_seen c.root.result) _ f is c.root.ensures (ap root_seen c.in_err-root.was)
          (root_fails_v1 c.args.bytes.now f);
      limits = no_value IsConfig answer f is;
    }

pub returns-in_err-version : goal.returns-in_err-version
returns-in_err-version c =
    let f = c.in_err-version.field-0.0 in
    let answer = c.from_residual-in_err-version.result in
    let is = fails answer f c.from_residual-in_err-version.ensures.1 in
    let d = view c.in_ok-root.root in
    let root = value_wanted (root_seen c.root.result) _ d c.root.ensures (ap root_seen c.in_ok-root.was) in
    record {
      config = failure answer _ f is
          (version_fails_v1 c.args.bytes.now d f root (sym c.version.ensures ∙ c.in_err-version.was));
      limits = no_value IsConfig answer f is;
    }

pub returns : goal.returns
returns c =
    let d = view c.in_ok-root.root in
    let root = value_wanted (root_seen c.root.result) _ d c.root.ensures (ap root_seen c.in_ok-root.was) in
    let is = config_v1_is c.args.bytes.now d _ root (sym c.version.ensures ∙ c.in_ok-version.was) in
    record {
      config = subst (λ wanted. IsOrLacksMemory c.keys_v1.result wanted) (sym is) c.keys_v1.ensures.config;
      limits = c.keys_v1.ensures.limits;
    }

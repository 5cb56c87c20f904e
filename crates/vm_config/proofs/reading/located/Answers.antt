use Rattle.std.proofs.Common.{Ok, inl, subst, sym, ap, ◌∙◌}
use Rattle.vm_json.specs.View.{view}
use Rattle.vm_config.specs.Limits.{IsConfig}
use Rattle.vm_config.specs.Located.{keys_at}
use Rattle.vm_config.specs.Migration.{migrated}
use Rattle.vm_config.specs.Outcomes.{◌>>=◌}
use Rattle.vm_config.specs.Places.{IsOrLacksMemory}
use Rattle.vm_config.specs.Seen.{root_seen}
use Rattle.vm_config.specs.Versions.{version_1}
use Rattle.vm_config.proofs.StepLemmas.{failure, failure_of, fails, no_fault, no_value, step_fails, value_wanted}
use Rattle.vm_config.proofs.VersionLemmas.{config_is_v1, config_is_newer, read_v1, root_fails, root_fails_v1, version_fails}
use Rattle.vm_config.proofs.reading.located.Goals as goal

pub returns-in_err-root : goal.returns-in_err-root
returns-in_err-root c =
    let f = c.in_err-root.field-0.0 in
    let answer = c.from_residual.result in
    let is = fails answer f c.from_residual.ensures.1 in
    let seen = ap root_seen c.in_err-root.was in
    let bytes = c.args.bytes.now in
    record {
      config = failure_of answer _ (root_seen c.root.result) _ f is c.root.ensures seen (root_fails bytes f);
      limits = no_value IsConfig answer f is;
      migrates = λ config v1. failure_of answer _ (root_seen c.root.result) _ f is c.root.ensures seen
          (λ root. no_fault _ _ config f v1 (root_fails_v1 bytes f root));
    }

pub returns-in_err-version : goal.returns-in_err-version
returns-in_err-version c =
    let f = c.in_err-version.field-0.0 in
    let answer = c.from_residual-in_err-version.result in
    let is = fails answer f c.from_residual-in_err-version.ensures.1 in
    let d = view c.in_ok-root.root in
    let root = value_wanted (root_seen c.root.result) _ d c.root.ensures (ap root_seen c.in_ok-root.was) in
    let version = sym c.version.ensures ∙ c.in_err-version.was in
    record {
      config = failure answer _ f is (version_fails c.args.bytes.now d f root version);
      limits = no_value IsConfig answer f is;
      migrates = λ config v1. failure answer _ f is (no_fault _ _ 1 f (read_v1 c.args.bytes.now d config root v1).0 version);
    }

pub returns-in_err-config : goal.returns-in_err-config
returns-in_err-config c =
    let f = c.in_err-config.field-0.0 in
    let answer = c.from_residual-in_err-config.result in
    let is = fails answer f c.from_residual-in_err-config.ensures.1 in
    let d = view c.in_ok-root.root in
    let root = value_wanted (root_seen c.root.result) _ d c.root.ensures (ap root_seen c.in_ok-root.was) in
    let whole = config_is_v1 c.args.bytes.now d _ root (sym c.version.ensures ∙ c.in_ok-version.was) c.if-version-eq1.true in
    record {
      config = failure_of answer _ c.keys_v1.result _ f is c.keys_v1.ensures.config c.in_err-config.was
          (λ keys. whole ∙ step_fails (keys_at version_1 d) (λ config. Ok (migrated config)) f keys);
      limits = no_value IsConfig answer f is;
      migrates = λ config v1. failure_of answer _ c.keys_v1.result _ f is c.keys_v1.ensures.config c.in_err-config.was
          (λ keys. no_fault _ _ config f (read_v1 c.args.bytes.now d config root v1).1 keys);
    }

pub returns-then-version-eq1-clause-config : goal.returns-then-version-eq1-clause-config
returns-then-version-eq1-clause-config c =
    let d = view c.in_ok-root.root in
    let root = value_wanted (root_seen c.root.result) _ d c.root.ensures (ap root_seen c.in_ok-root.was) in
    let whole = config_is_v1 c.args.bytes.now d _ root (sym c.version.ensures ∙ c.in_ok-version.was) c.if-version-eq1.true in
    let keys = value_wanted c.keys_v1.result _ c.in_ok-config.config c.keys_v1.ensures.config c.in_ok-config.was in
    inl (ap Ok c.migrate.ensures ∙ sym (whole ∙ ap (λ read. read >>= (λ config. Ok (migrated config))) keys))

pub returns-then-version-eq1-clause-migrates : goal.returns-then-version-eq1-clause-migrates
returns-then-version-eq1-clause-migrates c = λ config v1.
    let d = view c.in_ok-root.root in
    let root = value_wanted (root_seen c.root.result) _ d c.root.ensures (ap root_seen c.in_ok-root.was) in
    let keys = value_wanted c.keys_v1.result _ c.in_ok-config.config c.keys_v1.ensures.config c.in_ok-config.was in
    let read = (read_v1 c.args.bytes.now d config root v1).1 in
    inl (ap Ok c.migrate.ensures ∙ ap (λ r. r >>= (λ x. Ok (migrated x))) (sym keys ∙ read))

pub returns : goal.returns
returns c =
    let d = view c.in_ok-root.root in
    let root = value_wanted (root_seen c.root.result) _ d c.root.ensures (ap root_seen c.in_ok-root.was) in
    let version = sym c.version.ensures ∙ c.in_ok-version.was in
    let whole = config_is_newer c.args.bytes.now d _ root version c.if-version-eq1.false in
    record {
      config = subst (λ wanted. IsOrLacksMemory c.keys_newer.result wanted) (sym whole) c.keys_newer.ensures.config;
      limits = c.keys_newer.ensures.limits;
      migrates = λ config v1. let one = (read_v1 c.args.bytes.now d config root v1).0 in absurd (c.if-version-eq1.false (cc (one, version)));
    }

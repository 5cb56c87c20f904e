use Rattle.std.proofs.Common.{refl, ◌∙◌}
use Rattle.vm_config.proofs.PlaceLemmas.{answer_without, config_without, config_v1_without, found_without}
use Rattle.vm_config.proofs.reading.read_config.Goals as goal

pub returns-clause-config : goal.returns-clause-config
returns-clause-config c =
    rw c.without_place.ensures (answer_without _ _ _ (config_without c.args.bytes.now) c.located.ensures.config)

pub returns-clause-migrates : goal.returns-clause-migrates
returns-clause-migrates c = λ config is.
    rw c.without_place.ensures
    (answer_without _ _ _ refl (c.located.ensures.migrates config (found_without _ _ (config_v1_without c.args.bytes.now ∙ is))))

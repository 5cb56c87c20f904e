use Rattle.vm_config.proofs.PlaceLemmas.{answer_without, config_v1_without}
use Rattle.vm_config.proofs.reading.read_config_v1.Goals as goal

pub returns-clause-config : goal.returns-clause-config
returns-clause-config c =
    rw c.without_place.ensures (answer_without _ _ _ (config_v1_without c.args.bytes.now) c.located_v1.ensures.config)

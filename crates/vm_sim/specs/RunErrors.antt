-- Which error of a run stands for an error of a part of it.
use Rattle.vm_config.specs.declared.error.ConfigError.{ConfigError}
use Rattle.vm_config.specs.declared.error.ConfigError.TheVariants as config
use Rattle.vm_streams.specs.declared.input.InputError.{InputError}
use Rattle.vm_streams.specs.declared.input.InputError.TheVariants as input
use Rattle.vm_sim.specs.declared.run_error.RunError.{RunError}
use Rattle.vm_sim.specs.declared.run_error.RunError.TheVariants.{Config, Read, Memory}

abbrev pub error_of_config : ConfigError → RunError
error_of_config config.NotJson = Config config.NotJson
error_of_config config.Missing = Config config.Missing
error_of_config config.Kind = Config config.Kind
error_of_config config.Range = Config config.Range
error_of_config config.Name = Config config.Name
error_of_config config.Twice = Config config.Twice
error_of_config (config.Trace guest step fault) = Config (config.Trace guest step fault)
error_of_config config.Memory = Memory

abbrev pub error_of_input : InputError → RunError
error_of_input input.Failed = Read
error_of_input input.TooLong = Read
error_of_input input.Memory = Memory

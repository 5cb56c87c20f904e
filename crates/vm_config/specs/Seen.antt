-- What an answer of the code shows.
use Rattle.std.specs.Prelude.{Result, Ok, Err}
use Rattle.serde_json.specs.Data.{Data}
use Rattle.vm_json.specs.View.{view}
use Rattle.vm_json.specs.declared.value.Value.{Value}
use Rattle.vm_config.specs.declared.error.ConfigError.{ConfigError}
use Rattle.vm_config.specs.declared.fault.Fault.{Fault}

abbrev pub data_of : Result Value ConfigError → Result Data ConfigError
data_of (Ok value) = Ok (view value)
data_of (Err e) = Err e

abbrev pub root_seen : Result Value Fault → Result Data Fault
root_seen (Ok value) = Ok (view value)
root_seen (Err fault) = Err fault

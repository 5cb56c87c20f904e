-- What comes of a small log, as a text and as a configuration.
use Rattle.std.specs.Prelude.{◌≡◌, ℕ, List, [], ◌∷◌, Some, codes, false, true}
use Rattle.vm_config.specs.declared.config.Config.{Config}
use Rattle.vm_import.specs.Examples.{cut_by}
use Rattle.vm_import.specs.Settings.{Settings}
use Rattle.vm_laws.specs.Meaning.{AreWritten, imported_config}
use Rattle.vm_import.specs.declared.access.Access.{Access}
use Rattle.vm_trace.specs.declared.step.Action.TheVariants.{Idle, Read, Write}

-- the log makes a guest with this configuration
pub record Makes (settings : Settings) (log : List ℕ) (config : Config) : Type 0 where
  pub accesses : List Access
  pub written : AreWritten settings log accesses
  pub config_is : imported_config settings accesses ≡ config

-- accesses of each kind
abbrev pub kinds : List ℕ
kinds = codes "==1== x\nI  04001000,3\n L 1ffeffe7e8,8\n S 04001ffe,4\n M 0421dbb8,8\n\nI  04001003,3\n L 0421dbb8,8\n"

-- two in an interval, and four steps in an epoch
abbrev pub with_code : Settings
with_code = cut_by 2 4

abbrev pub with_code_text : List ℕ
with_code_text = codes "{\"version\":2,\"quantum\":4,\"guests\":[{\"name\":\"guest\",\"trace\":[\"r 0 0 1\",\"r 1 2024 1\",\"i\",\"i\",\"w 0 4094 02\",\"w 2 0 02\",\"r 3 3000 1\",\"w 3 3000 02\",\"r 0 3 1\",\"r 3 3000 1\"],\"size\":4,\"min\":2}],\"frames\":5,\"swap\":2,\"epochs\":3}\n"

abbrev pub with_code_config : Config
with_code_config = record {
  machine = record { frames = 5; swap = 2; overhead = 0; tax = 7500; percent = record { high = 600; soft = 400; hard = 200; low = 100 }; page_rate = 16; rebalance = 0; page = 4 };
  epochs = 3;
  domains = record { name = codes "guest"; config = record { size = 4; min = 2; shares = 1000; samples = 100; period = 1000; rate = 16; quantum = 4; seed = 0; stream = 0; tell = true; own_driver = true; page = 4; trace = Read 0 0 1 ∷ Read 1 2024 1 ∷ Idle ∷ Idle ∷ Write 0 4094 (2 ∷ []) ∷ Write 2 0 (2 ∷ []) ∷ Read 3 3000 1 ∷ Write 3 3000 (2 ∷ []) ∷ Read 0 3 1 ∷ Read 3 3000 1 ∷ [] } } ∷ [];
  autostart = true ∷ [];
  commands = [];
}

-- without code, of another name, and with a minimum above the size
abbrev pub no_code : Settings
no_code = record (cut_by 1 2) { name = codes "web"; min = Some 9; has_code = false }

abbrev pub no_code_text : List ℕ
no_code_text = codes "{\"version\":2,\"quantum\":2,\"guests\":[{\"name\":\"web\",\"trace\":[\"i\",\"i\",\"r 0 2024 1\",\"i\",\"w 1 4094 03\",\"w 2 0 03\",\"r 3 3000 1\",\"w 3 3000 04\",\"i\",\"i\",\"r 3 3000 1\"],\"size\":4,\"min\":4}],\"frames\":5,\"swap\":0,\"epochs\":6}\n"

abbrev pub no_code_config : Config
no_code_config = record {
  machine = record { frames = 5; swap = 0; overhead = 0; tax = 7500; percent = record { high = 600; soft = 400; hard = 200; low = 100 }; page_rate = 16; rebalance = 0; page = 4 };
  epochs = 6;
  domains = record { name = codes "web"; config = record { size = 4; min = 4; shares = 1000; samples = 100; period = 1000; rate = 16; quantum = 2; seed = 0; stream = 0; tell = true; own_driver = true; page = 4; trace = Idle ∷ Idle ∷ Read 0 2024 1 ∷ Idle ∷ Write 1 4094 (3 ∷ []) ∷ Write 2 0 (3 ∷ []) ∷ Read 3 3000 1 ∷ Write 3 3000 (4 ∷ []) ∷ Idle ∷ Idle ∷ Read 3 3000 1 ∷ [] } } ∷ [];
  autostart = true ∷ [];
  commands = [];
}

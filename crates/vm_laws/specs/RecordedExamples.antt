-- A small recorded host, its text and its configuration, by hand.
use Rattle.std.specs.Prelude.{ℕ, true, false, List, [], ◌∷◌, codes, Some, None}
use Rattle.vm_config.specs.declared.config.Config.{Config}
use Rattle.vm_recorded.specs.Hosts.{HostView}
use Rattle.vm_trace.specs.declared.step.Action.TheVariants.{Free, Touch, Yield}

-- Of two guests one is there in all three epochs, but wasn't seen in the second, and may have less than its size. The other one comes
-- behind the first epoch and goes behind the second.
abbrev pub host : HostView
host = record {
  policy = record {
    unit = 2048;
    memory = 12;
    overhead = 1;
    rate = 300;
    rebalance = 5;
    tax = 7000;
    percents = record { high = 600; soft = 400; hard = 200; low = 100 };
    headroom = 20;
    cache = 50;
    most = 65;
    patience = 5;
    guests = [];
  };
  frames = 12;
  epochs = 3;
  guests = record { name = codes "a"; size = 4; min = 1; cap = 3; shares = 7; first = 0; uses = Some 3 ∷ None ∷ Some 1 ∷ [] }
      ∷ record { name = codes "db"; size = 5; min = 2; cap = 5; shares = 1000; first = 1; uses = Some 2 ∷ [] } ∷ [];
}

abbrev pub text : List ℕ
text = codes "{\"version\":3,\"frames\":12,\"swap\":6,\"overhead\":1,\"tax\":7000,\"percent\":[600,400,200,100],\"page_rate\":256,\"rebalance\":5,\"page\":2048,\"quantum\":4,\"epochs\":3,\"guests\":[{\"name\":\"a\",\"size\":4,\"min\":1,\"shares\":7,\"period\":4,\"rate\":256,\"seed\":0,\"autostart\":true,\"tell\":false,\"trace\":[\"t 0 3\",\"y\",\"y\",\"f 1 2\",\"t 0 1\",\"y\"]},{\"name\":\"db\",\"size\":5,\"min\":2,\"shares\":1000,\"period\":4,\"rate\":256,\"seed\":1,\"autostart\":false,\"tell\":false,\"trace\":[\"t 0 2\",\"y\"]}],\"commands\":[{\"at\":0,\"line\":\"setmem a 6144\"},{\"at\":1,\"line\":\"start db\"},{\"at\":2,\"line\":\"destroy db\"}]}\n"

abbrev pub config : Config
config = record {
  machine = record { frames = 12; swap = 6; overhead = 1; tax = 7000; percent = record { high = 600; soft = 400; hard = 200; low = 100 }; page_rate = 256; rebalance = 5; page = 2048 };
  epochs = 3;
  domains = record { name = codes "a"; config = record { size = 4; min = 1; shares = 7; samples = 100; period = 4; rate = 256; quantum = 4; seed = 0; stream = 0; tell = false; own_driver = true; page = 2048; trace = Touch 0 ∷ Touch 1 ∷ Touch 2 ∷ Yield ∷ Yield ∷ Free 1 ∷ Free 2 ∷ Touch 0 ∷ Yield ∷ [] } }
      ∷ record { name = codes "db"; config = record { size = 5; min = 2; shares = 1000; samples = 100; period = 4; rate = 256; quantum = 4; seed = 1; stream = 0; tell = false; own_driver = true; page = 2048; trace = Touch 0 ∷ Touch 1 ∷ Yield ∷ [] } } ∷ [];
  autostart = true ∷ false ∷ [];
  commands = record { at = 0; line = codes "setmem a 6144" } ∷ record { at = 1; line = codes "start db" } ∷ record { at = 2; line = codes "destroy db" } ∷ [];
}

-- Worked examples of whole reports.
use Rattle.std.specs.Prelude.{ℕ, List, true, false, [], ◌∷◌, codes}
use Rattle.vm_config.specs.declared.config.Config.{Config}
use Rattle.vm_trace.specs.declared.step.Action.TheVariants.{Read, Write, Free, Idle, Post}
use Rattle.vm_trace.specs.declared.step.Queue.TheVariants.{Inflate, Stats}

abbrev pub early_in_flight : Config
early_in_flight = record {
  machine = record { frames = 100; swap = 2; overhead = 0; tax = 7500; percent = record { high = 600; soft = 400; hard = 200; low = 100 }; page_rate = 16; rebalance = 0; page = 4 };
  epochs = 2;
  domains = (
      record { name = codes "g"; config = record { size = 4; min = 2; shares = 1000; samples = 1; period = 1000; rate = 16; quantum = 100; seed = 42; stream = 54; tell = false; own_driver = true; page = 4; trace = (Read 3 0 1 ∷ []) } } ∷ []);
  autostart = (true ∷ []);
  commands = (
      record { at = 0; line = codes "setmem g 8" } ∷ []);
}

abbrev pub early_in_flight_report : List ℕ
early_in_flight_report = codes "epoch 0\n> start g\nok\n> setmem g 8\nok\nstate high free 98\ng stall 3\nepoch 1\nstate high free 98\ng r 3 0 00\nend\ng target 2 held 2 swapped 0 balloon 1 active 65536 bad 0 done 1\nmachine 100 held 2 free 98 overhead 0\n"

abbrev pub early_use_longer : Config
early_use_longer = record {
  machine = record { frames = 100; swap = 2; overhead = 0; tax = 7500; percent = record { high = 600; soft = 400; hard = 200; low = 100 }; page_rate = 16; rebalance = 0; page = 4 };
  epochs = 3;
  domains = (
      record { name = codes "g"; config = record { size = 4; min = 2; shares = 1000; samples = 1; period = 1000; rate = 16; quantum = 1; seed = 42; stream = 54; tell = false; own_driver = true; page = 4; trace = (Idle ∷ Read 3 0 1 ∷ []) } } ∷ []);
  autostart = (true ∷ []);
  commands = (
      record { at = 0; line = codes "setmem g 8" } ∷ []);
}

abbrev pub early_use_longer_report : List ℕ
early_use_longer_report = codes "epoch 0\n> start g\nok\n> setmem g 8\nok\nstate high free 98\nepoch 1\nstate high free 98\ng r 3 0 00\nepoch 2\nstate high free 98\nend\ng target 2 held 2 swapped 0 balloon 1 active 65536 bad 0 done 2\nmachine 100 held 2 free 98 overhead 0\n"

abbrev pub early_use : Config
early_use = record {
  machine = record { frames = 100; swap = 2; overhead = 0; tax = 7500; percent = record { high = 600; soft = 400; hard = 200; low = 100 }; page_rate = 16; rebalance = 0; page = 4 };
  epochs = 2;
  domains = (
      record { name = codes "g"; config = record { size = 4; min = 2; shares = 1000; samples = 1; period = 1000; rate = 16; quantum = 1; seed = 42; stream = 54; tell = false; own_driver = true; page = 4; trace = (Idle ∷ Read 3 0 1 ∷ []) } } ∷ []);
  autostart = (true ∷ []);
  commands = (
      record { at = 0; line = codes "setmem g 8" } ∷ []);
}

abbrev pub early_use_report : List ℕ
early_use_report = codes "epoch 0\n> start g\nok\n> setmem g 8\nok\nstate high free 98\nepoch 1\nstate high free 98\ng r 3 0 00\nend\ng target 2 held 2 swapped 0 balloon 1 active 65536 bad 0 done 2\nmachine 100 held 2 free 98 overhead 0\n"

abbrev pub first_read : Config
first_read = record {
  machine = record { frames = 100; swap = 0; overhead = 0; tax = 7500; percent = record { high = 600; soft = 400; hard = 200; low = 100 }; page_rate = 16; rebalance = 0; page = 4 };
  epochs = 1;
  domains = (
      record { name = codes "web"; config = record { size = 4; min = 4; shares = 1000; samples = 100; period = 1000; rate = 16; quantum = 100; seed = 0; stream = 0; tell = true; own_driver = true; page = 4; trace = (Write 0 0 (255 ∷ []) ∷ Read 0 0 4 ∷ []) } } ∷ []);
  autostart = (true ∷ []);
  commands = ([]);
}

abbrev pub first_read_report : List ℕ
first_read_report = codes "epoch 0\n> start web\nok\nstate high free 96\nweb r 0 0 ff000000\nend\nweb target 4 held 4 swapped 0 balloon 0 active 65536 bad 0 done 2\nmachine 100 held 4 free 96 overhead 0\n"

abbrev pub five_guests : Config
five_guests = record {
  machine = record { frames = 20; swap = 0; overhead = 0; tax = 7500; percent = record { high = 600; soft = 400; hard = 200; low = 100 }; page_rate = 16; rebalance = 0; page = 4 };
  epochs = 1;
  domains = (
      record { name = codes "g0"; config = record { size = 2; min = 2; shares = 1000; samples = 100; period = 1000; rate = 16; quantum = 100; seed = 0; stream = 0; tell = true; own_driver = true; page = 4; trace = (Write 0 0 (16 ∷ []) ∷ Read 0 0 1 ∷ []) } } ∷
      record { name = codes "g1"; config = record { size = 2; min = 2; shares = 1000; samples = 100; period = 1000; rate = 16; quantum = 100; seed = 0; stream = 0; tell = true; own_driver = true; page = 4; trace = (Write 0 0 (17 ∷ []) ∷ Read 0 0 1 ∷ []) } } ∷
      record { name = codes "g2"; config = record { size = 2; min = 2; shares = 1000; samples = 100; period = 1000; rate = 16; quantum = 100; seed = 0; stream = 0; tell = true; own_driver = true; page = 4; trace = (Write 0 0 (18 ∷ []) ∷ Read 0 0 1 ∷ []) } } ∷
      record { name = codes "g3"; config = record { size = 2; min = 2; shares = 1000; samples = 100; period = 1000; rate = 16; quantum = 100; seed = 0; stream = 0; tell = true; own_driver = true; page = 4; trace = (Write 0 0 (19 ∷ []) ∷ Read 0 0 1 ∷ []) } } ∷
      record { name = codes "g4"; config = record { size = 2; min = 2; shares = 1000; samples = 100; period = 1000; rate = 16; quantum = 100; seed = 0; stream = 0; tell = true; own_driver = true; page = 4; trace = (Write 0 0 (20 ∷ []) ∷ Read 0 0 1 ∷ []) } } ∷ []);
  autostart = (true ∷ true ∷ true ∷ true ∷ true ∷ []);
  commands = ([]);
}

abbrev pub five_guests_report : List ℕ
five_guests_report = codes "epoch 0\n> start g0\nok\n> start g1\nok\n> start g2\nok\n> start g3\nok\n> start g4\nok\nstate high free 10\ng0 r 0 0 10\ng1 r 0 0 11\ng2 r 0 0 12\ng3 r 0 0 13\ng4 r 0 0 14\nend\ng0 target 2 held 2 swapped 0 balloon 0 active 65536 bad 0 done 2\ng1 target 2 held 2 swapped 0 balloon 0 active 65536 bad 0 done 2\ng2 target 2 held 2 swapped 0 balloon 0 active 65536 bad 0 done 2\ng3 target 2 held 2 swapped 0 balloon 0 active 65536 bad 0 done 2\ng4 target 2 held 2 swapped 0 balloon 0 active 65536 bad 0 done 2\nmachine 20 held 10 free 10 overhead 0\n"

abbrev pub freed_reads_zero : Config
freed_reads_zero = record {
  machine = record { frames = 100; swap = 0; overhead = 0; tax = 7500; percent = record { high = 600; soft = 400; hard = 200; low = 100 }; page_rate = 16; rebalance = 0; page = 4 };
  epochs = 1;
  domains = (
      record { name = codes "web"; config = record { size = 4; min = 4; shares = 1000; samples = 100; period = 1000; rate = 16; quantum = 100; seed = 0; stream = 0; tell = true; own_driver = true; page = 4; trace = (Write 0 0 (255 ∷ []) ∷ Free 0 ∷ Read 0 0 1 ∷ []) } } ∷ []);
  autostart = (true ∷ []);
  commands = ([]);
}

abbrev pub freed_reads_zero_report : List ℕ
freed_reads_zero_report = codes "epoch 0\n> start web\nok\nstate high free 96\nweb r 0 0 00\nend\nweb target 4 held 4 swapped 0 balloon 0 active 65536 bad 0 done 3\nmachine 100 held 4 free 96 overhead 0\n"

abbrev pub low_and_back : Config
low_and_back = record {
  machine = record { frames = 100; swap = 90; overhead = 0; tax = 7500; percent = record { high = 600; soft = 400; hard = 200; low = 100 }; page_rate = 1; rebalance = 0; page = 4 };
  epochs = 4;
  domains = (
      record { name = codes "a"; config = record { size = 100; min = 10; shares = 1000; samples = 100; period = 1000; rate = 16; quantum = 1; seed = 0; stream = 0; tell = true; own_driver = true; page = 4; trace = (Idle ∷ Read 0 0 1 ∷ Read 1 0 1 ∷ []) } } ∷
      record { name = codes "b"; config = record { size = 5; min = 5; shares = 1000; samples = 100; period = 1000; rate = 16; quantum = 1; seed = 0; stream = 0; tell = true; own_driver = true; page = 4; trace = ([]) } } ∷ []);
  autostart = (true ∷ false ∷ []);
  commands = (
      record { at = 1; line = codes "start b" } ∷ []);
}

abbrev pub low_and_back_report : List ℕ
low_and_back_report = codes "epoch 0\n> start a\nok\nstate high free 90\ngrant a 86\nepoch 1\n> start b\nrevoke a 1\nok\nstate low free 0\nrevoke a 7\npage a 1\nblock a\nepoch 2\nstate hard free 7\na r 0 0 00\nepoch 3\nstate soft free 7\na r 1 0 00\nend\na target 88 held 88 swapped 0 balloon 12 active 65536 bad 0 done 3\nb target 5 held 5 swapped 0 balloon 0 active 65536 bad 0 done 0\nmachine 100 held 93 free 7 overhead 0\n"

abbrev pub no_epochs : Config
no_epochs = record {
  machine = record { frames = 100; swap = 0; overhead = 0; tax = 7500; percent = record { high = 600; soft = 400; hard = 200; low = 100 }; page_rate = 16; rebalance = 0; page = 4 };
  epochs = 0;
  domains = (
      record { name = codes "web"; config = record { size = 4; min = 4; shares = 1000; samples = 100; period = 1000; rate = 16; quantum = 100; seed = 0; stream = 0; tell = true; own_driver = true; page = 4; trace = (Write 0 0 (255 ∷ []) ∷ Read 0 0 4 ∷ []) } } ∷ []);
  autostart = (true ∷ []);
  commands = ([]);
}

abbrev pub no_epochs_report : List ℕ
no_epochs_report = codes "end\nmachine 100 held 0 free 100 overhead 0\n"

abbrev pub no_guests : Config
no_guests = record {
  machine = record { frames = 10; swap = 0; overhead = 0; tax = 7500; percent = record { high = 600; soft = 400; hard = 200; low = 100 }; page_rate = 16; rebalance = 0; page = 4 };
  epochs = 1;
  domains = ([]);
  autostart = ([]);
  commands = ([]);
}

abbrev pub no_guests_report : List ℕ
no_guests_report = codes "epoch 0\nstate high free 10\nend\nmachine 10 held 0 free 10 overhead 0\n"

abbrev pub overhead_admitted : Config
overhead_admitted = record {
  machine = record { frames = 100; swap = 0; overhead = 1; tax = 7500; percent = record { high = 600; soft = 400; hard = 200; low = 100 }; page_rate = 16; rebalance = 0; page = 4 };
  epochs = 1;
  domains = (
      record { name = codes "a"; config = record { size = 60; min = 60; shares = 1000; samples = 100; period = 1000; rate = 16; quantum = 100; seed = 0; stream = 0; tell = true; own_driver = true; page = 4; trace = ([]) } } ∷
      record { name = codes "b"; config = record { size = 38; min = 38; shares = 1000; samples = 100; period = 1000; rate = 16; quantum = 100; seed = 0; stream = 0; tell = true; own_driver = true; page = 4; trace = ([]) } } ∷ []);
  autostart = (true ∷ true ∷ []);
  commands = ([]);
}

abbrev pub overhead_admitted_report : List ℕ
overhead_admitted_report = codes "epoch 0\n> start a\nok\n> start b\nok\nstate low free 0\nend\na target 60 held 60 swapped 0 balloon 0 active 65536 bad 0 done 0\nb target 38 held 38 swapped 0 balloon 0 active 65536 bad 0 done 0\nmachine 100 held 98 free 0 overhead 2\n"

abbrev pub overhead_refused : Config
overhead_refused = record {
  machine = record { frames = 100; swap = 0; overhead = 1; tax = 7500; percent = record { high = 600; soft = 400; hard = 200; low = 100 }; page_rate = 16; rebalance = 0; page = 4 };
  epochs = 1;
  domains = (
      record { name = codes "a"; config = record { size = 60; min = 60; shares = 1000; samples = 100; period = 1000; rate = 16; quantum = 100; seed = 0; stream = 0; tell = true; own_driver = true; page = 4; trace = ([]) } } ∷
      record { name = codes "b"; config = record { size = 39; min = 39; shares = 1000; samples = 100; period = 1000; rate = 16; quantum = 100; seed = 0; stream = 0; tell = true; own_driver = true; page = 4; trace = ([]) } } ∷ []);
  autostart = (true ∷ true ∷ []);
  commands = ([]);
}

abbrev pub overhead_refused_report : List ℕ
overhead_refused_report = codes "epoch 0\n> start a\nok\n> start b\nerror 8 no memory to reserve\nstate high free 39\nend\na target 60 held 60 swapped 0 balloon 0 active 65536 bad 0 done 0\nmachine 100 held 60 free 39 overhead 1\n"

abbrev pub raised_minimum : Config
raised_minimum = record {
  machine = record { frames = 100; swap = 98; overhead = 0; tax = 7500; percent = record { high = 600; soft = 400; hard = 200; low = 100 }; page_rate = 16; rebalance = 0; page = 4 };
  epochs = 2;
  domains = (
      record { name = codes "a"; config = record { size = 90; min = 10; shares = 1000; samples = 100; period = 1000; rate = 16; quantum = 1; seed = 0; stream = 0; tell = true; own_driver = true; page = 4; trace = ([]) } } ∷
      record { name = codes "b"; config = record { size = 20; min = 2; shares = 1; samples = 100; period = 1000; rate = 16; quantum = 1; seed = 0; stream = 0; tell = true; own_driver = true; page = 4; trace = ([]) } } ∷ []);
  autostart = (true ∷ true ∷ []);
  commands = (
      record { at = 1; line = codes "memtune b --min-guarantee 64" } ∷ []);
}

abbrev pub raised_minimum_report : List ℕ
raised_minimum_report = codes "epoch 0\n> start a\nok\n> start b\nok\nstate high free 88\ngrant a 80\ngrant b 4\nepoch 1\n> memtune b --min-guarantee 64\nrevoke a 6\nok\nstate low free 0\nrevoke a 7\npage a 7\nend\na target 77 held 77 swapped 0 balloon 0 active 65536 bad 0 done 0\nb target 16 held 16 swapped 0 balloon 14 active 65536 bad 0 done 0\nmachine 100 held 93 free 7 overhead 0\n"

abbrev pub raw_inflate : Config
raw_inflate = record {
  machine = record { frames = 100; swap = 0; overhead = 0; tax = 7500; percent = record { high = 600; soft = 400; hard = 200; low = 100 }; page_rate = 16; rebalance = 0; page = 4 };
  epochs = 2;
  domains = (
      record { name = codes "g"; config = record { size = 4; min = 4; shares = 1000; samples = 100; period = 1000; rate = 16; quantum = 100; seed = 0; stream = 0; tell = true; own_driver = true; page = 4; trace = (Write 0 0 (255 ∷ []) ∷ Post Inflate (0 ∷ 0 ∷ 0 ∷ 0 ∷ []) ∷ Read 0 0 1 ∷ []) } } ∷ []);
  autostart = (true ∷ []);
  commands = ([]);
}

abbrev pub raw_inflate_report : List ℕ
raw_inflate_report = codes "epoch 0\n> start g\nok\nstate high free 96\ng stall 0\nepoch 1\nstate high free 96\ng r 0 0 00\nend\ng target 4 held 4 swapped 0 balloon 0 active 65536 bad 0 done 3\nmachine 100 held 4 free 96 overhead 0\n"

abbrev pub reserves_enough : Config
reserves_enough = record {
  machine = record { frames = 100; swap = 12; overhead = 0; tax = 7500; percent = record { high = 600; soft = 400; hard = 200; low = 100 }; page_rate = 16; rebalance = 0; page = 4 };
  epochs = 1;
  domains = (
      record { name = codes "a"; config = record { size = 16; min = 4; shares = 1000; samples = 100; period = 1000; rate = 16; quantum = 100; seed = 0; stream = 0; tell = true; own_driver = true; page = 4; trace = ([]) } } ∷ []);
  autostart = (true ∷ []);
  commands = ([]);
}

abbrev pub reserves_enough_report : List ℕ
reserves_enough_report = codes "epoch 0\n> start a\nok\nstate high free 96\ngrant a 12\nend\na target 16 held 16 swapped 0 balloon 0 active 65536 bad 0 done 0\nmachine 100 held 16 free 84 overhead 0\n"

abbrev pub reserves_lowered : Config
reserves_lowered = record {
  machine = record { frames = 100; swap = 12; overhead = 0; tax = 7500; percent = record { high = 600; soft = 400; hard = 200; low = 100 }; page_rate = 16; rebalance = 0; page = 4 };
  epochs = 1;
  domains = (
      record { name = codes "a"; config = record { size = 16; min = 8; shares = 1000; samples = 100; period = 1000; rate = 16; quantum = 100; seed = 0; stream = 0; tell = true; own_driver = true; page = 4; trace = ([]) } } ∷ []);
  autostart = (true ∷ []);
  commands = (
      record { at = 0; line = codes "memtune a --min-guarantee 16" } ∷
      record { at = 0; line = codes "memtune a --min-guarantee 12" } ∷
      record { at = 0; line = codes "setmem a 12" } ∷ []);
}

abbrev pub reserves_lowered_report : List ℕ
reserves_lowered_report = codes "epoch 0\n> start a\nok\n> memtune a --min-guarantee 16\nok\n> memtune a --min-guarantee 12\nerror 9 no swap to reserve\n> setmem a 12\nerror 6 below minimum\nstate high free 92\ngrant a 8\nend\na target 16 held 16 swapped 0 balloon 0 active 65536 bad 0 done 0\nmachine 100 held 16 free 84 overhead 0\n"

abbrev pub reserves_short : Config
reserves_short = record {
  machine = record { frames = 100; swap = 11; overhead = 0; tax = 7500; percent = record { high = 600; soft = 400; hard = 200; low = 100 }; page_rate = 16; rebalance = 0; page = 4 };
  epochs = 1;
  domains = (
      record { name = codes "a"; config = record { size = 16; min = 4; shares = 1000; samples = 100; period = 1000; rate = 16; quantum = 100; seed = 0; stream = 0; tell = true; own_driver = true; page = 4; trace = ([]) } } ∷ []);
  autostart = (true ∷ []);
  commands = ([]);
}

abbrev pub reserves_short_report : List ℕ
reserves_short_report = codes "epoch 0\n> start a\nerror 9 no swap to reserve\nstate high free 100\nend\nmachine 100 held 0 free 100 overhead 0\n"

abbrev pub restart : Config
restart = record {
  machine = record { frames = 100; swap = 0; overhead = 0; tax = 7500; percent = record { high = 600; soft = 400; hard = 200; low = 100 }; page_rate = 16; rebalance = 0; page = 4 };
  epochs = 2;
  domains = (
      record { name = codes "web"; config = record { size = 4; min = 4; shares = 1000; samples = 100; period = 1000; rate = 16; quantum = 100; seed = 0; stream = 0; tell = true; own_driver = true; page = 4; trace = (Write 0 0 (255 ∷ []) ∷ Read 0 0 4 ∷ []) } } ∷ []);
  autostart = (true ∷ []);
  commands = (
      record { at = 1; line = codes "destroy web" } ∷
      record { at = 1; line = codes "destroy web" } ∷
      record { at = 1; line = codes "start web" } ∷
      record { at = 1; line = codes "start web" } ∷ []);
}

abbrev pub restart_report : List ℕ
restart_report = codes "epoch 0\n> start web\nok\nstate high free 96\nweb r 0 0 ff000000\nepoch 1\n> destroy web\nok\n> destroy web\nerror 3 not running\n> start web\nok\n> start web\nerror 2 already running\nstate high free 96\nweb r 0 0 ff000000\nend\nweb target 4 held 4 swapped 0 balloon 0 active 65536 bad 0 done 2\nmachine 100 held 4 free 96 overhead 0\n"

abbrev pub sizes : Config
sizes = record {
  machine = record { frames = 1000; swap = 200; overhead = 0; tax = 7500; percent = record { high = 600; soft = 400; hard = 200; low = 100 }; page_rate = 16; rebalance = 0; page = 4 };
  epochs = 1;
  domains = (
      record { name = codes "web"; config = record { size = 300; min = 100; shares = 1000; samples = 100; period = 1000; rate = 16; quantum = 100; seed = 0; stream = 0; tell = true; own_driver = true; page = 4; trace = ([]) } } ∷ []);
  autostart = (true ∷ []);
  commands = (
      record { at = 0; line = codes "setmem web 1MB" } ∷
      record { at = 0; line = codes "setmem web 1k" } ∷
      record { at = 0; line = codes "setmem web 2M" } ∷
      record { at = 0; line = codes "memtune web --min-guarantee 800" } ∷
      record { at = 0; line = codes "memshares web 500" } ∷
      record { at = 0; line = codes "setmem db 8" } ∷
      record { at = 0; line = codes "setmem web" } ∷
      record { at = 0; line = codes "setmem web 1x" } ∷ []);
}

abbrev pub sizes_report : List ℕ
sizes_report = codes "epoch 0\n> start web\nok\n> setmem web 1MB\nok\n> setmem web 1k\nerror 6 below minimum\n> setmem web 2M\nerror 7 above maximum\n> memtune web --min-guarantee 800\nok\n> memshares web 500\nok\n> setmem db 8\nerror 1 no such domain\n> setmem web\nerror 4 bad line\n> setmem web 1x\nerror 5 bad size\nstate high free 800\ngrant web 45\nend\nweb target 245 held 245 swapped 0 balloon 0 active 65536 bad 0 done 0\nmachine 1000 held 245 free 755 overhead 0\n"

abbrev pub slow_decay : Config
slow_decay = record {
  machine = record { frames = 100; swap = 0; overhead = 0; tax = 7500; percent = record { high = 600; soft = 400; hard = 200; low = 100 }; page_rate = 16; rebalance = 0; page = 4 };
  epochs = 3;
  domains = (
      record { name = codes "z"; config = record { size = 1; min = 1; shares = 1000; samples = 4; period = 2; rate = 16; quantum = 2; seed = 0; stream = 0; tell = true; own_driver = true; page = 4; trace = ([]) } } ∷ []);
  autostart = (true ∷ []);
  commands = ([]);
}

abbrev pub slow_decay_report : List ℕ
slow_decay_report = codes "epoch 0\n> start z\nok\nstate high free 99\nepoch 1\nstate high free 99\nepoch 2\nstate high free 99\nend\nz target 1 held 1 swapped 0 balloon 0 active 43904 bad 0 done 0\nmachine 100 held 1 free 99 overhead 0\n"

abbrev pub stall_on_absent : Config
stall_on_absent = record {
  machine = record { frames = 100; swap = 2; overhead = 0; tax = 7500; percent = record { high = 600; soft = 400; hard = 200; low = 100 }; page_rate = 16; rebalance = 0; page = 4 };
  epochs = 2;
  domains = (
      record { name = codes "g"; config = record { size = 4; min = 2; shares = 1000; samples = 1; period = 1000; rate = 16; quantum = 100; seed = 42; stream = 54; tell = true; own_driver = true; page = 4; trace = (Read 3 0 1 ∷ []) } } ∷ []);
  autostart = (true ∷ []);
  commands = (
      record { at = 0; line = codes "setmem g 8" } ∷ []);
}

abbrev pub stall_on_absent_report : List ℕ
stall_on_absent_report = codes "epoch 0\n> start g\nok\n> setmem g 8\nok\nstate high free 98\ng stall 3\nepoch 1\nstate high free 98\ng r 3 0 00\nend\ng target 2 held 2 swapped 0 balloon 1 active 65536 bad 0 done 1\nmachine 100 held 2 free 98 overhead 0\n"

abbrev pub statistics_driver : Config
statistics_driver = record {
  machine = record { frames = 100; swap = 0; overhead = 0; tax = 7500; percent = record { high = 600; soft = 400; hard = 200; low = 100 }; page_rate = 16; rebalance = 0; page = 4 };
  epochs = 2;
  domains = (
      record { name = codes "g"; config = record { size = 4; min = 4; shares = 1000; samples = 100; period = 1000; rate = 16; quantum = 100; seed = 0; stream = 0; tell = true; own_driver = true; page = 4; trace = ([]) } } ∷ []);
  autostart = (true ∷ []);
  commands = (
      record { at = 1; line = codes "dommemstat g" } ∷ []);
}

abbrev pub statistics_driver_report : List ℕ
statistics_driver_report = codes "epoch 0\n> start g\nok\nstate high free 96\nepoch 1\n> dommemstat g\nactual 16\nminor_fault 0\nunused 16\navailable 16\nusable 16\nrss 16\nstate high free 96\nend\ng target 4 held 4 swapped 0 balloon 0 active 65536 bad 0 done 0\nmachine 100 held 4 free 96 overhead 0\n"

abbrev pub statistics_raw : Config
statistics_raw = record {
  machine = record { frames = 100; swap = 0; overhead = 0; tax = 7500; percent = record { high = 600; soft = 400; hard = 200; low = 100 }; page_rate = 16; rebalance = 0; page = 4 };
  epochs = 2;
  domains = (
      record { name = codes "g"; config = record { size = 4; min = 4; shares = 1000; samples = 100; period = 1000; rate = 16; quantum = 100; seed = 0; stream = 0; tell = true; own_driver = true; page = 4; trace = (Post Stats (5 ∷ 0 ∷ 0 ∷ 0 ∷ 1 ∷ 0 ∷ 0 ∷ 0 ∷ 0 ∷ 0 ∷ []) ∷ []) } } ∷ []);
  autostart = (true ∷ []);
  commands = (
      record { at = 1; line = codes "dommemstat g" } ∷ []);
}

abbrev pub statistics_raw_report : List ℕ
statistics_raw_report = codes "epoch 0\n> start g\nok\nstate high free 96\nepoch 1\n> dommemstat g\nactual 16\navailable 64\nrss 16\nstate high free 96\nend\ng target 4 held 4 swapped 0 balloon 0 active 65536 bad 0 done 1\nmachine 100 held 4 free 96 overhead 0\n"

abbrev pub statistics_repeated : Config
statistics_repeated = record {
  machine = record { frames = 100; swap = 0; overhead = 0; tax = 7500; percent = record { high = 600; soft = 400; hard = 200; low = 100 }; page_rate = 16; rebalance = 0; page = 4 };
  epochs = 2;
  domains = (
      record { name = codes "g"; config = record { size = 4; min = 4; shares = 1000; samples = 100; period = 1000; rate = 16; quantum = 100; seed = 0; stream = 0; tell = true; own_driver = true; page = 4; trace = (Post Stats (4 ∷ 0 ∷ 0 ∷ 16 ∷ 0 ∷ 0 ∷ 0 ∷ 0 ∷ 0 ∷ 0 ∷ 99 ∷ 0 ∷ 1 ∷ 0 ∷ 0 ∷ 0 ∷ 0 ∷ 0 ∷ 0 ∷ 0 ∷ 5 ∷ 0 ∷ 0 ∷ 32 ∷ 0 ∷ 0 ∷ 0 ∷ 0 ∷ 0 ∷ 0 ∷ []) ∷ []) } } ∷ []);
  autostart = (true ∷ []);
  commands = (
      record { at = 1; line = codes "dommemstat g" } ∷ []);
}

abbrev pub statistics_repeated_report : List ℕ
statistics_repeated_report = codes "epoch 0\n> start g\nok\nstate high free 96\nepoch 1\n> dommemstat g\nactual 16\nunused 4\navailable 8\nrss 16\nstate high free 96\nend\ng target 4 held 4 swapped 0 balloon 0 active 65536 bad 0 done 1\nmachine 100 held 4 free 96 overhead 0\n"

abbrev pub swap_and_stall : Config
swap_and_stall = record {
  machine = record { frames = 100; swap = 2; overhead = 0; tax = 7500; percent = record { high = 600; soft = 400; hard = 200; low = 100 }; page_rate = 16; rebalance = 0; page = 4 };
  epochs = 2;
  domains = (
      record { name = codes "g"; config = record { size = 4; min = 2; shares = 1000; samples = 1; period = 1000; rate = 16; quantum = 100; seed = 42; stream = 54; tell = true; own_driver = true; page = 4; trace = (Write 0 0 (170 ∷ []) ∷ Write 1 0 (187 ∷ []) ∷ Write 2 0 (204 ∷ []) ∷ Read 0 0 1 ∷ []) } } ∷ []);
  autostart = (true ∷ []);
  commands = (
      record { at = 0; line = codes "setmem g 8" } ∷ []);
}

abbrev pub swap_and_stall_report : List ℕ
swap_and_stall_report = codes "epoch 0\n> start g\nok\n> setmem g 8\nok\nstate high free 98\ng stall 2\nepoch 1\nstate high free 98\ng r 0 0 aa\nend\ng target 2 held 2 swapped 1 balloon 1 active 65536 bad 0 done 4\nmachine 100 held 2 free 98 overhead 0\n"

abbrev pub told_first : Config
told_first = record {
  machine = record { frames = 100; swap = 2; overhead = 0; tax = 7500; percent = record { high = 600; soft = 400; hard = 200; low = 100 }; page_rate = 16; rebalance = 0; page = 4 };
  epochs = 2;
  domains = (
      record { name = codes "g"; config = record { size = 4; min = 2; shares = 1000; samples = 1; period = 1000; rate = 16; quantum = 1; seed = 42; stream = 54; tell = true; own_driver = true; page = 4; trace = (Idle ∷ Read 3 0 1 ∷ []) } } ∷ []);
  autostart = (true ∷ []);
  commands = (
      record { at = 0; line = codes "setmem g 8" } ∷ []);
}

abbrev pub told_first_report : List ℕ
told_first_report = codes "epoch 0\n> start g\nok\n> setmem g 8\nok\nstate high free 98\nepoch 1\nstate high free 98\ng stall 3\nend\ng target 2 held 2 swapped 0 balloon 2 active 65536 bad 0 done 1\nmachine 100 held 2 free 98 overhead 0\n"

abbrev pub too_many_raw : Config
too_many_raw = record {
  machine = record { frames = 100; swap = 0; overhead = 0; tax = 7500; percent = record { high = 600; soft = 400; hard = 200; low = 100 }; page_rate = 16; rebalance = 0; page = 4 };
  epochs = 1;
  domains = (
      record { name = codes "g"; config = record { size = 4; min = 4; shares = 1000; samples = 100; period = 1000; rate = 16; quantum = 100; seed = 0; stream = 0; tell = true; own_driver = true; page = 4; trace = (Post Stats (0 ∷ []) ∷ Post Stats (0 ∷ []) ∷ Post Stats (0 ∷ []) ∷ Post Stats (0 ∷ []) ∷ Post Stats (0 ∷ []) ∷ Post Stats (0 ∷ []) ∷ Post Stats (0 ∷ []) ∷ Post Stats (0 ∷ []) ∷ Post Stats (0 ∷ []) ∷ Post Stats (0 ∷ []) ∷ Post Stats (0 ∷ []) ∷ Post Stats (0 ∷ []) ∷ Post Stats (0 ∷ []) ∷ Post Stats (0 ∷ []) ∷ Post Stats (0 ∷ []) ∷ Post Stats (0 ∷ []) ∷ Post Stats (0 ∷ []) ∷ []) } } ∷ []);
  autostart = (true ∷ []);
  commands = ([]);
}

abbrev pub too_many_raw_report : List ℕ
too_many_raw_report = codes "epoch 0\n> start g\nok\nstate high free 96\nend\ng target 4 held 4 swapped 0 balloon 0 active 65536 bad 1 done 17\nmachine 100 held 4 free 96 overhead 0\n"

abbrev pub two_in_order : Config
two_in_order = record {
  machine = record { frames = 100; swap = 0; overhead = 0; tax = 7500; percent = record { high = 600; soft = 400; hard = 200; low = 100 }; page_rate = 16; rebalance = 0; page = 4 };
  epochs = 2;
  domains = (
      record { name = codes "a"; config = record { size = 2; min = 2; shares = 1000; samples = 100; period = 1000; rate = 16; quantum = 1; seed = 0; stream = 0; tell = true; own_driver = true; page = 4; trace = (Write 0 0 (10 ∷ []) ∷ Read 0 0 1 ∷ []) } } ∷
      record { name = codes "b"; config = record { size = 1; min = 1; shares = 1000; samples = 100; period = 1000; rate = 16; quantum = 1; seed = 0; stream = 0; tell = true; own_driver = true; page = 4; trace = (Read 0 0 2 ∷ []) } } ∷ []);
  autostart = (true ∷ true ∷ []);
  commands = ([]);
}

abbrev pub two_in_order_report : List ℕ
two_in_order_report = codes "epoch 0\n> start a\nok\n> start b\nok\nstate high free 97\nb r 0 0 0000\nepoch 1\nstate high free 97\na r 0 0 0a\nend\na target 2 held 2 swapped 0 balloon 0 active 65536 bad 0 done 2\nb target 1 held 1 swapped 0 balloon 0 active 65536 bad 0 done 1\nmachine 100 held 3 free 97 overhead 0\n"

abbrev pub version_2 : Config
version_2 = record {
  machine = record { frames = 200; swap = 190; overhead = 0; tax = 7500; percent = record { high = 650; soft = 450; hard = 250; low = 50 }; page_rate = 16; rebalance = 0; page = 4 };
  epochs = 1;
  domains = (
      record { name = codes "web"; config = record { size = 200; min = 10; shares = 1000; samples = 100; period = 1000; rate = 16; quantum = 100; seed = 0; stream = 0; tell = true; own_driver = true; page = 4; trace = (Read 0 0 1 ∷ []) } } ∷ []);
  autostart = (true ∷ []);
  commands = ([]);
}

abbrev pub version_2_report : List ℕ
version_2_report = codes "epoch 0\n> start web\nok\nstate high free 190\ngrant web 181\nweb r 0 0 00\nend\nweb target 191 held 191 swapped 0 balloon 0 active 65536 bad 0 done 1\nmachine 200 held 191 free 9 overhead 0\n"

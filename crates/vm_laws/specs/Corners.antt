-- Whole reports at the corners of the rules: refusals, books, caps, restarts, statistics, and all four states.
use Rattle.std.specs.Prelude.{ℕ, List, true, false, [], ◌∷◌, codes}
use Rattle.vm_config.specs.declared.config.Config.{Config}
use Rattle.vm_trace.specs.declared.step.Action.TheVariants.{Read, Write, Free, Idle, Post}
use Rattle.vm_trace.specs.declared.step.Queue.TheVariants.{Stats}

abbrev pub both_books : Config
both_books = record {
  machine = record { frames = 10; swap = 5; overhead = 0; tax = 7500; percent = record { high = 600; soft = 400; hard = 200; low = 100 }; page_rate = 16; rebalance = 0; page = 4 };
  epochs = 1;
  domains = (
      record { name = codes "a"; config = record { size = 6; min = 6; shares = 1000; samples = 100; period = 1000; rate = 16; quantum = 1; seed = 0; stream = 0; tell = true; own_driver = true; page = 4; trace = ([]) } } ∷
      record { name = codes "b"; config = record { size = 20; min = 5; shares = 1000; samples = 100; period = 1000; rate = 16; quantum = 1; seed = 0; stream = 0; tell = true; own_driver = true; page = 4; trace = ([]) } } ∷
      record { name = codes "c"; config = record { size = 12; min = 4; shares = 1000; samples = 100; period = 1000; rate = 16; quantum = 1; seed = 0; stream = 0; tell = true; own_driver = true; page = 4; trace = ([]) } } ∷
      record { name = codes "d"; config = record { size = 8; min = 4; shares = 1000; samples = 100; period = 1000; rate = 16; quantum = 1; seed = 0; stream = 0; tell = true; own_driver = true; page = 4; trace = ([]) } } ∷ []);
  autostart = (true ∷ true ∷ true ∷ true ∷ []);
  commands = ([]);
}

abbrev pub both_books_report : List ℕ
both_books_report = codes "epoch 0\n> start a\nok\n> start b\nerror 8 no memory to reserve\n> start c\nerror 9 no swap to reserve\n> start d\nok\nstate high free 0\nend\na target 6 held 6 swapped 0 balloon 0 active 65536 bad 0 done 0\nd target 4 held 4 swapped 0 balloon 0 active 65536 bad 0 done 0\nmachine 10 held 10 free 0 overhead 0\n"

abbrev pub caps_and_demand : Config
caps_and_demand = record {
  machine = record { frames = 40; swap = 60; overhead = 0; tax = 7500; percent = record { high = 5000; soft = 5000; hard = 0; low = 0 }; page_rate = 16; rebalance = 0; page = 4 };
  epochs = 4;
  domains = (
      record { name = codes "a"; config = record { size = 16; min = 4; shares = 1000; samples = 100; period = 1000; rate = 2; quantum = 3; seed = 0; stream = 0; tell = true; own_driver = true; page = 4; trace = (Read 0 0 1 ∷ Read 1 0 1 ∷ Read 2 0 1 ∷ Read 3 0 1 ∷ Read 4 0 1 ∷ Read 5 0 1 ∷ []) } } ∷
      record { name = codes "b"; config = record { size = 16; min = 16; shares = 1000; samples = 100; period = 1000; rate = 16; quantum = 3; seed = 0; stream = 0; tell = true; own_driver = true; page = 4; trace = ([]) } } ∷ []);
  autostart = (true ∷ true ∷ []);
  commands = (
      record { at = 0; line = codes "setmem a 32" } ∷
      record { at = 0; line = codes "setmem a 40" } ∷
      record { at = 1; line = codes "setmem a 24" } ∷
      record { at = 1; line = codes "setmem a 28" } ∷
      record { at = 2; line = codes "destroy b" } ∷
      record { at = 2; line = codes "setmem a 32" } ∷
      record { at = 3; line = codes "setmem a 64" } ∷ []);
}

abbrev pub caps_and_demand_report : List ℕ
caps_and_demand_report = codes "epoch 0\n> start a\nok\n> start b\nok\n> setmem a 32\nok\n> setmem a 40\nok\nstate high free 20\na r 0 0 00\na r 1 0 00\na r 2 0 00\nepoch 1\n> setmem a 24\nok\n> setmem a 28\nok\nstate high free 20\na r 3 0 00\na r 4 0 00\na r 5 0 00\nepoch 2\n> destroy b\nok\n> setmem a 32\nok\nstate high free 36\ngrant a 3\nepoch 3\n> setmem a 64\nok\nstate high free 33\ngrant a 8\nend\na target 15 held 15 swapped 2 balloon 6 active 65536 bad 0 done 6\nmachine 40 held 15 free 25 overhead 0\n"

abbrev pub freed_pages_come_back : Config
freed_pages_come_back = record {
  machine = record { frames = 20; swap = 60; overhead = 0; tax = 7500; percent = record { high = 600; soft = 400; hard = 200; low = 100 }; page_rate = 16; rebalance = 0; page = 4 };
  epochs = 3;
  domains = (
      record { name = codes "a"; config = record { size = 8; min = 2; shares = 1000; samples = 100; period = 1000; rate = 16; quantum = 10; seed = 0; stream = 0; tell = true; own_driver = true; page = 4; trace = (Write 0 0 (1 ∷ []) ∷ Write 1 0 (1 ∷ []) ∷ Write 2 0 (1 ∷ []) ∷ Write 3 0 (1 ∷ []) ∷ Write 4 0 (1 ∷ []) ∷ Write 5 0 (1 ∷ []) ∷ Write 6 0 (1 ∷ []) ∷ Write 7 0 (1 ∷ []) ∷ Free 7 ∷ Free 6 ∷ []) } } ∷ []);
  autostart = (true ∷ []);
  commands = (
      record { at = 1; line = codes "setmem a 24" } ∷ []);
}

abbrev pub freed_pages_come_back_report : List ℕ
freed_pages_come_back_report = codes "epoch 0\n> start a\nok\nstate high free 18\ngrant a 6\nepoch 1\n> setmem a 24\nok\nstate high free 12\nepoch 2\nstate high free 14\nend\na target 6 held 6 swapped 0 balloon 2 active 65536 bad 0 done 10\nmachine 20 held 6 free 14 overhead 0\n"

abbrev pub least_minimum : Config
least_minimum = record {
  machine = record { frames = 40; swap = 12; overhead = 0; tax = 7500; percent = record { high = 600; soft = 400; hard = 200; low = 100 }; page_rate = 16; rebalance = 0; page = 4 };
  epochs = 2;
  domains = (
      record { name = codes "a"; config = record { size = 10; min = 8; shares = 1000; samples = 100; period = 1000; rate = 16; quantum = 1; seed = 0; stream = 0; tell = true; own_driver = true; page = 4; trace = ([]) } } ∷
      record { name = codes "b"; config = record { size = 6; min = 2; shares = 1000; samples = 100; period = 1000; rate = 16; quantum = 1; seed = 0; stream = 0; tell = true; own_driver = true; page = 4; trace = ([]) } } ∷ []);
  autostart = (true ∷ false ∷ []);
  commands = (
      record { at = 0; line = codes "memtune a --min-guarantee 4" } ∷
      record { at = 0; line = codes "start b" } ∷
      record { at = 1; line = codes "memtune a --min-guarantee 32" } ∷
      record { at = 1; line = codes "start b" } ∷ []);
}

abbrev pub least_minimum_report : List ℕ
least_minimum_report = codes "epoch 0\n> start a\nok\n> memtune a --min-guarantee 4\nok\n> start b\nerror 9 no swap to reserve\nstate high free 32\ngrant a 2\nepoch 1\n> memtune a --min-guarantee 32\nok\n> start b\nerror 9 no swap to reserve\nstate high free 30\nend\na target 10 held 10 swapped 0 balloon 0 active 65536 bad 0 done 0\nmachine 40 held 10 free 30 overhead 0\n"

abbrev pub memtune_books : Config
memtune_books = record {
  machine = record { frames = 12; swap = 9; overhead = 1; tax = 7500; percent = record { high = 600; soft = 400; hard = 200; low = 100 }; page_rate = 16; rebalance = 0; page = 4 };
  epochs = 1;
  domains = (
      record { name = codes "a"; config = record { size = 10; min = 3; shares = 1000; samples = 100; period = 1000; rate = 16; quantum = 1; seed = 0; stream = 0; tell = true; own_driver = true; page = 4; trace = ([]) } } ∷
      record { name = codes "b"; config = record { size = 6; min = 5; shares = 1000; samples = 100; period = 1000; rate = 16; quantum = 1; seed = 0; stream = 0; tell = true; own_driver = true; page = 4; trace = ([]) } } ∷ []);
  autostart = (true ∷ true ∷ []);
  commands = (
      record { at = 0; line = codes "memtune a --min-guarantee 24" } ∷
      record { at = 0; line = codes "memtune a --min-guarantee 20" } ∷
      record { at = 0; line = codes "memtune a --min-guarantee 4" } ∷
      record { at = 0; line = codes "memtune b --min-guarantee 28" } ∷
      record { at = 0; line = codes "memtune a --min-guarantee 8" } ∷ []);
}

abbrev pub memtune_books_report : List ℕ
memtune_books_report = codes "epoch 0\n> start a\nok\n> start b\nok\n> memtune a --min-guarantee 24\nerror 8 no memory to reserve\n> memtune a --min-guarantee 20\nok\n> memtune a --min-guarantee 4\nerror 9 no swap to reserve\n> memtune b --min-guarantee 28\nerror 7 above maximum\n> memtune a --min-guarantee 8\nok\nstate high free 0\nend\na target 5 held 5 swapped 0 balloon 0 active 65536 bad 0 done 0\nb target 5 held 5 swapped 0 balloon 0 active 65536 bad 0 done 0\nmachine 12 held 10 free 0 overhead 2\n"

abbrev pub minimum_keeps_demand : Config
minimum_keeps_demand = record {
  machine = record { frames = 20; swap = 60; overhead = 0; tax = 7500; percent = record { high = 5000; soft = 5000; hard = 0; low = 0 }; page_rate = 16; rebalance = 0; page = 4 };
  epochs = 2;
  domains = (
      record { name = codes "a"; config = record { size = 20; min = 4; shares = 1000; samples = 100; period = 1000; rate = 1; quantum = 8; seed = 0; stream = 0; tell = true; own_driver = true; page = 4; trace = (Read 0 0 1 ∷ Read 1 0 1 ∷ Read 2 0 1 ∷ Read 3 0 1 ∷ Read 4 0 1 ∷ Read 5 0 1 ∷ Read 6 0 1 ∷ Read 7 0 1 ∷ []) } } ∷
      record { name = codes "b"; config = record { size = 6; min = 6; shares = 1000; samples = 100; period = 1000; rate = 16; quantum = 8; seed = 0; stream = 0; tell = true; own_driver = true; page = 4; trace = ([]) } } ∷ []);
  autostart = (true ∷ true ∷ []);
  commands = (
      record { at = 1; line = codes "destroy b" } ∷
      record { at = 1; line = codes "memtune a --min-guarantee 24" } ∷ []);
}

abbrev pub minimum_keeps_demand_report : List ℕ
minimum_keeps_demand_report = codes "epoch 0\n> start a\nok\n> start b\nok\nstate high free 10\na r 0 0 00\na r 1 0 00\na r 2 0 00\na r 3 0 00\na r 4 0 00\na r 5 0 00\na r 6 0 00\na r 7 0 00\nepoch 1\n> destroy b\nok\n> memtune a --min-guarantee 24\nok\nstate high free 14\ngrant a 4\nend\na target 10 held 10 swapped 4 balloon 1 active 65536 bad 0 done 8\nmachine 20 held 10 free 10 overhead 0\n"

abbrev pub next_best : Config
next_best = record {
  machine = record { frames = 31; swap = 200; overhead = 0; tax = 0; percent = record { high = 1000; soft = 1000; hard = 200; low = 200 }; page_rate = 1; rebalance = 0; page = 4 };
  epochs = 1;
  domains = (
      record { name = codes "a"; config = record { size = 8; min = 4; shares = 48; samples = 1; period = 1000; rate = 16; quantum = 1; seed = 0; stream = 0; tell = true; own_driver = true; page = 4; trace = ([]) } } ∷
      record { name = codes "b"; config = record { size = 16; min = 13; shares = 146; samples = 1; period = 1000; rate = 16; quantum = 1; seed = 0; stream = 0; tell = true; own_driver = true; page = 4; trace = ([]) } } ∷
      record { name = codes "c"; config = record { size = 17; min = 12; shares = 100; samples = 1; period = 1000; rate = 16; quantum = 1; seed = 0; stream = 0; tell = true; own_driver = true; page = 4; trace = ([]) } } ∷ []);
  autostart = (true ∷ true ∷ true ∷ []);
  commands = (
      record { at = 0; line = codes "memtune c --min-guarantee 20" } ∷ []);
}

abbrev pub next_best_report : List ℕ
next_best_report = codes "epoch 0\n> start a\nok\n> start b\nok\n> start c\nok\n> memtune c --min-guarantee 20\nok\nstate soft free 2\nrevoke c 2\nend\na target 4 held 4 swapped 0 balloon 0 active 65536 bad 0 done 0\nb target 13 held 13 swapped 0 balloon 0 active 65536 bad 0 done 0\nc target 10 held 12 swapped 0 balloon 0 active 65536 bad 0 done 0\nmachine 31 held 29 free 2 overhead 0\n"

abbrev pub refusals : Config
refusals = record {
  machine = record { frames = 20; swap = 20; overhead = 1; tax = 7500; percent = record { high = 600; soft = 400; hard = 200; low = 100 }; page_rate = 16; rebalance = 0; page = 4 };
  epochs = 2;
  domains = (
      record { name = codes "a"; config = record { size = 8; min = 2; shares = 1000; samples = 100; period = 1000; rate = 16; quantum = 1; seed = 0; stream = 0; tell = true; own_driver = true; page = 4; trace = ([]) } } ∷
      record { name = codes "b"; config = record { size = 30; min = 18; shares = 1000; samples = 100; period = 1000; rate = 16; quantum = 1; seed = 0; stream = 0; tell = true; own_driver = true; page = 4; trace = ([]) } } ∷
      record { name = codes "c"; config = record { size = 25; min = 2; shares = 1000; samples = 100; period = 1000; rate = 16; quantum = 1; seed = 0; stream = 0; tell = true; own_driver = true; page = 4; trace = ([]) } } ∷ []);
  autostart = (true ∷ false ∷ false ∷ []);
  commands = (
      record { at = 0; line = codes "start b" } ∷
      record { at = 0; line = codes "start c" } ∷
      record { at = 0; line = codes "start a" } ∷
      record { at = 0; line = codes "start d" } ∷
      record { at = 0; line = codes "destroy b" } ∷
      record { at = 0; line = codes "setmem d 1x" } ∷
      record { at = 0; line = codes "setmem d 8" } ∷
      record { at = 0; line = codes "setmem b 1x" } ∷
      record { at = 0; line = codes "setmem b 8" } ∷
      record { at = 0; line = codes "setmem a 4" } ∷
      record { at = 0; line = codes "setmem a 36" } ∷
      record { at = 0; line = codes "setmem a 32" } ∷
      record { at = 0; line = codes "memtune b --min-guarantee 400" } ∷
      record { at = 0; line = codes "memtune a --min-guarantee 400" } ∷
      record { at = 0; line = codes "memtune a --min-guarantee 0" } ∷
      record { at = 1; line = codes "memshares b 5" } ∷
      record { at = 1; line = codes "memshares a 0" } ∷
      record { at = 1; line = codes "memshares a 5" } ∷
      record { at = 1; line = codes "dommemstat b" } ∷
      record { at = 1; line = codes "dommemstat a" } ∷
      record { at = 1; line = codes "dommemstat" } ∷
      record { at = 1; line = codes "setmem a 16" } ∷
      record { at = 1; line = codes "memtune a --min-guarantee 20" } ∷
      record { at = 1; line = codes "memtune a --min-guarantee=16" } ∷ []);
}

abbrev pub refusals_report : List ℕ
refusals_report = codes "epoch 0\n> start a\nok\n> start b\nerror 8 no memory to reserve\n> start c\nerror 9 no swap to reserve\n> start a\nerror 2 already running\n> start d\nerror 1 no such domain\n> destroy b\nerror 3 not running\n> setmem d 1x\nerror 5 bad size\n> setmem d 8\nerror 1 no such domain\n> setmem b 1x\nerror 5 bad size\n> setmem b 8\nerror 3 not running\n> setmem a 4\nerror 6 below minimum\n> setmem a 36\nerror 7 above maximum\n> setmem a 32\nok\n> memtune b --min-guarantee 400\nerror 3 not running\n> memtune a --min-guarantee 400\nerror 7 above maximum\n> memtune a --min-guarantee 0\nerror 5 bad size\nstate high free 17\ngrant a 6\nepoch 1\n> memshares b 5\nerror 3 not running\n> memshares a 0\nerror 5 bad size\n> memshares a 5\nok\n> dommemstat b\nerror 3 not running\n> dommemstat a\nactual 32\nminor_fault 0\nunused 32\navailable 32\nusable 32\nrss 32\n> dommemstat\nerror 4 bad line\n> setmem a 16\nok\n> memtune a --min-guarantee 20\nerror 7 above maximum\n> memtune a --min-guarantee=16\nok\nstate high free 11\nend\na target 4 held 8 swapped 0 balloon 0 active 65536 bad 0 done 0\nmachine 20 held 8 free 11 overhead 1\n"

abbrev pub restarted_shares : Config
restarted_shares = record {
  machine = record { frames = 20; swap = 60; overhead = 0; tax = 7500; percent = record { high = 5000; soft = 2500; hard = 1000; low = 500 }; page_rate = 16; rebalance = 0; page = 4 };
  epochs = 1;
  domains = (
      record { name = codes "a"; config = record { size = 12; min = 2; shares = 1000; samples = 100; period = 1000; rate = 16; quantum = 1; seed = 0; stream = 0; tell = true; own_driver = true; page = 4; trace = ([]) } } ∷
      record { name = codes "b"; config = record { size = 12; min = 2; shares = 1000; samples = 100; period = 1000; rate = 16; quantum = 1; seed = 0; stream = 0; tell = true; own_driver = true; page = 4; trace = ([]) } } ∷ []);
  autostart = (true ∷ true ∷ []);
  commands = (
      record { at = 0; line = codes "memshares b 1" } ∷
      record { at = 0; line = codes "destroy b" } ∷
      record { at = 0; line = codes "start b" } ∷ []);
}

abbrev pub restarted_shares_report : List ℕ
restarted_shares_report = codes "epoch 0\n> start a\nok\n> start b\nok\n> memshares b 1\nok\n> destroy b\nok\n> start b\nok\nstate high free 16\ngrant a 1\ngrant b 1\ngrant a 1\ngrant b 1\ngrant a 1\ngrant b 1\ngrant a 1\ngrant b 1\ngrant a 1\ngrant b 1\ngrant a 1\nend\na target 8 held 8 swapped 0 balloon 0 active 65536 bad 0 done 0\nb target 7 held 7 swapped 0 balloon 0 active 65536 bad 0 done 0\nmachine 20 held 15 free 5 overhead 0\n"

abbrev pub soft_to_low : Config
soft_to_low = record {
  machine = record { frames = 40; swap = 200; overhead = 0; tax = 7500; percent = record { high = 4000; soft = 3000; hard = 2000; low = 1000 }; page_rate = 2; rebalance = 0; page = 4 };
  epochs = 6;
  domains = (
      record { name = codes "a"; config = record { size = 30; min = 4; shares = 1000; samples = 100; period = 1000; rate = 1; quantum = 3; seed = 0; stream = 0; tell = true; own_driver = true; page = 4; trace = (Write 0 0 (1 ∷ []) ∷ Write 1 0 (2 ∷ []) ∷ Read 2 0 1 ∷ Read 0 0 1 ∷ Read 3 0 1 ∷ Read 1 0 1 ∷ Write 4 0 (5 ∷ []) ∷ Read 5 0 1 ∷ []) } } ∷
      record { name = codes "b"; config = record { size = 12; min = 2; shares = 1000; samples = 100; period = 1000; rate = 1; quantum = 3; seed = 0; stream = 0; tell = true; own_driver = true; page = 4; trace = ([]) } } ∷
      record { name = codes "x"; config = record { size = 3; min = 3; shares = 1000; samples = 100; period = 1000; rate = 16; quantum = 3; seed = 0; stream = 0; tell = true; own_driver = true; page = 4; trace = ([]) } } ∷
      record { name = codes "y"; config = record { size = 14; min = 14; shares = 1000; samples = 100; period = 1000; rate = 16; quantum = 3; seed = 0; stream = 0; tell = true; own_driver = true; page = 4; trace = ([]) } } ∷ []);
  autostart = (true ∷ true ∷ false ∷ false ∷ []);
  commands = (
      record { at = 1; line = codes "start x" } ∷
      record { at = 2; line = codes "start y" } ∷
      record { at = 3; line = codes "destroy x" } ∷ []);
}

abbrev pub soft_to_low_report : List ℕ
soft_to_low_report = codes "epoch 0\n> start a\nok\n> start b\nok\nstate high free 34\ngrant b 2\ngrant a 1\ngrant b 1\ngrant a 1\ngrant b 1\ngrant a 1\ngrant b 1\ngrant a 1\ngrant b 1\ngrant a 1\ngrant b 1\ngrant a 1\ngrant b 1\ngrant a 1\ngrant b 1\ngrant a 1\ngrant b 1\ngrant a 4\na r 2 0 00\nepoch 1\n> start x\nok\nstate soft free 9\nrevoke a 5\nrevoke b 1\nrevoke a 1\nrevoke b 1\na r 0 0 01\na r 3 0 00\na r 1 0 02\nepoch 2\n> start y\nok\nstate low free 3\nrevoke a 1\nrevoke b 1\nrevoke a 1\nrevoke b 1\nrevoke a 1\nrevoke b 1\nrevoke a 1\nrevoke b 1\nrevoke a 1\nrevoke b 1\nrevoke a 1\nrevoke b 3\npage a 2\npage b 2\nblock a\nblock b\nepoch 3\n> destroy x\nok\nstate hard free 20\na r 5 0 00\nepoch 4\nstate soft free 20\nepoch 5\nstate high free 20\nend\na target 4 held 4 swapped 2 balloon 4 active 65536 bad 0 done 8\nb target 2 held 2 swapped 0 balloon 3 active 65536 bad 0 done 0\ny target 14 held 14 swapped 0 balloon 0 active 65536 bad 0 done 0\nmachine 40 held 20 free 20 overhead 0\n"

abbrev pub statistics_of_guest : Config
statistics_of_guest = record {
  machine = record { frames = 40; swap = 60; overhead = 0; tax = 7500; percent = record { high = 600; soft = 400; hard = 200; low = 100 }; page_rate = 16; rebalance = 0; page = 4 };
  epochs = 3;
  domains = (
      record { name = codes "a"; config = record { size = 6; min = 2; shares = 1000; samples = 100; period = 1000; rate = 16; quantum = 3; seed = 0; stream = 0; tell = true; own_driver = true; page = 4; trace = (Read 0 0 1 ∷ Post Stats (0 ∷ 0 ∷ 1 ∷ 4 ∷ 0 ∷ 0 ∷ 0 ∷ 0 ∷ 0 ∷ 0 ∷ 1 ∷ 0 ∷ 1 ∷ 8 ∷ 0 ∷ 0 ∷ 0 ∷ 0 ∷ 0 ∷ 0 ∷ 2 ∷ 0 ∷ 255 ∷ 7 ∷ 0 ∷ 0 ∷ 0 ∷ 0 ∷ 0 ∷ 0 ∷ []) ∷ Post Stats (6 ∷ 0 ∷ 255 ∷ 255 ∷ 0 ∷ 0 ∷ 0 ∷ 0 ∷ 0 ∷ 0 ∷ 3 ∷ 0 ∷ 255 ∷ 7 ∷ 0 ∷ 0 ∷ 0 ∷ 0 ∷ 0 ∷ 0 ∷ 1 ∷ 0 ∷ 1 ∷ 12 ∷ 0 ∷ 0 ∷ 0 ∷ 0 ∷ 0 ∷ 0 ∷ []) ∷ []) } } ∷
      record { name = codes "b"; config = record { size = 4; min = 2; shares = 1000; samples = 100; period = 1000; rate = 16; quantum = 3; seed = 0; stream = 0; tell = true; own_driver = true; page = 4; trace = ([]) } } ∷ []);
  autostart = (true ∷ false ∷ []);
  commands = (
      record { at = 0; line = codes "setmem a 12" } ∷
      record { at = 0; line = codes "dommemstat a" } ∷
      record { at = 1; line = codes "setmem a 8" } ∷
      record { at = 1; line = codes "dommemstat a" } ∷
      record { at = 1; line = codes "start b" } ∷
      record { at = 1; line = codes "dommemstat b" } ∷
      record { at = 2; line = codes "dommemstat a" } ∷ []);
}

abbrev pub statistics_of_guest_report : List ℕ
statistics_of_guest_report = codes "epoch 0\n> start a\nok\n> setmem a 12\nok\n> dommemstat a\nactual 24\nrss 8\nstate high free 38\ngrant a 1\na r 0 0 00\nepoch 1\n> setmem a 8\nok\n> dommemstat a\nactual 24\nswap_out 3\nminor_fault 2047\nusable 63\nrss 12\n> start b\nok\n> dommemstat b\nactual 16\nrss 8\nstate high free 35\ngrant b 2\nepoch 2\n> dommemstat a\nactual 12\nminor_fault 1\nunused 8\navailable 12\nusable 8\nrss 8\nstate high free 34\nend\na target 2 held 2 swapped 0 balloon 4 active 65536 bad 0 done 3\nb target 4 held 4 swapped 0 balloon 0 active 65536 bad 0 done 0\nmachine 40 held 6 free 34 overhead 0\n"

abbrev pub woken_1 : Config
woken_1 = record {
  machine = record { frames = 23; swap = 200; overhead = 0; tax = 7500; percent = record { high = 2000; soft = 1500; hard = 800; low = 400 }; page_rate = 2; rebalance = 0; page = 4 };
  epochs = 7;
  domains = (
      record { name = codes "a"; config = record { size = 5; min = 3; shares = 100; samples = 4; period = 1; rate = 4; quantum = 4; seed = 50; stream = 0; tell = true; own_driver = true; page = 4; trace = (Idle ∷ Idle ∷ Idle ∷ Idle ∷ Idle ∷ Idle ∷ Idle ∷ Read 0 0 1 ∷ Read 1 0 1 ∷ Read 2 0 1 ∷ Read 3 0 1 ∷ Read 4 0 1 ∷ Idle ∷ Idle ∷ Idle ∷ Idle ∷ Idle ∷ Idle ∷ Idle ∷ Read 0 0 1 ∷ Read 1 0 1 ∷ Read 2 0 1 ∷ Read 3 0 1 ∷ Read 4 0 1 ∷ Read 0 0 1 ∷ Read 1 0 1 ∷ []) } } ∷
      record { name = codes "b"; config = record { size = 20; min = 2; shares = 100; samples = 2; period = 7; rate = 1; quantum = 4; seed = 39; stream = 0; tell = true; own_driver = true; page = 4; trace = (Idle ∷ Idle ∷ Idle ∷ Idle ∷ Idle ∷ Idle ∷ Idle ∷ Idle ∷ Read 0 0 1 ∷ Idle ∷ Idle ∷ Idle ∷ Idle ∷ Idle ∷ Read 0 0 1 ∷ Read 1 0 1 ∷ []) } } ∷
      record { name = codes "c"; config = record { size = 11; min = 1; shares = 100; samples = 5; period = 8; rate = 4; quantum = 4; seed = 64; stream = 0; tell = true; own_driver = true; page = 4; trace = (Read 0 0 1 ∷ Read 1 0 1 ∷ Read 2 0 1 ∷ Read 3 0 1 ∷ Read 4 0 1 ∷ Read 5 0 1 ∷ Idle ∷ Idle ∷ Idle ∷ Idle ∷ Idle ∷ Idle ∷ Idle ∷ Idle ∷ Read 0 0 1 ∷ Read 1 0 1 ∷ Read 2 0 1 ∷ Read 3 0 1 ∷ []) } } ∷
      record { name = codes "x"; config = record { size = 3; min = 3; shares = 1000; samples = 100; period = 1000; rate = 16; quantum = 4; seed = 0; stream = 0; tell = true; own_driver = true; page = 4; trace = ([]) } } ∷ []);
  autostart = (true ∷ true ∷ true ∷ false ∷ []);
  commands = (
      record { at = 6; line = codes "start x" } ∷ []);
}

abbrev pub woken_1_report : List ℕ
woken_1_report = codes "epoch 0\n> start a\nok\n> start b\nok\n> start c\nok\nstate high free 17\ngrant c 1\ngrant b 1\ngrant c 1\ngrant a 1\ngrant b 1\ngrant c 1\ngrant a 1\ngrant b 1\ngrant c 1\ngrant b 1\ngrant c 1\ngrant b 1\ngrant c 1\ngrant b 1\nc r 0 0 00\nc r 1 0 00\nc r 2 0 00\nc r 3 0 00\nepoch 1\nstate high free 3\na r 0 0 00\nc r 4 0 00\nc r 5 0 00\nepoch 2\nstate high free 3\na r 1 0 00\na r 2 0 00\na r 3 0 00\na r 4 0 00\nb r 0 0 00\nepoch 3\nstate high free 3\nb r 0 0 00\nb r 1 0 00\nc r 0 0 00\nc r 1 0 00\nepoch 4\nstate high free 3\na r 0 0 00\nc r 2 0 00\nc r 3 0 00\nepoch 5\nstate high free 3\na r 1 0 00\na r 2 0 00\na r 3 0 00\na r 4 0 00\nepoch 6\n> start x\nok\nstate hard free 0\nrevoke b 1\nrevoke a 1\nrevoke b 1\nrevoke c 1\nrevoke a 1\npage a 2\npage b 2\npage c 1\na r 0 0 00\na r 1 0 00\nend\na target 3 held 3 swapped 2 balloon 0 active 9272 bad 0 done 26\nb target 6 held 6 swapped 0 balloon 6 active 38416 bad 0 done 16\nc target 6 held 6 swapped 0 balloon 4 active 48920 bad 0 done 18\nx target 3 held 3 swapped 0 balloon 0 active 65536 bad 0 done 0\nmachine 23 held 18 free 5 overhead 0\n"

abbrev pub woken_2 : Config
woken_2 = record {
  machine = record { frames = 20; swap = 200; overhead = 0; tax = 9000; percent = record { high = 2000; soft = 1500; hard = 800; low = 400 }; page_rate = 2; rebalance = 0; page = 4 };
  epochs = 7;
  domains = (
      record { name = codes "a"; config = record { size = 9; min = 3; shares = 100; samples = 1; period = 6; rate = 4; quantum = 3; seed = 27; stream = 0; tell = true; own_driver = true; page = 4; trace = (Idle ∷ Idle ∷ Idle ∷ Idle ∷ Idle ∷ Idle ∷ Idle ∷ Idle ∷ Idle ∷ Idle ∷ Read 0 0 1 ∷ Read 0 0 1 ∷ Read 1 0 1 ∷ Read 2 0 1 ∷ []) } } ∷
      record { name = codes "b"; config = record { size = 9; min = 1; shares = 100; samples = 1; period = 5; rate = 1; quantum = 3; seed = 79; stream = 0; tell = true; own_driver = true; page = 4; trace = (Idle ∷ Idle ∷ Idle ∷ Idle ∷ Idle ∷ Idle ∷ Idle ∷ Idle ∷ Idle ∷ Idle ∷ Read 0 0 1 ∷ Read 1 0 1 ∷ Read 2 0 1 ∷ Read 3 0 1 ∷ Read 4 0 1 ∷ Read 5 0 1 ∷ Idle ∷ Idle ∷ Read 0 0 1 ∷ Read 1 0 1 ∷ Read 2 0 1 ∷ Read 3 0 1 ∷ []) } } ∷
      record { name = codes "x"; config = record { size = 4; min = 4; shares = 1000; samples = 100; period = 1000; rate = 16; quantum = 3; seed = 0; stream = 0; tell = true; own_driver = true; page = 4; trace = ([]) } } ∷ []);
  autostart = (true ∷ true ∷ false ∷ []);
  commands = (
      record { at = 6; line = codes "start x" } ∷ []);
}

abbrev pub woken_2_report : List ℕ
woken_2_report = codes "epoch 0\n> start a\nok\n> start b\nok\nstate high free 16\ngrant b 2\ngrant a 1\ngrant b 1\ngrant a 1\ngrant b 1\ngrant a 1\ngrant b 1\ngrant a 1\ngrant b 1\ngrant a 1\ngrant b 1\ngrant a 1\nepoch 1\nstate high free 3\nepoch 2\nstate high free 3\nepoch 3\nstate high free 3\na r 0 0 00\na r 0 0 00\nb r 0 0 00\nb r 1 0 00\nepoch 4\nstate high free 3\na r 1 0 00\na r 2 0 00\nb r 2 0 00\nb r 3 0 00\nb r 4 0 00\nepoch 5\nstate high free 3\nb r 5 0 00\nepoch 6\n> start x\nrevoke a 1\nok\nstate hard free 0\nrevoke a 3\nrevoke b 1\nrevoke a 1\npage a 2\npage b 1\nb r 0 0 00\nb r 1 0 00\nb r 2 0 00\nend\na target 4 held 6 swapped 0 balloon 0 active 43904 bad 0 done 14\nb target 7 held 7 swapped 0 balloon 1 active 53776 bad 0 done 21\nx target 4 held 4 swapped 0 balloon 0 active 65536 bad 0 done 0\nmachine 20 held 17 free 3 overhead 0\n"

abbrev pub woken_3 : Config
woken_3 = record {
  machine = record { frames = 19; swap = 200; overhead = 0; tax = 9900; percent = record { high = 2000; soft = 1500; hard = 800; low = 400 }; page_rate = 2; rebalance = 0; page = 4 };
  epochs = 7;
  domains = (
      record { name = codes "a"; config = record { size = 7; min = 1; shares = 100; samples = 1; period = 1; rate = 1; quantum = 2; seed = 24; stream = 0; tell = true; own_driver = true; page = 4; trace = (Idle ∷ Read 0 0 1 ∷ Read 1 0 1 ∷ Read 2 0 1 ∷ Read 3 0 1 ∷ Read 4 0 1 ∷ Idle ∷ Read 0 0 1 ∷ Read 1 0 1 ∷ Read 2 0 1 ∷ Read 3 0 1 ∷ Read 4 0 1 ∷ Read 5 0 1 ∷ []) } } ∷
      record { name = codes "b"; config = record { size = 19; min = 1; shares = 100; samples = 5; period = 2; rate = 4; quantum = 2; seed = 47; stream = 0; tell = true; own_driver = true; page = 4; trace = (Idle ∷ Idle ∷ Idle ∷ Idle ∷ Idle ∷ Read 0 0 1 ∷ Read 1 0 1 ∷ Read 2 0 1 ∷ Read 0 0 1 ∷ Read 1 0 1 ∷ Read 2 0 1 ∷ Read 3 0 1 ∷ []) } } ∷
      record { name = codes "x"; config = record { size = 5; min = 5; shares = 1000; samples = 100; period = 1000; rate = 16; quantum = 2; seed = 0; stream = 0; tell = true; own_driver = true; page = 4; trace = ([]) } } ∷ []);
  autostart = (true ∷ true ∷ false ∷ []);
  commands = (
      record { at = 6; line = codes "start x" } ∷ []);
}

abbrev pub woken_3_report : List ℕ
woken_3_report = codes "epoch 0\n> start a\nok\n> start b\nok\nstate high free 17\ngrant a 1\ngrant b 1\ngrant a 1\ngrant b 1\ngrant a 1\ngrant b 1\ngrant a 1\ngrant b 1\ngrant a 1\ngrant b 1\ngrant a 1\ngrant b 4\na r 0 0 00\nepoch 1\nstate high free 2\na r 1 0 00\na r 2 0 00\nepoch 2\nstate high free 2\na r 3 0 00\na r 4 0 00\nb r 0 0 00\nepoch 3\nstate high free 2\na r 0 0 00\nb r 1 0 00\nb r 2 0 00\nepoch 4\nstate high free 2\na r 1 0 00\na r 2 0 00\nb r 0 0 00\nb r 1 0 00\nepoch 5\nstate high free 2\na r 3 0 00\na r 4 0 00\nb r 2 0 00\nb r 3 0 00\nepoch 6\n> start x\nrevoke b 3\nok\nstate hard free 0\nrevoke b 1\nrevoke a 1\nrevoke b 1\nrevoke a 1\npage a 2\npage b 2\na r 5 0 00\nend\na target 5 held 5 swapped 1 balloon 0 active 19191 bad 0 done 13\nb target 5 held 5 swapped 0 balloon 9 active 26832 bad 0 done 12\nx target 5 held 5 swapped 0 balloon 0 active 65536 bad 0 done 0\nmachine 19 held 15 free 4 overhead 0\n"

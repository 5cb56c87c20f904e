-- Whole reports of configurations drawn at random, as an independent program tells them.
use Rattle.std.specs.Prelude.{ℕ, List, true, false, [], ◌∷◌, codes}
use Rattle.vm_config.specs.declared.config.Config.{Config}
use Rattle.vm_trace.specs.declared.step.Action.TheVariants.{Read, Write, Free, Idle, Post}
use Rattle.vm_trace.specs.declared.step.Queue.TheVariants.{Inflate, Deflate, Stats}

abbrev pub drawn_01 : Config
drawn_01 = record {
  machine = record { frames = 9; swap = 10; overhead = 0; tax = 5600; percent = record { high = 4800; soft = 3000; hard = 2000; low = 600 }; page_rate = 1; rebalance = 0; page = 4 };
  epochs = 2;
  domains = (
      record { name = codes "g0"; config = record { size = 4; min = 3; shares = 100; samples = 100; period = 2; rate = 1; quantum = 5; seed = 42; stream = 11807519698829969015; tell = true; own_driver = true; page = 4; trace = (Free 0 ∷ Idle ∷ Free 1 ∷ []) } } ∷
      record { name = codes "state"; config = record { size = 4; min = 3; shares = 1; samples = 100; period = 10; rate = 2; quantum = 5; seed = 42; stream = 9223372036854775808; tell = true; own_driver = true; page = 4; trace = ([]) } } ∷
      record { name = codes "b1"; config = record { size = 4; min = 3; shares = 1000; samples = 3; period = 30; rate = 1; quantum = 5; seed = 0; stream = 18446744073709551615; tell = true; own_driver = true; page = 4; trace = (Write 1 250 (81 ∷ 87 ∷ 253 ∷ 188 ∷ 99 ∷ 53 ∷ []) ∷ Read 2 1 12 ∷ []) } } ∷ []);
  autostart = (true ∷ true ∷ true ∷ []);
  commands = (
      record { at = 0; line = codes " memtune state   --min-guarantee=3   " } ∷
      record { at = 0; line = codes "memshares b1 1000" } ∷
      record { at = 0; line = codes "setmem state 3k" } ∷
      record { at = 0; line = codes "setmem g0 12k" } ∷
      record { at = 0; line = codes "memshares state 3576" } ∷
      record { at = 1; line = codes "memtune b1 --min-guarantee 3019b" } ∷
      record { at = 1; line = codes "dommemstat g0" } ∷
      record { at = 1; line = codes "memtune state --min-guarantee 00000000008" } ∷ []);
}

abbrev pub drawn_01_report : List ℕ
drawn_01_report = codes "epoch 0\n> start g0\nok\n> start state\nok\n> start b1\nok\n>  memtune state   --min-guarantee=3   \nok\n> memshares b1 1000\nok\n> setmem state 3k\nok\n> setmem g0 12k\nok\n> memshares state 3576\nok\nstate hard free 0\npage state 1\nb1 r 2 1 000000000000000000000000\nepoch 1\n> memtune b1 --min-guarantee 3019b\nok\n> dommemstat g0\nactual 16\nminor_fault 0\nunused 16\navailable 16\nusable 16\nrss 12\n> memtune state --min-guarantee 00000000008\nerror 7 above maximum\nstate hard free 2\nrevoke b1 2\npage b1 1\nend\ng0 target 3 held 3 swapped 0 balloon 1 active 33614 bad 0 done 3\nstate target 1 held 1 swapped 0 balloon 2 active 57344 bad 0 done 0\nb1 target 1 held 2 swapped 0 balloon 1 active 65536 bad 0 done 2\nmachine 9 held 6 free 3 overhead 0\n"

abbrev pub drawn_02 : Config
drawn_02 = record {
  machine = record { frames = 9; swap = 8; overhead = 0; tax = 1469; percent = record { high = 9367; soft = 8246; hard = 7020; low = 6900 }; page_rate = 3; rebalance = 0; page = 4 };
  epochs = 2;
  domains = (
      record { name = codes "g0"; config = record { size = 8; min = 4; shares = 1724; samples = 34; period = 10; rate = 3; quantum = 1; seed = 18446744073709551615; stream = 9223372036854775808; tell = false; own_driver = true; page = 4; trace = (Read 5 0 1 ∷ Idle ∷ Post Stats (240 ∷ []) ∷ []) } } ∷ []);
  autostart = (true ∷ []);
  commands = (
      record { at = 0; line = codes "dommemstat g0" } ∷
      record { at = 1; line = codes "memtune g0 --min-guarantee 1kbb" } ∷ []);
}

abbrev pub drawn_02_report : List ℕ
drawn_02_report = codes "epoch 0\n> start g0\nok\n> dommemstat g0\nactual 32\nrss 16\nstate low free 5\ng0 stall 5\nepoch 1\n> memtune g0 --min-guarantee 1kbb\nerror 5 bad size\nstate low free 5\ng0 r 5 0 00\nend\ng0 target 4 held 4 swapped 0 balloon 2 active 65536 bad 0 done 1\nmachine 9 held 4 free 5 overhead 0\n"

abbrev pub drawn_03 : Config
drawn_03 = record {
  machine = record { frames = 4; swap = 11; overhead = 0; tax = 9300; percent = record { high = 3000; soft = 1900; hard = 1900; low = 1300 }; page_rate = 1; rebalance = 0; page = 4 };
  epochs = 3;
  domains = (
      record { name = codes "g0"; config = record { size = 4; min = 1; shares = 1000; samples = 2; period = 7; rate = 2; quantum = 2; seed = 1; stream = 9223372036854775808; tell = true; own_driver = true; page = 4; trace = (Write 1 279 (75 ∷ 41 ∷ 129 ∷ 210 ∷ 164 ∷ 35 ∷ 114 ∷ 165 ∷ 9 ∷ 27 ∷ 89 ∷ 180 ∷ []) ∷ Write 1 8 (82 ∷ []) ∷ Free 1 ∷ Idle ∷ Write 1 3436 (69 ∷ 131 ∷ 58 ∷ 186 ∷ 48 ∷ 194 ∷ 71 ∷ 25 ∷ 95 ∷ 170 ∷ 221 ∷ 231 ∷ 150 ∷ 227 ∷ 224 ∷ 155 ∷ []) ∷ Write 1 0 (222 ∷ 26 ∷ 93 ∷ []) ∷ Write 1 0 (70 ∷ []) ∷ []) } } ∷
      record { name = codes "1"; config = record { size = 4; min = 1; shares = 1000; samples = 30; period = 50; rate = 16; quantum = 2; seed = 62589; stream = 18446744073709551615; tell = true; own_driver = true; page = 4; trace = (Read 0 0 6 ∷ Read 0 0 4 ∷ Post Deflate (0 ∷ 0 ∷ 0 ∷ 0 ∷ 0 ∷ 0 ∷ 0 ∷ 0 ∷ 0 ∷ 0 ∷ 4 ∷ 0 ∷ []) ∷ Post Inflate (149 ∷ 226 ∷ 19 ∷ 241 ∷ []) ∷ Post Stats (0 ∷ 0 ∷ 211 ∷ 122 ∷ 4 ∷ 0 ∷ 0 ∷ 0 ∷ 0 ∷ 0 ∷ 0 ∷ 0 ∷ 0 ∷ 4 ∷ 0 ∷ 0 ∷ 0 ∷ 0 ∷ 0 ∷ 0 ∷ 0 ∷ 1 ∷ 0 ∷ 16 ∷ 0 ∷ 0 ∷ 0 ∷ 0 ∷ 0 ∷ 0 ∷ 5 ∷ 0 ∷ 0 ∷ 16 ∷ 0 ∷ 0 ∷ 0 ∷ 0 ∷ 0 ∷ 0 ∷ 5 ∷ 0 ∷ 255 ∷ 3 ∷ 0 ∷ 0 ∷ 0 ∷ 0 ∷ 0 ∷ 0 ∷ []) ∷ Post Stats (99 ∷ 0 ∷ 0 ∷ 0 ∷ 1 ∷ 0 ∷ 0 ∷ 0 ∷ 0 ∷ 0 ∷ 159 ∷ 62 ∷ 107 ∷ 239 ∷ 108 ∷ 26 ∷ 161 ∷ 221 ∷ 249 ∷ []) ∷ Post Stats (51 ∷ 108 ∷ 106 ∷ 21 ∷ []) ∷ Post Inflate (0 ∷ 0 ∷ 0 ∷ 0 ∷ 3 ∷ 0 ∷ 0 ∷ 0 ∷ 0 ∷ 0 ∷ 0 ∷ 0 ∷ 3 ∷ 0 ∷ 0 ∷ 0 ∷ []) ∷ Post Deflate (0 ∷ 0 ∷ 0 ∷ 0 ∷ 0 ∷ 0 ∷ 0 ∷ 0 ∷ 0 ∷ 0 ∷ 0 ∷ 0 ∷ 0 ∷ 0 ∷ 0 ∷ 0 ∷ []) ∷ Post Stats (255 ∷ 255 ∷ 0 ∷ 4 ∷ 0 ∷ 0 ∷ 0 ∷ 0 ∷ 0 ∷ 0 ∷ 0 ∷ 0 ∷ 255 ∷ 197 ∷ 113 ∷ 28 ∷ 248 ∷ 21 ∷ 88 ∷ 79 ∷ 3 ∷ 1 ∷ 223 ∷ 254 ∷ 33 ∷ 74 ∷ 30 ∷ 196 ∷ 58 ∷ 187 ∷ 255 ∷ 255 ∷ 1 ∷ 0 ∷ 0 ∷ 0 ∷ 0 ∷ 0 ∷ 0 ∷ 0 ∷ []) ∷ []) } } ∷
      record { name = codes "state"; config = record { size = 3; min = 1; shares = 2; samples = 30; period = 2; rate = 2; quantum = 2; seed = 0; stream = 17209565127286669561; tell = true; own_driver = true; page = 4; trace = (Read 1 8 2 ∷ Write 2 250 (23 ∷ 54 ∷ []) ∷ Write 0 8 (157 ∷ 135 ∷ []) ∷ Read 1 4095 1 ∷ Read 1 250 1 ∷ Write 1 8 (215 ∷ 97 ∷ 248 ∷ 188 ∷ 155 ∷ 29 ∷ 48 ∷ 66 ∷ 16 ∷ []) ∷ Write 0 4094 (91 ∷ 223 ∷ []) ∷ Write 1 0 (6 ∷ 255 ∷ []) ∷ Read 1 0 2 ∷ Read 1 4095 1 ∷ []) } } ∷ []);
  autostart = (true ∷ true ∷ false ∷ []);
  commands = (
      record { at = 0; line = codes "setmem g0 13kIB" } ∷
      record { at = 2; line = codes "setmem g0 3kb" } ∷
      record { at = 2; line = codes "setmem 1 1663b" } ∷
      record { at = 2; line = codes "start state" } ∷
      record { at = 2; line = codes "start state" } ∷
      record { at = 2; line = codes "setmem 1 13Kib" } ∷ []);
}

abbrev pub drawn_03_report : List ℕ
drawn_03_report = codes "epoch 0\n> start g0\nok\n> start 1\nok\n> setmem g0 13kIB\nok\nstate high free 2\ngrant g0 1\ngrant 1 1\n1 r 0 0 000000000000\n1 r 0 0 00000000\nepoch 1\nstate high free 0\nepoch 2\n> setmem g0 3kb\nok\n> setmem 1 1663b\nok\n> start state\nok\n> start state\nerror 2 already running\n> setmem 1 13Kib\nok\nstate high free 0\ng0 stall 1\nstate stall 1\nend\ng0 target 1 held 1 swapped 0 balloon 2 active 65536 bad 0 done 4\n1 target 1 held 2 swapped 0 balloon 2 active 65536 bad 4 done 6\nstate target 1 held 1 swapped 0 balloon 0 active 65536 bad 0 done 0\nmachine 4 held 4 free 0 overhead 0\n"

abbrev pub drawn_04 : Config
drawn_04 = record {
  machine = record { frames = 10; swap = 24; overhead = 0; tax = 0; percent = record { high = 2825; soft = 2683; hard = 2407; low = 615 }; page_rate = 5; rebalance = 0; page = 4 };
  epochs = 2;
  domains = (
      record { name = codes "state"; config = record { size = 8; min = 1; shares = 1000; samples = 100; period = 1000; rate = 4; quantum = 3; seed = 0; stream = 18446744073709551615; tell = false; own_driver = true; page = 4; trace = (Read 7 2165 1 ∷ Read 7 0 6 ∷ Write 7 1 (90 ∷ 67 ∷ 129 ∷ []) ∷ Read 7 2640 2 ∷ []) } } ∷
      record { name = codes "g1"; config = record { size = 8; min = 1; shares = 1000; samples = 1; period = 1000; rate = 16; quantum = 3; seed = 23817; stream = 0; tell = true; own_driver = true; page = 4; trace = (Idle ∷ Post Stats (5 ∷ 0 ∷ 99 ∷ 233 ∷ 208 ∷ 235 ∷ 91 ∷ 105 ∷ 164 ∷ 61 ∷ 0 ∷ 1 ∷ 0 ∷ 16 ∷ 0 ∷ 0 ∷ 0 ∷ 0 ∷ 0 ∷ 0 ∷ 1 ∷ 0 ∷ 0 ∷ 0 ∷ 1 ∷ 0 ∷ 0 ∷ 0 ∷ 0 ∷ 0 ∷ 3 ∷ 1 ∷ 0 ∷ 4 ∷ 0 ∷ 0 ∷ 0 ∷ 0 ∷ 0 ∷ 0 ∷ 0 ∷ 0 ∷ 255 ∷ 255 ∷ 255 ∷ 255 ∷ 255 ∷ 255 ∷ 255 ∷ 255 ∷ 1 ∷ 0 ∷ 1 ∷ 0 ∷ 0 ∷ 0 ∷ 0 ∷ 0 ∷ 0 ∷ 0 ∷ []) ∷ Read 5 8 2 ∷ Write 5 4083 (196 ∷ 41 ∷ 89 ∷ 24 ∷ 229 ∷ 11 ∷ 124 ∷ 35 ∷ 228 ∷ 100 ∷ 237 ∷ 134 ∷ 131 ∷ []) ∷ []) } } ∷
      record { name = codes "x.y"; config = record { size = 8; min = 1; shares = 1000; samples = 10; period = 1000; rate = 16; quantum = 3; seed = 0; stream = 9223372036854775808; tell = false; own_driver = true; page = 4; trace = ([]) } } ∷ []);
  autostart = (false ∷ false ∷ false ∷ []);
  commands = (
      record { at = 0; line = codes "start x.y" } ∷
      record { at = 0; line = codes "setmem x.y 6" } ∷
      record { at = 0; line = codes "start state" } ∷
      record { at = 1; line = codes "memtune g1 --min-guarantee=4063b" } ∷
      record { at = 1; line = codes "start g1" } ∷ []);
}

abbrev pub drawn_04_report : List ℕ
drawn_04_report = codes "epoch 0\n> start x.y\nok\n> setmem x.y 6\nok\n> start state\nok\nstate high free 8\ngrant state 1\ngrant x.y 1\ngrant state 4\nstate stall 7\nepoch 1\n> memtune g1 --min-guarantee=4063b\nerror 3 not running\n> start g1\nok\nstate hard free 1\nrevoke state 2\npage state 2\ngrant g1 3\nstate r 7 2165 00\nstate r 7 0 000000000000\ng1 stall 5\nend\nstate target 4 held 4 swapped 0 balloon 1 active 65536 bad 0 done 3\ng1 target 4 held 4 swapped 0 balloon 0 active 65536 bad 0 done 2\nx.y target 2 held 2 swapped 0 balloon 6 active 65536 bad 0 done 0\nmachine 10 held 10 free 0 overhead 0\n"

abbrev pub drawn_05 : Config
drawn_05 = record {
  machine = record { frames = 9; swap = 8; overhead = 1; tax = 9672; percent = record { high = 1653; soft = 1512; hard = 674; low = 525 }; page_rate = 16; rebalance = 0; page = 4 };
  epochs = 5;
  domains = (
      record { name = codes "g0"; config = record { size = 8; min = 2; shares = 1000000; samples = 4; period = 50; rate = 4; quantum = 5; seed = 0; stream = 18446744073709551615; tell = false; own_driver = true; page = 4; trace = (Read 6 2967 2 ∷ Read 7 1384 10 ∷ Write 0 0 (65 ∷ []) ∷ Read 1 1 2 ∷ Post Stats (3 ∷ 1 ∷ 0 ∷ 4 ∷ 0 ∷ 0 ∷ 0 ∷ 0 ∷ 0 ∷ 0 ∷ []) ∷ Read 3 0 7 ∷ Post Inflate (6 ∷ 0 ∷ 0 ∷ 0 ∷ []) ∷ Read 7 2206 1 ∷ Write 7 4095 (157 ∷ []) ∷ Write 6 4093 (59 ∷ 56 ∷ 95 ∷ []) ∷ []) } } ∷ []);
  autostart = (true ∷ []);
  commands = (
      record { at = 1; line = codes "setmem g0 0000000000028" } ∷
      record { at = 2; line = codes "setmem g0 13" } ∷
      record { at = 4; line = codes "dommemstat g0" } ∷ []);
}

abbrev pub drawn_05_report : List ℕ
drawn_05_report = codes "epoch 0\n> start g0\nok\nstate high free 6\ngrant g0 5\ng0 r 6 2967 0000\ng0 stall 7\nepoch 1\n> setmem g0 0000000000028\nok\nstate high free 1\ng0 r 7 1384 00000000000000000000\ng0 r 1 1 0000\ng0 r 3 0 00000000000000\nepoch 2\n> setmem g0 13\nok\nstate high free 1\ng0 r 7 2206 00\ng0 stall 6\nepoch 3\nstate high free 4\nepoch 4\n> dommemstat g0\nactual 20\nminor_fault 5\nunused 4\navailable 20\nusable 4\nrss 16\nstate high free 4\nend\ng0 target 4 held 4 swapped 1 balloon 3 active 65536 bad 0 done 10\nmachine 9 held 4 free 4 overhead 1\n"

abbrev pub drawn_06 : Config
drawn_06 = record {
  machine = record { frames = 10; swap = 20; overhead = 0; tax = 2986; percent = record { high = 1400; soft = 900; hard = 600; low = 400 }; page_rate = 3; rebalance = 0; page = 4 };
  epochs = 2;
  domains = (
      record { name = codes "g0"; config = record { size = 5; min = 1; shares = 2619; samples = 100; period = 20; rate = 1; quantum = 1; seed = 0; stream = 9223372036854775808; tell = false; own_driver = true; page = 4; trace = (Read 0 250 2 ∷ Post Inflate (24 ∷ 83 ∷ 174 ∷ 243 ∷ 0 ∷ 0 ∷ 0 ∷ 0 ∷ 5 ∷ 0 ∷ 0 ∷ 0 ∷ []) ∷ Post Stats (173 ∷ 74 ∷ 9 ∷ 94 ∷ 51 ∷ 116 ∷ 28 ∷ 143 ∷ []) ∷ Post Inflate (0 ∷ 0 ∷ 0 ∷ 0 ∷ 0 ∷ 0 ∷ 0 ∷ 0 ∷ 1 ∷ 0 ∷ 0 ∷ 0 ∷ 0 ∷ 0 ∷ 0 ∷ 0 ∷ 0 ∷ 0 ∷ 0 ∷ 0 ∷ 0 ∷ 0 ∷ 0 ∷ 0 ∷ []) ∷ []) } } ∷
      record { name = codes "c"; config = record { size = 10; min = 1; shares = 1000; samples = 2; period = 20; rate = 256; quantum = 1; seed = 39457; stream = 15897360307207277945; tell = false; own_driver = true; page = 4; trace = (Write 0 0 (181 ∷ 60 ∷ []) ∷ []) } } ∷
      record { name = codes "g2"; config = record { size = 10; min = 3; shares = 1000000; samples = 32; period = 1; rate = 3; quantum = 1; seed = 0; stream = 0; tell = false; own_driver = true; page = 4; trace = ([]) } } ∷ []);
  autostart = (true ∷ true ∷ false ∷ []);
  commands = (
      record { at = 1; line = codes "start g2" } ∷
      record { at = 1; line = codes "   start  g2 " } ∷
      record { at = 1; line = codes "destroy g0" } ∷
      record { at = 1; line = codes "start g0" } ∷
      record { at = 0; line = codes "memshares g0 1000000" } ∷
      record { at = 1; line = codes "destroy g0" } ∷
      record { at = 1; line = codes "start g0" } ∷
      record { at = 0; line = codes "   memtune   --min-guarantee=8   g  " } ∷ []);
}

abbrev pub drawn_06_report : List ℕ
drawn_06_report = codes "epoch 0\n> start g0\nok\n> start c\nok\n> memshares g0 1000000\nok\n>    memtune   --min-guarantee=8   g  \nerror 1 no such domain\nstate high free 8\ngrant g0 4\ngrant c 4\ng0 r 0 250 0000\nepoch 1\n> start g2\nrevoke c 3\nok\n>    start  g2 \nerror 2 already running\n> destroy g0\nok\n> start g0\nok\n> destroy g0\nok\n> start g0\nok\nstate high free 4\ngrant g2 4\ng0 r 0 250 0000\nend\ng0 target 1 held 1 swapped 0 balloon 0 active 65536 bad 0 done 1\nc target 2 held 2 swapped 0 balloon 5 active 65536 bad 0 done 1\ng2 target 7 held 7 swapped 0 balloon 0 active 57344 bad 0 done 0\nmachine 10 held 10 free 0 overhead 0\n"

abbrev pub drawn_07 : Config
drawn_07 = record {
  machine = record { frames = 5; swap = 6; overhead = 0; tax = 9900; percent = record { high = 4000; soft = 3700; hard = 2500; low = 1500 }; page_rate = 2; rebalance = 0; page = 4 };
  epochs = 3;
  domains = (
      record { name = codes "g0"; config = record { size = 4; min = 1; shares = 1000000; samples = 1; period = 10; rate = 2; quantum = 1; seed = 18446744073709551615; stream = 18446744073709551615; tell = true; own_driver = true; page = 4; trace = (Read 1 4093 3 ∷ Read 0 4093 3 ∷ Write 0 1 (119 ∷ []) ∷ Read 3 8 2 ∷ Write 3 1 (93 ∷ []) ∷ Write 1 250 (183 ∷ 95 ∷ []) ∷ Write 2 1224 (16 ∷ 142 ∷ 255 ∷ []) ∷ Write 1 4091 (179 ∷ 16 ∷ 206 ∷ 244 ∷ 54 ∷ []) ∷ Write 2 250 (93 ∷ 150 ∷ 161 ∷ []) ∷ Write 1 2794 (192 ∷ 185 ∷ 245 ∷ 155 ∷ 143 ∷ 55 ∷ 89 ∷ 249 ∷ 121 ∷ []) ∷ []) } } ∷
      record { name = codes "g1"; config = record { size = 2; min = 1; shares = 1000; samples = 100; period = 33; rate = 16; quantum = 1; seed = 42; stream = 0; tell = true; own_driver = true; page = 4; trace = (Post Stats (103 ∷ 199 ∷ 134 ∷ 9 ∷ []) ∷ Post Deflate (1 ∷ 0 ∷ 0 ∷ 0 ∷ 0 ∷ 0 ∷ 0 ∷ 0 ∷ 1 ∷ 0 ∷ 0 ∷ 0 ∷ 1 ∷ 0 ∷ 0 ∷ 0 ∷ 0 ∷ 0 ∷ 0 ∷ 0 ∷ 1 ∷ 0 ∷ 0 ∷ 0 ∷ []) ∷ Post Inflate (1 ∷ 0 ∷ 0 ∷ 0 ∷ 1 ∷ 0 ∷ 0 ∷ 0 ∷ []) ∷ Post Stats (0 ∷ 0 ∷ 255 ∷ 255 ∷ 255 ∷ 255 ∷ 255 ∷ 255 ∷ 255 ∷ 255 ∷ 51 ∷ 124 ∷ 37 ∷ 177 ∷ 227 ∷ 109 ∷ 3 ∷ 77 ∷ []) ∷ Post Deflate (1 ∷ 0 ∷ 0 ∷ 0 ∷ 1 ∷ 0 ∷ 0 ∷ 0 ∷ 1 ∷ 0 ∷ 0 ∷ 0 ∷ 0 ∷ 0 ∷ 0 ∷ 0 ∷ 1 ∷ 0 ∷ 0 ∷ 0 ∷ 151 ∷ 144 ∷ 238 ∷ 211 ∷ 1 ∷ 0 ∷ 0 ∷ 0 ∷ 1 ∷ 0 ∷ 0 ∷ 0 ∷ []) ∷ Post Deflate (174 ∷ 32 ∷ 88 ∷ 64 ∷ 1 ∷ 0 ∷ 0 ∷ 0 ∷ 0 ∷ 0 ∷ 0 ∷ 0 ∷ 100 ∷ 15 ∷ 105 ∷ 106 ∷ 0 ∷ 0 ∷ 0 ∷ 0 ∷ 1 ∷ 0 ∷ 0 ∷ 0 ∷ 41 ∷ 9 ∷ 231 ∷ []) ∷ Post Stats (53 ∷ []) ∷ Post Stats (0 ∷ 0 ∷ 1 ∷ 0 ∷ 0 ∷ 0 ∷ 0 ∷ 0 ∷ 0 ∷ 0 ∷ 4 ∷ 0 ∷ 111 ∷ 69 ∷ 14 ∷ 0 ∷ 0 ∷ 0 ∷ 0 ∷ 0 ∷ []) ∷ Post Deflate (0 ∷ 0 ∷ 0 ∷ 0 ∷ 1 ∷ 0 ∷ 0 ∷ 0 ∷ 0 ∷ 0 ∷ 0 ∷ 0 ∷ 0 ∷ 0 ∷ 0 ∷ 0 ∷ 223 ∷ 83 ∷ 248 ∷ 133 ∷ []) ∷ Post Deflate (1 ∷ 0 ∷ 0 ∷ 0 ∷ []) ∷ []) } } ∷ []);
  autostart = (true ∷ true ∷ []);
  commands = (
      record { at = 1; line = codes "memtune g0 --min-guarantee 8k8" } ∷
      record { at = 1; line = codes "setmem g1 3k" } ∷
      record { at = 2; line = codes "dommemstat g1" } ∷
      record { at = 2; line = codes "memshares g0 10" } ∷
      record { at = 2; line = codes "setmem g0 0000004" } ∷
      record { at = 2; line = codes "start g1" } ∷
      record { at = 0; line = codes "destroy g1" } ∷
      record { at = 1; line = codes "memtune g0 --min-guarantee 2" } ∷
      record { at = 1; line = codes "start g0" } ∷
      record { at = 2; line = codes "start g1" } ∷
      record { at = 1; line = codes "start g1" } ∷
      record { at = 1; line = codes "setmem g1 04" } ∷
      record { at = 2; line = codes "setmem g1 6" } ∷
      record { at = 2; line = codes "setmem g0 2KB" } ∷ []);
}

abbrev pub drawn_07_report : List ℕ
drawn_07_report = codes "epoch 0\n> start g0\nok\n> start g1\nok\n> destroy g1\nok\nstate high free 4\ngrant g0 3\ng0 r 1 4093 000000\nepoch 1\n> memtune g0 --min-guarantee 8k8\nerror 5 bad size\n> setmem g1 3k\nerror 3 not running\n> memtune g0 --min-guarantee 2\nok\n> start g0\nerror 2 already running\n> start g1\nok\n> setmem g1 04\nok\nstate hard free 0\nrevoke g0 3\npage g0 2\ng0 r 0 4093 000000\nepoch 2\n> dommemstat g1\nactual 8\nrss 4\n> memshares g0 10\nok\n> setmem g0 0000004\nok\n> start g1\nerror 2 already running\n> start g1\nerror 2 already running\n> setmem g1 6\nok\n> setmem g0 2KB\nok\nstate soft free 2\npage g0 1\nend\ng0 target 1 held 1 swapped 1 balloon 2 active 65536 bad 0 done 3\ng1 target 1 held 1 swapped 0 balloon 1 active 65536 bad 0 done 2\nmachine 5 held 2 free 3 overhead 0\n"

abbrev pub drawn_08 : Config
drawn_08 = record {
  machine = record { frames = 6; swap = 9; overhead = 0; tax = 7500; percent = record { high = 800; soft = 800; hard = 700; low = 500 }; page_rate = 1; rebalance = 0; page = 4 };
  epochs = 3;
  domains = (
      record { name = codes "g0"; config = record { size = 3; min = 1; shares = 100; samples = 30; period = 1000; rate = 16; quantum = 3; seed = 42; stream = 18446744073709551615; tell = false; own_driver = true; page = 4; trace = ([]) } } ∷
      record { name = codes "g-1"; config = record { size = 3; min = 1; shares = 1000000; samples = 3; period = 10; rate = 4; quantum = 3; seed = 49958; stream = 18446744073709551615; tell = false; own_driver = true; page = 4; trace = (Idle ∷ Post Inflate (4 ∷ 0 ∷ 0 ∷ 0 ∷ []) ∷ Post Deflate (0 ∷ 0 ∷ 0 ∷ 0 ∷ []) ∷ Post Inflate (0 ∷ 0 ∷ 0 ∷ 0 ∷ 0 ∷ 0 ∷ 0 ∷ 0 ∷ 14 ∷ 89 ∷ 151 ∷ []) ∷ []) } } ∷
      record { name = codes "c"; config = record { size = 6; min = 1; shares = 1000000; samples = 100; period = 2; rate = 2; quantum = 3; seed = 42; stream = 0; tell = false; own_driver = true; page = 4; trace = (Free 1 ∷ Read 2 750 1 ∷ Read 3 1 15 ∷ Write 0 1 (216 ∷ 212 ∷ 186 ∷ 162 ∷ 190 ∷ 80 ∷ []) ∷ []) } } ∷ []);
  autostart = (true ∷ true ∷ true ∷ []);
  commands = (
      record { at = 0; line = codes "start g-1" } ∷
      record { at = 0; line = codes "destroy g0" } ∷
      record { at = 2; line = codes "setmem g-1 00000000004" } ∷
      record { at = 2; line = codes "start g0" } ∷
      record { at = 2; line = codes "start g0" } ∷
      record { at = 2; line = codes "setmem c 22kB" } ∷
      record { at = 2; line = codes "setmem g0 9kb" } ∷
      record { at = 2; line = codes "setmem g-1 00000012" } ∷ []);
}

abbrev pub drawn_08_report : List ℕ
drawn_08_report = codes "epoch 0\n> start g0\nok\n> start g-1\nok\n> start c\nok\n> start g-1\nerror 2 already running\n> destroy g0\nok\nstate high free 4\ngrant g-1 1\ngrant c 1\ngrant g-1 1\ngrant c 1\nc r 2 750 00\nc r 3 1 000000000000000000000000000000\nepoch 1\nstate high free 0\nepoch 2\n> setmem g-1 00000000004\nok\n> start g0\nok\n> start g0\nerror 2 already running\n> setmem c 22kB\nok\n> setmem g0 9kb\nok\n> setmem g-1 00000012\nok\nstate high free 0\nend\ng0 target 1 held 1 swapped 0 balloon 0 active 65536 bad 0 done 0\ng-1 target 1 held 2 swapped 0 balloon 1 active 65536 bad 4 done 4\nc target 3 held 3 swapped 0 balloon 3 active 40908 bad 0 done 4\nmachine 6 held 6 free 0 overhead 0\n"

abbrev pub drawn_09 : Config
drawn_09 = record {
  machine = record { frames = 6; swap = 4194304; overhead = 0; tax = 9999; percent = record { high = 2823; soft = 2701; hard = 1282; low = 118 }; page_rate = 1; rebalance = 0; page = 4 };
  epochs = 2;
  domains = (
      record { name = codes ".X_Y_9Z010c-a_XZ00Y_-X0.-0090.b"; config = record { size = 5; min = 1; shares = 720156; samples = 100; period = 1000; rate = 16; quantum = 1; seed = 25463; stream = 18446744073709551615; tell = false; own_driver = true; page = 4; trace = (Read 4 0 2 ∷ Read 4 0 1 ∷ Read 4 1222 11 ∷ Read 4 0 2 ∷ Read 4 1 1 ∷ Read 4 8 2 ∷ Read 4 0 15 ∷ Read 4 4093 3 ∷ Read 4 0 9 ∷ Read 4 4086 10 ∷ Read 2 4093 3 ∷ []) } } ∷
      record { name = codes "g1"; config = record { size = 2; min = 1; shares = 1000; samples = 100; period = 1000; rate = 256; quantum = 1; seed = 10410; stream = 3991327319096964887; tell = false; own_driver = true; page = 4; trace = (Read 0 419 10 ∷ Read 1 0 1 ∷ []) } } ∷
      record { name = codes "."; config = record { size = 2; min = 1; shares = 1; samples = 10; period = 10; rate = 16; quantum = 1; seed = 0; stream = 0; tell = true; own_driver = true; page = 4; trace = (Free 0 ∷ Write 0 250 (8 ∷ 199 ∷ 244 ∷ 112 ∷ 230 ∷ []) ∷ Write 0 3516 (112 ∷ 45 ∷ []) ∷ []) } } ∷
      record { name = codes "x.y"; config = record { size = 2; min = 2; shares = 1000; samples = 3; period = 5; rate = 30; quantum = 1; seed = 43771; stream = 0; tell = false; own_driver = true; page = 4; trace = (Read 1 1 1 ∷ Idle ∷ Idle ∷ Read 1 4089 7 ∷ Idle ∷ Idle ∷ Idle ∷ Idle ∷ Idle ∷ Idle ∷ Write 0 8 (210 ∷ []) ∷ Write 0 250 (205 ∷ 138 ∷ 142 ∷ 255 ∷ 213 ∷ 247 ∷ 165 ∷ 252 ∷ []) ∷ Idle ∷ Free 1 ∷ Post Stats (1 ∷ 0 ∷ 230 ∷ 247 ∷ 2 ∷ 0 ∷ 0 ∷ 0 ∷ 0 ∷ 0 ∷ 2 ∷ 0 ∷ 255 ∷ 255 ∷ 255 ∷ 255 ∷ 255 ∷ 255 ∷ 255 ∷ 255 ∷ []) ∷ Post Stats (5 ∷ 0 ∷ 0 ∷ 16 ∷ 0 ∷ 0 ∷ 0 ∷ 0 ∷ 0 ∷ 0 ∷ 3 ∷ 0 ∷ 0 ∷ 0 ∷ 1 ∷ 0 ∷ 0 ∷ 0 ∷ 0 ∷ 0 ∷ []) ∷ Write 0 0 (218 ∷ 75 ∷ 70 ∷ 209 ∷ 191 ∷ 220 ∷ 205 ∷ 132 ∷ 251 ∷ 17 ∷ 88 ∷ 54 ∷ 223 ∷ 188 ∷ 72 ∷ []) ∷ Post Deflate (0 ∷ 0 ∷ 0 ∷ 0 ∷ 0 ∷ 0 ∷ 0 ∷ 0 ∷ 1 ∷ 0 ∷ 0 ∷ 0 ∷ 0 ∷ 0 ∷ 0 ∷ 0 ∷ 0 ∷ 0 ∷ 0 ∷ 0 ∷ 0 ∷ 0 ∷ 0 ∷ 0 ∷ []) ∷ Post Deflate (122 ∷ []) ∷ Read 0 2083 3 ∷ []) } } ∷ []);
  autostart = (true ∷ true ∷ true ∷ false ∷ []);
  commands = (
      record { at = 0; line = codes "memshares .X_Y_9Z010c-a_XZ00Y_-X0.-0090.b 1000" } ∷
      record { at = 0; line = codes "destroy x.y" } ∷
      record { at = 0; line = codes "destroy x.y" } ∷
      record { at = 1; line = codes "start x.y" } ∷
      record { at = 1; line = codes "start x.y" } ∷
      record { at = 1; line = codes "destroy x.y" } ∷
      record { at = 1; line = codes "memshares g1 1" } ∷
      record { at = 1; line = codes "setmem . 832bYte" } ∷
      record { at = 1; line = codes "setmem g1 2" } ∷
      record { at = 1; line = codes "setmem .X_Y_9Z010c-a_XZ00Y_-X0.-0090.b 2" } ∷
      record { at = 1; line = codes "start x.y" } ∷
      record { at = 1; line = codes "start x.y" } ∷
      record { at = 1; line = codes "setmem x.y 7kIB" } ∷
      record { at = 1; line = codes "setmem . 7kib" } ∷
      record { at = 1; line = codes "setmem .X_Y_9Z010c-a_XZ00Y_-X0.-0090.b 16KiB" } ∷ []);
}

abbrev pub drawn_09_report : List ℕ
drawn_09_report = codes "epoch 0\n> start .X_Y_9Z010c-a_XZ00Y_-X0.-0090.b\nok\n> start g1\nok\n> start .\nok\n> memshares .X_Y_9Z010c-a_XZ00Y_-X0.-0090.b 1000\nok\n> destroy x.y\nerror 3 not running\n> destroy x.y\nerror 3 not running\nstate high free 3\ngrant .X_Y_9Z010c-a_XZ00Y_-X0.-0090.b 1\ngrant g1 1\n.X_Y_9Z010c-a_XZ00Y_-X0.-0090.b stall 4\ng1 r 0 419 00000000000000000000\nepoch 1\n> start x.y\nrevoke .X_Y_9Z010c-a_XZ00Y_-X0.-0090.b 1\nok\n> start x.y\nerror 2 already running\n> destroy x.y\nok\n> memshares g1 1\nok\n> setmem . 832bYte\nok\n> setmem g1 2\nok\n> setmem .X_Y_9Z010c-a_XZ00Y_-X0.-0090.b 2\nok\n> start x.y\nok\n> start x.y\nerror 2 already running\n> setmem x.y 7kIB\nok\n> setmem . 7kib\nok\n> setmem .X_Y_9Z010c-a_XZ00Y_-X0.-0090.b 16KiB\nok\nstate soft free 0\n.X_Y_9Z010c-a_XZ00Y_-X0.-0090.b r 4 0 0000\ng1 stall 1\nx.y r 1 1 00\nend\n.X_Y_9Z010c-a_XZ00Y_-X0.-0090.b target 1 held 1 swapped 0 balloon 2 active 65536 bad 0 done 1\ng1 target 1 held 2 swapped 0 balloon 0 active 65536 bad 0 done 1\n. target 1 held 1 swapped 0 balloon 1 active 65536 bad 0 done 2\nx.y target 2 held 2 swapped 0 balloon 0 active 65536 bad 0 done 1\nmachine 6 held 6 free 0 overhead 0\n"

abbrev pub drawn_10 : Config
drawn_10 = record {
  machine = record { frames = 8; swap = 14; overhead = 0; tax = 5692; percent = record { high = 5200; soft = 1200; hard = 1200; low = 900 }; page_rate = 16; rebalance = 0; page = 4 };
  epochs = 2;
  domains = (
      record { name = codes ".."; config = record { size = 2; min = 1; shares = 100; samples = 100; period = 3; rate = 4; quantum = 2; seed = 9719760190679721796; stream = 54; tell = true; own_driver = true; page = 4; trace = (Write 1 0 (127 ∷ []) ∷ Idle ∷ []) } } ∷
      record { name = codes "g1"; config = record { size = 8; min = 1; shares = 2; samples = 30; period = 10; rate = 16; quantum = 2; seed = 59237; stream = 9223372036854775808; tell = true; own_driver = true; page = 4; trace = ([]) } } ∷
      record { name = codes "1YbZbab_Yc10X119X9-cbZ.Yb99Z-ba."; config = record { size = 8; min = 1; shares = 1000; samples = 4; period = 2; rate = 16; quantum = 2; seed = 0; stream = 0; tell = true; own_driver = true; page = 4; trace = (Read 4 0 1 ∷ Free 2 ∷ []) } } ∷ []);
  autostart = (true ∷ true ∷ true ∷ []);
  commands = (
      record { at = 1; line = codes "memtune g1 --min-guarantee 12Kb" } ∷
      record { at = 1; line = codes "memtune .. --min-guarantee=7k" } ∷
      record { at = 0; line = codes "start 1YbZbab_Yc10X119X9-cbZ.Yb99Z-ba." } ∷
      record { at = 1; line = codes "start 1YbZbab_Yc10X119X9-cbZ.Yb99Z-ba." } ∷
      record { at = 1; line = codes "setmem .. 04" } ∷
      record { at = 1; line = codes "setmem g1 1" } ∷
      record { at = 1; line = codes "memtune g1 --min-guarantee 3" } ∷
      record { at = 1; line = codes "start 1YbZbab_Yc10X119X9-cbZ.Yb99Z-ba." } ∷
      record { at = 0; line = codes "start 1YbZbab_Yc10X119X9-cbZ.Yb99Z-ba." } ∷
      record { at = 1; line = codes "setmem 1YbZbab_Yc10X119X9-cbZ.Yb99Z-ba. 30" } ∷
      record { at = 1; line = codes "setmem .. 000004" } ∷ []);
}

abbrev pub drawn_10_report : List ℕ
drawn_10_report = codes "epoch 0\n> start ..\nok\n> start g1\nok\n> start 1YbZbab_Yc10X119X9-cbZ.Yb99Z-ba.\nerror 9 no swap to reserve\n> start 1YbZbab_Yc10X119X9-cbZ.Yb99Z-ba.\nerror 9 no swap to reserve\n> start 1YbZbab_Yc10X119X9-cbZ.Yb99Z-ba.\nerror 9 no swap to reserve\nstate high free 6\ngrant .. 1\ngrant g1 5\nepoch 1\n> memtune g1 --min-guarantee 12Kb\nok\n> memtune .. --min-guarantee=7k\nok\n> start 1YbZbab_Yc10X119X9-cbZ.Yb99Z-ba.\nerror 9 no swap to reserve\n> setmem .. 04\nerror 6 below minimum\n> setmem g1 1\nerror 6 below minimum\n> memtune g1 --min-guarantee 3\nok\n> start 1YbZbab_Yc10X119X9-cbZ.Yb99Z-ba.\nerror 9 no swap to reserve\n> setmem 1YbZbab_Yc10X119X9-cbZ.Yb99Z-ba. 30\nerror 3 not running\n> setmem .. 000004\nerror 6 below minimum\nstate high free 0\nend\n.. target 2 held 2 swapped 0 balloon 0 active 61685 bad 0 done 2\ng1 target 6 held 6 swapped 0 balloon 2 active 65536 bad 0 done 0\nmachine 8 held 8 free 0 overhead 0\n"

abbrev pub drawn_11 : Config
drawn_11 = record {
  machine = record { frames = 9; swap = 13; overhead = 0; tax = 9887; percent = record { high = 1663; soft = 637; hard = 139; low = 46 }; page_rate = 256; rebalance = 0; page = 4 };
  epochs = 2;
  domains = (
      record { name = codes "web"; config = record { size = 9; min = 1; shares = 1000; samples = 1; period = 10; rate = 23; quantum = 1; seed = 0; stream = 18446744073709551615; tell = false; own_driver = true; page = 4; trace = (Read 3 8 2 ∷ Read 3 1 2 ∷ Post Inflate (3 ∷ 0 ∷ 0 ∷ 0 ∷ []) ∷ Free 3 ∷ []) } } ∷
      record { name = codes "0"; config = record { size = 9; min = 4; shares = 1000; samples = 30; period = 1; rate = 2; quantum = 1; seed = 0; stream = 3369444327212974100; tell = false; own_driver = true; page = 4; trace = ([]) } } ∷ []);
  autostart = (true ∷ true ∷ []);
  commands = (
      record { at = 0; line = codes "setmem web 34KiB" } ∷
      record { at = 1; line = codes "destroy 0" } ∷
      record { at = 1; line = codes "memtune --min-guarantee=27kb web" } ∷
      record { at = 1; line = codes "dommemstat web" } ∷ []);
}

abbrev pub drawn_11_report : List ℕ
drawn_11_report = codes "epoch 0\n> start web\nok\n> start 0\nok\n> setmem web 34KiB\nok\nstate high free 4\ngrant web 4\nweb r 3 8 0000\nepoch 1\n> destroy 0\nok\n> memtune --min-guarantee=27kb web\nok\n> dommemstat web\nactual 36\nminor_fault 0\nunused 36\navailable 36\nusable 36\nrss 28\nstate high free 2\nweb r 3 1 0000\nend\nweb target 7 held 7 swapped 0 balloon 4 active 65536 bad 0 done 2\nmachine 9 held 7 free 2 overhead 0\n"

abbrev pub drawn_12 : Config
drawn_12 = record {
  machine = record { frames = 4; swap = 4194304; overhead = 0; tax = 7500; percent = record { high = 3100; soft = 3100; hard = 1200; low = 1000 }; page_rate = 3; rebalance = 0; page = 4 };
  epochs = 2;
  domains = (
      record { name = codes "A"; config = record { size = 8; min = 2; shares = 1000; samples = 100; period = 1; rate = 16; quantum = 3; seed = 18446744073709551615; stream = 54; tell = true; own_driver = true; page = 4; trace = (Write 7 0 (106 ∷ []) ∷ Read 7 250 3 ∷ Write 7 0 (133 ∷ []) ∷ Read 7 1 6 ∷ Read 7 0 1 ∷ Free 7 ∷ Write 7 0 (49 ∷ 70 ∷ []) ∷ Write 7 4093 (226 ∷ 187 ∷ 180 ∷ []) ∷ Write 7 8 (56 ∷ 162 ∷ 205 ∷ 60 ∷ 167 ∷ 88 ∷ 5 ∷ 130 ∷ 23 ∷ 5 ∷ 202 ∷ 61 ∷ 16 ∷ 21 ∷ 83 ∷ 190 ∷ []) ∷ Free 1 ∷ []) } } ∷
      record { name = codes "B"; config = record { size = 2; min = 1; shares = 1000; samples = 100; period = 10; rate = 4; quantum = 3; seed = 637899200221842925; stream = 17942675865314287213; tell = true; own_driver = true; page = 4; trace = ([]) } } ∷
      record { name = codes "_"; config = record { size = 4; min = 1; shares = 345380; samples = 1; period = 5; rate = 2; quantum = 3; seed = 18446744073709551615; stream = 54; tell = false; own_driver = true; page = 4; trace = (Idle ∷ Free 3 ∷ Write 3 0 (234 ∷ 71 ∷ 223 ∷ 50 ∷ 144 ∷ 83 ∷ 39 ∷ 61 ∷ 122 ∷ 69 ∷ 121 ∷ 49 ∷ []) ∷ Read 2 0 3 ∷ Read 2 8 5 ∷ Read 2 0 7 ∷ Read 2 0 15 ∷ Read 2 0 3 ∷ Read 2 250 14 ∷ Read 2 4094 2 ∷ []) } } ∷ []);
  autostart = (false ∷ true ∷ true ∷ []);
  commands = (
      record { at = 0; line = codes "destroy A" } ∷
      record { at = 1; line = codes "dommemstat B" } ∷
      record { at = 1; line = codes "setmem _ 3739bYTes" } ∷
      record { at = 1; line = codes "setmem B 4Kib" } ∷
      record { at = 1; line = codes "memtune A --min-guarantee 12KB" } ∷
      record { at = 1; line = codes "start A" } ∷
      record { at = 1; line = codes "setmem B 2KIb" } ∷ []);
}

abbrev pub drawn_12_report : List ℕ
drawn_12_report = codes "epoch 0\n> start B\nok\n> start _\nok\n> destroy A\nerror 3 not running\nstate high free 2\ngrant _ 1\n_ stall 3\nepoch 1\n> dommemstat B\nactual 8\nminor_fault 0\nunused 8\navailable 8\nusable 8\nrss 4\n> setmem _ 3739bYTes\nok\n> setmem B 4Kib\nok\n> memtune A --min-guarantee 12KB\nerror 3 not running\n> start A\nok\n> setmem B 2KIb\nok\nstate soft free 0\nA stall 7\n_ r 2 0 000000\n_ r 2 8 0000000000\nend\nA target 2 held 2 swapped 0 balloon 0 active 65536 bad 0 done 0\nB target 1 held 1 swapped 0 balloon 1 active 65536 bad 0 done 0\n_ target 1 held 1 swapped 1 balloon 0 active 57344 bad 0 done 5\nmachine 4 held 4 free 0 overhead 0\n"

abbrev pub drawn_13 : Config
drawn_13 = record {
  machine = record { frames = 11; swap = 36; overhead = 0; tax = 0; percent = record { high = 3500; soft = 1200; hard = 800; low = 100 }; page_rate = 1; rebalance = 0; page = 4 };
  epochs = 2;
  domains = (
      record { name = codes "g0"; config = record { size = 11; min = 2; shares = 1; samples = 100; period = 3; rate = 2; quantum = 1; seed = 0; stream = 0; tell = true; own_driver = true; page = 4; trace = (Free 0 ∷ []) } } ∷
      record { name = codes "g1"; config = record { size = 11; min = 4; shares = 1000; samples = 100; period = 7; rate = 3; quantum = 1; seed = 0; stream = 6095915075609685954; tell = true; own_driver = true; page = 4; trace = ([]) } } ∷
      record { name = codes "g2"; config = record { size = 14; min = 1; shares = 1000; samples = 10; period = 1000; rate = 3; quantum = 1; seed = 0; stream = 9223372036854775808; tell = true; own_driver = true; page = 4; trace = (Write 13 1 (153 ∷ 124 ∷ 75 ∷ 226 ∷ 212 ∷ 186 ∷ 80 ∷ 7 ∷ 5 ∷ 211 ∷ []) ∷ Read 13 4082 14 ∷ Write 13 0 (57 ∷ 105 ∷ 249 ∷ 117 ∷ 76 ∷ 34 ∷ 61 ∷ 15 ∷ 236 ∷ 25 ∷ 54 ∷ 23 ∷ 62 ∷ 58 ∷ 249 ∷ []) ∷ Write 13 0 (187 ∷ []) ∷ Post Deflate (6 ∷ 0 ∷ 0 ∷ 0 ∷ []) ∷ Read 13 0 2 ∷ Post Deflate (7 ∷ 0 ∷ 0 ∷ 0 ∷ 160 ∷ 165 ∷ 196 ∷ 241 ∷ 7 ∷ 0 ∷ 0 ∷ 0 ∷ 3 ∷ 0 ∷ 0 ∷ 0 ∷ 13 ∷ 0 ∷ 0 ∷ 0 ∷ []) ∷ Write 0 1 (2 ∷ 115 ∷ 239 ∷ 46 ∷ 227 ∷ 177 ∷ 174 ∷ 38 ∷ 85 ∷ 244 ∷ 122 ∷ 185 ∷ 252 ∷ 228 ∷ 194 ∷ []) ∷ Read 0 0 6 ∷ Post Stats (1 ∷ 0 ∷ 169 ∷ 89 ∷ 9 ∷ 0 ∷ 0 ∷ 0 ∷ 0 ∷ 0 ∷ 4 ∷ 0 ∷ 34 ∷ 12 ∷ 199 ∷ 145 ∷ 231 ∷ 253 ∷ 7 ∷ 168 ∷ 3 ∷ 1 ∷ 0 ∷ 0 ∷ 0 ∷ 0 ∷ 0 ∷ 0 ∷ 0 ∷ 0 ∷ 5 ∷ 0 ∷ 255 ∷ 255 ∷ 255 ∷ 255 ∷ 255 ∷ 255 ∷ 255 ∷ 255 ∷ 4 ∷ 0 ∷ 65 ∷ 225 ∷ 17 ∷ 254 ∷ 2 ∷ 12 ∷ 25 ∷ 30 ∷ 50 ∷ 12 ∷ 143 ∷ 4 ∷ 187 ∷ 243 ∷ []) ∷ []) } } ∷ []);
  autostart = (false ∷ false ∷ true ∷ []);
  commands = (
      record { at = 1; line = codes "setmem g2 3k" } ∷
      record { at = 1; line = codes "setmem g1 16" } ∷
      record { at = 1; line = codes "start g0" } ∷
      record { at = 1; line = codes "start g0" } ∷
      record { at = 1; line = codes "setmem g0 44K" } ∷
      record { at = 0; line = codes "destroy g0" } ∷
      record { at = 1; line = codes "setmem g1 21" } ∷ []);
}

abbrev pub drawn_13_report : List ℕ
drawn_13_report = codes "epoch 0\n> start g2\nok\n> destroy g0\nerror 3 not running\nstate high free 10\ngrant g2 9\ng2 stall 13\nepoch 1\n> setmem g2 3k\nok\n> setmem g1 16\nerror 3 not running\n> start g0\nok\n> start g0\nerror 2 already running\n> setmem g0 44K\nok\n> setmem g1 21\nerror 3 not running\nstate soft free 0\nend\ng0 target 2 held 2 swapped 0 balloon 0 active 65536 bad 0 done 1\ng2 target 1 held 9 swapped 0 balloon 2 active 65536 bad 0 done 1\nmachine 11 held 11 free 0 overhead 0\n"

abbrev pub drawn_14 : Config
drawn_14 = record {
  machine = record { frames = 24; swap = 59; overhead = 0; tax = 4000; percent = record { high = 4600; soft = 2400; hard = 1600; low = 1400 }; page_rate = 2; rebalance = 0; page = 4 };
  epochs = 4;
  domains = (
      record { name = codes "g0"; config = record { size = 26; min = 3; shares = 100; samples = 2; period = 2; rate = 4; quantum = 2; seed = 28; stream = 0; tell = true; own_driver = true; page = 4; trace = (Write 0 0 (0 ∷ []) ∷ Write 1 0 (1 ∷ []) ∷ Write 2 0 (2 ∷ []) ∷ Write 3 0 (3 ∷ []) ∷ Write 4 0 (4 ∷ []) ∷ Write 5 0 (5 ∷ []) ∷ []) } } ∷
      record { name = codes "g1"; config = record { size = 19; min = 2; shares = 1000; samples = 6; period = 1; rate = 4; quantum = 2; seed = 15; stream = 0; tell = true; own_driver = true; page = 4; trace = (Write 0 0 (0 ∷ []) ∷ Write 1 0 (1 ∷ []) ∷ []) } } ∷
      record { name = codes "x"; config = record { size = 14; min = 6; shares = 1000; samples = 2; period = 1; rate = 2; quantum = 2; seed = 62; stream = 0; tell = true; own_driver = true; page = 4; trace = ([]) } } ∷ []);
  autostart = (true ∷ true ∷ false ∷ []);
  commands = (
      record { at = 1; line = codes "start x" } ∷
      record { at = 2; line = codes "start x" } ∷
      record { at = 3; line = codes "destroy x" } ∷
      record { at = 3; line = codes "memshares g0 1000" } ∷ []);
}

abbrev pub drawn_14_report : List ℕ
drawn_14_report = codes "epoch 0\n> start g0\nok\n> start g1\nok\nstate high free 19\ngrant g1 14\nepoch 1\n> start x\nrevoke g1 1\nok\nstate low free 0\nrevoke g1 12\npage g1 2\nblock g1\nepoch 2\n> start x\nerror 2 already running\nstate hard free 12\nepoch 3\n> destroy x\nok\n> memshares g0 1000\nok\nstate soft free 18\nend\ng0 target 3 held 3 swapped 3 balloon 12 active 45136 bad 0 done 6\ng1 target 3 held 3 swapped 0 balloon 7 active 30110 bad 0 done 2\nmachine 24 held 6 free 18 overhead 0\n"

abbrev pub drawn_15 : Config
drawn_15 = record {
  machine = record { frames = 2; swap = 4194304; overhead = 0; tax = 8588; percent = record { high = 818; soft = 562; hard = 503; low = 362 }; page_rate = 16; rebalance = 0; page = 4 };
  epochs = 3;
  domains = (
      record { name = codes "machine"; config = record { size = 3; min = 2; shares = 1000; samples = 15; period = 1000; rate = 1; quantum = 5; seed = 42; stream = 54; tell = true; own_driver = true; page = 4; trace = (Read 0 1 3 ∷ Free 0 ∷ Read 0 0 1 ∷ Write 0 250 (83 ∷ []) ∷ Write 1 4090 (158 ∷ 230 ∷ 185 ∷ 98 ∷ 171 ∷ 110 ∷ []) ∷ Post Stats (0 ∷ 0 ∷ 0 ∷ 4 ∷ 0 ∷ 0 ∷ 0 ∷ 0 ∷ 0 ∷ 0 ∷ 3 ∷ 0 ∷ 0 ∷ 16 ∷ 0 ∷ 0 ∷ 0 ∷ 0 ∷ 0 ∷ 0 ∷ 1 ∷ 0 ∷ 135 ∷ 177 ∷ 7 ∷ 0 ∷ 0 ∷ 0 ∷ 0 ∷ 0 ∷ 255 ∷ 255 ∷ 255 ∷ 3 ∷ 0 ∷ 0 ∷ 0 ∷ 0 ∷ 0 ∷ 0 ∷ 4 ∷ 0 ∷ 0 ∷ 4 ∷ 0 ∷ 0 ∷ 0 ∷ 0 ∷ 0 ∷ 0 ∷ []) ∷ Read 0 0 13 ∷ []) } } ∷ []);
  autostart = (true ∷ []);
  commands = (
      record { at = 0; line = codes "setmem machine 7Kb" } ∷
      record { at = 0; line = codes "memtune machine" } ∷
      record { at = 1; line = codes "setmem machine 1" } ∷
      record { at = 1; line = codes "memtune --min-guarantee 7Kb machine" } ∷
      record { at = 2; line = codes "dommemstat machine" } ∷ []);
}

abbrev pub drawn_15_report : List ℕ
drawn_15_report = codes "epoch 0\n> start machine\nok\n> setmem machine 7Kb\nok\n> memtune machine\nerror 4 bad line\nstate high free 0\nmachine r 0 1 000000\nmachine r 0 0 00\nepoch 1\n> setmem machine 1\nerror 6 below minimum\n> memtune --min-guarantee 7Kb machine\nok\nstate high free 0\nmachine r 0 0 00000000000000000000000000\nepoch 2\n> dommemstat machine\nactual 8\nswap_in 1\nswap_out 492\nminor_fault 4096\nunused 1\nrss 8\nstate high free 0\nend\nmachine target 2 held 2 swapped 0 balloon 1 active 65536 bad 0 done 7\nmachine 2 held 2 free 0 overhead 0\n"

abbrev pub drawn_16 : Config
drawn_16 = record {
  machine = record { frames = 5; swap = 26; overhead = 1; tax = 0; percent = record { high = 3821; soft = 1996; hard = 263; low = 159 }; page_rate = 2; rebalance = 0; page = 4 };
  epochs = 2;
  domains = (
      record { name = codes "g0"; config = record { size = 7; min = 1; shares = 1000; samples = 100; period = 37; rate = 1; quantum = 1; seed = 0; stream = 9223372036854775808; tell = false; own_driver = true; page = 4; trace = (Idle ∷ Free 2 ∷ Write 2 250 (223 ∷ 198 ∷ 26 ∷ 146 ∷ 27 ∷ 99 ∷ 154 ∷ 82 ∷ 11 ∷ 161 ∷ 233 ∷ 19 ∷ 23 ∷ []) ∷ Post Inflate (21 ∷ 55 ∷ 84 ∷ []) ∷ []) } } ∷
      record { name = codes "g1"; config = record { size = 7; min = 1; shares = 2; samples = 10; period = 20; rate = 1; quantum = 1; seed = 0; stream = 18446744073709551615; tell = false; own_driver = true; page = 4; trace = (Read 5 1378 7 ∷ Read 5 250 2 ∷ Read 5 250 8 ∷ Write 5 250 (38 ∷ 5 ∷ 224 ∷ 189 ∷ 74 ∷ 93 ∷ 177 ∷ 188 ∷ 4 ∷ 52 ∷ 89 ∷ 0 ∷ 83 ∷ 216 ∷ 203 ∷ 31 ∷ []) ∷ Read 5 4094 2 ∷ Write 6 8 (37 ∷ 11 ∷ 74 ∷ 248 ∷ 50 ∷ 222 ∷ 228 ∷ 48 ∷ 56 ∷ 229 ∷ 34 ∷ 67 ∷ 52 ∷ []) ∷ Idle ∷ Read 6 0 3 ∷ Free 2 ∷ Free 3 ∷ []) } } ∷ []);
  autostart = (false ∷ true ∷ []);
  commands = (
      record { at = 2; line = codes "memtune g0 --min-guarantee 0000012" } ∷
      record { at = 0; line = codes "memtune --min-guarantee=0000000008 g1" } ∷
      record { at = 0; line = codes "memtune --min-guarantee=18 g1" } ∷
      record { at = 0; line = codes "destroy g1" } ∷
      record { at = 1; line = codes "   destroy g1  " } ∷ []);
}

abbrev pub drawn_16_report : List ℕ
drawn_16_report = codes "epoch 0\n> start g1\nok\n> memtune --min-guarantee=0000000008 g1\nok\n> memtune --min-guarantee=18 g1\nerror 8 no memory to reserve\n> destroy g1\nok\nstate high free 5\nepoch 1\n>    destroy g1  \nerror 3 not running\nstate high free 5\nend\nmachine 5 held 0 free 5 overhead 0\n"

abbrev pub drawn_17 : Config
drawn_17 = record {
  machine = record { frames = 23; swap = 49; overhead = 0; tax = 8082; percent = record { high = 4300; soft = 2400; hard = 1500; low = 500 }; page_rate = 1; rebalance = 0; page = 4 };
  epochs = 4;
  domains = (
      record { name = codes "g0"; config = record { size = 14; min = 2; shares = 100; samples = 4; period = 4; rate = 4; quantum = 2; seed = 12; stream = 0; tell = true; own_driver = true; page = 4; trace = (Write 0 0 (0 ∷ []) ∷ Write 1 0 (1 ∷ []) ∷ Write 2 0 (2 ∷ []) ∷ Write 3 0 (3 ∷ []) ∷ []) } } ∷
      record { name = codes "g1"; config = record { size = 15; min = 1; shares = 200; samples = 2; period = 1; rate = 4; quantum = 2; seed = 97; stream = 0; tell = false; own_driver = true; page = 4; trace = (Write 0 0 (0 ∷ []) ∷ Write 1 0 (1 ∷ []) ∷ Write 2 0 (2 ∷ []) ∷ Write 3 0 (3 ∷ []) ∷ []) } } ∷
      record { name = codes "x"; config = record { size = 20; min = 7; shares = 200; samples = 6; period = 4; rate = 2; quantum = 2; seed = 64; stream = 0; tell = true; own_driver = true; page = 4; trace = ([]) } } ∷ []);
  autostart = (true ∷ true ∷ false ∷ []);
  commands = (
      record { at = 1; line = codes "start x" } ∷
      record { at = 2; line = codes "setmem g0 40" } ∷
      record { at = 2; line = codes "setmem g1 4" } ∷
      record { at = 2; line = codes "start x" } ∷
      record { at = 3; line = codes "memtune g1 --min-guarantee 44" } ∷ []);
}

abbrev pub drawn_17_report : List ℕ
drawn_17_report = codes "epoch 0\n> start g0\nok\n> start g1\nok\nstate high free 20\ngrant g1 3\ngrant g0 1\ngrant g1 2\ngrant g0 1\ngrant g1 2\ngrant g0 1\ngrant g1 2\ngrant g0 1\ngrant g1 2\nepoch 1\n> start x\nrevoke g1 2\nok\nstate low free 0\nrevoke g1 4\nrevoke g0 1\nrevoke g1 1\nrevoke g0 1\nrevoke g1 1\nrevoke g0 1\nrevoke g1 1\npage g0 1\npage g1 1\nblock g0\nblock g1\nepoch 2\n> setmem g0 40\nok\n> setmem g1 4\nok\n> start x\nerror 2 already running\nstate hard free 10\npage g1 1\nepoch 3\n> memtune g1 --min-guarantee 44\nerror 7 above maximum\nstate soft free 11\npage g1 1\nend\ng0 target 3 held 3 swapped 1 balloon 8 active 63488 bad 0 done 4\ng1 target 1 held 1 swapped 3 balloon 7 active 34949 bad 0 done 4\nx target 7 held 7 swapped 0 balloon 4 active 57344 bad 0 done 0\nmachine 23 held 11 free 12 overhead 0\n"

abbrev pub drawn_18 : Config
drawn_18 = record {
  machine = record { frames = 4; swap = 4; overhead = 2; tax = 8857; percent = record { high = 812; soft = 737; hard = 341; low = 159 }; page_rate = 31; rebalance = 0; page = 4 };
  epochs = 2;
  domains = (
      record { name = codes "g0"; config = record { size = 4; min = 4; shares = 1000; samples = 100; period = 1000000; rate = 11; quantum = 2; seed = 1; stream = 0; tell = false; own_driver = true; page = 4; trace = (Free 3 ∷ Free 1 ∷ Write 2 250 (232 ∷ 17 ∷ 74 ∷ 10 ∷ 116 ∷ 184 ∷ 190 ∷ 33 ∷ 6 ∷ []) ∷ Free 3 ∷ Write 1 1 (48 ∷ 105 ∷ 49 ∷ 102 ∷ 131 ∷ 62 ∷ 84 ∷ 174 ∷ 180 ∷ 49 ∷ 7 ∷ 245 ∷ 243 ∷ 120 ∷ 186 ∷ 177 ∷ []) ∷ Write 3 3014 (206 ∷ 78 ∷ 130 ∷ 14 ∷ 157 ∷ 59 ∷ 47 ∷ 48 ∷ 164 ∷ 5 ∷ 184 ∷ 213 ∷ []) ∷ Write 2 651 (114 ∷ 131 ∷ 222 ∷ 166 ∷ 9 ∷ 37 ∷ 205 ∷ 101 ∷ []) ∷ Read 0 250 7 ∷ Read 2 8 3 ∷ Read 3 0 1 ∷ []) } } ∷ []);
  autostart = (true ∷ []);
  commands = (
      record { at = 5; line = codes "memtune --min-guarantee 8604byteS g0" } ∷ []);
}

abbrev pub drawn_18_report : List ℕ
drawn_18_report = codes "epoch 0\n> start g0\nerror 8 no memory to reserve\nstate high free 4\nepoch 1\nstate high free 4\nend\nmachine 4 held 0 free 4 overhead 0\n"

abbrev pub drawn_19 : Config
drawn_19 = record {
  machine = record { frames = 5; swap = 4194304; overhead = 0; tax = 7500; percent = record { high = 4678; soft = 3666; hard = 2120; low = 1610 }; page_rate = 2; rebalance = 0; page = 4 };
  epochs = 3;
  domains = (
      record { name = codes "g0"; config = record { size = 8; min = 1; shares = 1000; samples = 1; period = 50; rate = 16; quantum = 2; seed = 52359; stream = 0; tell = false; own_driver = true; page = 4; trace = (Free 5 ∷ Read 7 471 2 ∷ Write 7 4094 (212 ∷ 68 ∷ []) ∷ Read 7 3921 2 ∷ Read 7 787 3 ∷ Write 7 250 (77 ∷ 128 ∷ []) ∷ Write 7 0 (161 ∷ 140 ∷ 93 ∷ 181 ∷ 253 ∷ 36 ∷ 144 ∷ 146 ∷ 200 ∷ 118 ∷ 161 ∷ []) ∷ Free 0 ∷ Write 5 4095 (202 ∷ []) ∷ Write 3 0 (232 ∷ []) ∷ []) } } ∷
      record { name = codes "state"; config = record { size = 10; min = 1; shares = 1000; samples = 100; period = 1000; rate = 16; quantum = 2; seed = 1; stream = 3762127639552082560; tell = false; own_driver = true; page = 4; trace = (Idle ∷ Write 0 250 (158 ∷ []) ∷ Read 0 8 3 ∷ Free 0 ∷ Read 0 1 1 ∷ Write 0 250 (192 ∷ 225 ∷ 38 ∷ []) ∷ Post Inflate (0 ∷ 0 ∷ 0 ∷ 0 ∷ 0 ∷ 0 ∷ 0 ∷ 0 ∷ 0 ∷ 0 ∷ 0 ∷ 0 ∷ 0 ∷ 0 ∷ 0 ∷ 0 ∷ 8 ∷ 0 ∷ 0 ∷ 0 ∷ []) ∷ Idle ∷ Idle ∷ Write 0 250 (68 ∷ []) ∷ []) } } ∷
      record { name = codes "A"; config = record { size = 5; min = 1; shares = 1000; samples = 100; period = 2; rate = 1; quantum = 2; seed = 1; stream = 4483412113176155031; tell = false; own_driver = true; page = 4; trace = (Free 0 ∷ Free 0 ∷ Write 0 0 (177 ∷ 254 ∷ 140 ∷ 78 ∷ 221 ∷ 204 ∷ []) ∷ Write 0 0 (50 ∷ 179 ∷ []) ∷ Write 1 1 (180 ∷ 64 ∷ []) ∷ Read 1 0 4 ∷ Read 1 0 5 ∷ Read 1 8 2 ∷ Read 1 0 2 ∷ Read 1 1 8 ∷ []) } } ∷ []);
  autostart = (true ∷ true ∷ true ∷ []);
  commands = (
      record { at = 0; line = codes "setmem g0 0000000000004" } ∷
      record { at = 1; line = codes "start state" } ∷
      record { at = 1; line = codes "dommemstat g0" } ∷
      record { at = 2; line = codes "dommemstat state" } ∷
      record { at = 2; line = codes "memtune A --min-guarantee=00000008" } ∷
      record { at = 2; line = codes "memtune A --min-guarantee=20KIb" } ∷ []);
}

abbrev pub drawn_19_report : List ℕ
drawn_19_report = codes "epoch 0\n> start g0\nok\n> start state\nok\n> start A\nok\n> setmem g0 0000000000004\nok\nstate high free 2\ngrant state 1\ng0 stall 7\nepoch 1\n> start state\nerror 2 already running\n> dommemstat g0\nactual 32\nminor_fault 0\nunused 32\navailable 32\nusable 32\nrss 4\nstate high free 1\ng0 r 7 471 0000\nstate r 0 8 000000\nepoch 2\n> dommemstat state\nactual 8\nminor_fault 1\nunused 4\navailable 8\nusable 4\nrss 8\n> memtune A --min-guarantee=00000008\nok\n> memtune A --min-guarantee=20KIb\nerror 8 no memory to reserve\nstate hard free 0\nrevoke state 1\npage state 1\ng0 r 7 3921 0000\ng0 r 7 787 000000\nstate r 0 1 00\nA r 1 0 00b44000\nend\ng0 target 1 held 1 swapped 0 balloon 7 active 65536 bad 0 done 5\nstate target 1 held 1 swapped 0 balloon 8 active 65536 bad 0 done 6\nA target 2 held 2 swapped 0 balloon 2 active 46965 bad 0 done 6\nmachine 5 held 4 free 1 overhead 0\n"

abbrev pub drawn_20 : Config
drawn_20 = record {
  machine = record { frames = 17; swap = 35; overhead = 0; tax = 6174; percent = record { high = 2600; soft = 1300; hard = 1200; low = 900 }; page_rate = 2; rebalance = 0; page = 4 };
  epochs = 6;
  domains = (
      record { name = codes "g0"; config = record { size = 13; min = 2; shares = 100; samples = 4; period = 1; rate = 2; quantum = 2; seed = 54; stream = 0; tell = true; own_driver = true; page = 4; trace = (Write 0 0 (0 ∷ []) ∷ Write 1 0 (1 ∷ []) ∷ Write 2 0 (2 ∷ []) ∷ Write 3 0 (3 ∷ []) ∷ Write 4 0 (4 ∷ []) ∷ Write 5 0 (5 ∷ []) ∷ []) } } ∷
      record { name = codes "g1"; config = record { size = 14; min = 3; shares = 200; samples = 5; period = 1; rate = 4; quantum = 2; seed = 26; stream = 0; tell = false; own_driver = true; page = 4; trace = (Write 0 0 (0 ∷ []) ∷ Write 1 0 (1 ∷ []) ∷ Write 2 0 (2 ∷ []) ∷ Write 3 0 (3 ∷ []) ∷ Write 4 0 (4 ∷ []) ∷ Write 5 0 (5 ∷ []) ∷ []) } } ∷
      record { name = codes "x"; config = record { size = 8; min = 1; shares = 1000; samples = 4; period = 2; rate = 2; quantum = 2; seed = 39; stream = 0; tell = false; own_driver = true; page = 4; trace = ([]) } } ∷ []);
  autostart = (true ∷ true ∷ false ∷ []);
  commands = (
      record { at = 1; line = codes "memtune g0 --min-guarantee 32" } ∷
      record { at = 2; line = codes "destroy x" } ∷
      record { at = 2; line = codes "memshares g0 1" } ∷
      record { at = 3; line = codes "setmem g0 12" } ∷
      record { at = 3; line = codes "setmem g1 20" } ∷
      record { at = 3; line = codes "start x" } ∷
      record { at = 4; line = codes "destroy x" } ∷
      record { at = 4; line = codes "memshares g0 1000" } ∷
      record { at = 4; line = codes "memshares g1 1" } ∷
      record { at = 5; line = codes "start x" } ∷ []);
}

abbrev pub drawn_20_report : List ℕ
drawn_20_report = codes "epoch 0\n> start g0\nok\n> start g1\nok\nstate high free 12\ngrant g1 1\ngrant g0 1\ngrant g1 2\ngrant g0 1\ngrant g1 2\ngrant g0 1\ngrant g1 2\nepoch 1\n> memtune g0 --min-guarantee 32\nrevoke g1 1\nok\nstate low free 0\nrevoke g1 5\npage g1 2\nblock g1\nepoch 2\n> destroy x\nerror 3 not running\n> memshares g0 1\nok\nstate hard free 5\nepoch 3\n> setmem g0 12\nerror 6 below minimum\n> setmem g1 20\nok\n> start x\nok\nstate soft free 4\nrevoke g1 1\npage g1 1\ng1 stall 4\nepoch 4\n> destroy x\nok\n> memshares g0 1000\nok\n> memshares g1 1\nok\nstate high free 6\nepoch 5\n> start x\nok\nstate high free 5\ngrant x 3\nend\ng0 target 8 held 8 swapped 0 balloon 5 active 13199 bad 0 done 6\ng1 target 3 held 3 swapped 3 balloon 8 active 27048 bad 0 done 6\nx target 4 held 4 swapped 0 balloon 0 active 57344 bad 0 done 0\nmachine 17 held 15 free 2 overhead 0\n"

abbrev pub drawn_21 : Config
drawn_21 = record {
  machine = record { frames = 7; swap = 32; overhead = 0; tax = 7800; percent = record { high = 700; soft = 500; hard = 100; low = 0 }; page_rate = 1; rebalance = 0; page = 4 };
  epochs = 2;
  domains = (
      record { name = codes "0"; config = record { size = 2; min = 2; shares = 1000; samples = 1; period = 20; rate = 16; quantum = 1; seed = 36254; stream = 54; tell = true; own_driver = true; page = 4; trace = (Write 1 8 (60 ∷ 69 ∷ []) ∷ Write 1 0 (2 ∷ 89 ∷ 44 ∷ []) ∷ Read 1 1 1 ∷ Write 1 0 (101 ∷ 3 ∷ 224 ∷ 84 ∷ 47 ∷ 227 ∷ 204 ∷ 179 ∷ 69 ∷ 5 ∷ 31 ∷ 63 ∷ 148 ∷ 207 ∷ []) ∷ Write 0 0 (182 ∷ []) ∷ Write 0 8 (83 ∷ 239 ∷ []) ∷ Write 0 4094 (189 ∷ 146 ∷ []) ∷ Write 1 0 (196 ∷ []) ∷ Free 0 ∷ Free 0 ∷ Read 0 0 1 ∷ Read 0 1 16 ∷ Write 0 0 (95 ∷ 184 ∷ []) ∷ Write 0 533 (207 ∷ 35 ∷ 116 ∷ 169 ∷ 83 ∷ 106 ∷ []) ∷ []) } } ∷
      record { name = codes "g1"; config = record { size = 6; min = 1; shares = 617982; samples = 3; period = 5; rate = 16; quantum = 1; seed = 1; stream = 54; tell = true; own_driver = true; page = 4; trace = (Write 4 0 (203 ∷ 136 ∷ []) ∷ Write 4 0 (214 ∷ 64 ∷ []) ∷ Write 3 8 (238 ∷ []) ∷ Read 4 1 13 ∷ Write 1 0 (100 ∷ 104 ∷ 164 ∷ 226 ∷ 233 ∷ 243 ∷ 225 ∷ 197 ∷ 227 ∷ 230 ∷ []) ∷ Write 2 0 (125 ∷ 200 ∷ 172 ∷ 97 ∷ 139 ∷ 8 ∷ 50 ∷ 253 ∷ 174 ∷ 138 ∷ 44 ∷ 189 ∷ 112 ∷ 165 ∷ 58 ∷ []) ∷ Write 0 1 (200 ∷ 58 ∷ []) ∷ Read 4 1991 2 ∷ Read 2 4095 1 ∷ Write 4 0 (52 ∷ 137 ∷ 115 ∷ []) ∷ Write 3 0 (254 ∷ 208 ∷ 224 ∷ 252 ∷ 120 ∷ 223 ∷ 69 ∷ []) ∷ Read 4 1 3 ∷ Read 3 8 2 ∷ Read 4 8 13 ∷ Write 2 250 (41 ∷ 8 ∷ 47 ∷ []) ∷ Write 4 0 (181 ∷ 129 ∷ 236 ∷ 115 ∷ 210 ∷ 18 ∷ 94 ∷ 38 ∷ []) ∷ Write 4 1995 (80 ∷ 244 ∷ []) ∷ Write 4 1 (167 ∷ 224 ∷ 25 ∷ []) ∷ Read 3 1 2 ∷ []) } } ∷
      record { name = codes "state"; config = record { size = 8; min = 1; shares = 100; samples = 1; period = 50; rate = 3; quantum = 1; seed = 18446744073709551615; stream = 18446744073709551615; tell = true; own_driver = true; page = 4; trace = (Read 1 0 13 ∷ Read 2 0 9 ∷ Free 0 ∷ Read 1 250 2 ∷ Write 2 959 (175 ∷ []) ∷ Free 0 ∷ Read 1 633 7 ∷ Write 5 4094 (135 ∷ 12 ∷ []) ∷ []) } } ∷ []);
  autostart = (false ∷ true ∷ true ∷ []);
  commands = (
      record { at = 0; line = codes "destroy 0" } ∷
      record { at = 1; line = codes "setmem g1 1" } ∷
      record { at = 1; line = codes "start 0" } ∷
      record { at = 1; line = codes "start 0" } ∷
      record { at = 1; line = codes "setmem g1 22" } ∷ []);
}

abbrev pub drawn_21_report : List ℕ
drawn_21_report = codes "epoch 0\n> start g1\nok\n> start state\nok\n> destroy 0\nerror 3 not running\nstate high free 5\ngrant g1 5\nstate r 1 0 00000000000000000000000000\nepoch 1\n> setmem g1 1\nok\n> start 0\nok\n> start 0\nerror 2 already running\n> setmem g1 22\nok\nstate high free 0\nstate stall 2\nend\n0 target 2 held 2 swapped 0 balloon 0 active 65536 bad 0 done 1\ng1 target 1 held 4 swapped 0 balloon 0 active 65536 bad 0 done 2\nstate target 1 held 1 swapped 0 balloon 3 active 65536 bad 0 done 1\nmachine 7 held 7 free 0 overhead 0\n"

abbrev pub drawn_22 : Config
drawn_22 = record {
  machine = record { frames = 15; swap = 27; overhead = 1; tax = 9700; percent = record { high = 3100; soft = 2300; hard = 1300; low = 1300 }; page_rate = 1; rebalance = 0; page = 4 };
  epochs = 5;
  domains = (
      record { name = codes "g0"; config = record { size = 17; min = 2; shares = 100; samples = 1; period = 2; rate = 2; quantum = 3; seed = 53; stream = 0; tell = true; own_driver = true; page = 4; trace = (Write 0 0 (0 ∷ []) ∷ Write 1 0 (1 ∷ []) ∷ Write 2 0 (2 ∷ []) ∷ Write 3 0 (3 ∷ []) ∷ Write 4 0 (4 ∷ []) ∷ Write 5 0 (5 ∷ []) ∷ []) } } ∷
      record { name = codes "g1"; config = record { size = 7; min = 2; shares = 200; samples = 6; period = 3; rate = 1; quantum = 3; seed = 87; stream = 0; tell = true; own_driver = true; page = 4; trace = (Write 0 0 (0 ∷ []) ∷ Write 1 0 (1 ∷ []) ∷ Write 2 0 (2 ∷ []) ∷ []) } } ∷
      record { name = codes "x"; config = record { size = 3; min = 3; shares = 1000; samples = 6; period = 1; rate = 1; quantum = 3; seed = 89; stream = 0; tell = true; own_driver = true; page = 4; trace = ([]) } } ∷ []);
  autostart = (true ∷ true ∷ false ∷ []);
  commands = (
      record { at = 1; line = codes "memtune g0 --min-guarantee 16" } ∷
      record { at = 2; line = codes "setmem g0 8" } ∷
      record { at = 2; line = codes "setmem g1 8" } ∷
      record { at = 2; line = codes "start x" } ∷
      record { at = 3; line = codes "memtune g1 --min-guarantee 24" } ∷
      record { at = 4; line = codes "destroy x" } ∷
      record { at = 4; line = codes "memshares g0 100" } ∷ []);
}

abbrev pub drawn_22_report : List ℕ
drawn_22_report = codes "epoch 0\n> start g0\nok\n> start g1\nok\nstate high free 9\ngrant g1 2\ngrant g0 1\ngrant g1 2\ngrant g0 1\nepoch 1\n> memtune g0 --min-guarantee 16\nok\nstate high free 3\nepoch 2\n> setmem g0 8\nerror 6 below minimum\n> setmem g1 8\nok\n> start x\nok\nstate low free 0\npage g1 1\nblock g1\nepoch 3\n> memtune g1 --min-guarantee 24\nerror 7 above maximum\nstate hard free 2\npage g1 1\nepoch 4\n> destroy x\nok\n> memshares g0 100\nok\nstate soft free 7\nend\ng0 target 4 held 4 swapped 2 balloon 8 active 25735 bad 0 done 6\ng1 target 2 held 2 swapped 1 balloon 2 active 40243 bad 0 done 3\nmachine 15 held 6 free 7 overhead 2\n"

abbrev pub drawn_23 : Config
drawn_23 = record {
  machine = record { frames = 9; swap = 24; overhead = 1; tax = 9400; percent = record { high = 700; soft = 600; hard = 600; low = 200 }; page_rate = 1; rebalance = 0; page = 4 };
  epochs = 4;
  domains = (
      record { name = codes "g0"; config = record { size = 6; min = 1; shares = 1000; samples = 25; period = 1; rate = 2; quantum = 3; seed = 0; stream = 0; tell = true; own_driver = true; page = 4; trace = ([]) } } ∷
      record { name = codes "g1"; config = record { size = 9; min = 1; shares = 1000; samples = 10; period = 1000; rate = 2; quantum = 3; seed = 2724000318814824522; stream = 0; tell = true; own_driver = true; page = 4; trace = ([]) } } ∷
      record { name = codes "end"; config = record { size = 9; min = 1; shares = 1000; samples = 100; period = 1000; rate = 256; quantum = 3; seed = 56266; stream = 0; tell = true; own_driver = true; page = 4; trace = (Read 5 1 16 ∷ Read 7 0 1 ∷ Read 5 4085 11 ∷ []) } } ∷ []);
  autostart = (true ∷ true ∷ false ∷ []);
  commands = (
      record { at = 0; line = codes "memshares g1 1" } ∷
      record { at = 0; line = codes "setmem g0x 1kbb" } ∷
      record { at = 0; line = codes "   memtune  --min-guarantee 8K   g1 " } ∷
      record { at = 0; line = codes "destroy end" } ∷
      record { at = 1; line = codes "setmem g1 00004" } ∷
      record { at = 1; line = codes "setmem g0 2K" } ∷
      record { at = 1; line = codes "start end" } ∷
      record { at = 1; line = codes "start end" } ∷
      record { at = 2; line = codes "start end" } ∷
      record { at = 2; line = codes "destroy end" } ∷
      record { at = 3; line = codes "start g0x" } ∷
      record { at = 3; line = codes "setmem g0 0000000000000000004" } ∷
      record { at = 3; line = codes "start end" } ∷
      record { at = 3; line = codes "start end" } ∷
      record { at = 3; line = codes "destroy end" } ∷
      record { at = 3; line = codes "memshares g1 1000000" } ∷
      record { at = 3; line = codes "memshares end 1" } ∷ []);
}

abbrev pub drawn_23_report : List ℕ
drawn_23_report = codes "epoch 0\n> start g0\nok\n> start g1\nok\n> memshares g1 1\nok\n> setmem g0x 1kbb\nerror 5 bad size\n>    memtune  --min-guarantee 8K   g1 \nok\n> destroy end\nerror 3 not running\nstate high free 4\ngrant g0 4\nepoch 1\n> setmem g1 00004\nerror 6 below minimum\n> setmem g0 2K\nok\n> start end\nok\n> start end\nerror 2 already running\nstate high free 0\nend stall 5\nepoch 2\n> start end\nerror 2 already running\n> destroy end\nok\nstate high free 4\nepoch 3\n> start g0x\nerror 1 no such domain\n> setmem g0 0000000000000000004\nok\n> start end\nok\n> start end\nerror 2 already running\n> destroy end\nok\n> memshares g1 1000000\nok\n> memshares end 1\nerror 3 not running\nstate high free 4\nend\ng0 target 1 held 1 swapped 0 balloon 5 active 13199 bad 0 done 0\ng1 target 2 held 2 swapped 0 balloon 6 active 65536 bad 0 done 0\nmachine 9 held 3 free 4 overhead 2\n"

abbrev pub drawn_24 : Config
drawn_24 = record {
  machine = record { frames = 4; swap = 9; overhead = 0; tax = 9900; percent = record { high = 1600; soft = 400; hard = 200; low = 200 }; page_rate = 16; rebalance = 0; page = 4 };
  epochs = 2;
  domains = (
      record { name = codes "."; config = record { size = 3; min = 1; shares = 31105; samples = 2; period = 20; rate = 9; quantum = 3; seed = 11941103544579482984; stream = 12043362097614548787; tell = true; own_driver = true; page = 4; trace = (Post Inflate (2 ∷ 0 ∷ 0 ∷ 0 ∷ 1 ∷ 0 ∷ 0 ∷ 0 ∷ []) ∷ Post Inflate (97 ∷ []) ∷ Idle ∷ Read 0 0 2 ∷ Write 1 535 (136 ∷ 17 ∷ []) ∷ Free 2 ∷ Post Deflate (42 ∷ 121 ∷ 167 ∷ []) ∷ Post Inflate (2 ∷ 0 ∷ 0 ∷ 0 ∷ []) ∷ Post Inflate (2 ∷ 0 ∷ 0 ∷ 0 ∷ 2 ∷ 0 ∷ 0 ∷ 0 ∷ 2 ∷ 0 ∷ 0 ∷ 0 ∷ []) ∷ Write 1 250 (180 ∷ 51 ∷ 122 ∷ 141 ∷ []) ∷ Read 1 0 3 ∷ Read 1 8 3 ∷ Read 1 1 5 ∷ Write 0 1 (37 ∷ 109 ∷ []) ∷ Read 0 250 1 ∷ Read 0 250 1 ∷ Write 0 522 (229 ∷ 27 ∷ []) ∷ Read 0 4095 1 ∷ Free 0 ∷ Read 2 250 12 ∷ []) } } ∷
      record { name = codes "g1"; config = record { size = 6; min = 1; shares = 1000; samples = 100; period = 20; rate = 256; quantum = 3; seed = 18446744073709551615; stream = 0; tell = true; own_driver = true; page = 4; trace = ([]) } } ∷ []);
  autostart = (true ∷ false ∷ []);
  commands = (
      record { at = 3; line = codes "setmem . 12KiB" } ∷
      record { at = 1; line = codes "setmem . 6k" } ∷
      record { at = 0; line = codes "setmem . 10" } ∷
      record { at = 1; line = codes "dommemstat  . " } ∷ []);
}

abbrev pub drawn_24_report : List ℕ
drawn_24_report = codes "epoch 0\n> start .\nok\n> setmem . 10\nok\nstate high free 3\ngrant . 2\nepoch 1\n> setmem . 6k\nok\n> dommemstat  . \nactual 12\nminor_fault 0\nunused 12\navailable 12\nusable 12\nrss 12\nstate high free 1\n. r 0 0 0000\n. stall 1\nend\n. target 2 held 3 swapped 0 balloon 2 active 65536 bad 1 done 4\nmachine 4 held 3 free 1 overhead 0\n"

abbrev pub drawn_25 : Config
drawn_25 = record {
  machine = record { frames = 8; swap = 12; overhead = 0; tax = 8854; percent = record { high = 600; soft = 400; hard = 200; low = 100 }; page_rate = 1; rebalance = 0; page = 4 };
  epochs = 2;
  domains = (
      record { name = codes "g-1"; config = record { size = 6; min = 1; shares = 100; samples = 100; period = 7; rate = 4; quantum = 2; seed = 0; stream = 54; tell = true; own_driver = true; page = 4; trace = (Write 0 250 (242 ∷ 200 ∷ 243 ∷ 116 ∷ 164 ∷ 202 ∷ 18 ∷ 207 ∷ 76 ∷ 110 ∷ 59 ∷ 232 ∷ []) ∷ Read 1 3365 2 ∷ Read 4 4095 1 ∷ Write 4 0 (149 ∷ 156 ∷ 150 ∷ []) ∷ []) } } ∷
      record { name = codes "c"; config = record { size = 8; min = 3; shares = 1; samples = 2; period = 10; rate = 1; quantum = 2; seed = 1; stream = 0; tell = true; own_driver = true; page = 4; trace = ([]) } } ∷
      record { name = codes "q"; config = record { size = 8; min = 3; shares = 1000000; samples = 100; period = 1000; rate = 2; quantum = 2; seed = 27202; stream = 0; tell = false; own_driver = true; page = 4; trace = (Read 6 1495 1 ∷ Read 6 0 1 ∷ Read 0 0 13 ∷ Read 0 8 14 ∷ []) } } ∷ []);
  autostart = (true ∷ false ∷ false ∷ []);
  commands = (
      record { at = 0; line = codes "dommemstat g-1" } ∷
      record { at = 0; line = codes "setmem g-1 23" } ∷
      record { at = 0; line = codes "destroy q" } ∷
      record { at = 1; line = codes "start q" } ∷
      record { at = 1; line = codes "start c" } ∷
      record { at = 1; line = codes "start q" } ∷
      record { at = 1; line = codes "start q" } ∷
      record { at = 1; line = codes "destroy q" } ∷
      record { at = 1; line = codes "memshares g-1 1" } ∷
      record { at = 1; line = codes "memshares q 3795" } ∷ []);
}

abbrev pub drawn_25_report : List ℕ
drawn_25_report = codes "epoch 0\n> start g-1\nok\n> dommemstat g-1\nactual 24\nrss 4\n> setmem g-1 23\nok\n> destroy q\nerror 3 not running\nstate high free 7\ngrant g-1 5\ng-1 r 1 3365 0000\nepoch 1\n> start q\nrevoke g-1 1\nok\n> start c\nerror 9 no swap to reserve\n> start q\nerror 2 already running\n> start q\nerror 2 already running\n> destroy q\nok\n> memshares g-1 1\nok\n> memshares q 3795\nerror 3 not running\nstate high free 3\ng-1 r 4 4095 00\nend\ng-1 target 5 held 5 swapped 0 balloon 0 active 65536 bad 0 done 4\nmachine 8 held 5 free 3 overhead 0\n"

abbrev pub drawn_26 : Config
drawn_26 = record {
  machine = record { frames = 7; swap = 4194304; overhead = 1; tax = 5479; percent = record { high = 800; soft = 700; hard = 400; low = 0 }; page_rate = 3; rebalance = 0; page = 4 };
  epochs = 3;
  domains = (
      record { name = codes "g0"; config = record { size = 4; min = 1; shares = 1000; samples = 100; period = 5; rate = 4; quantum = 1; seed = 1; stream = 54; tell = false; own_driver = true; page = 4; trace = (Post Stats (0 ∷ 1 ∷ 255 ∷ 255 ∷ 255 ∷ 255 ∷ 255 ∷ 255 ∷ 255 ∷ 255 ∷ 165 ∷ 221 ∷ 140 ∷ 7 ∷ 84 ∷ 80 ∷ []) ∷ Read 2 1 11 ∷ Post Deflate (2 ∷ 0 ∷ 0 ∷ 0 ∷ 0 ∷ 0 ∷ 0 ∷ 0 ∷ 0 ∷ 0 ∷ 0 ∷ 0 ∷ 1 ∷ 0 ∷ 0 ∷ 0 ∷ []) ∷ Post Inflate (2 ∷ 0 ∷ 0 ∷ 0 ∷ 0 ∷ 0 ∷ 0 ∷ 0 ∷ 0 ∷ 0 ∷ 0 ∷ 0 ∷ 0 ∷ 0 ∷ 0 ∷ 0 ∷ 3 ∷ 0 ∷ 0 ∷ 0 ∷ 3 ∷ 0 ∷ 0 ∷ 0 ∷ 2 ∷ 0 ∷ 0 ∷ 0 ∷ 3 ∷ 0 ∷ 0 ∷ 0 ∷ 2 ∷ 0 ∷ 0 ∷ 0 ∷ []) ∷ []) } } ∷
      record { name = codes "g1"; config = record { size = 4; min = 1; shares = 1000; samples = 30; period = 20; rate = 256; quantum = 1; seed = 0; stream = 18446744073709551615; tell = false; own_driver = true; page = 4; trace = (Write 0 4085 (169 ∷ 167 ∷ 49 ∷ 145 ∷ 41 ∷ 63 ∷ 98 ∷ 21 ∷ 38 ∷ 200 ∷ 171 ∷ []) ∷ Write 0 250 (0 ∷ 126 ∷ []) ∷ Free 1 ∷ Free 2 ∷ []) } } ∷
      record { name = codes "g2"; config = record { size = 4; min = 1; shares = 1000000; samples = 10; period = 50; rate = 1; quantum = 1; seed = 42214; stream = 9223372036854775808; tell = false; own_driver = true; page = 4; trace = (Read 0 250 1 ∷ []) } } ∷ []);
  autostart = (true ∷ true ∷ false ∷ []);
  commands = (
      record { at = 0; line = codes "destroy g2" } ∷
      record { at = 1; line = codes "start g2" } ∷
      record { at = 1; line = codes "start g2" } ∷
      record { at = 2; line = codes "destroy g2" } ∷
      record { at = 2; line = codes "memshares g1 1000000" } ∷
      record { at = 2; line = codes "memshares g2 2567" } ∷ []);
}

abbrev pub drawn_26_report : List ℕ
drawn_26_report = codes "epoch 0\n> start g0\nok\n> start g1\nok\n> destroy g2\nerror 3 not running\nstate high free 3\ngrant g0 1\ngrant g1 1\ngrant g0 1\nepoch 1\n> start g2\nrevoke g0 2\nok\n> start g2\nerror 2 already running\nstate high free 0\ng0 stall 2\ng2 r 0 250 00\nepoch 2\n> destroy g2\nok\n> memshares g1 1000000\nok\n> memshares g2 2567\nerror 3 not running\nstate high free 2\ng0 r 2 1 0000000000000000000000\nend\ng0 target 1 held 1 swapped 0 balloon 2 active 65536 bad 0 done 2\ng1 target 2 held 2 swapped 0 balloon 2 active 65536 bad 0 done 3\nmachine 7 held 3 free 2 overhead 2\n"

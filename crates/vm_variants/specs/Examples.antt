-- A configuration of two guests, for examples that were worked out by hand.
use Rattle.std.specs.Prelude.{ℕ, [], ◌∷◌, true, codes}
use Rattle.vm_guest.specs.Config.{GuestConfig}
use Rattle.vm_config.specs.declared.config.Config.{Config}
use Rattle.vm_variants.specs.declared.guest_value.GuestValue.{GuestValue}

-- a guest of so many pages
abbrev pub guest_of : (size min shares seed : ℕ) → GuestConfig
guest_of size min shares seed = record {
  size = size;
  min = min;
  shares = shares;
  samples = 100;
  period = 1000;
  rate = 16;
  quantum = 100;
  seed = seed;
  stream = 0;
  tell = true;
  own_driver = true;
  page = 4;
  trace = [];
}

abbrev pub two_guests : GuestConfig → GuestConfig → Config
two_guests web db = record {
  machine = record {
    frames = 16;
    swap = 0;
    overhead = 0;
    tax = 7500;
    percent = record { high = 600; soft = 400; hard = 200; low = 100 };
    page_rate = 16;
    rebalance = 0;
    page = 4;
  };
  epochs = 10;
  domains = record { name = codes "web"; config = web } ∷ record { name = codes "db"; config = db } ∷ [];
  autostart = true ∷ true ∷ [];
  commands = [];
}

-- with the values of its text; the second seed is the greatest that there is
abbrev pub own : Config
own = two_guests (guest_of 10 4 1000 5) (guest_of 7 1 500 18446744073709551615)

abbrev pub at : (place value : ℕ) → GuestValue
at place value = record { place = place; value = value }

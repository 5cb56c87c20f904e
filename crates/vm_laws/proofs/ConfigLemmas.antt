-- The configuration of the data that the text of an import is.
use Rattle.std.proofs.Common.{◌≡◌, ℕ, ◌+◌, ◌/◌, ◌≤◌, true, List, [], ◌∷◌, length, min, Option, Some, None, Ok, refl, arith, le-leb}
use Rattle.std.specs.Option.{ForSome, option_map_or}
use Rattle.std.specs.Str.{is_utf8}
use Rattle.serde_json.specs.Read.{read}
use Rattle.vm_config.specs.Guests.{Listed}
use Rattle.vm_config.specs.Names.{is_name}
use Rattle.vm_config.specs.Reading.{config_of, listed_in, keys_in, machine_in, steps_from}
use Rattle.vm_config.specs.Versions.{version_2}
use Rattle.vm_config.specs.declared.config.Config.{Config}
use Rattle.vm_import.specs.Guests.{epochs_of}
use Rattle.vm_import.specs.Settings.{Settings}
use Rattle.vm_laws.specs.Meaning.{AreSettings}
use Rattle.vm_laws.proofs.JsonLemmas.{AreSmall, Numbers, guest_data, root_data}
use Rattle.vm_laws.proofs.ConfigTextLemmas.{numbers_of}
use Rattle.vm_laws.proofs.StringLemmas.{texts-read}
use Rattle.vm_trace.specs.declared.step.Action.{Action}

-- ---- numbers in their ranges

pub record AreInRange (n : Numbers) : Type 0 where
  pub some_quantum : 1 ≤ n.quantum
  pub few_quantum : n.quantum ≤ 65536
  pub some_pages : 1 ≤ n.size
  pub few_pages : n.size ≤ 262144
  pub some_min : 1 ≤ n.min
  pub few_min : n.min ≤ n.size
  pub some_frames : 1 ≤ n.frames
  pub few_frames : n.frames ≤ 262144
  pub swap : n.swap ≤ 67108864
  pub epochs : n.epochs ≤ 10000

pub small-range : (n : Numbers) → AreInRange n → AreSmall n
small-range n are =
    let a = are.few_quantum in let b = are.few_pages in let c = are.few_min in let d = are.few_frames in let e = are.swap in let f = are.epochs in
    record { quantum = omega arith; size = omega arith; min = omega arith; frames = omega arith; swap = omega arith; epochs = omega arith }

-- ---- the guest

module _ (settings : Settings) (texts : List (List ℕ)) (steps : List Action) (n : Numbers) (are : AreInRange n)
    (named : is_name settings.name ≡ true) (few : length texts ≤ 1000000)
    (read_as : steps_from version_2 n.size 0 0 texts [] ≡ Ok steps) where
  abbrev listed : Listed
  listed = record {
    domain = record {
      name = settings.name;
      config = record {
        size = n.size;
        min = n.min;
        shares = 1000;
        samples = 100;
        period = 1000;
        rate = 16;
        quantum = n.quantum;
        seed = 0;
        stream = 0;
        tell = true;
        own_driver = true;
        page = 4;
        trace = steps;
      };
    };
    autostart = true;
  }

  guest-read : listed_in version_2 n.quantum 4 (guest_data settings.name texts n) [] ≡ Ok listed
  unfolding listed_in version_2
  guest-read =
      rw (
        named,
        le-leb 1 n.size are.some_pages,
        le-leb n.size 262144 are.few_pages,
        le-leb 1 n.min are.some_min,
        le-leb n.min n.size are.few_min,
        texts-read texts few,
        read_as,
      ) refl

  abbrev config : Config
  config = record {
    machine = record {
      frames = n.frames;
      swap = n.swap;
      overhead = 0;
      tax = 7500;
      percent = record { high = 600; soft = 400; hard = 200; low = 100 };
      page_rate = 16;
      rebalance = 0;
      page = 4;
    };
    epochs = n.epochs;
    domains = listed.domain ∷ [];
    autostart = true ∷ [];
    commands = [];
  }

  keys-read : keys_in version_2 (root_data settings.name texts n) ≡ Ok config
  unfolding keys_in machine_in version_2
  keys-read =
      rw (
        le-leb 1 n.frames are.some_frames,
        le-leb n.frames 262144 are.few_frames,
        le-leb 0 n.swap (omega arith),
        le-leb n.swap 67108864 are.swap,
        le-leb 1 n.quantum are.some_quantum,
        le-leb n.quantum 65536 are.few_quantum,
        le-leb 0 n.epochs (omega arith),
        le-leb n.epochs 10000 are.epochs,
        guest-read,
      ) refl

  -- bytes that are read as the data mean the configuration
  pub config-read : (bytes : List ℕ) → is_utf8 bytes ≡ true → read bytes ≡ Some (root_data settings.name texts n) → config_of bytes ≡ Ok config
  config-read bytes utf8 is = rw (utf8, is) keys-read

-- ---- those of an import

min-in-range : (said : Option ℕ) (size : ℕ) → 1 ≤ size → ForSome said (λ pages. 1 ≤ pages)
    → (1 ≤ option_map_or (λ pages. min pages size) said ((size + 1) / 2)) × (option_map_or (λ pages. min pages size) said ((size + 1) / 2) ≤ size)
min-in-range None size some said = (omega arith, omega arith)
min-in-range (Some pages) size some said = let least : 1 ≤ pages = said pages refl in (omega arith, omega arith)

pub numbers-in-range : (settings : Settings) (size steps : ℕ) → AreSettings settings → 1 ≤ size → size ≤ 262144
    → epochs_of settings.quantum steps ≤ 10000 → AreInRange (numbers_of settings size steps)
numbers-in-range settings size steps are some few epochs =
    let least = min-in-range settings.min size some are.min in
    let low = least.0 in
    let high = least.1 in
    record {
      some_quantum = are.some_quantum;
      few_quantum = are.few_quantum;
      some_pages = some;
      few_pages = few;
      some_min = low;
      few_min = high;
      some_frames = omega arith;
      few_frames = omega arith;
      swap = omega arith;
      epochs = epochs;
    }

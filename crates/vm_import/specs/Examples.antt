-- What comes of small logs, by examples.
use Rattle.std.specs.Prelude.{◌≡◌, ℕ, List, length, Option, None, Ok, Err, codes, true}
use Rattle.vm_import.specs.declared.access.Access.{Access}
use Rattle.vm_import.specs.declared.faults.LineFault.{LineFault}
use Rattle.vm_import.specs.Logs.{log_of}
use Rattle.vm_import.specs.Guests.{guest_of}
use Rattle.vm_import.specs.Intervals.{intervals_of}
use Rattle.vm_import.specs.Settings.{Settings}
use Rattle.vm_import.specs.Taking.{taken_of}
use Rattle.vm_import.specs.Texts.{text_of}
use Rattle.vm_import.specs.declared.limits.Limit.{Limit}

-- intervals of so many accesses, and epochs of so many steps
abbrev pub cut_by : (interval quantum : ℕ) → Settings
cut_by interval quantum = record {
  name = codes "guest";
  min = None;
  interval = interval;
  quantum = quantum;
  skip = 0;
  steps = 1000000;
  has_code = true;
}

-- the log makes a guest of so many intervals, ended by this limit, with this text
pub record Makes (settings : Settings) (log : List ℕ) (intervals : ℕ) (limit : Option Limit) (text : List ℕ) : Type 0 where
  pub accesses : List Access
  pub taken : taken_of settings (log_of log) ≡ Ok (record { accesses = accesses; limit = limit })
  pub intervals_are : length (intervals_of settings.interval accesses) ≡ intervals
  pub text_is : text_of settings (guest_of settings accesses) ≡ text

-- the log touches no page in so many intervals, ended by this limit
pub record TouchesNone (settings : Settings) (log : List ℕ) (intervals : ℕ) (limit : Option Limit) : Type 0 where
  pub accesses : List Access
  pub taken : taken_of settings (log_of log) ≡ Ok (record { accesses = accesses; limit = limit })
  pub intervals_are : length (intervals_of settings.interval accesses) ≡ intervals
  pub untouched : (guest_of settings accesses).size ≡ 0

-- a line of the log is refused
abbrev pub IsRefusedAt : Settings → List ℕ → ℕ → LineFault → Type 0
IsRefusedAt settings log number fault = taken_of settings (log_of log) ≡ Err (record { number = number; fault = fault })

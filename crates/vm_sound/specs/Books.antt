-- What the running guests were promised: admission control (Waldspurger, OSDI 2002, section 6.2).
use Rattle.std.specs.Prelude.{ℕ, ◌+◌}
use Rattle.vm_admission.specs.Accounts.{Accounts}
use Rattle.vm_domains.specs.Machine.{MachineConfig}
use Rattle.vm_guest.specs.Record.{GuestRecord, reserve}
use Rattle.vm_pool.specs.Guests.{Guests, total}

-- a guest is promised the frames of its minimum, and has its overhead beside
abbrev pub promised : MachineConfig → GuestRecord → ℕ
promised machine g = g.allotment.min + machine.overhead

abbrev pub accounts_of : MachineConfig → Guests → Accounts
accounts_of machine guests = record {
  frames = machine.frames;
  swap = machine.swap;
  overhead = machine.overhead;
  guests = total (λ _. 1) guests;
  memory = total (promised machine) guests;
  reserved = total reserve guests;
}

-- What the running guests were promised, and whether the machine covers it: admission control (Waldspurger, OSDI 2002, section 6.2).
use Rattle.std.specs.Prelude.{ℕ, nat_lt, Result, Ok, Err, if◌then◌else◌}
use Rattle.vm_admission.specs.Accounts.{Accounts}
use Rattle.vm_host.specs.declared.boundary.Refusal.{Refusal}
use Rattle.vm_host.specs.declared.boundary.Refusal.TheVariants.{NoMemory, NoSwap}
use Rattle.vm_host.specs.World.{World}
use Rattle.vm_sound.specs.Books.{accounts_of}

-- what the books hold of a host
abbrev pub books_of : World → Accounts
books_of w = accounts_of w.machine w.pool.guests

-- the position, where the machine's frames and then its swap cover what is promised
abbrev pub if_covered : Accounts → ℕ → Result ℕ Refusal
if_covered books position =
    if nat_lt books.frames books.memory then Err NoMemory
    else if nat_lt books.swap books.reserved then Err NoSwap
    else Ok position

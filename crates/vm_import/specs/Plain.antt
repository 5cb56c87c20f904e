-- What is read in one pass.
use Rattle.std.specs.Prelude.{◌≡◌, ℕ, ◌+◌, ◌≤◌, List, length, Option, Some, None, Ok}
use Rattle.std.specs.List.{before_first, position_or_len}
use Rattle.vm_import.specs.declared.access.Access.{Access}
use Rattle.vm_import.specs.Accesses.{IsAccess}
use Rattle.vm_import.specs.Lines.{line_of, process_of}
use Rattle.vm_import.specs.Logs.{is_line_end}

-- the text begins with a line that is the access, and so many bytes long with its end
pub record IsAccessLine (text : List ℕ) (access : Access) (len : ℕ) : Type 0 where
  pub end : len ≡ position_or_len is_line_end text + 1
  pub within : len ≤ length text
  pub meaning : (process : Option (List ℕ)) → line_of process (before_first is_line_end text) ≡ Ok (Some access)
  pub no_process : process_of (before_first is_line_end text) ≡ None
  pub valid : IsAccess access

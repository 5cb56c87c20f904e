-- What an access is.
use Rattle.std.specs.Prelude.{◌+◌, ◌^◌, ◌≤◌}
use Rattle.vm_import.specs.declared.access.Access.{Access}

-- 1 to 1024 bytes, of which none is behind the last address
pub record IsAccess (access : Access) : Type 0 where
  pub some : 1 ≤ access.size
  pub few : access.size ≤ 1024
  pub inside : access.address + access.size ≤ 2 ^ 64

-- What a line of lackey's log means: nothing, an access, or the first fault in it.
use Rattle.std.specs.Prelude.{ℕ, ◌+◌, ◌^◌, ◌==◌, ◌&&◌, ◌||◌, Bool, false, not, nat_le, nat_lt, if◌then◌else◌, List, length, take, drop, codes, bytes_eq, Option, Some, None, Result, Ok, Err}
use Rattle.std.specs.Char.{is_ascii_digit}
use Rattle.std.specs.List.{before_first, after_first}
use Rattle.std.specs.Option.{ok_or}
use Rattle.vm_import.specs.declared.access.Access.{Access}
use Rattle.vm_import.specs.declared.access.AccessKind.{AccessKind}
use Rattle.vm_import.specs.declared.access.AccessKind.TheVariants.{Fetch, Load, Store, Modify}
use Rattle.vm_import.specs.declared.faults.LineFault.{LineFault}
use Rattle.vm_import.specs.declared.faults.LineFault.TheVariants.{AnotherProcess, NotALine, NoAddress, NoSize, PastTheEnd}
use Rattle.vm_import.specs.Numerals.{numeral_of}

infixl 10 ◌>>=◌
abbrev pub ◌>>=◌ : {A B : Type 0} → Result A LineFault → (A → Result B LineFault) → Result B LineFault
(Ok x) >>= f = f x
(Err fault) >>= f = Err fault

abbrev pub begins_with : List ℕ → List ℕ → Bool
begins_with line front = bytes_eq (take (length front) line) front

-- the kind of an access
unfoldable pub kind_of : List ℕ → Result AccessKind LineFault
kind_of line =
    if begins_with line (codes "I  ") then Ok Fetch
    else if begins_with line (codes " L ") then Ok Load
    else if begins_with line (codes " S ") then Ok Store
    else if begins_with line (codes " M ") then Ok Modify
    else Err NotALine

abbrev pub is_comma : ℕ → Bool
is_comma byte = byte == 44

abbrev pub has_comma : List ℕ → Bool
has_comma text = nat_lt (length (before_first is_comma text)) (length text)

-- the address in front of a comma: 1 to 16 hexadecimal digits
unfoldable pub address_of : List ℕ → Result ℕ LineFault
address_of text =
    if has_comma text then ok_or (numeral_of 16 16 (before_first is_comma text)) NoAddress else Err NoAddress

-- a size: 1 to 4 decimal digits, 1 to 1024
unfoldable pub size_of : List ℕ → Result ℕ LineFault
size_of word = do
  size ← ok_or (numeral_of 10 4 word) NoSize
  if nat_le 1 size && nat_le size 1024 then Ok size else Err NoSize

-- an access with no byte behind the last address
unfoldable pub access_with : AccessKind → ℕ → ℕ → Result Access LineFault
access_with kind address size =
    if nat_le (address + size) (2 ^ 64) then Ok (record { address = address; size = size; kind = kind }) else Err PastTheEnd

-- the access of a line: a kind, an address, a comma and a size
unfoldable pub access_of : List ℕ → Result Access LineFault
access_of line = do
  kind ← kind_of line
  address ← address_of (drop 3 line)
  size ← size_of (after_first is_comma (drop 3 line))
  access_with kind address size

-- a line of valgrind's own
abbrev pub is_marked : List ℕ → Bool
is_marked line = begins_with line (codes "==") || (begins_with line (codes "--") || begins_with line (codes "**"))

abbrev pub is_no_digit : ℕ → Bool
is_no_digit byte = not (is_ascii_digit byte)

-- the digits behind the first two bytes of a line
abbrev pub digits_behind : List ℕ → List ℕ
digits_behind line = before_first is_no_digit (drop 2 line)

-- what stands between a mark and the same mark again, if that is 1 to 10 digits
unfoldable pub process_of : List ℕ → Option (List ℕ)
process_of line =
    if is_marked line && (nat_le 1 (length (digits_behind line)) && (nat_le (length (digits_behind line)) 10
    && begins_with (drop (length (digits_behind line)) (drop 2 line)) (take 2 line)))
    then Some (digits_behind line)
    else None

-- a line that names a process, where an earlier one named another
abbrev pub is_another : Option (List ℕ) → Option (List ℕ) → Bool
is_another (Some first) (Some digits) = not (bytes_eq first digits)
is_another _ _ = false

-- what a line means in the log of this process: nothing where it is passed over
unfoldable pub line_of : Option (List ℕ) → List ℕ → Result (Option Access) LineFault
line_of process line =
    if is_another process (process_of line) then Err AnotherProcess
    else if length line == 0 || is_marked line then Ok None
    else (do
      access ← access_of line
      Ok (Some access))

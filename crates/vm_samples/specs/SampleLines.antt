-- What one line of a sample tells.
use Rattle.std.specs.Prelude.{ℕ, ◌+◌, ◌-◌, ◌^◌, ◌==◌, ◌&&◌, Bool, nat_le, nat_lt, if◌then◌else◌, List, [], ◌∷◌, ◌++◌, bytes_eq, codes, drop, length, position, take, Option, Some, None, option_map, option_and_then, Result, Ok, Err}
use Rattle.std.specs.Char.{is_ascii_digit}
use Rattle.std.specs.List.{list_all, prefix_len}
use Rattle.std.specs.Str.Parse.{digits_value}
use Rattle.vm_samples.specs.declared.field.Field.{Field}
use Rattle.vm_samples.specs.declared.field.Field.TheVariants.{State, Current, Maximum, Usable, Unused, SwapIn}
use Rattle.vm_samples.specs.declared.sample.BadLine.{BadLine}
use Rattle.vm_samples.specs.declared.sample.BadLine.TheVariants.{NotALine, NotANumber}
use Rattle.vm_samples.specs.Samples.{DomainView}

-- ---- a line of a domain: `Domain: 'NAME'`

abbrev pub begins_with : List ℕ → List ℕ → Bool
begins_with line front = bytes_eq (take (length front) line) front

abbrev pub ends_with : List ℕ → List ℕ → Bool
ends_with line back = bytes_eq (drop (length line - length back) line) back

-- what is in front of the quote that ends a line
abbrev pub before_quote : List ℕ → Option (List ℕ)
before_quote text = if ends_with text (codes "'") then Some (take (length text - 1) text) else None

-- the name, up to the last quote, which ends the line
unfoldable pub domain_name : List ℕ → Option (List ℕ)
domain_name line = if begins_with line (codes "Domain: '") then before_quote (drop 9 line) else None

-- ---- a line of a key: one or more spaces, KEY up to the first `=`, `=`, VALUE

pub record KeyView : Type 0 where
  pub key : List ℕ
  pub value : List ℕ

abbrev pub is_space : ℕ → Bool
is_space byte = byte == 32

abbrev pub is_equals : ℕ → Bool
is_equals byte = byte == 61

-- what is behind the spaces that a line begins with
unfoldable pub behind_spaces : List ℕ → Option (List ℕ)
behind_spaces line =
    if nat_le 1 (prefix_len is_space line) then Some (drop (prefix_len is_space line) line) else None

-- what is in front of the first `=`, and what is behind it
unfoldable pub key_and_value : List ℕ → Option KeyView
key_and_value text =
    option_map (λ n. record { key = take n text; value = drop (n + 1) text }) (position is_equals text)

unfoldable pub key_line : List ℕ → Option KeyView
key_line line = option_and_then key_and_value (behind_spaces line)

-- ---- the keys that are read, and their values

unfoldable pub field_of : List ℕ → Option Field
field_of key =
    if bytes_eq key (codes "state.state") then Some State
    else if bytes_eq key (codes "balloon.current") then Some Current
    else if bytes_eq key (codes "balloon.maximum") then Some Maximum
    else if bytes_eq key (codes "balloon.usable") then Some Usable
    else if bytes_eq key (codes "balloon.unused") then Some Unused
    else if bytes_eq key (codes "balloon.swap_in") then Some SwapIn
    else None

-- 1 to 20 digits of a number below 2 ^ 64
unfoldable pub number_of : List ℕ → Option ℕ
number_of word =
    if nat_le 1 (length word) && (nat_le (length word) 20 && (list_all is_ascii_digit word && nat_lt (digits_value 10 word) (2 ^ 64)))
    then Some (digits_value 10 word)
    else None

-- ---- domains, by what lines tell of them

-- nothing is told of it yet
abbrev pub domain_named : List ℕ → DomainView
domain_named name = record {
  name = name;
  state = None;
  current = None;
  maximum = None;
  usable = None;
  unused = None;
  swap_in = None;
}

-- of a key that comes twice the last value holds
abbrev pub with_value : Field → ℕ → DomainView → DomainView
with_value State number domain = record domain { state = Some number }
with_value Current number domain = record domain { current = Some number }
with_value Maximum number domain = record domain { maximum = Some number }
with_value Usable number domain = record domain { usable = Some number }
with_value Unused number domain = record domain { unused = Some number }
with_value SwapIn number domain = record domain { swap_in = Some number }

-- the last of domains is changed
abbrev pub with_last : (DomainView → DomainView) → List DomainView → List DomainView
with_last change [] = []
with_last change (domain ∷ []) = change domain ∷ []
with_last change (domain ∷ next ∷ domains) = domain ∷ with_last change (next ∷ domains)

-- with a number of the last domain
abbrev pub with_number : Field → Option ℕ → List DomainView → Result (List DomainView) BadLine
with_number field None domains = Err NotANumber
with_number field (Some number) domains = Ok (with_last (with_value field number) domains)

-- with what a key tells of the last domain: nothing if it isn't one that is read
abbrev pub with_field : Option Field → List ℕ → List DomainView → Result (List DomainView) BadLine
with_field None value domains = Ok domains
with_field (Some field) value domains = with_number field (number_of value) domains

-- with a line of a key, behind a line of a domain
abbrev pub with_key : Option KeyView → List DomainView → Result (List DomainView) BadLine
with_key None domains = Err NotALine
with_key (Some line) [] = Err NotALine
with_key (Some line) (domain ∷ domains) = with_field (field_of line.key) line.value (domain ∷ domains)

-- with a line that is not empty
abbrev pub with_told : Option (List ℕ) → List ℕ → List DomainView → Result (List DomainView) BadLine
with_told (Some name) line domains = Ok (domains ++ domain_named name ∷ [])
with_told None line domains = with_key (key_line line) domains

-- with a line, or why it is bad
abbrev pub with_line : List ℕ → List DomainView → Result (List DomainView) BadLine
with_line line domains = if length line == 0 then Ok domains else with_told (domain_name line) line domains

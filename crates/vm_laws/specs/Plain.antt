-- Which texts stand in a comma-separated table as they are, without quotes (RFC 4180, section 2, rules 5 to 7).
use Rattle.std.specs.Prelude.{◌≡◌, ◌==◌, ◌||◌, ℕ, Bool, not, true, List}
use Rattle.std.specs.List.{list_all}
use Rattle.vm_config.specs.declared.config.Config.{Config}
use Rattle.vm_domains.specs.Domains.{names_of}
use Rattle.vm_tally.specs.GuestTable.{name_at}

-- a byte for which a field needs quotes: a double quote, a comma, CR or LF
abbrev pub needs_quotes : ℕ → Bool
needs_quotes byte = byte == 34 || byte == 44 || byte == 13 || byte == 10

-- no byte of the text is such a one
abbrev pub IsPlain : List ℕ → Type 0
IsPlain text = list_all (λ byte. not (needs_quotes byte)) text ≡ true

-- what stands as the name in the record of each guest of a configuration is
abbrev pub HasPlainNames : Config → Type 0
HasPlainNames c = (position : ℕ) → IsPlain (name_at (names_of c.domains) position)

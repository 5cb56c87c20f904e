-- What a form asks for is what is read of it.
use Rattle.std.proofs.Common.{◌≡◌, ℕ, ◌≤◌, ◌==◌, ◌&&◌, ◌⊎◌, inl, inr, cond, nat_le, if◌then◌else◌, List, length, Option, Some, None, Result, Ok, Err, refl, ap, sym, subst, arith}
use Rattle.std.proofs.lemmas.Bool.{and_parts, leb-true, le-leb, eqb-false, ne_eqb}
use Rattle.std.proofs.lemmas.List.Sums.{AllPass-from_list_all, list_all-from_AllPass}
use Rattle.std.specs.Char.{is_ascii_digit}
use Rattle.std.specs.List.{list_all}
use Rattle.std.specs.Option.{option_map_or}
use Rattle.std.specs.Str.Parse.{digits_value}
use Rattle.vm_commands.specs.declared.command.Command.{Command}
use Rattle.vm_commands.specs.declared.command.Command.TheVariants.{Start, Destroy, SetMemory, SetMinimum, SetShares, ShowStatistics}
use Rattle.vm_commands.specs.declared.error.LineFault.{LineFault}
use Rattle.vm_commands.specs.declared.error.LineFault.TheVariants.{Size}
use Rattle.vm_commands.specs.LineGrammar.{Form, FormStart, FormDestroy, FormMemory, FormMinimum, FormShares, FormStatistics, IsShares, AsksFor}
use Rattle.vm_commands.specs.Lines.{set_memory, minimum_of, set_minimum, shares_of, set_shares}
use Rattle.vm_commands.specs.SizeGrammar.{IsSize}
use Rattle.vm_commands.specs.Sizes.{pages_of_size}
use Rattle.vm_commands.proofs.Choices.{chosen, some_chosen, some_is}
use Rattle.vm_commands.proofs.SizeLaws.{IsSize-from_read, pages_of_size-spelled}

-- what is read of a form
abbrev pub meaning_of : ℕ → Form → Result Command LineFault
meaning_of page (FormStart domain) = Ok (Start domain)
meaning_of page (FormDestroy domain) = Ok (Destroy domain)
meaning_of page (FormMemory domain size) = set_memory page domain size
meaning_of page (FormMinimum domain size) = set_minimum page domain size
meaning_of page (FormShares domain number) = set_shares domain number
meaning_of page (FormStatistics domain) = Ok (ShowStatistics domain)

-- the numbers of shares
IsShares-from_read : (word : List ℕ) (shares : ℕ) → shares_of word ≡ Some shares → IsShares word shares
unfolding shares_of
IsShares-from_read word shares h =
    let value = digits_value 10 word in
    let counts = nat_le 1 (length word) && nat_le (length word) 7 in
    let in_range = nat_le 1 value && nat_le value 1000000 in
    let word_is = some_chosen (counts && list_all is_ascii_digit word) (cond in_range (Some value) None) shares h in
    let value_is = some_chosen in_range (Some value) shares word_is.1 in
    let digits = and_parts counts (list_all is_ascii_digit word) word_is.0 in
    let sizes = and_parts (nat_le 1 (length word)) (nat_le (length word) 7) digits.0 in
    let limits = and_parts (nat_le 1 value) (nat_le value 1000000) value_is.0 in
    let same = some_is value shares value_is.1 in
    record {
      some = leb-true 1 (length word) sizes.0;
      short = leb-true (length word) 7 sizes.1;
      decimal = AllPass-from_list_all is_ascii_digit word digits.1;
      value = same;
      least = subst (λ n. 1 ≤ n) same (leb-true 1 value limits.0);
      most = subst (λ n. n ≤ 1000000) same (leb-true value 1000000 limits.1);
    }

shares_of-spelled : (word : List ℕ) (shares : ℕ) → IsShares word shares → shares_of word ≡ Some shares
unfolding shares_of
shares_of-spelled word shares s =
    let all = list_all-from_AllPass is_ascii_digit word s.decimal in
    rw (le-leb 1 (length word) s.some, le-leb (length word) 7 s.short, all, s.value, le-leb 1 shares s.least, le-leb shares 1000000 s.most) refl

-- a minimum is a size of at least one page
minimum_cases : (o : Option ℕ) (pages : ℕ) → option_map_or (λ p. if p == 0 then None else Some p) o None ≡ Some pages → (o ≡ Some pages) × (1 ≤ pages)
minimum_cases (Some p) pages h = elim (chosen (p == 0) None (Some p) (Some pages) h) [
  | inl zero_pages ↦ (let none = zero_pages.1 in absurd cc)
  | inr some_pages ↦
      let same = some_is p pages some_pages.1 in
      let positive : p ≡ 0 → ⊥ = eqb-false p 0 some_pages.0 in
      (some_pages.1, subst (λ n. 1 ≤ n) same (omega arith))
]
minimum_cases None pages h = absurd cc

minimum_from : (page : ℕ) (size : List ℕ) (pages : ℕ) → 1 ≤ page → minimum_of page size ≡ Some pages → IsSize page size pages × (1 ≤ pages)
unfolding minimum_of
minimum_from page size pages some_page h =
    let parts = minimum_cases (pages_of_size page size) pages h in
    (IsSize-from_read page size pages some_page parts.0, parts.1)

minimum_of-spelled : (page : ℕ) (size : List ℕ) (pages : ℕ) → 1 ≤ page → IsSize page size pages → 1 ≤ pages → minimum_of page size ≡ Some pages
unfolding minimum_of
minimum_of-spelled page size pages some_page s some =
    rw (pages_of_size-spelled page size pages some_page s, ne_eqb pages 0 (λ none. omega (arith, some))) refl

-- a command with a number that was read
numbered : (o : Option ℕ) (f : ℕ → Command) → ((n : ℕ) × (o ≡ Some n)) ⊎ (option_map_or (λ n. Ok (f n)) o (Err Size) ≡ Err Size)
numbered (Some n) f = inl (n, refl)
numbered None f = inr refl

-- a form is read as what it asks for, or its SIZE or N can't be read
pub asks_or_size : (page : ℕ) (form : Form) → 1 ≤ page → ((command : Command) × AsksFor page form command) ⊎ (meaning_of page form ≡ Err Size)
unfolding set_memory set_minimum set_shares
asks_or_size page (FormStart domain) some_page = inl (Start domain, refl)
asks_or_size page (FormDestroy domain) some_page = inl (Destroy domain, refl)
asks_or_size page (FormMemory domain size) some_page = elim (numbered (pages_of_size page size) (SetMemory domain)) [
  | inl read ↦ inl (SetMemory domain read.0, (read.0, IsSize-from_read page size read.0 some_page read.1, refl))
  | inr none ↦ inr none
]
asks_or_size page (FormMinimum domain size) some_page = elim (numbered (minimum_of page size) (SetMinimum domain)) [
  | inl read ↦ let minimum = minimum_from page size read.0 some_page read.1 in inl (SetMinimum domain read.0, (read.0, minimum.0, minimum.1, refl))
  | inr none ↦ inr none
]
asks_or_size page (FormShares domain number) some_page = elim (numbered (shares_of number) (SetShares domain)) [
  | inl read ↦ inl (SetShares domain read.0, (read.0, IsShares-from_read number read.0 read.1, refl))
  | inr none ↦ inr none
]
asks_or_size page (FormStatistics domain) some_page = inl (ShowStatistics domain, refl)

-- what a form asks for is read
pub meaning_of-asks : (page : ℕ) (form : Form) (command : Command) → 1 ≤ page → AsksFor page form command → meaning_of page form ≡ Ok command
unfolding set_memory set_minimum set_shares
meaning_of-asks page (FormStart domain) command some_page a = ap Ok (sym a)
meaning_of-asks page (FormDestroy domain) command some_page a = ap Ok (sym a)
meaning_of-asks page (FormMemory domain size) command some_page a = rw (pages_of_size-spelled page size a.0 some_page a.1) (ap Ok (sym a.2))
meaning_of-asks page (FormMinimum domain size) command some_page a = rw (minimum_of-spelled page size a.0 some_page a.1 a.2) (ap Ok (sym a.3))
meaning_of-asks page (FormShares domain number) command some_page a = rw (shares_of-spelled number a.0 a.1) (ap Ok (sym a.2))
meaning_of-asks page (FormStatistics domain) command some_page a = ap Ok (sym a)

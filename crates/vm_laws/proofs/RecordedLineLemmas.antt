-- The command lines of a recorded host: their texts, their ranges, and how many they are.
use Rattle.std.proofs.Common.{◌≡◌, ℕ, zero, suc, ◌+◌, ◌*◌, ◌^◌, ◌<◌, ◌≤◌, ◌==◌, inl, inr, Bool, true, false, List, [], ◌∷◌, ◌++◌, codes, decimal, length, map, nat_lt, if◌then◌else◌, refl, sym, ap₂, ◌∙◌, arith, length-append}
use Rattle.std.proofs.lemmas.Bool.{cases_lt, eqb-true}
use Rattle.std.proofs.lemmas.Fmt.{length-decimal-le}
use Rattle.std.proofs.lemmas.List.{map-append}
use Rattle.std.specs.List.{AllByRecursion}
use Rattle.vm_recorded.specs.Commands.{all_come, all_go, capped_at, comes_at, commands_from, start_at}
use Rattle.vm_recorded.specs.Hosts.{GuestView, end_of}
use Rattle.vm_laws.specs.RecordedLines.{comes, goes, is_capped, lines_from, starts, those_that_come, those_that_go}
use Rattle.vm_config.specs.Schedule.{ScheduledLine}
use Rattle.vm_laws.proofs.RecordedTextLemmas.{command_text}
use Rattle.vm_laws.proofs.SafeLemmas.{AreSafe, safe-append, safe-decimal}

-- ---- texts

abbrev texts : List ScheduledLine → List (List ℕ)
texts cs = map command_text cs

texts-append : (xs ys : List ScheduledLine) → texts (xs ++ ys) ≡ texts xs ++ texts ys
texts-append xs ys = map-append command_text xs ys

-- one line or none
one-text : (b : Bool) (c : ScheduledLine) → (if b then command_text c ∷ [] else []) ≡ texts (if b then c ∷ [] else [])
one-text true c = refl
one-text false c = refl

go-texts : (at : ℕ) (guests : List GuestView) → all_go at guests ≡ texts (those_that_go at guests)
go-texts at [] = refl
go-texts at (g ∷ guests) =
    ap₂ (λ (a b : List (List ℕ)). a ++ b) (one-text (end_of g == at) (record { at = at; line = codes "destroy " ++ g.name })) (go-texts at guests)
    ∙ sym (texts-append (goes at g) (those_that_go at guests))

start-texts : (at : ℕ) (name : List ℕ) → start_at at name ≡ texts (starts at name)
start-texts zero name = refl
start-texts (suc at) name = refl

capped-texts : (unit at : ℕ) (g : GuestView) → capped_at unit at g ≡ texts (is_capped unit at g)
capped-texts unit at g =
    one-text (nat_lt g.cap g.size) (record { at = at; line = codes "setmem " ++ (g.name ++ (codes " " ++ decimal (g.cap * unit))) })

comes-texts : (unit at : ℕ) (g : GuestView) → comes_at unit at g ≡ texts (comes unit at g)
comes-texts unit at g = go (g.first == at)
  where
    both : start_at at g.name ++ capped_at unit at g ≡ texts (starts at g.name ++ is_capped unit at g)
    both =
        ap₂ (λ (a b : List (List ℕ)). a ++ b) (start-texts at g.name) (capped-texts unit at g)
        ∙ sym (texts-append (starts at g.name) (is_capped unit at g))

    go : (b : Bool) → (if b then start_at at g.name ++ capped_at unit at g else []) ≡ texts (if b then starts at g.name ++ is_capped unit at g else [])
    go true = both
    go false = refl

come-texts : (unit at : ℕ) (guests : List GuestView) → all_come unit at guests ≡ texts (those_that_come unit at guests)
come-texts unit at [] = refl
come-texts unit at (g ∷ guests) =
    ap₂ (λ (a b : List (List ℕ)). a ++ b) (comes-texts unit at g) (come-texts unit at guests)
    ∙ sym (texts-append (comes unit at g) (those_that_come unit at guests))

pub line-texts : (unit at count : ℕ) (guests : List GuestView) → commands_from unit at count guests ≡ texts (lines_from unit at count guests)
line-texts unit at zero guests = refl
line-texts unit at (suc count) guests =
    let going = those_that_go at guests in
    let coming = those_that_come unit at guests in
    let later = lines_from unit (at + 1) count guests in
    ap₂ (λ (a b : List (List ℕ)). a ++ b) (go-texts at guests)
    (ap₂ (λ (a b : List (List ℕ)). a ++ b) (come-texts unit at guests) (line-texts unit (at + 1) count guests)
    ∙ sym (texts-append coming later))
    ∙ sym (texts-append going (coming ++ later))

-- ---- ranges

-- a line in front of this epoch, as a configuration takes it
pub record IsLine (end : ℕ) (c : ScheduledLine) : Type 0 where
  pub early : c.at < end
  pub some : 1 ≤ length c.line
  pub short : length c.line ≤ 256
  pub safe : AreSafe c.line

abbrev pub AreLines : ℕ → List ScheduledLine → Type 0
AreLines end cs = AllByRecursion (IsLine end) cs

-- what has to be true of a guest for that
pub record IsTold (unit : ℕ) (g : GuestView) : Type 0 where
  pub safe : AreSafe g.name
  pub short : length g.name ≤ 32
  pub small : g.cap * unit < 10 ^ 12

lines-append : (end : ℕ) (xs ys : List ScheduledLine) → AreLines end xs → AreLines end ys → AreLines end (xs ++ ys)
lines-append end [] ys are these = these
lines-append end (x ∷ xs) ys are these = (are.0, lines-append end xs ys are.1 these)

module _ (unit end : ℕ) where
  line-if : (b : Bool) (c : ScheduledLine) → IsLine end c → AreLines end (if b then c ∷ [] else [])
  line-if true c is = (is, tt)
  line-if false c is = tt

  goes-line : (at : ℕ) (g : GuestView) → at < end → IsTold unit g → AreLines end (goes at g)
  goes-line at g early told =
      let short = told.short in
      let long = length-append (codes "destroy ") g.name in
      line-if (end_of g == at) (record { at = at; line = codes "destroy " ++ g.name })
      (record { early = early; some = omega (arith, long); short = omega (arith, long, short); safe = safe-append (codes "destroy ") g.name refl told.safe })

  starts-line : (at : ℕ) (g : GuestView) → at < end → IsTold unit g → AreLines end (starts at g.name)
  starts-line zero g early told = tt
  starts-line (suc at) g early told =
      let short = told.short in
      let long = length-append (codes "start ") g.name in
      (record { early = early; some = omega (arith, long); short = omega (arith, long, short); safe = safe-append (codes "start ") g.name refl told.safe }, tt)

  capped-line : (at : ℕ) (g : GuestView) → at < end → IsTold unit g → AreLines end (is_capped unit at g)
  capped-line at g early told =
      let short = told.short in
      let small = told.small in
      let number = decimal (g.cap * unit) in
      let fits : g.cap * unit < 2 ^ 64 = omega (arith, small) in
      let digits : length number ≤ 12 = length-decimal-le 12 (g.cap * unit) (omega arith) small fits in
      let long = length-append (codes "setmem ") (g.name ++ (codes " " ++ number)) in
      let longer = length-append g.name (codes " " ++ number) in
      let last = length-append (codes " ") number in
      line-if (nat_lt g.cap g.size) (record { at = at; line = codes "setmem " ++ (g.name ++ (codes " " ++ number)) })
      (record {
        early = early;
        some = omega (arith, long);
        short = omega (arith, long, longer, last, short, digits);
        safe = safe-append (codes "setmem ") (g.name ++ (codes " " ++ number)) refl
            (safe-append g.name (codes " " ++ number) told.safe (safe-append (codes " ") number refl (safe-decimal (g.cap * unit) fits)));
      })

  comes-line : (at : ℕ) (g : GuestView) → at < end → IsTold unit g → AreLines end (comes unit at g)
  comes-line at g early told = go (g.first == at)
    where
      go : (b : Bool) → AreLines end (if b then starts at g.name ++ is_capped unit at g else [])
      go true = lines-append end (starts at g.name) (is_capped unit at g) (starts-line at g early told) (capped-line at g early told)
      go false = tt

  go-lines : (at : ℕ) (guests : List GuestView) → at < end → AllByRecursion (IsTold unit) guests → AreLines end (those_that_go at guests)
  go-lines at [] early told = tt
  go-lines at (g ∷ guests) early told =
      lines-append end (goes at g) (those_that_go at guests) (goes-line at g early told.0) (go-lines at guests early told.1)

  come-lines : (at : ℕ) (guests : List GuestView) → at < end → AllByRecursion (IsTold unit) guests → AreLines end (those_that_come unit at guests)
  come-lines at [] early told = tt
  come-lines at (g ∷ guests) early told =
      lines-append end (comes unit at g) (those_that_come unit at guests) (comes-line at g early told.0) (come-lines at guests early told.1)

  pub are-lines : (at count : ℕ) (guests : List GuestView) → at + count ≤ end → AllByRecursion (IsTold unit) guests
      → AreLines end (lines_from unit at count guests)
  are-lines at zero guests within told = tt
  are-lines at (suc count) guests within told =
      let going = those_that_go at guests in
      let coming = those_that_come unit at guests in
      let later = lines_from unit (at + 1) count guests in
      lines-append end going (coming ++ later) (go-lines at guests (omega arith) told)
      (lines-append end coming later (come-lines at guests (omega arith) told) (are-lines (at + 1) count guests (omega arith) told))

-- ---- how many

abbrev lines : (unit at count : ℕ) → List GuestView → ℕ
lines unit at count guests = length (lines_from unit at count guests)

abbrev in_epoch : (unit at : ℕ) → GuestView → ℕ
in_epoch unit at g = length (goes at g) + length (comes unit at g)

-- in all of so many epochs
abbrev of_guest : (unit at count : ℕ) → GuestView → ℕ
of_guest unit at zero g = 0
of_guest unit at (suc count) g = in_epoch unit at g + of_guest unit (at + 1) count g

none : (unit at count : ℕ) → lines unit at count [] ≡ 0
none unit at zero = refl
none unit at (suc count) = none unit (at + 1) count

added : (unit at count : ℕ) (g : GuestView) (guests : List GuestView)
    → lines unit at count (g ∷ guests) ≡ of_guest unit at count g + lines unit at count guests
added unit at zero g guests = refl
added unit at (suc count) g guests =
    let going = those_that_go at guests in
    let coming = those_that_come unit at guests in
    let later = lines_from unit (at + 1) count (g ∷ guests) in
    let others = lines_from unit (at + 1) count guests in
    let a = length-append (goes at g ++ going) ((comes unit at g ++ coming) ++ later) in
    let b = length-append (goes at g) going in
    let c = length-append (comes unit at g ++ coming) later in
    let d = length-append (comes unit at g) coming in
    let e = length-append going (coming ++ others) in
    let f = length-append coming others in
    omega (arith, a, b, c, d, e, f, added unit (at + 1) count g guests)

length-if : (b : Bool) (c : ScheduledLine) → length (if b then c ∷ [] else []) ≤ 1
length-if true c = omega arith
length-if false c = omega arith

length-starts : (at : ℕ) (name : List ℕ) → length (starts at name) ≤ 1
length-starts zero name = omega arith
length-starts (suc at) name = omega arith

-- where an epoch is none of those in which something is done
goes-else : (at : ℕ) (g : GuestView) → (end_of g ≡ at → ⊥) → length (goes at g) ≡ 0
goes-else at g other = go (end_of g == at) refl
  where
    go : (b : Bool) → (end_of g == at) ≡ b → length {A = ScheduledLine} (if b then record { at = at; line = codes "destroy " ++ g.name } ∷ [] else []) ≡ 0
    go true is = absurd (other (eqb-true (end_of g) at is))
    go false is = refl

comes-else : (unit at : ℕ) (g : GuestView) → (g.first ≡ at → ⊥) → length (comes unit at g) ≡ 0
comes-else unit at g other = go (g.first == at) refl
  where
    go : (b : Bool) → (g.first == at) ≡ b → length (if b then starts at g.name ++ is_capped unit at g else []) ≡ 0
    go true is = absurd (other (eqb-true g.first at is))
    go false is = refl

comes-few : (unit at : ℕ) (g : GuestView) → length (comes unit at g) ≤ 2
comes-few unit at g = go (g.first == at)
  where
    go : (b : Bool) → length (if b then starts at g.name ++ is_capped unit at g else []) ≤ 2
    go true =
        let c : ScheduledLine = record { at = at; line = codes "setmem " ++ (g.name ++ (codes " " ++ decimal (g.cap * unit))) } in
        omega (arith, length-append (starts at g.name) (is_capped unit at g), length-starts at g.name, length-if (nat_lt g.cap g.size) c)
    go false = omega arith

goes-few : (at : ℕ) (g : GuestView) → length (goes at g) ≤ 1
goes-few at g = length-if (end_of g == at) (record { at = at; line = codes "destroy " ++ g.name })

-- nothing is done behind its end
behind-end : (unit at count : ℕ) (g : GuestView) → end_of g < at → of_guest unit at count g ≡ 0
behind-end unit at zero g past = refl
behind-end unit at (suc count) g past =
    let went = goes-else at g (λ e. omega (arith, e, past)) in
    let came = comes-else unit at g (λ e. omega (arith, e, past)) in
    omega (arith, went, came, behind-end unit (at + 1) count g (omega (arith, past)))

behind-first : (unit at count : ℕ) (g : GuestView) → g.first < at → of_guest unit at count g ≤ 1
behind-first unit at zero g past = omega arith
behind-first unit at (suc count) g past =
    let came = comes-else unit at g (λ e. omega (arith, e, past)) in
    let went = goes-few at g in
    let later = behind-first unit (at + 1) count g (omega (arith, past)) in
    elim (cases_lt at (end_of g)) [
      | inl before ↦ omega (arith, came, goes-else at g (λ e. omega (arith, e, before)), later)
      | inr reached ↦ omega (arith, came, went, behind-end unit (at + 1) count g (omega (arith, reached)))
    ]

few-of-guest : (unit at count : ℕ) (g : GuestView) → of_guest unit at count g ≤ 4
few-of-guest unit at zero g = omega arith
few-of-guest unit at (suc count) g =
    let later = few-of-guest unit (at + 1) count g in
    elim (cases_lt at g.first) [
      | inl before ↦
          omega (arith, later, goes-else at g (λ e. omega (arith, e, before)), comes-else unit at g (λ e. omega (arith, e, before)))
      | inr reached ↦ omega (arith, goes-few at g, comes-few unit at g, behind-first unit (at + 1) count g (omega (arith, reached)))
    ]

pub few-lines : (unit at count : ℕ) (guests : List GuestView) → length (lines_from unit at count guests) ≤ 4 * length guests
few-lines unit at count [] = omega (arith, none unit at count)
few-lines unit at count (g ∷ guests) =
    omega (arith, added unit at count g guests, few-of-guest unit at count g, few-lines unit at count guests)

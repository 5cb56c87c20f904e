-- The JSON value that the text of a recorded host is.
use Rattle.std.proofs.Common.{◌≡◌, ℕ, ◌+◌, ◌^◌, ◌<◌, ◌≤◌, false, List, [], ◌∷◌, codes, Some, decimal, option_and_then, refl, sym, ap, ◌∙◌, arith, append-nil}
use Rattle.std.proofs.lemmas.Fmt.{decimal_digit}
use Rattle.std.specs.Fmt.{digits}
use Rattle.json.specs.Json as json
use Rattle.json.specs.Json.{Json, Items, if_last}
use Rattle.json.specs.Print.{IsNumber}
use Rattle.json.specs.Tree.{depth, items_depth, json_tokens, HasNumbers, ItemsHaveNumbers}
use Rattle.json.specs.Word.{after_number}
use Rattle.json.proofs.Printed.Decimals.{IsNumber-decimal}
use Rattle.json.proofs.Printed.Trees.{ArePrintable-json_tokens, value-json_tokens}
use Rattle.serde_json.specs.Data as value
use Rattle.serde_json.specs.Data.{Data, unsigned}
use Rattle.serde_json.specs.Read.{number_of, of_items, of_json, read, max_depth}
use Rattle.serde_json.proofs.Numbers.{number_of-decimal}
use Rattle.vm_laws.proofs.StringLemmas.{number_data, of_items-strings, strings, strings_data, strings-depth, strings-numbers}
use Rattle.vm_laws.proofs.TokenLemmas.{text_before, tokens-ended}
use Rattle.vm_config.specs.Schedule.{ScheduledLine}
use Rattle.vm_laws.specs.Recorded.{is_there}
use Rattle.vm_recorded.specs.Hosts.{GuestView}
use Rattle.vm_recorded.specs.Traces.{trace_of}

-- ---- numbers that are always the same

three-decimal : decimal 3 ≡ codes "3"
three-decimal = decimal_digit 3 (omega arith)

three : number_of (codes "3") ≡ Some (unsigned 3)
three = ap number_of (sym three-decimal) ∙ number_of-decimal 3 (omega arith)

three-number : IsNumber (codes "3")
unfolding after_number
three-number = refl

rate-decimal : decimal 256 ≡ codes "256"
unfolding digits
rate-decimal = refl

rate : number_of (codes "256") ≡ Some (unsigned 256)
rate = ap number_of (sym rate-decimal) ∙ number_of-decimal 256 (omega arith)

rate-number : IsNumber (codes "256")
unfolding after_number
rate-number = refl

-- ---- a command

abbrev pub command_json : ScheduledLine → Json
command_json c =
    json.object (json.member (codes "at") (json.number (decimal c.at)) (json.member (codes "line") (json.string c.line) json.no_members))

abbrev pub command_data : ScheduledLine → Data
command_data c =
    value.object (value.member (codes "at") (number_data c.at) (value.member (codes "line") (value.string c.line) value.no_members))

abbrev pub commands_json : List ScheduledLine → Items
commands_json [] = json.no_items
commands_json (c ∷ cs) = json.item (command_json c) (commands_json cs)

abbrev pub commands_data : List ScheduledLine → value.Items
commands_data [] = value.no_items
commands_data (c ∷ cs) = value.item (command_data c) (commands_data cs)

-- each epoch is a number of 64 bits
abbrev pub AreEarly : List ScheduledLine → Type 0
AreEarly [] = Unit {0}
AreEarly (c ∷ cs) = (c.at < 2 ^ 64) × AreEarly cs

of_command : (c : ScheduledLine) → c.at < 2 ^ 64 → of_json (command_json c) ≡ Some (command_data c)
of_command c small = rw (number_of-decimal c.at small) refl

of_commands : (cs : List ScheduledLine) → AreEarly cs → of_items (commands_json cs) ≡ Some (commands_data cs)
of_commands [] are = refl
of_commands (c ∷ cs) are = rw (of_command c are.0, of_commands cs are.1) refl

commands-depth : (cs : List ScheduledLine) → items_depth (commands_json cs) ≤ 1
commands-depth [] = omega arith
commands-depth (c ∷ cs) = let rest = commands-depth cs in omega (arith, rest)

commands-numbers : (cs : List ScheduledLine) → AreEarly cs → ItemsHaveNumbers (commands_json cs)
commands-numbers [] are = tt
commands-numbers (c ∷ cs) are = ((IsNumber-decimal c.at are.0, (tt, tt)), commands-numbers cs are.1)

-- ---- a guest

module _ (quantum : ℕ) where
  abbrev pub guest_json : (number : ℕ) → GuestView → Json
  guest_json number g =
      json.object (json.member (codes "name") (json.string g.name) (json.member (codes "size") (json.number (decimal g.size))
      (json.member (codes "min") (json.number (decimal g.min)) (json.member (codes "shares") (json.number (decimal g.shares))
      (json.member (codes "period") (json.number (decimal quantum)) (json.member (codes "rate") (json.number (codes "256"))
      (json.member (codes "seed") (json.number (decimal number)) (json.member (codes "autostart") (json.boolean (is_there g.first))
      (json.member (codes "tell") (json.boolean false) (json.member (codes "trace") (json.array (strings (trace_of g.uses)))
      json.no_members))))))))))

  -- its keys in order
  abbrev pub guest_data : (number : ℕ) → GuestView → Data
  guest_data number g =
      value.object (value.member (codes "autostart") (value.boolean (is_there g.first)) (value.member (codes "min") (number_data g.min)
      (value.member (codes "name") (value.string g.name) (value.member (codes "period") (number_data quantum)
      (value.member (codes "rate") (number_data 256) (value.member (codes "seed") (number_data number)
      (value.member (codes "shares") (number_data g.shares) (value.member (codes "size") (number_data g.size)
      (value.member (codes "tell") (value.boolean false) (value.member (codes "trace") (value.array (strings_data (trace_of g.uses)))
      value.no_members))))))))))

  abbrev pub guests_json : (number : ℕ) → List GuestView → Items
  guests_json number [] = json.no_items
  guests_json number (g ∷ guests) = json.item (guest_json number g) (guests_json (number + 1) guests)

  abbrev pub guests_data : (number : ℕ) → List GuestView → value.Items
  guests_data number [] = value.no_items
  guests_data number (g ∷ guests) = value.item (guest_data number g) (guests_data (number + 1) guests)

-- the numbers of a guest have 64 bits
pub record IsSmall (number : ℕ) (g : GuestView) : Type 0 where
  pub size : g.size < 2 ^ 64
  pub min : g.min < 2 ^ 64
  pub shares : g.shares < 2 ^ 64
  pub place : number < 2 ^ 64

abbrev pub AllSmall : (number : ℕ) → List GuestView → Type 0
AllSmall number [] = Unit {0}
AllSmall number (g ∷ guests) = IsSmall number g × AllSmall (number + 1) guests

module _ (quantum : ℕ) (short : quantum < 2 ^ 64) where
  of_guest : (number : ℕ) (g : GuestView) → IsSmall number g → of_json (guest_json quantum number g) ≡ Some (guest_data quantum number g)
  of_guest number g small =
      rw (
        of_items-strings (trace_of g.uses),
        rate,
        number_of-decimal g.size small.size,
        number_of-decimal g.min small.min,
        number_of-decimal g.shares small.shares,
        number_of-decimal quantum short,
        number_of-decimal number small.place,
      ) refl

  of_guests : (number : ℕ) (guests : List GuestView) → AllSmall number guests
      → of_items (guests_json quantum number guests) ≡ Some (guests_data quantum number guests)
  of_guests number [] small = refl
  of_guests number (g ∷ guests) small = rw (of_guest number g small.0, of_guests (number + 1) guests small.1) refl

  guest-numbers : (number : ℕ) (g : GuestView) → IsSmall number g → HasNumbers (guest_json quantum number g)
  guest-numbers number g small = (
    tt,
    (
      IsNumber-decimal g.size small.size,
      (
        IsNumber-decimal g.min small.min,
        (
          IsNumber-decimal g.shares small.shares,
          (
            IsNumber-decimal quantum short,
            (rate-number, (IsNumber-decimal number small.place, (tt, (tt, (strings-numbers (trace_of g.uses), tt))))),
          ),
        ),
      ),
    ),
  )

  guests-numbers : (number : ℕ) (guests : List GuestView) → AllSmall number guests → ItemsHaveNumbers (guests_json quantum number guests)
  guests-numbers number [] small = tt
  guests-numbers number (g ∷ guests) small = (guest-numbers number g small.0, guests-numbers (number + 1) guests small.1)

  guests-depth : (number : ℕ) (guests : List GuestView) → items_depth (guests_json quantum number guests) ≤ 2
  guests-depth number [] = omega arith
  guests-depth number (g ∷ guests) =
      let rest = guests-depth (number + 1) guests in
      let steps = strings-depth (trace_of g.uses) in
      omega (arith, rest, steps)

-- ---- the whole

-- the numbers of the machine, and of the run
pub record Numbers : Type 0 where
  pub frames : ℕ
  pub swap : ℕ
  pub overhead : ℕ
  pub tax : ℕ
  pub high : ℕ
  pub soft : ℕ
  pub hard : ℕ
  pub low : ℕ
  pub page_rate : ℕ
  pub rebalance : ℕ
  pub page : ℕ
  pub quantum : ℕ
  pub epochs : ℕ

pub record AreSmall (n : Numbers) : Type 0 where
  pub frames : n.frames < 2 ^ 64
  pub swap : n.swap < 2 ^ 64
  pub overhead : n.overhead < 2 ^ 64
  pub tax : n.tax < 2 ^ 64
  pub high : n.high < 2 ^ 64
  pub soft : n.soft < 2 ^ 64
  pub hard : n.hard < 2 ^ 64
  pub low : n.low < 2 ^ 64
  pub page_rate : n.page_rate < 2 ^ 64
  pub rebalance : n.rebalance < 2 ^ 64
  pub page : n.page < 2 ^ 64
  pub quantum : n.quantum < 2 ^ 64
  pub epochs : n.epochs < 2 ^ 64

-- four numbers
abbrev pub four_json : (a b c d : ℕ) → Json
four_json a b c d =
    json.array (json.item (json.number (decimal a)) (json.item (json.number (decimal b)) (json.item (json.number (decimal c))
    (json.item (json.number (decimal d)) json.no_items))))

abbrev pub four_data : (a b c d : ℕ) → Data
four_data a b c d =
    value.array (value.item (number_data a) (value.item (number_data b) (value.item (number_data c) (value.item (number_data d) value.no_items))))

module _ (n : Numbers) (guests : List GuestView) (cs : List ScheduledLine) where
  abbrev pub root_json : Json
  root_json =
      json.object (json.member (codes "version") (json.number (codes "3")) (json.member (codes "frames") (json.number (decimal n.frames))
      (json.member (codes "swap") (json.number (decimal n.swap)) (json.member (codes "overhead") (json.number (decimal n.overhead))
      (json.member (codes "tax") (json.number (decimal n.tax)) (json.member (codes "percent") (four_json n.high n.soft n.hard n.low)
      (json.member (codes "page_rate") (json.number (decimal n.page_rate)) (json.member (codes "rebalance") (json.number (decimal n.rebalance))
      (json.member (codes "page") (json.number (decimal n.page)) (json.member (codes "quantum") (json.number (decimal n.quantum))
      (json.member (codes "epochs") (json.number (decimal n.epochs)) (json.member (codes "guests") (json.array (guests_json n.quantum 0 guests))
      (json.member (codes "commands") (json.array (commands_json cs)) json.no_members)))))))))))))

  abbrev pub root_data : Data
  root_data =
      value.object (value.member (codes "commands") (value.array (commands_data cs)) (value.member (codes "epochs") (number_data n.epochs)
      (value.member (codes "frames") (number_data n.frames) (value.member (codes "guests") (value.array (guests_data n.quantum 0 guests))
      (value.member (codes "overhead") (number_data n.overhead) (value.member (codes "page") (number_data n.page)
      (value.member (codes "page_rate") (number_data n.page_rate) (value.member (codes "percent") (four_data n.high n.soft n.hard n.low)
      (value.member (codes "quantum") (number_data n.quantum) (value.member (codes "rebalance") (number_data n.rebalance)
      (value.member (codes "swap") (number_data n.swap) (value.member (codes "tax") (number_data n.tax)
      (value.member (codes "version") (number_data 3) value.no_members)))))))))))))

  module _ (small : AreSmall n) (guests_small : AllSmall 0 guests) (early : AreEarly cs) where
    of_four : of_json (four_json n.high n.soft n.hard n.low) ≡ Some (four_data n.high n.soft n.hard n.low)
    of_four =
        rw (number_of-decimal n.high small.high, number_of-decimal n.soft small.soft, number_of-decimal n.hard small.hard, number_of-decimal n.low small.low) refl

    of_root : of_json root_json ≡ Some root_data
    of_root =
        rw (
          three,
          of_four,
          of_guests n.quantum small.quantum 0 guests guests_small,
          of_commands cs early,
          number_of-decimal n.frames small.frames,
          number_of-decimal n.swap small.swap,
          number_of-decimal n.overhead small.overhead,
          number_of-decimal n.tax small.tax,
          number_of-decimal n.page_rate small.page_rate,
          number_of-decimal n.rebalance small.rebalance,
          number_of-decimal n.page small.page,
          number_of-decimal n.quantum small.quantum,
          number_of-decimal n.epochs small.epochs,
        ) refl

    four-numbers : HasNumbers (four_json n.high n.soft n.hard n.low)
    four-numbers = (IsNumber-decimal n.high small.high, (IsNumber-decimal n.soft small.soft, (IsNumber-decimal n.hard small.hard, (IsNumber-decimal n.low small.low, tt))))

    root-numbers : HasNumbers root_json
    root-numbers = (
      three-number,
      (
        IsNumber-decimal n.frames small.frames,
        (
          IsNumber-decimal n.swap small.swap,
          (
            IsNumber-decimal n.overhead small.overhead,
            (
              IsNumber-decimal n.tax small.tax,
              (
                four-numbers,
                (
                  IsNumber-decimal n.page_rate small.page_rate,
                  (
                    IsNumber-decimal n.rebalance small.rebalance,
                    (
                      IsNumber-decimal n.page small.page,
                      (
                        IsNumber-decimal n.quantum small.quantum,
                        (
                          IsNumber-decimal n.epochs small.epochs,
                          (guests-numbers n.quantum small.quantum 0 guests guests_small, (commands-numbers cs early, tt)),
                        ),
                      ),
                    ),
                  ),
                ),
              ),
            ),
          ),
        ),
      ),
    )

    root-depth : depth root_json ≤ max_depth
    root-depth =
        let guests_few = guests-depth n.quantum small.quantum 0 guests in
        let commands_few = commands-depth cs in
        omega (arith, guests_few, commands_few)

    -- the text of its tokens and a line feed is read as this
    pub read-root : read (text_before false (json_tokens root_json) (10 ∷ [])) ≡ Some root_data
    read-root =
        ap (λ o. option_and_then of_json (option_and_then (λ p. if_last p.0 p.1) o))
        (ap (json.value max_depth) (tokens-ended (json_tokens root_json) (ArePrintable-json_tokens root_json root-numbers) ∙ sym (append-nil (json_tokens root_json)))
        ∙ value-json_tokens root_json max_depth [] root-depth)
        ∙ of_root

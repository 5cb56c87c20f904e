-- That the pieces make the records.
use Rattle.std.proofs.Common.{◌≡◌, ◌==◌, ℕ, zero, suc, ◌+◌, ◌/◌, ◌%◌, ◌<◌, List, ◌∷◌, [], ◌++◌, Bool, true, false, Option, Some, None, if◌then◌else◌, is_some, length, map, refl, ap, ◌∙◌, sym, arith, append_assoc}
use Rattle.std.proofs.lemmas.Bool.{lt-ltb, ne_eqb}
use Rattle.std.proofs.lemmas.List.{append-nil, flat_map_more}
use Rattle.std.proofs.lemmas.List.Concat.{flat_map-append}
use Rattle.std.specs.Fmt.{decimal, digits, digits_onto, digit_glyph}
use Rattle.std.specs.List.{flat_map, list_any, range_with_len}
use Rattle.csv.specs.declared.parser.Terminator.TheVariants.{CRLF}
use Rattle.csv.specs.Writing.{comma, end_text, field_text, fields_text, is_blank, needs_byte, row_text}
use Rattle.vm_guest.specs.declared.view.GuestView.{GuestView}
use Rattle.vm_plan.specs.declared.state.State.{State}
use Rattle.vm_plan.specs.declared.state.State.TheVariants.{High, Soft, Hard, Low}
use Rattle.vm_plan.specs.State.{state_word}
use Rattle.vm_series.specs.Csv.{csv_text, flag, guest_record, guest_records, header, lone_record, name_at, number_or_empty, records_at, records_of, records_of_view, records_text, rfc4180, view_in}
use Rattle.vm_series.specs.Records.{comma_then, empty_text, epoch_text, head_text, name_text, piece_at, record_at, view_record, view_text}
use Rattle.vm_series.specs.Rows.{Row, Rows, evicted_of}
use Rattle.vm_series.proofs.CsvLemmas.{positions_more}

-- ---- numbers, words and flags need no quotes

small_digit : (d : ℕ) → d < 10 → needs_byte rfc4180 (48 + d) ≡ false
small_digit d h =
    let no_comma = ne_eqb (48 + d) 44 (λ e. omega arith) in
    let no_quote = ne_eqb (48 + d) 34 (λ e. omega arith) in
    let no_return = ne_eqb (48 + d) 13 (λ e. omega arith) in
    let no_feed = ne_eqb (48 + d) 10 (λ e. omega arith) in
    rw (no_comma, no_quote, no_return, no_feed) refl

digit_is_plain : (d : ℕ) → d < 10 → needs_byte rfc4180 (digit_glyph false d) ≡ false
digit_is_plain d h = rw (lt-ltb d 10 h) (small_digit d h)

more_is_plain : (byte : ℕ) (rest : List ℕ) → needs_byte rfc4180 byte ≡ false → list_any (needs_byte rfc4180) rest ≡ false
    → list_any (needs_byte rfc4180) (byte ∷ rest) ≡ false
more_is_plain byte rest here there = rw (here, there) refl

either : (b : Bool) (xs ys : List ℕ) → list_any (needs_byte rfc4180) xs ≡ false → list_any (needs_byte rfc4180) ys ≡ false
    → list_any (needs_byte rfc4180) (if b then xs else ys) ≡ false
either true xs ys p q = p
either false xs ys p q = q

digits_are_plain : (k n : ℕ) (behind : List ℕ) → list_any (needs_byte rfc4180) behind ≡ false
    → list_any (needs_byte rfc4180) (digits_onto k 10 false n behind) ≡ false
digits_are_plain zero n behind h = h
digits_are_plain (suc k) n behind h =
    let more = more_is_plain (digit_glyph false (n % 10)) behind (digit_is_plain (n % 10) (omega arith)) h in
    let last = digit_glyph false (n % 10) ∷ behind in
    either (n / 10 == 0) last (digits_onto k 10 false (n / 10) last) more (digits_are_plain k (n / 10) last more)

-- a field that stands for itself
plain_field : (field : List ℕ) → list_any (needs_byte rfc4180) field ≡ false → field_text rfc4180 field ≡ field
plain_field field h = rw h refl

number : (n : ℕ) → field_text rfc4180 (decimal n) ≡ decimal n
unfolding digits
number n = plain_field (decimal n) (digits_are_plain 64 n [] refl)

word : (s : State) → field_text rfc4180 (state_word s) ≡ state_word s
word High = refl
word Soft = refl
word Hard = refl
word Low = refl

flag_field : (f : Bool) → field_text rfc4180 (flag f) ≡ flag f
flag_field true = refl
flag_field false = refl

optional : (n : Option ℕ) → field_text rfc4180 (number_or_empty n) ≡ number_or_empty n
optional None = refl
optional (Some n) = number n

-- ---- records

-- a field more before others
before : (field shown : List ℕ) (fields : List (List ℕ)) (end text : List ℕ) → field_text rfc4180 field ≡ shown
    → fields_text rfc4180 fields ++ end ≡ text → fields_text rfc4180 (field ∷ fields) ++ end ≡ comma_then shown text
unfolding fields_text
before field shown fields end text same rest =
    ap (λ (l : List ℕ). comma ∷ l) (append_assoc (field_text rfc4180 field) (fields_text rfc4180 fields) end ∙ (λ i. same i ++ rest i))

none_before : (end : List ℕ) → fields_text rfc4180 [] ++ end ≡ end
unfolding fields_text
none_before end = refl

first : (field second : List ℕ) (fields : List (List ℕ)) (shown text : List ℕ) → field_text rfc4180 field ≡ shown
    → fields_text rfc4180 (second ∷ fields) ++ end_text CRLF ≡ text → row_text rfc4180 (field ∷ second ∷ fields) ≡ shown ++ text
unfolding is_blank
first field second fields shown text same rest =
    append_assoc (field_text rfc4180 field) (fields_text rfc4180 (second ∷ fields)) (end_text CRLF) ∙ (λ i. same i ++ rest i)

head_then : (row : Row) (rest : List ℕ)
    → head_text row ++ rest ≡ decimal row.epoch ++ comma_then (state_word row.state) (comma_then (decimal row.free) rest)
unfolding head_text
head_then row rest =
    append_assoc (decimal row.epoch) (comma_then (state_word row.state) (comma_then (decimal row.free) [])) rest
    ∙ ap (λ (l : List ℕ). decimal row.epoch ++ (comma ∷ l)) (append_assoc (state_word row.state) (comma_then (decimal row.free) []) rest
    ∙ ap (λ (l : List ℕ). state_word row.state ++ (comma ∷ l)) (append_assoc (decimal row.free) [] rest))

-- the first three fields, and others behind them
behind_head : (row : Row) (field : List ℕ) (fields : List (List ℕ)) (text : List ℕ) → fields_text rfc4180 (field ∷ fields) ++ end_text CRLF ≡ text
    → head_text row ++ text ≡ row_text rfc4180 (decimal row.epoch ∷ state_word row.state ∷ decimal row.free ∷ field ∷ fields)
behind_head row field fields text rest =
    let free : fields_text rfc4180 (decimal row.free ∷ field ∷ fields) ++ end_text CRLF ≡ comma_then (decimal row.free) text =
    before (decimal row.free) (decimal row.free) (field ∷ fields) (end_text CRLF) text (number row.free) rest in
    let state = before (state_word row.state) (state_word row.state) (decimal row.free ∷ field ∷ fields) (end_text CRLF) _ (word row.state) free in
    head_then row text ∙ sym (first (decimal row.epoch) (state_word row.state) (decimal row.free ∷ field ∷ fields) (decimal row.epoch) _ (number row.epoch) state)

-- the fields behind a name, from their end
module _ (g : GuestView) where
  behind_name : fields_text rfc4180 (decimal g.target ∷ decimal g.held ∷ decimal g.resident ∷ decimal g.swapped ∷ decimal g.balloon
      ∷ decimal g.active ∷ decimal g.demand ∷ flag g.blocked ∷ number_or_empty g.stalled ∷ decimal (evicted_of g) ∷ decimal g.done ∷ [])
      ++ end_text CRLF ≡ view_text g
  unfolding view_text
  behind_name =
      let x = before (decimal g.done) (decimal g.done) [] (end_text CRLF) (end_text CRLF) (number g.done) (none_before (end_text CRLF)) in
      let e = before (decimal (evicted_of g)) (decimal (evicted_of g)) _ (end_text CRLF) _ (number (evicted_of g)) x in
      let n = before (number_or_empty g.stalled) (number_or_empty g.stalled) _ (end_text CRLF) _ (optional g.stalled) e in
      let b = before (flag g.blocked) (flag g.blocked) _ (end_text CRLF) _ (flag_field g.blocked) n in
      let d = before (decimal g.demand) (decimal g.demand) _ (end_text CRLF) _ (number g.demand) b in
      let a = before (decimal g.active) (decimal g.active) _ (end_text CRLF) _ (number g.active) d in
      let o = before (decimal g.balloon) (decimal g.balloon) _ (end_text CRLF) _ (number g.balloon) a in
      let s = before (decimal g.swapped) (decimal g.swapped) _ (end_text CRLF) _ (number g.swapped) o in
      let r = before (decimal g.resident) (decimal g.resident) _ (end_text CRLF) _ (number g.resident) s in
      let h = before (decimal g.held) (decimal g.held) _ (end_text CRLF) _ (number g.held) r in
      before (decimal g.target) (decimal g.target) _ (end_text CRLF) _ (number g.target) h

guest_is : (row : Row) (name : List ℕ) (g : GuestView) → head_text row ++ (name_text name ++ view_text g) ≡ row_text rfc4180 (guest_record row name g)
unfolding guest_record
guest_is row name g =
    behind_head row name _ (name_text name ++ view_text g)
    (before name (field_text rfc4180 name) _ (end_text CRLF) (view_text g) refl (behind_name g))

empty_more : (fields : List (List ℕ)) (text : List ℕ) → fields_text rfc4180 fields ++ end_text CRLF ≡ text
    → fields_text rfc4180 ([] ∷ fields) ++ end_text CRLF ≡ comma ∷ text
empty_more fields text rest = before [] [] fields (end_text CRLF) text refl rest

lone_is : (row : Row) → head_text row ++ empty_text ≡ row_text rfc4180 (lone_record row)
unfolding lone_record empty_text
lone_is row =
    behind_head row [] _ _ (empty_more _ _ (empty_more _ _ (empty_more _ _ (empty_more _ _ (empty_more _ _ (empty_more _ _ (empty_more _ _ (empty_more _ _ (empty_more _ _
    (empty_more _ _ (empty_more _ _ (empty_more [] (end_text CRLF) (none_before (end_text CRLF))))))))))))))

view_is : (row : Row) (name : List ℕ) (view : Option GuestView) → view_record (head_text row) (name_text name) view ≡ records_text (records_of_view row name view)
view_is row name None = refl
view_is row name (Some g) = guest_is row name g ∙ sym (append-nil _)

-- ---- names

piece_is : (names : List (List ℕ)) (position : ℕ) → piece_at (map name_text names) position ≡ name_text (name_at names position)
piece_is [] position = refl
piece_is (x ∷ xs) zero = refl
piece_is (x ∷ xs) (suc n) = piece_is xs n

record_is : (names : List (List ℕ)) (row : Row) (position : ℕ) → record_at (map name_text names) row position ≡ records_text (records_at names row position)
record_is names row position =
    ap (λ (n : List ℕ). view_record (head_text row) n (view_in row position)) (piece_is names position)
    ∙ view_is row (name_at names position) (view_in row position)

-- ---- many records

texts_are : {X : Type 0} (f : X → List (List (List ℕ))) (g : X → List ℕ) → ((x : X) → g x ≡ records_text (f x)) → (xs : List X)
    → flat_map g xs ≡ records_text (flat_map f xs)
texts_are f g same [] = refl
texts_are f g same (x ∷ xs) =
    (λ i. same x i ++ texts_are f g same xs i) ∙ sym (flat_map-append (row_text rfc4180) (f x) (flat_map f xs))

chosen : (b : Bool) (guests lone : List ℕ) (records : List (List (List ℕ))) (single : List (List ℕ)) → guests ≡ records_text records
    → lone ≡ row_text rfc4180 single → (if b then guests else lone) ≡ records_text (if b then records else single ∷ [])
chosen true guests lone records single many one = many
chosen false guests lone records single many one = one ∙ sym (append-nil _)

epoch_is : (names : List (List ℕ)) (row : Row) → epoch_text (map name_text names) row ≡ records_text (records_of names row)
epoch_is names row =
    chosen (list_any is_some row.views) _ _ (guest_records names row) (lone_record row)
    (texts_are (records_at names row) (record_at (map name_text names) row) (record_is names row) (range_with_len 0 (length row.views)))
    (lone_is row)

-- the header, and the records of all epochs behind it
pub text_is : (s : Rows) (pieces : List (List ℕ)) (rows : List Row) (front : List ℕ) → front ≡ records_text (header ∷ [])
    → pieces ≡ map name_text s.names → rows ≡ s.rows → front ++ flat_map (epoch_text pieces) rows ≡ csv_text s
unfolding csv_text
text_is s pieces rows front start named seen =
    (λ i. start i ++ flat_map (epoch_text (named i)) (seen i))
    ∙ (λ i. append-nil (row_text rfc4180 header) i ++ texts_are (records_of s.names) (epoch_text (map name_text s.names)) (epoch_is s.names) s.rows i)

-- ---- one position more

-- the record at a position more
pub position_more : (f : ℕ → List ℕ) (n : ℕ) (start old new more : List ℕ) → old ≡ start ++ flat_map f (range_with_len 0 n)
    → new ≡ old ++ more → more ≡ f n → new ≡ start ++ flat_map f (range_with_len 0 (n + 1))
position_more f n start old new more so_far next is =
    next ∙ (λ i. so_far i ++ is i) ∙ flat_map_more f start (range_with_len 0 n) n
    ∙ ap (λ (l : List ℕ). start ++ flat_map f l) (sym (positions_more n))

-- What is found in a text is entered, and what spells steps is those steps for guests of all sizes.
use Rattle.std.proofs.Common.{◌≡◌, ℕ, zero, suc, ◌+◌, ◌-◌, ◌/◌, ◌%◌, ◌==◌, ◌<◌, ◌≤◌, min, inl, inr, true, cond, nat_lt, List, [], ◌∷◌, ◌++◌, length, codes, get_or, take, drop, All, Ok, refl, ap, sym, subst, ◌∙◌, arith}
use Rattle.std.proofs.lemmas.Bool.{and_parts, and_from, eqb-true, lt-ltb}
use Rattle.std.proofs.lemmas.List.{append-nil, length-append, take_all}
use Rattle.std.proofs.lemmas.List.Elements.{All-head, All-tail, All-nil, All-cons, All-map, All-same}
use Rattle.std.proofs.lemmas.List.FromFn.{length-map-range_with_len}
use Rattle.std.proofs.lemmas.List.Sums.{AllPass-from_list_all}
use Rattle.std.proofs.Math.Seq.{drop-append_seam}
use Rattle.std.specs.Char.{digit_value}
use Rattle.std.specs.List.{list_all, range_with_len}
use Rattle.vm_trace.specs.declared.entry.Item.{Item}
use Rattle.vm_trace.specs.declared.entry.Item.TheVariants as item
use Rattle.vm_trace.specs.declared.limits.StepLimits.{StepLimits}
use Rattle.vm_trace.specs.declared.step.Queue.{Queue}
use Rattle.vm_trace.specs.declared.step.Step.{Step}
use Rattle.vm_trace.specs.declared.step.Action.TheVariants.{Read, Write, Touch, Free, Idle, Yield, Post, Actual}
use Rattle.vm_trace.specs.Entering.{KeepsHex, IsRowOf, IsEntered, IsEnteredAt, IsItemOf}
use Rattle.vm_trace.specs.Entries.{bytes_at, steps_at}
use Rattle.vm_trace.specs.Limits.{most_pages, IsWithin, IsAccess, IsStep}
use Rattle.vm_trace.specs.Meaning.{steps_within}
use Rattle.vm_trace.specs.Sized.{is_within, within_pages, steps_in}
use Rattle.vm_trace.specs.Spelling.{IsNumeral, IsHexOf, IsOfVersion, IsSpelled, IsCounted, AreSpelled, letter_of}
use Rattle.vm_trace.specs.Versions.{most_posted}
use Rattle.vm_trace.specs.Words.{◌>>=◌, hex_pairs, is_hex}
use Rattle.vm_trace.proofs.Hex.{length-hex_pairs, even_from_hex}
use Rattle.vm_trace.proofs.Kept.{length-steps_at}
use Rattle.vm_trace.proofs.Lists.{shifted}
use Rattle.vm_trace.proofs.ReadIsSpelled.{within_more, IsStep-spelled, few_posted}
use Rattle.vm_trace.proofs.SpelledIsRead.{steps_within-spelled}

hex_spelled : (word : List ℕ) → is_hex word ≡ true → IsHexOf word (hex_pairs word)
hex_spelled word is =
    let test = and_parts (length word % 2 == 0) (list_all (λ c. nat_lt (digit_value c) 16) word) is in
    record {
      even = eqb-true _ _ test.0;
      digits = AllPass-from_list_all (λ c. nat_lt (digit_value c) 16) word test.1;
      value = refl;
    }

-- the bytes of a write are as many as its digits are pairs
pairs : (word : List ℕ) → is_hex word ≡ true → length (hex_pairs word) ≡ length word / 2
pairs word is = let all = length-hex_pairs word in let even = even_from_hex word is in omega arith

-- bytes behind the others are found again
bytes_behind : (old bytes : List ℕ) → bytes_at (old ++ bytes) (length old) (length bytes) ≡ bytes
bytes_behind old bytes = ap (take (length bytes)) (drop-append_seam old bytes) ∙ take_all (length bytes) bytes (omega arith)

-- the bytes that digits spell are found where they were put
digits_behind : (digits old new : List ℕ) (start : ℕ) → KeepsHex digits old new start → bytes_at new start (length digits / 2) ≡ hex_pairs digits
digits_behind digits old new start k =
    (λ i. bytes_at (k.added i) (k.place i) (sym (pairs digits k.hex) i)) ∙ bytes_behind old (hex_pairs digits)

digits_within : (digits old new : List ℕ) (start : ℕ) → KeepsHex digits old new start → start + length digits / 2 ≤ length new
digits_within digits old new start k = omega (arith, k.place, pairs digits k.hex, ap length k.added, length-append old (hex_pairs digits))

-- hexadecimal digits behind a place are a write, once their bytes are put behind the others
pub write_entered : (rest old new : List ℕ) (page offset start : ℕ) → IsAccess offset (length rest / 2) → KeepsHex rest old new start
    → IsEnteredAt 119 page offset rest old new (item.Write (length rest / 2) offset page start)
write_entered rest old new page offset start access k limits text p =
    let behind = digits_behind rest old new start k in
    let whole = p.page_word.2 ∙ ap (λ l. p.page_word.0 ++ 32 ∷ l) p.offset_word.2 in
    record {
      spelled = inl (
        Write page offset (bytes_at new start (length rest / 2)),
        subst (λ l. IsSpelled limits (119 ∷ 32 ∷ text) (Write page offset l)) (sym behind)
            (record {
              words = (p.page_word.0, p.offset_word.0, rest, p.page_word.1, p.offset_word.1, hex_spelled rest k.hex, ap (λ l. 119 ∷ 32 ∷ l) whole);
              page = p.inside;
              bytes = subst (IsAccess offset) (sym (pairs rest k.hex)) access;
              version = tt;
            }),
        refl,
      );
      within = digits_within rest old new start k;
      added = k.added ∙ ap (λ l. old ++ l) (sym behind);
    }

-- a place and a length are a read
pub read_entered : (rest bytes : List ℕ) (page offset len : ℕ) → IsAccess offset len → IsNumeral rest len
    → IsEnteredAt 114 page offset rest bytes bytes (item.Read len offset page)
read_entered rest bytes page offset len access numeral limits text p =
    let whole = p.page_word.2 ∙ ap (λ l. p.page_word.0 ++ 32 ∷ l) p.offset_word.2 in
    record {
      spelled = inl (
        Read page offset len,
        record {
          words = (p.page_word.0, p.offset_word.0, rest, p.page_word.1, p.offset_word.1, numeral, ap (λ l. 114 ∷ 32 ∷ l) whole);
          page = p.inside;
          bytes = access;
          version = tt;
        },
        refl,
      );
      within = omega arith;
      added = sym (append-nil bytes);
    }

-- a text that begins with `p`, a space, a letter and a space
pub begins_post : (text : List ℕ) → 4 ≤ length text → get_or text 0 0 ≡ 112 → get_or text 1 0 ≡ 32 → get_or text 3 0 ≡ 32
    → text ≡ 112 ∷ 32 ∷ take 1 (drop 2 text) ++ 32 ∷ take (length text - 4) (drop 4 text)
begins_post [] few kind space next = absurd (omega arith)
begins_post (a ∷ []) few kind space next = absurd (omega arith)
begins_post (a ∷ b ∷ []) few kind space next = absurd (omega arith)
begins_post (a ∷ b ∷ c ∷ []) few kind space next = absurd (omega arith)
begins_post (a ∷ b ∷ c ∷ d ∷ rest) few kind space next =
    let left : take (length (a ∷ b ∷ c ∷ d ∷ rest) - 4) rest ≡ rest = take_all _ rest (omega arith) in
    λ i. kind i ∷ space i ∷ c ∷ next i ∷ sym left i

-- a text that begins with a letter and a space
pub begins_with : (kind : ℕ) (text : List ℕ) → 2 ≤ length text → get_or text 0 0 ≡ kind → get_or text 1 0 ≡ 32 → text ≡ kind ∷ 32 ∷ take (length text - 2) (drop 2 text)
begins_with kind [] few is space = absurd (omega arith)
begins_with kind (a ∷ []) few is space = absurd (omega arith)
begins_with kind (a ∷ b ∷ rest) few is space =
    let left : take (length (a ∷ b ∷ rest) - 2) rest ≡ rest = take_all _ rest (omega arith) in
    λ i. is i ∷ space i ∷ sym left i

-- hexadecimal digits behind the letter of a queue are a raw buffer, once their bytes are put behind the others
pub post_entered : (limits : StepLimits) (letter digits text old new : List ℕ) (queue : Queue) (start : ℕ) → letter ≡ letter_of queue → text ≡ 112 ∷ 32 ∷ letter ++ 32 ∷ digits
    → 1 ≤ length digits / 2 → length digits / 2 ≤ most_posted limits → KeepsHex digits old new start
    → IsEntered limits text old new (item.Post queue (length digits / 2) start)
post_entered limits letter digits text old new queue start named whole some few k =
    let behind = digits_behind digits old new start k in
    let all = few_posted limits.version_3 in
    let same = pairs digits k.hex in
    record {
      spelled = inl (
        Post queue (bytes_at new start (length digits / 2)),
        subst (λ l. IsSpelled limits text (Post queue l)) (sym behind)
            (record {
              words = (digits, hex_spelled digits k.hex, whole ∙ ap (λ l. 112 ∷ 32 ∷ l ++ 32 ∷ digits) named);
              page = tt;
              bytes = record { some = omega (arith, same, some); few = omega (arith, same, few, all) };
              version = omega (arith, same, few);
            }),
        refl,
      );
      within = digits_within digits old new start k;
      added = k.added ∙ ap (λ l. old ++ l) (sym behind);
    }

-- a letter alone
pub idle_entered : (limits : StepLimits) (text bytes : List ℕ) → text ≡ codes "i" → IsEntered limits text bytes bytes item.Idle
idle_entered limits text bytes is = record {
  spelled = inl (Idle, record { words = is; page = tt; bytes = tt; version = tt }, refl);
  within = omega arith;
  added = sym (append-nil bytes);
}

pub yield_entered : (limits : StepLimits) (text bytes : List ℕ) → limits.version_3 ≡ true → text ≡ codes "y" → IsEntered limits text bytes bytes item.Yield
yield_entered limits text bytes version is = record {
  spelled = inl (Yield, record { words = is; page = tt; bytes = tt; version = version }, refl);
  within = omega arith;
  added = sym (append-nil bytes);
}

-- a number behind its letter
pub free_entered : (limits : StepLimits) (rest bytes : List ℕ) (page : ℕ) → IsNumeral rest page → page < limits.pages → IsEntered limits (102 ∷ 32 ∷ rest) bytes bytes (item.Free page 1)
free_entered limits rest bytes page numeral below = record {
  spelled = inl (Free page, record { words = (rest, numeral, refl); page = below; bytes = tt; version = tt }, ap (λ n. Free n ∷ []) (omega arith));
  within = omega arith;
  added = sym (append-nil bytes);
}

pub actual_entered : (limits : StepLimits) (rest bytes : List ℕ) (pages : ℕ) → limits.version_3 ≡ true → IsNumeral rest pages → pages ≤ 4294967295
    → IsEntered limits (97 ∷ 32 ∷ rest) bytes bytes (item.Actual pages)
actual_entered limits rest bytes pages version numeral fits = record {
  spelled = inl (Actual pages, record { words = (rest, numeral, refl); page = tt; bytes = tt; version = (version, fits) }, refl);
  within = omega arith;
  added = sym (append-nil bytes);
}

-- a page and a count behind their letter
counted_row : (limits : StepLimits) (letter rest : List ℕ) (page count : ℕ) → limits.version_3 ≡ true → IsRowOf limits.pages rest (record { page = page; count = count })
    → IsCounted limits letter (letter ++ 32 ∷ rest) page count
counted_row limits letter rest page count version r = record {
  version = version;
  words = (r.page_word.0, r.rest, r.page_word.1, r.count_word, ap (λ l. letter ++ 32 ∷ l) r.page_word.2);
  some = r.all.some;
  inside = r.all.inside;
}

pub touches_entered : (limits : StepLimits) (rest bytes : List ℕ) (page count : ℕ) → limits.version_3 ≡ true → IsRowOf limits.pages rest (record { page = page; count = count })
    → IsEntered limits (116 ∷ 32 ∷ rest) bytes bytes (item.Touch page count)
touches_entered limits rest bytes page count version r = record {
  spelled = inr (inl (page, count, counted_row limits (codes "t") rest page count version r, shifted Touch page 0 page count (omega arith)));
  within = omega arith;
  added = sym (append-nil bytes);
}

pub frees_entered : (limits : StepLimits) (rest bytes : List ℕ) (page count : ℕ) → limits.version_3 ≡ true → IsRowOf limits.pages rest (record { page = page; count = count })
    → IsEntered limits (102 ∷ 32 ∷ rest) bytes bytes (item.Free page count)
frees_entered limits rest bytes page count version r = record {
  spelled = inr (inr (page, count, counted_row limits (codes "f") rest page count version r, shifted Free page 0 page count (omega arith)));
  within = omega arith;
  added = sym (append-nil bytes);
}

-- ---- for guests of all sizes

test_within : (size : ℕ) (step : Step) → IsWithin size step → is_within size step ≡ true
test_within size (Read page offset len) below = lt-ltb page size below
test_within size (Write page offset bytes) below = lt-ltb page size below
test_within size (Touch page) below = lt-ltb page size below
test_within size (Free page) below = lt-ltb page size below
test_within size Idle below = refl
test_within size Yield below = refl
test_within size (Post queue bytes) below = refl
test_within size (Actual pages) below = refl

pub all_within : (size : ℕ) (steps : List Step) → All (IsWithin size) steps → list_all (is_within size) steps ≡ true
all_within size [] within = refl
all_within size (s ∷ steps) within =
    and_from _ _ (test_within size s (All-head (IsWithin size) s steps within)) (all_within size steps (All-tail (IsWithin size) s steps within))

-- steps on the pages of a range
pub row_within : (size page count : ℕ) → page + count ≤ size → All (λ p. p < size) (range_with_len page count)
row_within size page zero inside = All-nil (λ p. p < size)
row_within size page (suc count) inside = All-cons (λ p. p < size) page (range_with_len (page + 1) count) (omega arith) (row_within size (page + 1) count (omega arith))

pub within_spelled : (limits : StepLimits) (text : List ℕ) (steps : List Step) → AreSpelled limits text steps → All (IsWithin limits.pages) steps
within_spelled limits text steps a = elim a [
  | inl one ↦ All-same (IsWithin limits.pages) steps (one.0 ∷ []) one.2 (All-cons (IsWithin limits.pages) one.0 [] one.1.page (All-nil (IsWithin limits.pages)))
  | inr counted ↦ elim counted [
    | inl t ↦ All-same (IsWithin limits.pages) steps _ t.3 (All-map (IsWithin limits.pages) Touch (range_with_len t.0 t.1) (row_within limits.pages t.0 t.1 t.2.inside))
    | inr f ↦ All-same (IsWithin limits.pages) steps _ f.3 (All-map (IsWithin limits.pages) Free (range_with_len f.0 f.1) (row_within limits.pages f.0 f.1 f.2.inside))
  ]
]

version_more : (few many : StepLimits) (step : Step) → few.version_3 ≡ many.version_3 → IsOfVersion few step → IsOfVersion many step
version_more few many (Read page offset len) same is = tt
version_more few many (Write page offset bytes) same is = tt
version_more few many (Touch page) same is = tt
version_more few many (Free page) same is = tt
version_more few many Idle same is = tt
version_more few many Yield same is = sym same ∙ is
version_more few many (Post queue bytes) same is = subst (λ v. length bytes ≤ cond v 1024 64) same is
version_more few many (Actual pages) same is = (sym same ∙ is.0, is.1)

counted_more : (few many : StepLimits) (letter text : List ℕ) (page count : ℕ) → few.pages ≤ many.pages → few.version_3 ≡ many.version_3 → IsCounted few letter text page count → IsCounted many letter text page count
counted_more few many letter text page count more same c = record { version = sym same ∙ c.version; words = c.words; some = c.some; inside = (let inside = c.inside in omega (arith, more, inside)) }

-- what spells steps spells them for greater guests
spelled_more : (few many : StepLimits) (text : List ℕ) (steps : List Step) → few.pages ≤ many.pages → few.version_3 ≡ many.version_3 → AreSpelled few text steps → AreSpelled many text steps
spelled_more few many text steps more same a = elim a [
  | inl one ↦ inl (one.0, record { words = one.1.words; page = within_more few.pages many.pages one.0 more one.1.page; bytes = one.1.bytes; version = version_more few many one.0 same one.1.version }, one.2)
  | inr counted ↦ inr (elim counted [
    | inl t ↦ inl (t.0, t.1, counted_more few many (codes "t") text t.0 t.1 more same t.2, t.3)
    | inr f ↦ inr (f.0, f.1, counted_more few many (codes "f") text f.0 f.1 more same f.2, f.3)
  ])
]

-- a text that spells steps spells some
pub some_spelled : (limits : StepLimits) (text : List ℕ) (steps : List Step) → AreSpelled limits text steps → 1 ≤ length steps
some_spelled limits text steps a = elim a [
  | inl one ↦ omega (arith, ap length one.2)
  | inr counted ↦ elim counted [
    | inl t ↦ omega (arith, ap length t.3, length-map-range_with_len Touch t.0 t.1, t.2.some)
    | inr f ↦ omega (arith, ap length f.3, length-map-range_with_len Free f.0 f.1, f.2.some)
  ]
]

pages_bounded : (kind : ℕ → Step) → ((p : ℕ) → p < most_pages → IsStep (kind p)) → (page count : ℕ) → page + count ≤ most_pages → All (λ p. IsStep (kind p)) (range_with_len page count)
pages_bounded kind each page zero inside = All-nil (λ p. IsStep (kind p))
pages_bounded kind each page (suc count) inside = All-cons (λ p. IsStep (kind p)) page (range_with_len (page + 1) count) (each page (omega arith)) (pages_bounded kind each (page + 1) count (omega arith))

-- each step that is spelled keeps the limits
pub bounded_spelled : (limits : StepLimits) (text : List ℕ) (steps : List Step) → limits.pages ≤ most_pages → AreSpelled limits text steps → All IsStep steps
bounded_spelled limits text steps few a = elim a [
  | inl one ↦ All-same IsStep steps (one.0 ∷ []) one.2 (All-cons IsStep one.0 [] (IsStep-spelled limits text one.0 few one.1) (All-nil IsStep))
  | inr counted ↦ elim counted [
    | inl t ↦ All-same IsStep steps _ t.3 (All-map IsStep Touch (range_with_len t.0 t.1) (pages_bounded Touch (λ p below. record { page = below; bytes = tt }) t.0 t.1 (let inside = t.2.inside in omega (arith, inside, few))))
    | inr f ↦ All-same IsStep steps _ f.3 (All-map IsStep Free (range_with_len f.0 f.1) (pages_bounded Free (λ p below. record { page = below; bytes = tt }) f.0 f.1 (let inside = f.2.inside in omega (arith, inside, few))))
  ]
]

-- steps within the size are those of the text in a guest of that size
pub steps_in-within : (limits : StepLimits) (size : ℕ) (text : List ℕ) (steps : List Step) → steps_within limits text ≡ Ok steps → All (IsWithin size) steps → steps_in limits size text ≡ Ok steps
steps_in-within limits size text steps read within =
    ap (λ r. r >>= within_pages size) read ∙ rw (all_within size steps within) refl

all_more : (few many : ℕ) (steps : List Step) → few ≤ many → All (IsWithin few) steps → All (IsWithin many) steps
all_more few many [] more all = All-nil (IsWithin many)
all_more few many (s ∷ steps) more all =
    All-cons (IsWithin many) s steps (within_more few many s more (All-head (IsWithin few) s steps all)) (all_more few many steps more (All-tail (IsWithin few) s steps all))

-- what was found in front of a text is the item of the steps that the text stands for
pub entered_read : (limits few : StepLimits) (size : ℕ) (text seen old new : List ℕ) (i : Item) → limits.pages ≤ most_pages → few.pages ≡ min limits.pages size → few.version_3 ≡ limits.version_3
    → seen ≡ text → IsEntered few seen old new i → IsItemOf limits size text old new i
entered_read limits few size text seen old new i limit is version same h =
    let spelled : AreSpelled few text (steps_at new i) = subst (λ l. AreSpelled few l (steps_at new i)) same h.spelled in
    let small : few.pages ≤ limits.pages = omega (arith, is) in
    let all : AreSpelled limits text (steps_at new i) = spelled_more few limits text (steps_at new i) small version spelled in
    let within : All (IsWithin size) (steps_at new i) = all_more few.pages size (steps_at new i) (omega (arith, is)) (within_spelled few text (steps_at new i) spelled) in
    record {
      read = steps_in-within limits size text (steps_at new i) (steps_within-spelled limits text (steps_at new i) all) within;
      pages = within;
      bounded = bounded_spelled limits text (steps_at new i) limit all;
      within = h.within;
      added = h.added;
      some = let n = some_spelled limits text (steps_at new i) all in omega (arith, n, length-steps_at new i);
    }

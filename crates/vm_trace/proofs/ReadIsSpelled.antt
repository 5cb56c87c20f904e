-- What is read as a step spells that step.
use Rattle.std.proofs.Common.{◌≡◌, ℕ, ◌+◌, ◌-◌, ◌%◌, ◌==◌, ◌≤◌, ◌&&◌, ◌⊎◌, inl, inr, Bool, true, false, cond, nat_lt, leb, bytes_eq, List, [], ◌∷◌, length, map, codes, Result, Ok, Err, refl, ap, sym, subst, ◌∙◌, arith}
use Rattle.std.proofs.lemmas.Bool.{and_parts, or_parts, leb-true, eqb-true, eqb-false}
use Rattle.std.proofs.lemmas.List.Splits.{join_with_byte-slice_split}
use Rattle.std.proofs.lemmas.List.Sums.{AllPass-from_list_all}
use Rattle.std.specs.Cmp.Lexicographic.{bytes_decides}
use Rattle.std.specs.Char.{is_ascii_digit, digit_value}
use Rattle.std.specs.List.{list_all, list_any, range_with_len}
use Rattle.vm_trace.specs.declared.step.Queue.{Queue}
use Rattle.vm_trace.specs.declared.step.Queue.TheVariants.{Inflate, Deflate, Stats}
use Rattle.vm_trace.specs.declared.step.Step.{Step}
use Rattle.vm_trace.specs.declared.step.Action.TheVariants.{Read, Write, Touch, Free, Idle, Yield, Post, Actual}
use Rattle.vm_trace.specs.declared.error.TraceError.{TraceError}
use Rattle.vm_trace.specs.declared.error.TraceError.TheVariants.{Number, Range, Hex, Length}
use Rattle.std.specs.Str.Parse.{digits_value}
use Rattle.vm_trace.specs.Words.{◌>>=◌, hex_pairs, words_of, is_number, number_of, number_in, is_hex, bytes_in}
use Rattle.vm_trace.specs.Meaning.{read_step, write_step, free_step, actual_step, queue_of, post_step, step_of_words, alone, steps_on, steps_of_words, is_empty_word, step_within, steps_within}
use Rattle.vm_trace.specs.Limits.{most_pages, IsWithin, IsStep}
use Rattle.vm_trace.specs.Spelling.{IsNumeral, IsHexOf, IsSpelled, AreCounted, AreSpelled, letter_of, spaced}
use Rattle.vm_trace.specs.Versions.{before_3, most_posted}
use Rattle.vm_trace.specs.declared.limits.StepLimits.{StepLimits}
use Rattle.vm_trace.proofs.Hex.{length-hex_pairs}

pub chosen : {A : Type 0} (b : Bool) (x y z : A) → cond b x y ≡ z → ((b ≡ true) × (x ≡ z)) ⊎ ((b ≡ false) × (y ≡ z))
chosen true x y z h = inl (refl, h)
chosen false x y z h = inr (refl, h)

pub bind_ok : {A B : Type 0} (r : Result A TraceError) (f : A → Result B TraceError) (y : B) → (r >>= f) ≡ Ok y → (x : A) × (r ≡ Ok x) × (f x ≡ Ok y)
bind_ok (Ok x) f y h = (x, refl, h)
bind_ok (Err e) f y h = cc

number_from : (m : ℕ) (word : List ℕ) → number_of word ≡ Ok m → (is_number word ≡ true) × (digits_value 10 word ≡ m)
unfolding number_of
number_from m word h = elim (chosen (is_number word) (Ok (digits_value 10 word)) (Err Number) (Ok m) h) [
  | inr failed ↦ (let z = failed.1 in cc)
  | inl passed ↦ (passed.0, (let z = passed.1 in cc))
]

range_from : (low high m n : ℕ) → ◌≡◌ {A = Result ℕ TraceError} (cond (leb low m && leb m high) (Ok m) (Err Range)) (Ok n) → (m ≡ n) × (low ≤ m) × (m ≤ high)
range_from low high m n h = elim (chosen {A = Result ℕ TraceError} (leb low m && leb m high) (Ok m) (Err Range) (Ok n) h) [
  | inr failed ↦ (let z = failed.1 in cc)
  | inl passed ↦ let limits = and_parts _ _ passed.0 in ((let z = passed.1 in cc), leb-true _ _ limits.0, leb-true _ _ limits.1)
]

-- a number that was read has a numeral
numeral_from : (low high n : ℕ) (word : List ℕ) → number_in low high word ≡ Ok n → IsNumeral word n × (low ≤ n) × (n ≤ high)
unfolding number_in
numeral_from low high n word h =
    let bound = bind_ok (number_of word) _ n h in
    let number = number_from bound.0 word bound.1 in
    let range = range_from low high bound.0 n bound.2 in
    let test = and_parts _ _ number.0 in
    let sizes = and_parts _ _ test.0 in (
      record {
        some = leb-true _ _ sizes.0;
        short = leb-true _ _ sizes.1;
        digits = AllPass-from_list_all is_ascii_digit word test.1;
        value = number.1 ∙ range.0;
      },
      (let same = range.0 in let above = range.1 in omega arith),
      (let same = range.0 in let below = range.2 in omega arith),
    )

-- bytes that were read have their digits
hex_from : (limit : ℕ) (word bytes : List ℕ) → bytes_in limit word ≡ Ok bytes → 1 ≤ length word → IsHexOf word bytes × (1 ≤ length bytes) × (length bytes ≤ limit)
unfolding bytes_in
hex_from limit word bytes h full = elim (chosen (is_hex word) (cond (leb (length (hex_pairs word)) limit) (Ok (hex_pairs word)) (Err Length)) (Err Hex) (Ok bytes) h) [
  | inr failed ↦ (let z = failed.1 in cc)
  | inl passed ↦
      let test = and_parts (length word % 2 == 0) (list_all (λ c. nat_lt (digit_value c) 16) word) passed.0 in
      elim (chosen (leb (length (hex_pairs word)) limit) (Ok (hex_pairs word)) (Err Length) (Ok bytes) passed.1) [
        | inr long ↦ (let z = long.1 in cc)
        | inl fits ↦
            let same : hex_pairs word ≡ bytes = (let e = fits.1 in cc) in
            let spelled : IsHexOf word bytes = record {
              even = eqb-true _ _ test.0;
              digits = AllPass-from_list_all (λ c. nat_lt (digit_value c) 16) word test.1;
              value = same;
            } in (
              spelled,
              (let pairs = length-hex_pairs word in let even = eqb-true _ _ test.0 in let len = ap length same in omega arith),
              rw (← same) (leb-true _ _ fits.0),
            )
      ]
]

-- the bytes lie in the page, or the pages in the guest
inside_from : {A : Type 0} (m most : ℕ) (x y : A) → ◌≡◌ {A = Result A TraceError} (cond (leb m most) (Ok x) (Err Range)) (Ok y) → (m ≤ most) × (x ≡ y)
inside_from m most x y h = elim (chosen (leb m most) (Ok x) (Err Range) (Ok y) h) [
  | inr failed ↦ (let z = failed.1 in cc)
  | inl passed ↦ (leb-true _ _ passed.0, (let z = passed.1 in cc))
]

pub few_posted : (version_3 : Bool) → cond version_3 1024 64 ≤ 1024
few_posted true = omega arith
few_posted false = omega arith

-- a word that isn't empty has a byte
full_word : (w : List ℕ) (ws : List (List ℕ)) → list_any is_empty_word (w ∷ ws) ≡ false → (1 ≤ length w) × (list_any is_empty_word ws ≡ false)
full_word w ws h =
    let parts = or_parts _ _ h in
    let ne = eqb-false (length w) 0 parts.0 in
    ((let z : length w ≡ 0 → ⊥ = ne in omega arith), parts.1)

-- which queue a letter is
pub queue_from : (letter : List ℕ) (queue : Queue) → queue_of letter ≡ Ok queue → letter ≡ letter_of queue
unfolding queue_of
queue_from letter queue h = elim (chosen (bytes_eq letter (codes "i")) _ _ _ h) [
  | inl i ↦ (bytes_decides letter (codes "i")).0 i.0 ∙ ap letter_of (let e : Inflate ≡ queue = (let z = i.1 in cc) in e)
  | inr other ↦ elim (chosen (bytes_eq letter (codes "d")) _ _ _ other.1) [
    | inl d ↦ (bytes_decides letter (codes "d")).0 d.0 ∙ ap letter_of (let e : Deflate ≡ queue = (let z = d.1 in cc) in e)
    | inr last ↦ elim (chosen (bytes_eq letter (codes "s")) _ _ _ last.1) [
      | inl s ↦ (bytes_decides letter (codes "s")).0 s.0 ∙ ap letter_of (let e : Stats ≡ queue = (let z = s.1 in cc) in e)
      | inr none ↦ (let z = none.1 in cc)
    ]
  ]
]

-- the words of a step, put together again
from_words : (limits : StepLimits) (text : List ℕ) (ws : List (List ℕ)) (step : Step) → 1 ≤ limits.pages → text ≡ spaced ws → list_any is_empty_word ws ≡ false
    → step_of_words limits ws ≡ Ok step → IsSpelled limits text step
unfolding step_of_words free_step actual_step post_step read_step write_step
from_words limits text [] step some is full h = cc
from_words limits text (k ∷ []) step some is full h = elim (chosen (bytes_eq k (codes "i")) _ _ _ h) [
  | inl i ↦ subst (IsSpelled limits text) (let e : Idle ≡ step = (let z = i.1 in cc) in e)
      (record { words = is ∙ (bytes_decides k (codes "i")).0 i.0; page = tt; bytes = tt; version = tt })
  | inr other ↦ elim (chosen (limits.version_3 && bytes_eq k (codes "y")) _ _ _ other.1) [
    | inr none ↦ (let z = none.1 in cc)
    | inl y ↦
        let test = and_parts limits.version_3 (bytes_eq k (codes "y")) y.0 in
        subst (IsSpelled limits text) (let e : Yield ≡ step = (let z = y.1 in cc) in e)
        (record { words = is ∙ (bytes_decides k (codes "y")).0 test.1; page = tt; bytes = tt; version = test.0 })
  ]
]
from_words limits text (k ∷ a ∷ []) step some is full h = elim (chosen (bytes_eq k (codes "f")) _ _ _ h) [
  | inl f ↦
      let page = bind_ok _ _ step f.1 in
      let read = numeral_from 0 (limits.pages - 1) page.0 a page.1 in
      let kind = (bytes_decides k (codes "f")).0 f.0 in
      let below = read.2 in
      subst (IsSpelled limits text) (let e : Free page.0 ≡ step = (let z = page.2 in cc) in e)
      (record {
        words = (a, read.0, is ∙ ap (λ w. spaced (w ∷ a ∷ [])) kind);
        page = omega arith;
        bytes = tt;
        version = tt;
      })
  | inr other ↦ elim (chosen (limits.version_3 && bytes_eq k (codes "a")) _ _ _ other.1) [
    | inr none ↦ (let z = none.1 in cc)
    | inl n ↦
        let test = and_parts limits.version_3 (bytes_eq k (codes "a")) n.0 in
        let number = bind_ok _ _ step n.1 in
        let read = numeral_from 0 4294967295 number.0 a number.1 in
        let kind = (bytes_decides k (codes "a")).0 test.1 in
        subst (IsSpelled limits text) (let e : Actual number.0 ≡ step = (let z = number.2 in cc) in e)
        (record {
          words = (a, read.0, is ∙ ap (λ w. spaced (w ∷ a ∷ [])) kind);
          page = tt;
          bytes = tt;
          version = (test.0, read.2);
        })
  ]
]
from_words limits text (k ∷ a ∷ b ∷ []) step some is full h = elim (chosen (bytes_eq k (codes "p")) _ _ _ h) [
  | inr other ↦ (let z = other.1 in cc)
  | inl p ↦
      let queue = bind_ok (queue_of a) _ step p.1 in
      let bytes = bind_ok (bytes_in (most_posted limits) b) _ step queue.2 in
      let kind = (bytes_decides k (codes "p")).0 p.0 in
      let letter = queue_from a queue.0 queue.1 in
      let last = full_word b [] (full_word a (b ∷ []) (full_word k (a ∷ b ∷ []) full).1).1 in
      let digits = hex_from (most_posted limits) b bytes.0 bytes.1 last.0 in
      let few = few_posted limits.version_3 in
      let short = digits.2 in
      subst (IsSpelled limits text) (let e : Post queue.0 bytes.0 ≡ step = (let z = bytes.2 in cc) in e)
      (record {
        words = (b, digits.0, is ∙ (λ i. spaced (kind i ∷ letter i ∷ b ∷ [])));
        page = tt;
        bytes = record { some = digits.1; few = omega (arith, short, few) };
        version = short;
      })
]
from_words limits text (k ∷ a ∷ b ∷ c ∷ []) step some is full h = elim (chosen (bytes_eq k (codes "r")) _ _ _ h) [
  | inl r ↦
      let page = bind_ok (number_in 0 (limits.pages - 1) a) _ step r.1 in
      let offset = bind_ok (number_in 0 4095 b) _ step page.2 in
      let len = bind_ok (number_in 1 16 c) _ step offset.2 in
      let inside = inside_from (offset.0 + len.0) 4096 (Read page.0 offset.0 len.0) step len.2 in
      let p = numeral_from 0 (limits.pages - 1) page.0 a page.1 in
      let o = numeral_from 0 4095 offset.0 b offset.1 in
      let n = numeral_from 1 16 len.0 c len.1 in
      let below = p.2 in
      subst (IsSpelled limits text) inside.1
      (record {
        words = (a, b, c, p.0, o.0, n.0, is ∙ ap (λ w. spaced (w ∷ a ∷ b ∷ c ∷ [])) ((bytes_decides k (codes "r")).0 r.0));
        page = omega arith;
        bytes = record { some = n.1; few = n.2; inside = inside.0 };
        version = tt;
      })
  | inr other ↦ elim (chosen (bytes_eq k (codes "w")) _ _ _ other.1) [
    | inr none ↦ (let z = none.1 in cc)
    | inl w ↦
        let page = bind_ok (number_in 0 (limits.pages - 1) a) _ step w.1 in
        let offset = bind_ok (number_in 0 4095 b) _ step page.2 in
        let bytes = bind_ok (bytes_in 16 c) _ step offset.2 in
        let inside = inside_from (offset.0 + length bytes.0) 4096 (Write page.0 offset.0 bytes.0) step bytes.2 in
        let p = numeral_from 0 (limits.pages - 1) page.0 a page.1 in
        let o = numeral_from 0 4095 offset.0 b offset.1 in
        let below = p.2 in
        let last = full_word c [] (full_word b (c ∷ []) (full_word a (b ∷ c ∷ []) (full_word k (a ∷ b ∷ c ∷ []) full).1).1).1 in
        let digits = hex_from 16 c bytes.0 bytes.1 last.0 in
        subst (IsSpelled limits text) inside.1
        (record {
          words = (a, b, c, p.0, o.0, digits.0, is ∙ ap (λ w. spaced (w ∷ a ∷ b ∷ c ∷ [])) ((bytes_decides k (codes "w")).0 w.0));
          page = omega arith;
          bytes = record { some = digits.1; few = digits.2; inside = inside.0 };
          version = tt;
        })
  ]
]
from_words limits text (k ∷ a ∷ b ∷ c ∷ d ∷ ws) step some is full h = cc

-- what is read as a step of version 1 or 2 spells it
pub spelled-step_within : (pages : ℕ) (text : List ℕ) (step : Step) → 1 ≤ pages → step_within pages text ≡ Ok step → IsSpelled (before_3 pages) text step
unfolding step_within
spelled-step_within pages text step some h = elim (chosen (list_any is_empty_word (words_of text)) _ _ _ h) [
  | inl empty ↦ (let z = empty.1 in cc)
  | inr full ↦ from_words (before_3 pages) text (words_of text) step some (sym (join_with_byte-slice_split 32 text)) full.0 full.1
]

-- one step alone, put together again
alone_from : (limits : StepLimits) (text : List ℕ) (ws : List (List ℕ)) (steps : List Step) → 1 ≤ limits.pages → text ≡ spaced ws → list_any is_empty_word ws ≡ false
    → alone (step_of_words limits ws) ≡ Ok steps → AreSpelled limits text steps
alone_from limits text ws steps some is full h =
    let step = bind_ok (step_of_words limits ws) _ steps h in
    inl (step.0, from_words limits text ws step.0 some is full step.1, (let z = step.2 in cc))

-- a letter, a page and a count, put together again
counted_from : (limits : StepLimits) (letter text k a b : List ℕ) (kind : ℕ → Step) (steps : List Step) → 1 ≤ limits.pages → text ≡ spaced (k ∷ a ∷ b ∷ [])
    → limits.version_3 && bytes_eq k letter ≡ true → steps_on limits.pages kind a b ≡ Ok steps → AreCounted limits letter kind text steps
unfolding steps_on
counted_from limits letter text k a b kind steps some is named h =
    let test = and_parts limits.version_3 (bytes_eq k letter) named in
    let page = bind_ok (number_in 0 (limits.pages - 1) a) _ steps h in
    let count = bind_ok (number_in 1 limits.pages b) _ steps page.2 in
    let inside = inside_from (page.0 + count.0) limits.pages (map kind (range_with_len page.0 count.0)) steps count.2 in
    let p = numeral_from 0 (limits.pages - 1) page.0 a page.1 in
    let n = numeral_from 1 limits.pages count.0 b count.1 in (
      page.0,
      count.0,
      record {
        version = test.0;
        words = (a, b, p.0, n.0, is ∙ ap (λ w. spaced (w ∷ a ∷ b ∷ [])) ((bytes_decides k letter).0 test.1));
        some = n.1;
        inside = inside.0;
      },
      sym inside.1,
    )

-- the words of steps, put together again
all_from_words : (limits : StepLimits) (text : List ℕ) (ws : List (List ℕ)) (steps : List Step) → 1 ≤ limits.pages → text ≡ spaced ws → list_any is_empty_word ws ≡ false
    → steps_of_words limits ws ≡ Ok steps → AreSpelled limits text steps
unfolding steps_of_words
all_from_words limits text [] steps some is full h = alone_from limits text [] steps some is full h
all_from_words limits text (k ∷ []) steps some is full h = alone_from limits text (k ∷ []) steps some is full h
all_from_words limits text (k ∷ a ∷ []) steps some is full h = alone_from limits text (k ∷ a ∷ []) steps some is full h
all_from_words limits text (k ∷ a ∷ b ∷ []) steps some is full h = elim (chosen (limits.version_3 && bytes_eq k (codes "t")) _ _ _ h) [
  | inl t ↦ inr (inl (counted_from limits (codes "t") text k a b Touch steps some is t.0 t.1))
  | inr other ↦ elim (chosen (limits.version_3 && bytes_eq k (codes "f")) _ _ _ other.1) [
    | inl f ↦ inr (inr (counted_from limits (codes "f") text k a b Free steps some is f.0 f.1))
    | inr one ↦ alone_from limits text (k ∷ a ∷ b ∷ []) steps some is full one.1
  ]
]
all_from_words limits text (k ∷ a ∷ b ∷ c ∷ ws) steps some is full h = alone_from limits text (k ∷ a ∷ b ∷ c ∷ ws) steps some is full h

-- what is read as steps spells them
pub spelled-steps_within : (limits : StepLimits) (text : List ℕ) (steps : List Step) → 1 ≤ limits.pages → steps_within limits text ≡ Ok steps → AreSpelled limits text steps
unfolding steps_within
spelled-steps_within limits text steps some h = elim (chosen (list_any is_empty_word (words_of text)) _ _ _ h) [
  | inl empty ↦ (let z = empty.1 in cc)
  | inr full ↦ all_from_words limits text (words_of text) steps some (sym (join_with_byte-slice_split 32 text)) full.0 full.1
]

-- a page of a guest is one of a greater guest
pub within_more : (few many : ℕ) (step : Step) → few ≤ many → IsWithin few step → IsWithin many step
within_more few many (Read page offset len) more below = omega (arith, more, below)
within_more few many (Write page offset bytes) more below = omega (arith, more, below)
within_more few many (Touch page) more below = omega (arith, more, below)
within_more few many (Free page) more below = omega (arith, more, below)
within_more few many Idle more below = tt
within_more few many Yield more below = tt
within_more few many (Post queue bytes) more below = tt
within_more few many (Actual pages) more below = tt

-- what is spelled keeps the limits
pub IsStep-spelled : (limits : StepLimits) (text : List ℕ) (step : Step) → limits.pages ≤ most_pages → IsSpelled limits text step → IsStep step
IsStep-spelled limits text step few s = record { page = within_more limits.pages most_pages step few s.page; bytes = s.bytes }

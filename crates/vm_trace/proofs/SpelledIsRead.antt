-- What is spelled as a step is read as that step.
use Rattle.std.proofs.Common.{◌≡◌, ℕ, ◌+◌, ◌-◌, ◌≤◌, ◌==◌, ◌&&◌, inl, inr, Bool, true, false, nat_lt, List, [], ◌∷◌, length, map, codes, Result, Ok, refl, ap, sym, ◌∙◌, arith, rules}
use Rattle.std.proofs.lemmas.Bool.{le-leb, eq-eqb, ne_eqb, and_from}
use Rattle.std.proofs.lemmas.Bool.Decides.{nat_tests}
use Rattle.std.proofs.lemmas.List.Splits.{slice_split_none, slice_split_at}
use Rattle.std.proofs.lemmas.List.Sums.{list_all-from_AllPass}
use Rattle.std.specs.Char.{is_ascii_digit, digit_value}
use Rattle.std.specs.List.{All, list_any, range_with_len}
use Rattle.vm_trace.specs.declared.step.Queue.{Queue}
use Rattle.vm_trace.specs.declared.step.Queue.TheVariants.{Inflate, Deflate, Stats}
use Rattle.vm_trace.specs.declared.step.Step.{Step}
use Rattle.vm_trace.specs.declared.step.Action.TheVariants.{Read, Write, Touch, Free, Idle, Yield, Post, Actual}
use Rattle.vm_trace.specs.Words.{words_of, is_number, number_of, number_in, is_hex, bytes_in}
use Rattle.vm_trace.specs.Meaning.{read_step, write_step, free_step, actual_step, queue_of, post_step, step_of_words, alone, steps_on, steps_of_words, is_empty_word, of_words, step_within, steps_within}
use Rattle.vm_trace.specs.Limits.{IsWithin, HasFewBytes}
use Rattle.vm_trace.specs.Spelling.{IsNumeral, IsHexOf, Spells, IsOfVersion, IsSpelled, IsCounted, AreCounted, AreSpelled, letter_of, spaced}
use Rattle.vm_trace.specs.Versions.{before_3, most_posted}
use Rattle.vm_trace.specs.declared.error.TraceError.{TraceError}
use Rattle.vm_trace.specs.declared.limits.StepLimits.{StepLimits}
use Rattle.vm_trace.proofs.Hex.{length-hex_pairs}

-- a numeral is read as its number
numeral_in : (low high n : ℕ) (word : List ℕ) → IsNumeral word n → low ≤ n → n ≤ high → number_in low high word ≡ Ok n
unfolding number_in number_of
numeral_in low high n word w above below =
    let is : is_number word ≡ true = and_from _ _ (and_from _ _ (le-leb _ _ w.some) (le-leb _ _ w.short)) (list_all-from_AllPass is_ascii_digit word w.digits) in
    rw (is, w.value, le-leb low n above, le-leb n high below) refl

-- hexadecimal digits are read as their bytes
hex_in : (limit : ℕ) (word bytes : List ℕ) → IsHexOf word bytes → length bytes ≤ limit → bytes_in limit word ≡ Ok bytes
unfolding bytes_in
hex_in limit word bytes w short =
    let is : is_hex word ≡ true = and_from _ _ (eq-eqb _ _ w.even) (list_all-from_AllPass (λ c. nat_lt (digit_value c) 16) word w.digits) in
    rw (is, w.value, le-leb (length bytes) limit short) refl

queue_in : (queue : Queue) → queue_of (letter_of queue) ≡ Ok queue
unfolding queue_of
queue_in Inflate = refl
queue_in Deflate = refl
queue_in Stats = refl

-- no space is in the word, and it isn't empty
record IsWord (word : List ℕ) : Type 0 where
  spaceless : All (λ b. (b == 32) ≡ false) word
  full : is_empty_word word ≡ false

digit_no_space : (c : ℕ) → is_ascii_digit c ≡ true → (c == 32) ≡ false
digit_no_space c is = grind (arith, nat_tests)

hex_no_space : (c : ℕ) → nat_lt (digit_value c) 16 ≡ true → (c == 32) ≡ false
hex_no_space c is = grind (arith, nat_tests)

numeral_word : (word : List ℕ) (n : ℕ) → IsNumeral word n → IsWord word
numeral_word word n w = record {
  spaceless = λ k d l. digit_no_space _ (w.digits k d l);
  full = ne_eqb (length word) 0 (let some = w.some in λ none. omega arith);
}

hex_word : (word bytes : List ℕ) → IsHexOf word bytes → 1 ≤ length bytes → IsWord word
hex_word word bytes w some = record {
  spaceless = λ k d l. hex_no_space _ (w.digits k d l);
  full = ne_eqb (length word) 0 (let pairs = length-hex_pairs word in let value = ap length w.value in λ none. omega arith);
}

letter_word : (queue : Queue) → IsWord (letter_of queue)
letter_word Inflate = record { spaceless = search rules; full = refl }
letter_word Deflate = record { spaceless = search rules; full = refl }
letter_word Stats = record { spaceless = search rules; full = refl }

abbrev AllWords : List (List ℕ) → Type 0
AllWords [] = Unit {0}
AllWords (w ∷ ws) = IsWord w × AllWords ws

-- words with spaces between them are found again
words_of-spaced : (w : List ℕ) (ws : List (List ℕ)) → AllWords (w ∷ ws) → words_of (spaced (w ∷ ws)) ≡ w ∷ ws
words_of-spaced w [] h = slice_split_none (λ b. b == 32) w h.0.spaceless
words_of-spaced w (v ∷ ws) h =
    slice_split_at (λ b. b == 32) w 32 (spaced (v ∷ ws)) h.0.spaceless refl ∙ ap (λ l. w ∷ l) (words_of-spaced v ws h.1)

none_empty : (ws : List (List ℕ)) → AllWords ws → list_any is_empty_word ws ≡ false
none_empty [] h = refl
none_empty (w ∷ ws) h = rw h.0.full (none_empty ws h.1)

read_spaced : {A : Type 0} (meaning : List (List ℕ) → Result A TraceError) (text w : List ℕ) (ws : List (List ℕ)) → AllWords (w ∷ ws) → text ≡ spaced (w ∷ ws)
    → of_words meaning text ≡ meaning (w ∷ ws)
read_spaced meaning text w ws h is =
    let found : words_of text ≡ w ∷ ws = ap words_of is ∙ words_of-spaced w ws h in
    rw (found, none_empty (w ∷ ws) h) refl

kind_r : IsWord (codes "r")
kind_r = record { spaceless = search rules; full = refl }

kind_w : IsWord (codes "w")
kind_w = record { spaceless = search rules; full = refl }

kind_t : IsWord (codes "t")
kind_t = record { spaceless = search rules; full = refl }

kind_f : IsWord (codes "f")
kind_f = record { spaceless = search rules; full = refl }

kind_p : IsWord (codes "p")
kind_p = record { spaceless = search rules; full = refl }

kind_a : IsWord (codes "a")
kind_a = record { spaceless = search rules; full = refl }

kind_i : IsWord (codes "i")
kind_i = record { spaceless = search rules; full = refl }

kind_y : IsWord (codes "y")
kind_y = record { spaceless = search rules; full = refl }

and_false : (b : Bool) → (b && false) ≡ false
and_false true = refl
and_false false = refl

-- the words of a text that is one step
record HasWords (limits : StepLimits) (text : List ℕ) (step : Step) : Type 0 where
  first : List ℕ
  others : List (List ℕ)
  words : AllWords (first ∷ others)
  is : text ≡ spaced (first ∷ others)
  one : step_of_words limits (first ∷ others) ≡ Ok step
  all : steps_of_words limits (first ∷ others) ≡ alone (step_of_words limits (first ∷ others))

words_spelled : (limits : StepLimits) (text : List ℕ) (step : Step) → Spells text step → IsWithin limits.pages step → HasFewBytes step → IsOfVersion limits step → HasWords limits text step
unfolding step_of_words steps_of_words read_step write_step free_step actual_step post_step
words_spelled limits text Idle s within few version = record { first = codes "i"; others = []; words = (kind_i, tt); is = s; one = refl; all = refl }
words_spelled limits text Yield s within few version = record { first = codes "y"; others = []; words = (kind_y, tt); is = s; one = rw version refl; all = refl }
words_spelled limits text (Touch page) s within few version = elim s [ ]
words_spelled limits text (Free page) s within few version = record {
  first = codes "f";
  others = s.0 ∷ [];
  words = (kind_f, (numeral_word s.0 page s.1, tt));
  is = s.2;
  one = rw (numeral_in 0 (limits.pages - 1) page s.0 s.1 (omega arith) (omega (arith, within))) refl;
  all = refl;
}
words_spelled limits text (Actual pages) s within few version = record {
  first = codes "a";
  others = s.0 ∷ [];
  words = (kind_a, (numeral_word s.0 pages s.1, tt));
  is = s.2;
  one = rw (version.0, numeral_in 0 4294967295 pages s.0 s.1 (omega arith) version.1) refl;
  all = refl;
}
words_spelled limits text (Post queue bytes) s within few version = record {
  first = codes "p";
  others = letter_of queue ∷ s.0 ∷ [];
  words = (kind_p, (letter_word queue, (hex_word s.0 bytes s.1 few.some, tt)));
  is = s.2;
  one = rw (queue_in queue, hex_in (most_posted limits) s.0 bytes s.1 version) refl;
  all = rw (and_false limits.version_3) refl;
}
words_spelled limits text (Read page offset len) s within few version =
    let some = few.some in let inside = few.inside in
    record {
      first = codes "r";
      others = s.0 ∷ s.1 ∷ s.2 ∷ [];
      words = (kind_r, (numeral_word s.0 page s.3, (numeral_word s.1 offset s.4, (numeral_word s.2 len s.5, tt))));
      is = s.6;
      one = rw (
        numeral_in 0 (limits.pages - 1) page s.0 s.3 (omega arith) (omega (arith, within)),
        numeral_in 0 4095 offset s.1 s.4 (omega arith) (omega arith),
        numeral_in 1 16 len s.2 s.5 some few.few,
        le-leb (offset + len) 4096 inside,
      ) refl;
      all = refl;
    }
words_spelled limits text (Write page offset bytes) s within few version =
    let some = few.some in let inside = few.inside in
    record {
      first = codes "w";
      others = s.0 ∷ s.1 ∷ s.2 ∷ [];
      words = (kind_w, (numeral_word s.0 page s.3, (numeral_word s.1 offset s.4, (hex_word s.2 bytes s.5 some, tt))));
      is = s.6;
      one = rw (
        numeral_in 0 (limits.pages - 1) page s.0 s.3 (omega arith) (omega (arith, within)),
        numeral_in 0 4095 offset s.1 s.4 (omega arith) (omega arith),
        hex_in 16 s.2 bytes s.5 few.few,
        le-leb (offset + length bytes) 4096 inside,
      ) refl;
      all = refl;
    }

-- what spells a step of version 1 or 2 is read as that step
pub step_within-spelled : (pages : ℕ) (text : List ℕ) (step : Step) → IsSpelled (before_3 pages) text step → step_within pages text ≡ Ok step
unfolding step_within
step_within-spelled pages text step s =
    let w = words_spelled (before_3 pages) text step s.words s.page s.bytes s.version in
    read_spaced (step_of_words (before_3 pages)) text w.first w.others w.words w.is ∙ w.one

one_read : (limits : StepLimits) (text : List ℕ) (step : Step) → IsSpelled limits text step → steps_within limits text ≡ Ok (step ∷ [])
unfolding steps_within
one_read limits text step s =
    let w = words_spelled limits text step s.words s.page s.bytes s.version in
    read_spaced (steps_of_words limits) text w.first w.others w.words w.is ∙ w.all ∙ ap alone w.one

-- a page and a count are read as the steps on those pages
steps_on-counted : (limits : StepLimits) (letter text : List ℕ) (kind : ℕ → Step) (page count : ℕ) → (c : IsCounted limits letter text page count)
    → steps_on limits.pages kind c.words.0 c.words.1 ≡ Ok (map kind (range_with_len page count))
unfolding steps_on
steps_on-counted limits letter text kind page count c =
    let some = c.some in let inside = c.inside in
    rw (
      numeral_in 0 (limits.pages - 1) page c.words.0 c.words.2 (omega arith) (omega (arith, some, inside)),
      numeral_in 1 limits.pages count c.words.1 c.words.3 some (omega (arith, inside)),
      le-leb (page + count) limits.pages inside,
    ) refl

counted_words : (limits : StepLimits) (letter text : List ℕ) (page count : ℕ) → IsWord letter → (c : IsCounted limits letter text page count) → AllWords (letter ∷ c.words.0 ∷ c.words.1 ∷ [])
counted_words limits letter text page count kind c = (kind, (numeral_word c.words.0 page c.words.2, (numeral_word c.words.1 count c.words.3, tt)))

touches_read : (limits : StepLimits) (text : List ℕ) (steps : List Step) → AreCounted limits (codes "t") Touch text steps → steps_within limits text ≡ Ok steps
unfolding steps_within steps_of_words
touches_read limits text steps a =
    let c = a.2 in
    read_spaced (steps_of_words limits) text (codes "t") (c.words.0 ∷ c.words.1 ∷ []) (counted_words limits (codes "t") text a.0 a.1 kind_t c) c.words.4
    ∙ rw (c.version, steps_on-counted limits (codes "t") text Touch a.0 a.1 c) (ap Ok (sym a.3))

frees_read : (limits : StepLimits) (text : List ℕ) (steps : List Step) → AreCounted limits (codes "f") Free text steps → steps_within limits text ≡ Ok steps
unfolding steps_within steps_of_words
frees_read limits text steps a =
    let c = a.2 in
    read_spaced (steps_of_words limits) text (codes "f") (c.words.0 ∷ c.words.1 ∷ []) (counted_words limits (codes "f") text a.0 a.1 kind_f c) c.words.4
    ∙ rw (c.version, steps_on-counted limits (codes "f") text Free a.0 a.1 c) (ap Ok (sym a.3))

-- what spells steps is read as those steps
pub steps_within-spelled : (limits : StepLimits) (text : List ℕ) (steps : List Step) → AreSpelled limits text steps → steps_within limits text ≡ Ok steps
steps_within-spelled limits text steps a = elim a [
  | inl one ↦ one_read limits text one.0 one.1 ∙ ap Ok (sym one.2)
  | inr counted ↦ elim counted [
    | inl touches ↦ touches_read limits text steps touches
    | inr frees ↦ frees_read limits text steps frees
  ]
]

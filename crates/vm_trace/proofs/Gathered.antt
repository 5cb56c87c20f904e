-- The words that a loop over a text has gathered so far.
use Rattle.std.proofs.Common.{◌≡◌, ℕ, ◌+◌, ◌-◌, ◌==◌, ◌<◌, ◌≤◌, nat_lt, Bool, true, false, cond, ◌||◌, List, [], ◌∷◌, ◌++◌, length, take, drop, set, position, Option, Some, None, Err, refl, ap, sym, ◌∙◌, inl, inr, ◌⊎◌, arith}
use Rattle.std.proofs.lemmas.Bool.{or_right, ltb-true, ltb-false}
use Rattle.std.proofs.lemmas.List.{append_assoc, append-nil, length-map, length-append, length-drop, length-take-le, map-append, take_all, take_more_set, length-set}
use Rattle.std.proofs.lemmas.List.Elements.{All-from_get_or}
use Rattle.std.proofs.lemmas.List.Folds.{list_any-append}
use Rattle.std.proofs.lemmas.List.Splits.{slice_split_first, slice_split_none}
use Rattle.std.proofs.lemmas.List.Sums.{fails_before_first}
use Rattle.std.specs.Borrow.{Bor}
use Rattle.std.specs.List.{list_any, position_or_len}
use Rattle.vm_trace.specs.declared.error.TraceError.TheVariants.{Unknown}
use Rattle.vm_trace.specs.Words.{words_of, words_left}
use Rattle.vm_trace.specs.Meaning.{is_empty_word, steps_of_words, steps_within}
use Rattle.vm_trace.specs.declared.limits.StepLimits.{StepLimits}
use Rattle.vm_trace.proofs.WordCounts.{texts, many_words}

-- the test of a space
abbrev is_space : ℕ → Bool
is_space b = b == 32

found_at : (b : Bool) (m n : ℕ) → cond b (Some m) None ≡ Some n → (b ≡ true) × (m ≡ n)
found_at true m n h = (refl, cc)
found_at false m n h = cc

found_none : (b : Bool) (m : ℕ) → cond b (Some m) None ≡ None → b ≡ false
found_none true m h = cc
found_none false m h = refl

-- the word before the first space, and those behind it
pub word_before : (text : List ℕ) (end : ℕ) → position is_space text ≡ Some end → words_of text ≡ take end text ∷ words_of (take (length text - (end + 1)) (drop (end + 1) text))
word_before text end found =
    let at_end = found_at (nat_lt (position_or_len is_space text) (length text)) (position_or_len is_space text) end found in
    let all : take (length text - (end + 1)) (drop (end + 1) text) ≡ drop (end + 1) text = take_all (length text - (end + 1)) (drop (end + 1) text) (omega (arith, length-drop (end + 1) text)) in
    slice_split_first is_space text 0 (ltb-true _ _ at_end.0)
    ∙ ap (λ n. take n text ∷ words_of (drop (n + 1) text)) at_end.1
    ∙ ap (λ rest. take end text ∷ words_of rest) (sym all)

-- the only word
pub word_alone : (text : List ℕ) → position is_space text ≡ None → words_of text ≡ text ∷ []
word_alone text found =
    let no_space : length text ≤ position_or_len is_space text = ltb-false _ _ (found_none (nat_lt (position_or_len is_space text) (length text)) (position_or_len is_space text) found) in
    slice_split_none is_space text (All-from_get_or (λ b. is_space b ≡ false) text 0 (λ k below. fails_before_first is_space text k 0 (omega arith)))

-- the first words of the text are gathered, none of them empty, and the others are left
pub record Gathers (text : List ℕ) (words : List (Bor (List ℕ))) (count : ℕ) (left : Option (Bor (List ℕ))) : Type 0 where
  pub room : length words ≡ 4
  pub within : count ≤ 4
  pub whole : texts (take count words) ++ words_left left ≡ words_of text
  pub filled : list_any is_empty_word (texts (take count words)) ≡ false

pub gathers_none : (text : List ℕ) (words : List (Bor (List ℕ))) (left : Bor (List ℕ)) → length words ≡ 4 → left.now ≡ text → Gathers text words 0 (Some left)
gathers_none text words left room same = record {
  room = room;
  within = omega arith;
  whole = ap words_of same;
  filled = refl;
}

length-texts : (words : List (Bor (List ℕ))) (count : ℕ) → count ≤ length words → length (texts (take count words)) ≡ count
length-texts words count h = length-map {B = List ℕ} (take count words) (λ w. w.now) ∙ length-take-le count words h

pub gathers_more : (text : List ℕ) (words : List (Bor (List ℕ))) (count : ℕ) (left : Bor (List ℕ)) (w : Bor (List ℕ)) (rest : Option (Bor (List ℕ))) → Gathers text words count (Some left) → words_of left.now ≡ w.now ∷ words_left rest → is_empty_word w.now ≡ false → count < 4 → Gathers text (set words count w) (count + 1) rest
gathers_more text words count left w rest g first full room =
    let longer : texts (take (count + 1) (set words count w)) ≡ texts (take count words) ++ w.now ∷ [] =
    ap texts (take_more_set words count w (let four = g.room in omega arith)) ∙ map-append (λ w. w.now) (take count words) (w ∷ []) in
    record {
      room = length-set words count w ∙ g.room;
      within = omega arith;
      whole = ap (λ l. l ++ words_left rest) longer ∙ append_assoc (texts (take count words)) (w.now ∷ []) (words_left rest) ∙ ap (λ l. texts (take count words) ++ l) (sym first) ∙ g.whole;
      filled = ap (list_any is_empty_word) longer ∙ list_any-append is_empty_word (texts (take count words)) (w.now ∷ []) ∙ (λ i. g.filled i || (full i || false));
    }

same_both : {A : Type 0} (b : Bool) (x : A) → cond b x x ≡ x
same_both true x = refl
same_both false x = refl

-- a word that is empty, or one too many
pub gathers_fault : (limits : StepLimits) (text : List ℕ) (words : List (Bor (List ℕ))) (count : ℕ) (left : Bor (List ℕ)) (w : Bor (List ℕ)) (rest : Option (Bor (List ℕ))) → Gathers text words count (Some left) → words_of left.now ≡ w.now ∷ words_left rest → (is_empty_word w.now ≡ true) ⊎ (count ≡ 4) → steps_within limits text ≡ Err Unknown
unfolding steps_within
gathers_fault limits text words count left w rest g first fault =
    let all : words_of text ≡ texts (take count words) ++ w.now ∷ words_left rest = sym g.whole ∙ ap (λ l. texts (take count words) ++ l) first in
    elim fault [
      | inl empty ↦
          let found : list_any is_empty_word (words_of text) ≡ true =
          ap (list_any is_empty_word) all ∙ list_any-append is_empty_word (texts (take count words)) (w.now ∷ words_left rest)
          ∙ or_right (list_any is_empty_word (texts (take count words))) (list_any is_empty_word (w.now ∷ words_left rest)) (ap (λ b. b || list_any is_empty_word (words_left rest)) empty) in
          rw found refl
      | inr full ↦
          let five : 5 ≤ length (words_of text) =
          let len = ap length all ∙ length-append (texts (take count words)) (w.now ∷ words_left rest) in
          omega (arith, len, length-texts words count (let four = g.room in omega arith)) in
          ap (cond (list_any is_empty_word (words_of text)) (Err Unknown)) (many_words limits (words_of text) five) ∙ same_both (list_any is_empty_word (words_of text)) (Err Unknown)
    ]

-- all words are gathered
pub gathers_all : (limits : StepLimits) (text : List ℕ) (words : List (Bor (List ℕ))) (count : ℕ) → Gathers text words count None → steps_within limits text ≡ steps_of_words limits (texts (take count words))
unfolding steps_within
gathers_all limits text words count g =
    let all : texts (take count words) ≡ words_of text = sym (append-nil _) ∙ g.whole in
    rw (← all, g.filled) refl

-- The words that a loop over the parts of a line has gathered so far.
use Rattle.std.proofs.Common.{◌≡◌, ℕ, ◌+◌, ◌<◌, ◌≤◌, ◌==◌, true, false, cond, not, List, [], ◌∷◌, ◌++◌, length, map, filter, take, set, Option, Some, None, Err, refl, ap, sym, ◌∙◌, arith}
use Rattle.std.proofs.lemmas.List.{append_assoc, append-nil, length-map, length-append, length-take-le, map-append, take_more_set, length-set}
use Rattle.std.proofs.lemmas.Iterator.Splits.{YieldsList-from_str_split}
use Rattle.std.specs.Borrow.{Bor}
use Rattle.std.specs.Iterator.{AlwaysYields}
use Rattle.std.specs.List.{slice_split}
use Rattle.std.specs.Str.Iter.{split_steps, split_text, split_has_more, split_pattern}
use Rattle.std.specs.Str.Pattern.{FindsChar}
use Rattle.std.specs.declared.str.Split.{Split}
use Rattle.vm_commands.specs.declared.error.LineFault.TheVariants.{Bad}
use Rattle.vm_commands.specs.Lines.{words_of, command_of_words, command_of}

-- what a call of `next` on the parts of a text at a character does
abbrev pub steps : Split ℕ → Option (Bor (List ℕ)) → Split ℕ → Type 0
steps = split_steps FindsChar (λ a b. b ≡ a)

-- what the words are
abbrev pub texts : List (Bor (List ℕ)) → List (List ℕ)
texts ws = map (λ w. w.now) ws

-- the parts that are words
abbrev pub nonempty : List (List ℕ) → List (List ℕ)
nonempty parts = filter (λ word. not (length word == 0)) parts

-- the first words of the line are gathered, and the iterator gives the parts with the others
pub record Gathers (line : List ℕ) (words : List (Bor (List ℕ))) (count : ℕ) (parts : Split ℕ) : Type 0 where
  pub room : length words ≡ 4
  pub within : count ≤ 4
  pub left : List (List ℕ)
  pub whole : texts (take count words) ++ nonempty left ≡ words_of line
  pub yields : AlwaysYields steps (λ w. w.now) parts left

-- one more part
part_next : (s t : Split ℕ) (w : Bor (List ℕ)) (ys : List (List ℕ)) → AlwaysYields steps (λ w. w.now) s ys → steps s (Some w) t → (rest : List (List ℕ)) × (ys ≡ w.now ∷ rest) × AlwaysYields steps (λ w. w.now) t rest
part_next s t w [] h k = absurd (h w t k)
part_next s t w (y ∷ rest) h k = let step = h.1 w t k in (rest, ap (λ y. y ∷ rest) (sym step.0), step.1)

-- no more part
parts_end : (s t : Split ℕ) (ys : List (List ℕ)) → AlwaysYields steps (λ w. w.now) s ys → steps s None t → ys ≡ []
parts_end s t [] h k = refl
parts_end s t (y ∷ rest) h k = absurd (h.0 t k)

pub nonempty-word : (w : List ℕ) (rest : List (List ℕ)) → (length w == 0) ≡ false → nonempty (w ∷ rest) ≡ w ∷ nonempty rest
nonempty-word w rest full = ap (λ b. cond (not b) (w ∷ nonempty rest) (nonempty rest)) full

pub nonempty-empty : (w : List ℕ) (rest : List (List ℕ)) → (length w == 0) ≡ true → nonempty (w ∷ rest) ≡ nonempty rest
nonempty-empty w rest empty = ap (λ b. cond (not b) (w ∷ nonempty rest) (nonempty rest)) empty

pub gathers_none : (line : List ℕ) (words : List (Bor (List ℕ))) (parts : Split ℕ) → length words ≡ 4 → split_text parts ≡ line → split_has_more parts ≡ true → split_pattern parts ≡ 32 → Gathers line words 0 parts
gathers_none line words parts room is more pattern = record {
  room = room;
  within = omega arith;
  left = slice_split (λ b. b == 32) line;
  whole = refl;
  yields = (YieldsList-from_str_split 32 line (omega arith) is more pattern).runs;
}

-- an empty part is no word
pub gathers_empty : (line : List ℕ) (words : List (Bor (List ℕ))) (count : ℕ) (s t : Split ℕ) (w : Bor (List ℕ)) → Gathers line words count s → steps s (Some w) t → (length w.now == 0) ≡ true → Gathers line words count t
gathers_empty line words count s t w g k empty =
    let part = part_next s t w g.left g.yields k in
    record {
      room = g.room;
      within = g.within;
      left = part.0;
      whole = ap (λ l. texts (take count words) ++ l) (sym (ap nonempty part.1 ∙ nonempty-empty w.now part.0 empty)) ∙ g.whole;
      yields = part.2;
    }

pub gathers_more : (line : List ℕ) (words : List (Bor (List ℕ))) (count : ℕ) (s t : Split ℕ) (w : Bor (List ℕ)) → Gathers line words count s → steps s (Some w) t → (length w.now == 0) ≡ false → count < 4 → Gathers line (set words count w) (count + 1) t
gathers_more line words count s t w g k full room =
    let part = part_next s t w g.left g.yields k in
    let longer : texts (take (count + 1) (set words count w)) ≡ texts (take count words) ++ w.now ∷ [] =
    ap texts (take_more_set words count w (let four = g.room in omega arith)) ∙ map-append (λ w. w.now) (take count words) (w ∷ []) in
    record {
      room = length-set words count w ∙ g.room;
      within = omega arith;
      left = part.0;
      whole =
          ap (λ l. l ++ nonempty part.0) longer ∙ append_assoc (texts (take count words)) (w.now ∷ []) (nonempty part.0)
          ∙ ap (λ l. texts (take count words) ++ l) (sym (ap nonempty part.1 ∙ nonempty-word w.now part.0 full)) ∙ g.whole;
      yields = part.2;
    }

-- more words than any command has
many_words : (page : ℕ) (ws : List (List ℕ)) → 5 ≤ length ws → command_of_words page ws ≡ Err Bad
unfolding command_of_words
many_words page [] h = absurd (omega arith)
many_words page (a ∷ []) h = absurd (omega arith)
many_words page (a ∷ b ∷ []) h = absurd (omega arith)
many_words page (a ∷ b ∷ c ∷ []) h = absurd (omega arith)
many_words page (a ∷ b ∷ c ∷ d ∷ []) h = absurd (omega arith)
many_words page (a ∷ b ∷ c ∷ d ∷ e ∷ ws) h = refl

-- a word more than any command has
pub gathers_fault : (page : ℕ) (line : List ℕ) (words : List (Bor (List ℕ))) (s t : Split ℕ) (w : Bor (List ℕ)) → Gathers line words 4 s → steps s (Some w) t → (length w.now == 0) ≡ false → command_of page line ≡ Err Bad
unfolding command_of
gathers_fault page line words s t w g k full =
    let part = part_next s t w g.left g.yields k in
    let all : words_of line ≡ texts (take 4 words) ++ w.now ∷ nonempty part.0 =
    sym g.whole ∙ ap (λ l. texts (take 4 words) ++ l) (ap nonempty part.1 ∙ nonempty-word w.now part.0 full) in
    let four : length (texts (take 4 words)) ≡ 4 = length-map {B = List ℕ} (take 4 words) (λ w. w.now) ∙ length-take-le 4 words (let room = g.room in omega arith) in
    let len = ap length all ∙ length-append (texts (take 4 words)) (w.now ∷ nonempty part.0) in
    many_words page (words_of line) (omega (arith, len, four))

-- all words are gathered
pub gathers_all : (page : ℕ) (line : List ℕ) (words : List (Bor (List ℕ))) (count : ℕ) (s t : Split ℕ) → Gathers line words count s → steps s None t → command_of page line ≡ command_of_words page (texts (take count words))
unfolding command_of
gathers_all page line words count s t g k =
    let end = parts_end s t g.left g.yields k in
    ap (command_of_words page) (sym (sym (append-nil _) ∙ ap (λ l. texts (take count words) ++ l) (sym (ap nonempty end)) ∙ g.whole))

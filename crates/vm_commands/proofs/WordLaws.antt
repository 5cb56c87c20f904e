-- The words that are read in a line are its words, and no others are.
use Rattle.std.proofs.Common.{◌≡◌, ℕ, ◌≤◌, inl, inr, Bool, true, false, not, List, [], ◌∷◌, ◌++◌, length, refl, ap, sym, subst, ◌∙◌, arith}
use Rattle.std.proofs.lemmas.Bool.{and_parts, and_from, ne_eqb}
use Rattle.std.proofs.lemmas.List.{append-nil}
use Rattle.std.proofs.lemmas.List.Splits.{slice_split_none, slice_split_at, slice_split-cons_yes, slice_split-cons_no, length-slice_split, join_with_byte-slice_split}
use Rattle.std.proofs.lemmas.List.Sums.{AllPass-from_list_all, list_all-from_AllPass}
use Rattle.std.specs.List.{All, AllPass, list_all, slice_split, join_with_byte, onto_first}
use Rattle.vm_commands.specs.LineGrammar.{is_space, IsWord, EndsWord, HasWords}
use Rattle.vm_commands.specs.Lines.{words_of}
use Rattle.vm_commands.proofs.Choices.{decided}
use Rattle.vm_commands.proofs.Gathered.{nonempty, nonempty-word}

-- no byte of the part is a space
abbrev is_spaceless : List ℕ → Bool
is_spaceless part = list_all (λ byte. not (is_space byte)) part

not_true : (b : Bool) → not b ≡ true → b ≡ false
not_true true h = absurd cc
not_true false h = refl

none_pass : (part : List ℕ) → is_spaceless part ≡ true → All (λ byte. is_space byte ≡ false) part
none_pass part h = λ k d l. not_true _ (AllPass-from_list_all (λ byte. not (is_space byte)) part h k d l)

-- ---- the words of a line are read

-- spaces in front change nothing
skip_spaces : (spaces rest : List ℕ) → list_all is_space spaces ≡ true → words_of (spaces ++ rest) ≡ words_of rest
skip_spaces [] rest h = refl
skip_spaces (b ∷ spaces) rest h =
    let parts = and_parts (is_space b) (list_all is_space spaces) h in
    ap nonempty (slice_split-cons_yes is_space b (spaces ++ rest) parts.0) ∙ skip_spaces spaces rest parts.1

full_word : (word : List ℕ) (parts : List (List ℕ)) → 1 ≤ length word → nonempty (word ∷ parts) ≡ word ∷ nonempty parts
full_word word parts h = nonempty-word word parts (ne_eqb (length word) 0 (λ none. omega (arith, h)))

-- the first word is read first
first_word : (word rest : List ℕ) → IsWord word → EndsWord rest → words_of (word ++ rest) ≡ word ∷ words_of rest
first_word word [] w ends =
    let spaceless = list_all-from_AllPass (λ byte. not (is_space byte)) word w.spaceless in
    ap words_of (append-nil word) ∙ ap nonempty (slice_split_none is_space word (none_pass word spaceless)) ∙ full_word word [] w.some
first_word word (b ∷ rest) w ends =
    let spaceless = list_all-from_AllPass (λ byte. not (is_space byte)) word w.spaceless in
    ap nonempty (slice_split_at is_space word b rest (none_pass word spaceless) ends)
    ∙ full_word word (slice_split is_space rest) w.some
    ∙ ap (λ ws. word ∷ ws) (sym (ap nonempty (slice_split-cons_yes is_space b rest ends)))

pub words_of-has : (line : List ℕ) (words : List (List ℕ)) → HasWords line words → words_of line ≡ words
words_of-has line [] h =
    ap words_of (sym (append-nil line)) ∙ skip_spaces line [] (list_all-from_AllPass is_space line h)
words_of-has line (word ∷ words) h =
    ap words_of h.6
    ∙ skip_spaces h.0 (word ++ h.1) (list_all-from_AllPass is_space h.0 h.2)
    ∙ first_word word h.1 h.3 h.4
    ∙ ap (λ ws. word ∷ ws) (words_of-has h.1 words h.5)

-- ---- what is read are the words of the line

abbrev AllSpaceless : List (List ℕ) → Type 0
AllSpaceless [] = Unit {0}
AllSpaceless (part ∷ parts) = (is_spaceless part ≡ true) × AllSpaceless parts

onto_spaceless : (b : ℕ) (parts : List (List ℕ)) → is_space b ≡ false → AllSpaceless parts → AllSpaceless (onto_first b parts)
onto_spaceless b [] other h = (and_from (not (is_space b)) true (ap not other) refl, tt)
onto_spaceless b (part ∷ parts) other h = (and_from (not (is_space b)) (is_spaceless part) (ap not other) h.0, h.1)

split_spaceless : (line : List ℕ) → AllSpaceless (slice_split is_space line)
split_spaceless [] = (refl, tt)
split_spaceless (b ∷ line) = elim (decided (is_space b)) [
  | inl space ↦ subst AllSpaceless (sym (slice_split-cons_yes is_space b line space)) (refl, split_spaceless line)
  | inr other ↦ subst AllSpaceless (sym (slice_split-cons_no is_space b line other)) (onto_spaceless b (slice_split is_space line) other (split_spaceless line))
]

-- a space more in front
space_first : (line : List ℕ) (words : List (List ℕ)) → HasWords line words → HasWords (32 ∷ line) words
space_first line [] h = AllPass-from_list_all is_space (32 ∷ line) (list_all-from_AllPass is_space line h)
space_first line (word ∷ words) h =
    (32 ∷ h.0, h.1, AllPass-from_list_all is_space (32 ∷ h.0) (list_all-from_AllPass is_space h.0 h.2), h.3, h.4, h.5, ap (λ l. 32 ∷ l) h.6)

word_of_part : (b : ℕ) (part : List ℕ) → is_spaceless (b ∷ part) ≡ true → IsWord (b ∷ part)
word_of_part b part h = record {
  some = omega arith;
  spaceless = AllPass-from_list_all (λ byte. not (is_space byte)) (b ∷ part) h;
}

blank : AllPass is_space []
blank = AllPass-from_list_all is_space [] refl

joined_words : (part : List ℕ) (parts : List (List ℕ)) → AllSpaceless (part ∷ parts) → HasWords (join_with_byte 32 (part ∷ parts)) (nonempty (part ∷ parts))
joined_words [] [] h = blank
joined_words (b ∷ part) [] h =
    subst (HasWords (b ∷ part)) (sym (full_word (b ∷ part) [] (omega arith)))
    ([], [], blank, word_of_part b part h.0, tt, blank, sym (append-nil (b ∷ part)))
joined_words [] (next ∷ parts) h = space_first (join_with_byte 32 (next ∷ parts)) (nonempty (next ∷ parts)) (joined_words next parts h.1)
joined_words (b ∷ part) (next ∷ parts) h =
    subst (HasWords (join_with_byte 32 ((b ∷ part) ∷ next ∷ parts))) (sym (full_word (b ∷ part) (next ∷ parts) (omega arith))) (
      [],
      32 ∷ join_with_byte 32 (next ∷ parts),
      blank,
      word_of_part b part h.0,
      refl,
      space_first (join_with_byte 32 (next ∷ parts)) (nonempty (next ∷ parts)) (joined_words next parts h.1),
      refl,
    )

of_parts : (parts : List (List ℕ)) → 1 ≤ length parts → AllSpaceless parts → HasWords (join_with_byte 32 parts) (nonempty parts)
of_parts [] some h = absurd (omega arith)
of_parts (part ∷ parts) some h = joined_words part parts h

pub has_words_of : (line : List ℕ) → HasWords line (words_of line)
has_words_of line =
    let parts = slice_split is_space line in
    let some : 1 ≤ length parts = let count = length-slice_split is_space line in omega arith in
    subst (λ l. HasWords l (words_of line)) (join_with_byte-slice_split 32 line) (of_parts parts some (split_spaceless line))

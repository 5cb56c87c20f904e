-- Words are read as their form says, and as no command where they have none.
use Rattle.std.proofs.Common.{◌≡◌, ℕ, ◌<◌, ◌&&◌, ◌⊎◌, inl, inr, Bool, true, false, not, nat_eq, bytes_eq, List, [], ◌∷◌, ◌++◌, zero, suc, nat_lt, drop, codes, None, Err, refl, ap, sym, ◌∙◌, arith}
use Rattle.std.proofs.lemmas.Bool.{and_parts, ltb-true}
use Rattle.std.proofs.lemmas.Bool.Decides.{Decides-eqb}
use Rattle.std.proofs.lemmas.Slice.Eq.{starts_is}
use Rattle.std.specs.Cmp.Lexicographic.{bytes_decides}
use Rattle.std.specs.List.{starts_with, slice_index_or}
use Rattle.vm_commands.specs.declared.error.LineFault.TheVariants.{Bad}
use Rattle.vm_commands.specs.LineGrammar.{Form, FormStart, FormDestroy, FormMemory, FormMinimum, FormShares, FormStatistics, IsDomain, HasForm, minimum_words}
use Rattle.vm_commands.specs.Lines.{is_domain, set_minimum, domain_command, joined_size, tune_joined, sized_command, tune_command, command_of_words}
use Rattle.vm_commands.proofs.Choices.{decided}
use Rattle.vm_commands.proofs.MeaningLaws.{meaning_of}

domain_reads : (domain : List ℕ) → IsDomain domain → is_domain domain ≡ true
domain_reads domain h = ap not h

not_true : (b : Bool) → not b ≡ true → b ≡ false
not_true true h = absurd cc
not_true false h = refl

domain_from : (domain : List ℕ) → is_domain domain ≡ true → IsDomain domain
domain_from domain h = not_true (starts_with nat_eq domain (codes "-")) h

-- ---- words of a form are read as that form

minimum_reads : (page : ℕ) (words : List (List ℕ)) (domain size : List ℕ) (k : ℕ) → is_domain domain ≡ true → k < 4 → slice_index_or (minimum_words domain size) k words ≡ words → command_of_words page words ≡ set_minimum page domain size
unfolding command_of_words sized_command tune_joined joined_size tune_command
minimum_reads page words domain size zero named below is = ap (command_of_words page) (sym is) ∙ rw named refl
minimum_reads page words domain size (suc zero) named below is = ap (command_of_words page) (sym is) ∙ rw named refl
minimum_reads page words domain size (suc (suc zero)) named below is = ap (command_of_words page) (sym is) ∙ rw named refl
minimum_reads page words domain size (suc (suc (suc zero))) named below is = ap (command_of_words page) (sym is) ∙ rw named refl
minimum_reads page words domain size (suc (suc (suc (suc k)))) named below is = absurd (omega arith)

pub form_reads : (page : ℕ) (words : List (List ℕ)) (form : Form) → HasForm words form → command_of_words page words ≡ meaning_of page form
unfolding command_of_words domain_command sized_command
form_reads page words (FormStart domain) h = ap (command_of_words page) h.1 ∙ rw (domain_reads domain h.0) refl
form_reads page words (FormDestroy domain) h = ap (command_of_words page) h.1 ∙ rw (domain_reads domain h.0) refl
form_reads page words (FormMemory domain size) h = ap (command_of_words page) h.1 ∙ rw (domain_reads domain h.0) refl
form_reads page words (FormMinimum domain size) h = minimum_reads page words domain size h.1.0 (domain_reads domain h.0) h.1.1 h.1.2
form_reads page words (FormShares domain number) h = ap (command_of_words page) h.1 ∙ rw (domain_reads domain h.0) refl
form_reads page words (FormStatistics domain) h = ap (command_of_words page) h.1 ∙ rw (domain_reads domain h.0) refl

-- ---- words are read as no command, or they have a form

abbrev pub HasSomeForm : List (List ℕ) → Type 0
HasSomeForm words = (form : Form) × HasForm words form

same_text : (a b : List ℕ) → bytes_eq a b ≡ true → a ≡ b
same_text a b h = (bytes_decides a b).0 h

one_domain : (kind domain : List ℕ) → HasSomeForm (kind ∷ domain ∷ []) ⊎ (domain_command kind domain ≡ Err Bad)
unfolding domain_command
one_domain kind domain = elim (decided (is_domain domain)) [
  | inr option ↦ inr (rw option refl)
  | inl named ↦ elim (decided (bytes_eq kind (codes "start"))) [
    | inl start ↦ inl (FormStart domain, (domain_from domain named, ap (λ k. k ∷ domain ∷ []) (same_text kind (codes "start") start)))
    | inr no_start ↦ elim (decided (bytes_eq kind (codes "destroy"))) [
      | inl destroy ↦ inl (FormDestroy domain, (domain_from domain named, ap (λ k. k ∷ domain ∷ []) (same_text kind (codes "destroy") destroy)))
      | inr no_destroy ↦ elim (decided (bytes_eq kind (codes "dommemstat"))) [
        | inl show ↦ inl (FormStatistics domain, (domain_from domain named, ap (λ k. k ∷ domain ∷ []) (same_text kind (codes "dommemstat") show)))
        | inr no_show ↦ inr (rw (named, no_start, no_destroy, no_show) refl)
      ]
    ]
  ]
]

-- an option with a joined SIZE
joined_from : (option : List ℕ) → ((size : List ℕ) × (option ≡ codes "--min-guarantee=" ++ size)) ⊎ (joined_size option ≡ None)
unfolding joined_size
joined_from option = elim (decided (starts_with nat_eq option (codes "--min-guarantee="))) [
  | inl starts ↦ inl (drop 16 option, (starts_is Decides-eqb option (codes "--min-guarantee=") _ refl).0 starts)
  | inr other ↦ inr (rw other refl)
]

minimum_form : (words : List (List ℕ)) (domain size : List ℕ) (k : ℕ) → is_domain domain ≡ true → nat_lt k 4 ≡ true → slice_index_or (minimum_words domain size) k words ≡ words → HasSomeForm words
minimum_form words domain size k named below is = (FormMinimum domain size, (domain_from domain named, (k, ltb-true k 4 below, is)))

-- a domain and an option, in either order
tuned : (page : ℕ) (words : List (List ℕ)) (kind domain option : List ℕ) → kind ≡ codes "memtune" → (words ≡ kind ∷ domain ∷ option ∷ []) ⊎ (words ≡ kind ∷ option ∷ domain ∷ []) → HasSomeForm words ⊎ (tune_joined page domain option ≡ Err Bad)
unfolding tune_joined
tuned page words kind domain option memtune order = elim (decided (is_domain domain)) [
  | inr dashed ↦ inr (rw dashed refl)
  | inl named ↦ elim (joined_from option) [
    | inr none ↦ inr (rw (named, none) refl)
    | inl joined ↦ inl (elim order [
      | inl first ↦ minimum_form words domain joined.0 2 named refl (sym (first ∙ (λ i. memtune i ∷ domain ∷ joined.1 i ∷ [])))
      | inr last ↦ minimum_form words domain joined.0 3 named refl (sym (last ∙ (λ i. memtune i ∷ joined.1 i ∷ domain ∷ [])))
    ])
  ]
]

two_arguments : (page : ℕ) (kind a b : List ℕ) → HasSomeForm (kind ∷ a ∷ b ∷ []) ⊎ (sized_command page kind a b ≡ Err Bad)
unfolding sized_command
two_arguments page kind a b = elim (decided (bytes_eq kind (codes "memtune"))) [
  | inl tune ↦ elim (decided (is_domain a)) [
    | inl named ↦ rw (tune, named) (tuned page (kind ∷ a ∷ b ∷ []) kind a b (same_text kind (codes "memtune") tune) (inl refl))
    | inr dashed ↦ rw (tune, dashed) (tuned page (kind ∷ a ∷ b ∷ []) kind b a (same_text kind (codes "memtune") tune) (inr refl))
  ]
  | inr no_tune ↦ elim (decided (is_domain a)) [
    | inr dashed ↦ inr (rw (no_tune, dashed) refl)
    | inl named ↦ elim (decided (bytes_eq kind (codes "setmem"))) [
      | inl memory ↦ inl (FormMemory a b, (domain_from a named, ap (λ k. k ∷ a ∷ b ∷ []) (same_text kind (codes "setmem") memory)))
      | inr no_memory ↦ elim (decided (bytes_eq kind (codes "memshares"))) [
        | inl shares ↦ inl (FormShares a b, (domain_from a named, ap (λ k. k ∷ a ∷ b ∷ []) (same_text kind (codes "memshares") shares)))
        | inr no_shares ↦ inr (rw (no_tune, named, no_memory, no_shares) refl)
      ]
    ]
  ]
]

three_arguments : (page : ℕ) (kind a b c : List ℕ) → HasSomeForm (kind ∷ a ∷ b ∷ c ∷ []) ⊎ (tune_command page kind a b c ≡ Err Bad)
unfolding tune_command
three_arguments page kind a b c = elim (decided (bytes_eq kind (codes "memtune"))) [
  | inr no_tune ↦ inr (rw no_tune refl)
  | inl tune ↦ elim (decided (is_domain a && bytes_eq b (codes "--min-guarantee"))) [
    | inl first ↦
        let parts = and_parts (is_domain a) (bytes_eq b (codes "--min-guarantee")) first in
        let kind_is = same_text kind (codes "memtune") tune in
        let option_is = same_text b (codes "--min-guarantee") parts.1 in
        inl (minimum_form (kind ∷ a ∷ b ∷ c ∷ []) a c 0 parts.0 refl (λ i. sym kind_is i ∷ a ∷ sym option_is i ∷ c ∷ []))
    | inr no_first ↦ elim (decided (bytes_eq a (codes "--min-guarantee") && is_domain c)) [
      | inl last ↦
          let parts = and_parts (bytes_eq a (codes "--min-guarantee")) (is_domain c) last in
          let kind_is = same_text kind (codes "memtune") tune in
          let option_is = same_text a (codes "--min-guarantee") parts.0 in
          inl (minimum_form (kind ∷ a ∷ b ∷ c ∷ []) c b 1 parts.1 refl (λ i. sym kind_is i ∷ sym option_is i ∷ b ∷ c ∷ []))
      | inr no_last ↦ inr (rw (tune, no_first, no_last) refl)
    ]
  ]
]

pub form_or_bad : (page : ℕ) (words : List (List ℕ)) → HasSomeForm words ⊎ (command_of_words page words ≡ Err Bad)
unfolding command_of_words
form_or_bad page [] = inr refl
form_or_bad page (kind ∷ []) = inr refl
form_or_bad page (kind ∷ a ∷ []) = one_domain kind a
form_or_bad page (kind ∷ a ∷ b ∷ []) = two_arguments page kind a b
form_or_bad page (kind ∷ a ∷ b ∷ c ∷ []) = three_arguments page kind a b c
form_or_bad page (kind ∷ a ∷ b ∷ c ∷ d ∷ words) = inr refl

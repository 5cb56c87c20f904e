-- Drafts, and the texts that they are of.
use Rattle.std.proofs.Common.{◌≡◌, ◌∙◌, ℕ, suc, ◌+◌, ◌-◌, ◌==◌, false, List, [], ◌∷◌, ◌++◌, codes, length, drop, if◌then◌else◌, refl, sym, ap, arith, append_assoc, length-append, length-drop}
use Rattle.std.proofs.lemmas.Bool.Decides.{nat_tests}
use Rattle.std.proofs.lemmas.List.{append-nil, drop-append-le}
use Rattle.vm_import.specs.Drafts.{DraftView, listed_behind, with_steps}
use Rattle.vm_import.specs.Guests.{Guest}
use Rattle.vm_import.specs.Limits.{limit_passed, passed_by}
use Rattle.vm_import.specs.Progress.{IsDraft, limit_of, opening_of}
use Rattle.vm_import.specs.Settings.{Settings}
use Rattle.vm_import.specs.Texts.{head_of, listed, quoted, tail_of, text_of}

pub listed_behind-append : (count : ℕ) (xs ys : List (List ℕ))
    → listed_behind count (xs ++ ys) ≡ listed_behind count xs ++ listed_behind (count + length xs) ys
listed_behind-append count [] ys = let same : count + 0 ≡ count = omega arith in rw same refl
listed_behind-append count (x ∷ xs) ys =
    let same : count + 1 + length xs ≡ count + suc (length xs) = omega arith in
    ap (λ (l : List ℕ). (if count == 0 then [] else codes ",") ++ (quoted x ++ l))
    (listed_behind-append (count + 1) xs ys ∙ ap (λ (n : ℕ). listed_behind (count + 1) xs ++ listed_behind n ys) same)
    ∙ simp append_assoc

not_first : (count : ℕ) → (suc count == 0) ≡ false
not_first count = grind (arith, nat_tests)

-- more steps behind one
listed-cons : (count : ℕ) (x : List ℕ) (xs : List (List ℕ)) → listed (x ∷ xs) ≡ quoted x ++ listed_behind (suc count) xs
listed-cons count x [] = sym (append-nil (quoted x))
listed-cons count x (y ∷ xs) =
    let same : suc (count + 1) ≡ suc count + 1 = omega arith in
    rw (not_first count)
    (ap (λ (l : List ℕ). quoted x ++ (44 ∷ l))
    (listed-cons (count + 1) y xs ∙ ap (λ (n : ℕ). quoted y ++ listed_behind n xs) same))

pub listed-all : (xs : List (List ℕ)) → listed xs ≡ listed_behind 0 xs
listed-all [] = refl
listed-all (x ∷ xs) = listed-cons 0 x xs

pub listed-append : (xs ys : List (List ℕ)) → listed (xs ++ ys) ≡ listed xs ++ listed_behind (length xs) ys
listed-append xs ys =
    let same : 0 + length xs ≡ length xs = omega arith in
    listed-all (xs ++ ys) ∙ listed_behind-append 0 xs ys
    ∙ ap (λ (n : ℕ). listed_behind 0 xs ++ listed_behind n ys) same
    ∙ ap (λ (l : List ℕ). l ++ listed_behind (length xs) ys) (sym (listed-all xs))

module _ (settings : Settings) (guest : Guest) where
  -- the guest with more steps, and of another size
  abbrev pub larger : ℕ → List (List ℕ) → Guest
  larger size steps = record { size = size; trace = guest.trace ++ steps }

  pub opening-more : (size : ℕ) (steps : List (List ℕ))
      → opening_of settings (larger size steps) ≡ opening_of settings guest ++ listed_behind (length guest.trace) steps
  unfolding opening_of
  opening-more size steps =
      ap (λ (l : List ℕ). head_of settings ++ l) (listed-append guest.trace steps) ∙ sym (append_assoc (head_of settings) (listed guest.trace) _)

  pub IsDraft-more : (size : ℕ) (steps : List (List ℕ)) (draft : DraftView)
      → IsDraft settings guest draft → IsDraft settings (larger size steps) (with_steps draft steps)
  IsDraft-more size steps draft is =
      let more = listed_behind (length guest.trace) steps in
      let whole : opening_of settings (larger size steps) ≡ opening_of settings guest ++ more = opening-more size steps in
      let within = is.within in
      record {
        within = rw (whole, length-append (opening_of settings guest) more) (omega arith);
        text =
            rw (whole, drop-append-le draft.written (opening_of settings guest) more within)
            (ap (λ (l : List ℕ). l ++ listed_behind draft.steps steps) is.text
            ∙ ap (λ (n : ℕ). drop draft.written (opening_of settings guest) ++ listed_behind n steps) is.steps);
        steps = ap (λ (n : ℕ). n + length steps) is.steps ∙ sym (length-append guest.trace steps);
      }

  -- the whole text is the draft with what stands behind its last step
  pub length-text : (draft : DraftView) → IsDraft settings guest draft
      → draft.written + length draft.text + length (tail_of settings guest.size (length guest.trace)) ≡ length (text_of settings guest)
  unfolding opening_of text_of
  length-text draft is =
      let tail = tail_of settings guest.size (length guest.trace) in
      let within = is.within in
      let left : length draft.text ≡ length (opening_of settings guest) - draft.written =
      ap length is.text ∙ length-drop draft.written (opening_of settings guest) in
      let parts : length (head_of settings ++ listed guest.trace) + length tail ≡ length (head_of settings ++ (listed guest.trace ++ tail)) =
      omega (
        arith,
        length-append (head_of settings) (listed guest.trace),
        length-append (listed guest.trace) tail,
        length-append (head_of settings) (listed guest.trace ++ tail),
      ) in
      omega arith

  -- and passes what its guest passes
  pub limit_of-draft : (draft : DraftView) → IsDraft settings guest draft
      → limit_of settings guest.size draft ≡ passed_by settings guest
  unfolding passed_by
  limit_of-draft draft is =
      ap (λ (n : ℕ). limit_passed settings n guest.size (draft.written + length draft.text + length (tail_of settings guest.size n))) is.steps
      ∙ ap (λ (n : ℕ). limit_passed settings (length guest.trace) guest.size n) (length-text draft is)

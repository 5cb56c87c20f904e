-- What is written of a draft, and what of its text that is.
use Rattle.std.proofs.Common.{◌≡◌, ◌∙◌, ℕ, Bool, true, false, ◌+◌, ◌-◌, ◌==◌, List, [], ◌++◌, length, take, if◌then◌else◌, Option, Some, None, sym, ap, subst, arith, append_assoc, length-drop}
use Rattle.std.proofs.KnownBytes.{Appends-trans}
use Rattle.std.proofs.lemmas.List.{append-nil, drop_all, take_all, take-append-drop}
use Rattle.std.specs.Io.KnownBytes.{Appends, Keeps}
use Rattle.vm_streams.specs.Streams.{AppendsFront}
use Rattle.vm_streams.proofs.StreamLemmas.{AppendsFront-longer, Appends-then_front}
use Rattle.vm_import.specs.Drafts.{DraftView, all_written}
use Rattle.vm_import.specs.Guests.{Guest}
use Rattle.vm_import.specs.Importing.{after_interval, written_then}
use Rattle.vm_import.specs.Progress.{IsDraft, opening_of}
use Rattle.vm_import.specs.Settings.{Settings}
use Rattle.vm_import.specs.Texts.{head_of, listed, tail_of, text_of}

module _ (settings : Settings) (guest : Guest) (draft : DraftView) (is : IsDraft settings guest draft) where
  opening : List ℕ
  opening = opening_of settings guest

  reaches : draft.written + length draft.text ≡ length opening
  unfolding opening
  reaches =
      let within = is.within in
      let left : length draft.text ≡ length (opening_of settings guest) - draft.written = ap length is.text ∙ length-drop draft.written (opening_of settings guest) in
      omega arith

  -- a draft that is written is of the same text
  pub IsDraft-written : IsDraft settings guest (all_written draft)
  unfolding opening
  IsDraft-written =
      let end = reaches in
      record {
        within = omega arith;
        text = sym (drop_all (draft.written + length draft.text) (opening_of settings guest) (omega arith));
        steps = is.steps;
      }

  pub IsDraft-after : (pages : ℕ) → IsDraft settings guest (after_interval pages draft)
  IsDraft-after pages = cases (pages == 0)
    where
      cases : (b : Bool) → IsDraft settings guest (if b then draft else all_written draft)
      cases b = elim b as (λ b. IsDraft settings guest (if b then draft else all_written draft)) [ true ↦ is | false ↦ IsDraft-written ]

  -- what was written and what waits are the text so far
  pub parts : take draft.written (opening_of settings guest) ++ draft.text ≡ opening_of settings guest
  parts =
      ap (λ (l : List ℕ). take draft.written (opening_of settings guest) ++ l) is.text
      ∙ take-append-drop draft.written (opening_of settings guest)

  module _ (old mid new : Option (List ℕ)) (written : Appends old mid (take draft.written (opening_of settings guest))) where
    -- after an interval
    pub written-after : (pages : ℕ) → Appends mid new (written_then pages draft)
        → Appends old new (take (after_interval pages draft).written (opening_of settings guest))
    unfolding opening
    written-after pages behind = cases (pages == 0) behind
      where
        cases : (b : Bool) → Appends mid new (if b then [] else draft.text)
            → Appends old new (take (if b then draft else all_written draft).written (opening_of settings guest))
        cases b = elim b as (λ b. Appends mid new (if b then [] else draft.text)
            → Appends old new (take (if b then draft else all_written draft).written (opening_of settings guest))) [
              | true ↦ λ none. subst (Appends old new) (append-nil (take draft.written (opening_of settings guest)))
                  (Appends-trans old mid new _ [] written none)
              | false ↦ λ all. subst (Appends old new)
                  (parts ∙ sym (take_all (draft.written + length draft.text) (opening_of settings guest) (let end = reaches in omega arith)))
                  (Appends-trans old mid new _ draft.text written all)
            ]

    -- a front of what waits is written
    pub front-after : AppendsFront mid new draft.text → AppendsFront old new (text_of settings guest)
    unfolding text_of opening_of
    front-after front =
        let tail = tail_of settings guest.size (length guest.trace) in
        subst (AppendsFront old new) (append_assoc _ _ tail)
        (AppendsFront-longer old new _ tail
        (subst (AppendsFront old new) parts (Appends-then_front old mid new _ draft.text written front)))

    -- what was written, and what waits with what stands behind the last step, is the whole text
    whole : (tail : List ℕ) → tail ≡ tail_of settings guest.size (length guest.trace)
        → take draft.written (opening_of settings guest) ++ (draft.text ++ tail) ≡ text_of settings guest
    unfolding text_of opening_of
    whole tail same =
        let written = take draft.written (head_of settings ++ listed guest.trace) in
        let there : written ++ draft.text ≡ head_of settings ++ listed guest.trace = parts in
        sym (append_assoc written draft.text tail) ∙ ap (λ (l : List ℕ). l ++ tail) there
        ∙ ap (λ (l : List ℕ). (head_of settings ++ listed guest.trace) ++ l) same
        ∙ append_assoc (head_of settings) (listed guest.trace) (tail_of settings guest.size (length guest.trace))

    pub written-all : (tail : List ℕ) → tail ≡ tail_of settings guest.size (length guest.trace)
        → Appends mid new (draft.text ++ tail) → Appends old new (text_of settings guest)
    written-all tail same all =
        subst (Appends old new) (whole tail same) (Appends-trans old mid new _ (draft.text ++ tail) written all)

    -- a front of it
    pub front-all : (tail : List ℕ) → tail ≡ tail_of settings guest.size (length guest.trace)
        → AppendsFront mid new (draft.text ++ tail) → AppendsFront old new (text_of settings guest)
    front-all tail same front =
        subst (AppendsFront old new) (whole tail same) (Appends-then_front old mid new _ (draft.text ++ tail) written front)

  -- what was written is a front of the whole text
  pub front-written : (old new : Option (List ℕ)) → Appends old new (take draft.written (opening_of settings guest))
      → AppendsFront old new (text_of settings guest)
  unfolding text_of opening_of
  front-written old new written =
      let tail = tail_of settings guest.size (length guest.trace) in
      subst (AppendsFront old new) (append_assoc _ _ tail) (AppendsFront-longer old new _ tail (draft.written, written))

-- what has no bytes is as it was
pub Appends-none : (old new : Option (List ℕ)) → Appends old new [] → Keeps old new
Appends-none None new is = tt
Appends-none (Some xs) None is = absurd is
Appends-none (Some xs) (Some ys) is = is ∙ append-nil xs

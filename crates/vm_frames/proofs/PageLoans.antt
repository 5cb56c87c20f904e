-- The ghost steps of a block's pages, each by induction over the pages. Assumes `Logic`.
use Rattle.std.proofs.Common.{◌≡◌, ℕ, zero, suc, ◌+◌, ◌-◌, ◌*◌, ◌<◌, ◌≤◌, [], ◌∷◌, refl, sym, subst, arith}
use seplogic.Ra.Ura.{Ura}
use mir.Syntax.{Ty, w8, ty_int, ty_array}
use prog.Memory.{size}
use base.Logic.{SProp, ent, sep, wand}
use base.Fml.{Fml, fsep, froom, fbor, fdead}
use types.Logic.{Logic, sem}
use types.Kit.{‵, ◌⊛◌, later, ◌$◌, ◌∵◌, !, qed, move, keep, drop, frame, assume, use0, use1, use2, split, fsplit, fjoin, rewrite, await, updating, now, done}
use types.Tokens.{bor_new, lent_back}
use denote.RawPtr.Room.{past_bytes, room_cut, room_glue}
use denote.Steps.{nothing}
use Rattle.vm_frames.specs.Ownership.{lent, loans}

abbrev byte : Ty
byte = ty_int w8

module _ {M : Type 1} {𝓤 : Ura M} (𝓛 : Logic 𝓤) where
  open 𝓛 use {H}

  abbrev ⟦◌⟧ : Fml → SProp 𝓤
  ⟦ P ⟧ = sem 𝓛 P

  module _ (a : ℕ) (τ : Ty) (b : ℕ) where
    -- each room is borrowed for a
    pub lend : (n o : ℕ) → ent 𝓤 ⟦ froom (ty_array τ n) b o ⟧ (H.⇛ ⟦ fsep (loans a τ n b o) (lent a τ n b o) ⟧)
    lend zero o = qed 𝓛 (‵ (froom (ty_array τ 0) b o) ∷ []) ∵ updating ! $ now ! $ drop ! $ nothing ! $ nothing ! $ fjoin ! $ done !
    lend (suc n) o =
        qed 𝓛 (‵ (froom (ty_array τ (suc n)) b o) ∷ []) ∵ updating ! $
        use1 𝓛 (‵ (froom τ b o) ⊛ ‵ (froom (ty_array τ n) b (o + size τ))) (𝓛.laws.room_uncons τ n b o) $ split ! $ bor_new ! tt (a ∷ []) $ move ! (2 ∷ []) $
        use1 𝓛 (later (‵ (fsep (loans a τ n b (o + size τ)) (lent a τ n b (o + size τ))))) (lend n (o + size τ)) $ await ! tt $ fsplit ! $
        -- [the other loans; what is lent by them; the first loan; what is lent by it]
        move ! (2 ∷ 0 ∷ []) $ fjoin ! $ move ! (2 ∷ 1 ∷ []) $ fjoin ! $ move ! (1 ∷ 0 ∷ []) $ fjoin ! $ now ! $ done !

    -- once a has ended, the rooms are back
    pub regain : (n o : ℕ) → ent 𝓤 (sep 𝓤 ⟦ fdead (a ∷ []) ⟧ ⟦ lent a τ n b o ⟧) (H.⇛ ⟦ froom (ty_array τ n) b o ⟧)
    regain zero o = qed 𝓛 (‵ (fdead (a ∷ [])) ∷ ‵ (lent a τ 0 b o) ∷ []) ∵ updating ! $ now ! $ use0 𝓛 (‵ (froom (ty_array τ 0) b o)) (𝓛.laws.room_nil τ b o) $ keep ! (0 ∷ []) $ done !
    regain (suc n) o =
        qed 𝓛 (‵ (fdead (a ∷ [])) ∷ ‵ (lent a τ (suc n) b o) ∷ []) ∵ updating ! $ use1 𝓛 (‵ (fdead (a ∷ [])) ⊛ ‵ (fdead (a ∷ []))) (𝓛.lfts.dead_dup (a ∷ [])) $ split ! $
        move ! (2 ∷ []) $ fsplit ! $ move ! (2 ∷ 0 ∷ []) $ lent_back ! tt $ move ! (2 ∷ 1 ∷ []) $
        use2 𝓛 (later (‵ (froom (ty_array τ n) b (o + size τ)))) (regain n (o + size τ)) $ await ! tt $ move ! (1 ∷ 0 ∷ []) $
        use2 𝓛 (‵ (froom (ty_array τ (suc n)) b o)) (𝓛.laws.room_cons τ n b o) $ now ! $ done !

    -- the first loan, and the others
    pub first_loan : (n o : ℕ) → 0 < n → ent 𝓤 ⟦ loans a τ n b o ⟧ (sep 𝓤 ⟦ fbor (a ∷ []) (froom τ b o) ⟧ ⟦ loans a τ (n - 1) b (o + size τ) ⟧)
    first_loan zero o some = absurd (omega arith)
    first_loan (suc n) o some =
        let same : n ≡ suc n - 1 = omega arith in
        qed 𝓛 (‵ (loans a τ (suc n) b o) ∷ []) ∵ fsplit ! $ move ! (1 ∷ []) $ rewrite ! 0 (λ k. ‵ (loans a τ k b (o + size τ))) same refl $ move ! (1 ∷ 0 ∷ []) $ done !

  abbrev rm : ℕ → ℕ → ℕ → Fml
  rm n b o = froom (ty_array byte n) b o

  -- room for bytes is cut and glued
  bytes_cut : (m n b o : ℕ) → ent 𝓤 ⟦ rm (m + n) b o ⟧ (sep 𝓤 ⟦ rm m b o ⟧ ⟦ rm n b (o + m) ⟧)
  bytes_cut m n b o = subst (λ (k : ℕ). ent 𝓤 ⟦ rm (m + n) b o ⟧ (sep 𝓤 ⟦ rm m b o ⟧ ⟦ rm n b k ⟧)) (past_bytes m o) (room_cut 𝓛 byte m n b o)

  bytes_glue : (m n b o : ℕ) → ent 𝓤 (sep 𝓤 ⟦ rm m b o ⟧ ⟦ rm n b (o + m) ⟧) ⟦ rm (m + n) b o ⟧
  bytes_glue m n b o = subst (λ (k : ℕ). ent 𝓤 (sep 𝓤 ⟦ rm m b o ⟧ ⟦ rm n b k ⟧) ⟦ rm (m + n) b o ⟧) (past_bytes m o) (room_glue 𝓛 byte m n b o)

  -- room for n * s bytes is room for n pages of s bytes, and back
  paged : (s n b o : ℕ) → ent 𝓤 ⟦ rm (n * s) b o ⟧ ⟦ froom (ty_array (ty_array byte s) n) b o ⟧
  paged s zero b o = qed 𝓛 (‵ (rm (zero * s) b o) ∷ []) ∵ drop ! $ use0 𝓛 (‵ (froom (ty_array (ty_array byte s) 0) b o)) (𝓛.laws.room_nil (ty_array byte s) b o) $ done !
  paged s (suc n) b o =
      let first : suc n * s ≡ s + n * s = omega arith in
      let one : o + s ≡ o + s * 1 = omega arith in
      qed 𝓛 (‵ (rm (suc n * s) b o) ∷ []) ∵ rewrite ! 0 (λ k. ‵ (rm k b o)) first refl $
      use1 𝓛 (‵ (rm s b o) ⊛ ‵ (rm (n * s) b (o + s))) (bytes_cut s (n * s) b o) $ split ! $ move ! (1 ∷ []) $
      use1 𝓛 (‵ (froom (ty_array (ty_array byte s) n) b (o + s))) (paged s n b (o + s)) $ rewrite ! 0 (λ k. ‵ (froom (ty_array (ty_array byte s) n) b k)) one refl $ move ! (1 ∷ 0 ∷ []) $
      use2 𝓛 (‵ (froom (ty_array (ty_array byte s) (suc n)) b o)) (𝓛.laws.room_cons (ty_array byte s) n b o) $ done !

  unpaged : (s n b o : ℕ) → ent 𝓤 ⟦ froom (ty_array (ty_array byte s) n) b o ⟧ ⟦ rm (n * s) b o ⟧
  unpaged s zero b o =
      let none : 0 ≡ zero * s = omega arith in
      qed 𝓛 (‵ (froom (ty_array (ty_array byte s) 0) b o) ∷ []) ∵ drop ! $ use0 𝓛 (‵ (rm 0 b o)) (𝓛.laws.room_nil byte b o) $ rewrite ! 0 (λ k. ‵ (rm k b o)) none refl $ done !
  unpaged s (suc n) b o =
      let first : s + n * s ≡ suc n * s = omega arith in
      let one : o + s * 1 ≡ o + s = omega arith in
      qed 𝓛 (‵ (froom (ty_array (ty_array byte s) (suc n)) b o) ∷ []) ∵
      use1 𝓛 (‵ (rm s b o) ⊛ ‵ (froom (ty_array (ty_array byte s) n) b (o + s * 1))) (𝓛.laws.room_uncons (ty_array byte s) n b o) $ split ! $ move ! (1 ∷ []) $
      rewrite ! 0 (λ k. ‵ (froom (ty_array (ty_array byte s) n) b k)) one refl $ use1 𝓛 (‵ (rm (n * s) b (o + s))) (unpaged s n b (o + s)) $ move ! (1 ∷ 0 ∷ []) $
      use2 𝓛 (‵ (rm (s + n * s) b o)) (bytes_glue s (n * s) b o) $ rewrite ! 0 (λ k. ‵ (rm k b o)) first refl $ done !

  -- of room for c bytes, room for n pages that begin at the byte `lead`, and the way back
  pub pages_out : (s lead n c b o : ℕ) → lead + n * s ≤ c
      → ent 𝓤 ⟦ rm c b o ⟧ (sep 𝓤 ⟦ froom (ty_array (ty_array byte s) n) b (o + lead) ⟧ (wand 𝓤 ⟦ froom (ty_array (ty_array byte s) n) b (o + lead) ⟧ ⟦ rm c b o ⟧))
  pages_out s lead n c b o within =
      let spare : ℕ = c - (lead + n * s) in
      let whole : lead + (n * s + spare) ≡ c = omega arith in
      qed 𝓛 (‵ (rm c b o) ∷ []) ∵ rewrite ! 0 (λ k. ‵ (rm k b o)) (sym whole) refl $
      use1 𝓛 (‵ (rm lead b o) ⊛ ‵ (rm (n * s + spare) b (o + lead))) (bytes_cut lead (n * s + spare) b o) $ split ! $ move ! (1 ∷ []) $
      use1 𝓛 (‵ (rm (n * s) b (o + lead)) ⊛ ‵ (rm spare b (o + lead + n * s))) (bytes_cut (n * s) spare b (o + lead)) $ split ! $
      use1 𝓛 (‵ (froom (ty_array (ty_array byte s) n) b (o + lead))) (paged s n b (o + lead)) $ frame ! $
      assume ! (‵ (froom (ty_array (ty_array byte s) n) b (o + lead))) $ use1 𝓛 (‵ (rm (n * s) b (o + lead))) (unpaged s n b (o + lead)) $
      use2 𝓛 (‵ (rm (n * s + spare) b (o + lead))) (bytes_glue (n * s) spare b (o + lead)) $ move ! (1 ∷ 0 ∷ []) $
      use2 𝓛 (‵ (rm (lead + (n * s + spare)) b o)) (bytes_glue lead (n * s + spare) b o) $ rewrite ! 0 (λ k. ‵ (rm k b o)) whole refl $ done !

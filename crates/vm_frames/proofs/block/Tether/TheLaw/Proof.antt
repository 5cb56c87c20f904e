-- A `&` to it shows a `&` to the owner, by what the owner lends. Assumes `Logic`.
use Rattle.std.proofs.Common.{ℕ, ◌+◌, List, [], ◌∷◌, refl, sym}
use base.Fraction.{full_share}
use base.Logic.{ent, sep, wand, apply∗, ex_i}
use base.Fml.{Fml, Lft, Share, fsep, fex, fbor, finv, flft}
use base.Share
use mir.Val.{Val}
use seplogic.Ra.Ura.{Ura}
use types.Logic.{Logic, sem, lfts}
use types.Kit.{‵, ◌⊛◌, raw, later, await, ◌$◌, ◌∵◌, !, qed, by, move, drop, use1, use2, split, fsplit, fjoin, fpick, fpack, rewrite, updating, now, done}
use types.Tokens.{bor_fracture}
use denote.Laws.{Is, shows as shown}
use denote.Memory.{cell_raw, part_at, part_of, raw_all}
use denote.Model.Laws.{Lends-as, Lends-some}
use denote.Param.Laws.{Laws, IsCopy}
use denote.RattleType.{RattleType}
use denote.RawPtr.{RawPtr, ptr_val, block_of, count_of}
use denote.Sharing.{ShrLaws, said, one, beside, some, always, held}
use denote.SharingLaws.{contraction, some_shr_laws}
use denote.Steps.{peeks}
use denote.Struct.Field.{row_field}
use denote.Copied.{Struct-Copied}
use denote.Struct.Laws.{RawPtr-copy, Copyables, copies, copieds, copy_spells, copy_Tellss, copy_row_laws, alones, stills}
use denote.Struct.Lending.{Lends, Lends-both, Lends-first, Lends-said}
use denote.Struct.Struct.{Shape, machine, Struct-Tells, Struct-row_laws, struct_copy}
use Rattle.std.specs.declared.alloc.Allocator.{Ghosts}
use Rattle.std_alloc.proofs.SharedLaws.{arc_fields_laws}
use Rattle.std_alloc.specs.Arc.Ownership.{fields_shared, owner_shares, ptr_in_block, value_and_blocks}
use Rattle.vm_frames.specs.contracts.block.Block as Block
use Rattle.vm_frames.specs.Ownership.{Hold}
use Rattle.vm_frames.specs.Tethers.{Wrapped, OwnerBits, Owner, IsTied, owner_count, owner_shown, owner_lent, owner_locked}
use Rattle.vm_frames.specs.contracts.block.Tether as C
use Rattle.vm_frames.specs.contracts.block.Tether.TheInside as Inside
use Rattle.vm_frames.proofs.BlockWalks.{one as wrapped}
use Rattle.vm_frames.proofs.block.Block.TheLaws as block-laws
use Rattle.vm_frames.proofs.block.Tether.TheInside.TheLaws as inside-laws
use Rattle.vm_frames.proofs.block.Tether.TheLaw.Statement.{statement, shows_statement}

abbrev wrapped_copy : (R : RattleType) → IsCopy R → IsCopy (Wrapped R)
wrapped_copy R c =
    let Fs = row_field R ∷ [] in
    let cs : Copyables Fs = (c, tt) in
    let S : Shape = record { name = []; args = []; types = []; fields = R ∷ [] } in
    record {
      val = machine S (copy_spells Fs cs);
      tells = Struct-Tells S (copy_spells Fs cs) (copy_Tellss Fs cs);
      copies = λ M 𝓤 𝓛. struct_copy 𝓛 S (copies 𝓛 Fs cs);
      still = stills Fs cs;
      alone = refl;
      copied = λ M 𝓤 𝓛. Struct-Copied 𝓛 S (alones Fs cs) (copieds 𝓛 Fs cs);
      shr_laws = Struct-row_laws S (copy_row_laws Fs cs);
    }

abbrev bits_copy : IsCopy OwnerBits
bits_copy = wrapped_copy (Wrapped RawPtr) (wrapped_copy RawPtr RawPtr-copy)

module _ {M : Type 1} {𝓤 : Ura M} (𝓛 : Logic 𝓤) where
  open 𝓛 use {H, A}

  -- what can be had twice is shown as it is
  Lends-kept : (P : Fml) (l : Lft) → ent 𝓤 (sem 𝓛 P) (sep 𝓤 (sem 𝓛 P) (sem 𝓛 P)) → Lends 𝓛 P (said P) l
  Lends-kept P l twice κ ts inc sp = qed 𝓛 (‵ (fbor κ P) ∷ raw (lfts 𝓛 ts) ∷ []) {P = H.⇛ (sep 𝓤 (sem 𝓛 P) (lfts 𝓛 ts))} (
      updating ! $ use2 𝓛 (later (‵ P ⊛ raw (wand 𝓤 (sem 𝓛 P) (H.⇛ (sep 𝓤 (A.bor κ P) (lfts 𝓛 ts)))))) (𝓛.more.bor_acc_by κ ts P sp) $ await ! tt $ split ! $
      use1 𝓛 (‵ P ⊛ ‵ P) twice $ split ! $ move ! (0 ∷ 2 ∷ []) $
      use2 𝓛 (later (‵ (fbor κ P) ⊛ raw (lfts 𝓛 ts))) (apply∗ 𝓤 (sem 𝓛 P) (H.⇛ (sep 𝓤 (A.bor κ P) (lfts 𝓛 ts)))) $ await ! tt $ split ! $ drop ! $ move ! (1 ∷ 0 ∷ []) $ now ! $ done !)

  Lends-map : (P : Fml) (s t : Lft → Fml) (l : Lft) → ((κ : Lft) → ent 𝓤 (sem 𝓛 (s κ)) (sem 𝓛 (t κ))) → Lends 𝓛 P s l → Lends 𝓛 P t l
  Lends-map P s t l into lends κ ts inc sp = qed 𝓛 (‵ (fbor κ P) ∷ raw (lfts 𝓛 ts) ∷ []) {P = H.⇛ (sep 𝓤 (sem 𝓛 (t κ)) (lfts 𝓛 ts))} (
      updating ! $ use2 𝓛 (later (‵ (s κ) ⊛ raw (lfts 𝓛 ts))) (lends κ ts inc sp) $ await ! tt $ split ! $ use1 𝓛 (‵ (t κ)) (into κ) $ now ! $ done !)

  Lends-token : (ν : Lft) (q : Share) (l : Lft) → Lends 𝓛 (flft ν q) (one (λ r. flft ν r)) l
  Lends-token ν q l κ ts inc sp = qed 𝓛 (‵ (fbor κ (flft ν q)) ∷ raw (lfts 𝓛 ts) ∷ []) ∵ updating ! $ bor_fracture ! tt (λ r. flft ν r) q $ now ! $ done !

module _ (T : RattleType) (g : Ghosts T.Denot) (L : Laws T) where
  abbrev F : RattleType
  F = Inside.the_row T g

  abbrev inside : Owner T g → F.Denot
  inside x = record { block = x }

  abbrev fields : Owner T g → OwnerBits.Denot
  fields x = ((x.ptr, tt), tt)

  abbrev bits : Owner T g → List Val
  bits x = wrapped (wrapped (ptr_val x.ptr)) ∷ []

  abbrev Keys : Type 0
  Keys = ℕ × ℕ × Share × Share

  shown_laws : (x : Owner T g) → ShrLaws (fields_shared T g.dealloc_token (Block.the_row T g) x.ptr x.value)
  shown_laws x = arc_fields_laws T g.dealloc_token (Block.the_row T g) L.shr_laws (block-laws.the_row_laws T g L).shr_laws x.ptr x.value

  module _ (h : Hold) (b o : ℕ) where
    -- an owner in memory, by what it lends
    abbrev lent : Owner T g → ℕ → Share → Fml
    lent x n s = fsep (part_at OwnerBits full_share (fields x) b o) (fsep (ptr_in_block x.ptr) (fsep (flft (n ∷ []) (Share.right s)) (fsep (finv (owner_count T g x n)) (owner_shown T g x n))))

    abbrev locked : Owner T g → List Val → Keys → Fml
    locked x vs w = owner_locked T g (F.own_val (inside x) vs) h.page w

    abbrev all : Owner T g → Keys → Fml
    all x w = fsep (lent x w.0 w.2) (locked x (bits x) w)

    abbrev Whole : Fml
    Whole = fex (Owner T g) (λ x. fex (IsTied h x.value.first) (λ _. fex Keys (all x)))

    -- and by what a `&` to it shows
    abbrev seen : Owner T g → ℕ → Lft → Fml
    seen x n = beside (OwnerBits.shr_at (fields x) b o) (beside (said (ptr_in_block x.ptr)) (beside (one (λ q. flft (n ∷ []) q)) (beside (always (owner_count T g x n)) (held (n ∷ []) (fields_shared T g.dealloc_token (Block.the_row T g) x.ptr x.value)))))

    module _ {M : Type 1} {𝓤 : Ura M} (𝓛 : Logic 𝓤) where
      out : ent 𝓤 (sem 𝓛 (part_at (C.the_written T g) full_share h b o)) (sem 𝓛 Whole)
      unfolding part_of
      out = qed 𝓛 (‵ (part_at (C.the_written T g) full_share h b o) ∷ []) ∵ fpick ! (λ vs. fsplit ! $ move ! (1 ∷ []) $ fpick ! (λ x. fpick ! (λ tied. fpick ! (λ w. fsplit ! $ fsplit ! $
          -- [the bits; what else is lent; what is locked; the cell]
          peeks ! OwnerBits (Is OwnerBits) (shown 𝓛 OwnerBits) (fields x) vs (λ is. move ! (3 ∷ 0 ∷ []) $ fjoin ! $
          fpack ! (List Val) (λ us. fsep (cell_raw full_share (raw_all OwnerBits.mir) us b o) (OwnerBits.own_val (fields x) us)) vs $ move ! (0 ∷ 1 ∷ []) $ fjoin ! $
          move ! (1 ∷ []) $ rewrite ! 0 (λ us. ‵ (locked x us w)) (bits_copy.tells (fields x) vs is) refl $ move ! (1 ∷ 0 ∷ []) $ fjoin ! $
          fpack ! Keys (all x) w $ fpack ! (IsTied h x.value.first) (λ _. fex Keys (all x)) tied $ fpack ! (Owner T g) (λ y. fex (IsTied h y.value.first) (λ _. fex Keys (all y))) x $ done !)))))

      back : ent 𝓤 (sem 𝓛 Whole) (sem 𝓛 (part_at (C.the_written T g) full_share h b o))
      unfolding part_of
      back =
          let held_at = λ (x : Owner T g) (vs : List Val) (w : Keys). fsep (owner_lent T g x w.0 w.2 vs) (locked x vs w) in
          qed 𝓛 (‵ Whole ∷ []) ∵ fpick ! (λ x. fpick ! (λ tied. fpick ! (λ w. fsplit ! $ fsplit ! $ fpick ! (λ vs. fsplit ! $ move ! (1 ∷ []) $
          -- [the bits; the cell; what else is lent; what is locked]
          peeks ! OwnerBits (Is OwnerBits) (shown 𝓛 OwnerBits) (fields x) vs (λ is. move ! (0 ∷ 2 ∷ []) $ fjoin ! $
          move ! (2 ∷ []) $ rewrite ! 0 (λ us. ‵ (locked x us w)) (sym (bits_copy.tells (fields x) vs is)) refl $ move ! (1 ∷ 0 ∷ []) $ fjoin ! $
          fpack ! Keys (held_at x vs) w $ fpack ! (IsTied h x.value.first) (λ _. fex Keys (held_at x vs)) tied $ fpack ! (Owner T g) (λ y. fex (IsTied h y.value.first) (λ _. fex Keys (held_at y vs))) x $
          move ! (1 ∷ 0 ∷ []) $ fjoin ! $ fpack ! (List Val) (λ us. fsep (cell_raw full_share (raw_all F.mir) us b o) (C.the_own T g h us)) vs $ done !)))))

      shows_owner : (x : Owner T g) (κ : Lft) → ent 𝓤 (sem 𝓛 (some Keys (λ w. seen x w.0) κ)) (sem 𝓛 (F.shr_at (inside x) b o κ))
      shows_owner x κ = qed 𝓛 (‵ (some Keys (λ w. seen x w.0) κ) ∷ []) ∵ fpick ! (λ w. fsplit ! $ fsplit ! $ fsplit ! $
          -- [the pointer; nothing; what is left of its place; what the owner lends]
          let t = g.dealloc_token in
          let B = Block.the_row T g in
          move ! (3 ∷ []) $ fsplit ! $ move ! (1 ∷ []) $ fpack ! ℕ (λ n. owner_shares (value_and_blocks T t B x.ptr x.value) (block_of x.ptr) (count_of x.ptr + 0) n (fields_shared T t B x.ptr x.value) κ) w.0 $
          move ! (1 ∷ 0 ∷ []) $ fjoin ! $ move ! (1 ∷ 0 ∷ []) $ fjoin ! $ fjoin ! $ fjoin ! $ done !)

      lends : (l : Lft) → Lends 𝓛 (part_at (C.the_written T g) full_share h b o) ((C.the_written T g).shr_at h b o) l
      lends l =
          Lends-as 𝓛 (part_at (C.the_written T g) full_share h b o) Whole ((C.the_written T g).shr_at h b o) l out back
          (Lends-some 𝓛 (Owner T g) (λ x. fex (IsTied h x.value.first) (λ _. fex Keys (all x))) (λ x. some (IsTied h x.value.first) (λ _. F.shr_at (inside x) b o)) l (λ x.
          Lends-some 𝓛 (IsTied h x.value.first) (λ _. fex Keys (all x)) (λ _. F.shr_at (inside x) b o) l (λ _.
          Lends-map 𝓛 (fex Keys (all x)) (some Keys (λ w. seen x w.0)) (F.shr_at (inside x) b o) l (shows_owner x)
          (Lends-some 𝓛 Keys (all x) (λ w. seen x w.0) l (λ w.
          let here = ptr_in_block x.ptr in
          let ν : Lft = w.0 ∷ [] in
          let token = flft ν (Share.right w.2) in
          let I = owner_count T g x w.0 in
          let sh = fields_shared T g.dealloc_token (Block.the_row T g) x.ptr x.value in
          Lends-first 𝓛 (lent x w.0 w.2) (locked x (bits x) w) (seen x w.0) l
          (Lends-both 𝓛 (part_at OwnerBits full_share (fields x) b o) (fsep here (fsep token (fsep (finv I) (sh ν)))) (OwnerBits.shr_at (fields x) b o) (beside (said here) (beside (one (λ q. flft ν q)) (beside (always I) (held ν sh)))) l
          (λ κ ts. (bits_copy.copied M 𝓤 𝓛).shares full_share l (fields x) κ ts b o)
          (Lends-both 𝓛 here (fsep token (fsep (finv I) (sh ν))) (said here) (beside (one (λ q. flft ν q)) (beside (always I) (held ν sh))) l (Lends-said 𝓛 here (λ _. tt) l)
          (Lends-both 𝓛 token (fsep (finv I) (sh ν)) (one (λ q. flft ν q)) (beside (always I) (held ν sh)) l (Lends-token 𝓛 ν (Share.right w.2) l)
          (Lends-both 𝓛 (finv I) (sh ν) (always I) (held ν sh) l (Lends-kept 𝓛 (finv I) l (𝓛.invs.inv_dup I)) (Lends-kept 𝓛 (sh ν) l (contraction 𝓛 sh (shown_laws x) ν)))))))))))

pub shares : (T : RattleType) (g : Ghosts T.Denot) (L : Laws T) → statement T g L
shares T g L = record {
  shr_laws = λ h b o. some_shr_laws (Owner T g) (λ x. some (IsTied h x.value.first) (λ _. (F T g L).shr_at (inside T g L x) b o)) (λ x.
      some_shr_laws (IsTied h x.value.first) (λ _. (F T g L).shr_at (inside T g L x) b o) (λ _. (inside-laws.the_row_laws T g L).shr_laws (inside T g L x) b o));
  shares = λ M 𝓤 𝓛 h κ ts b o. lends T g L h b o 𝓛 (C.the_written T g).lives κ ts;
}

pub shows : (T : RattleType) (g : Ghosts T.Denot) (L : Laws T) → shows_statement T g L
shows T g L M 𝓤 𝓛 h b o κ =
    qed 𝓛 (‵ ((C.the_written T g).shr_at h b o κ) ∷ []) ∵ fpick ! (λ x. fpick ! (λ tied.
    by ! (ex_i 𝓤 (λ (a : (a : (F T g L).Denot) × C.the_shown T g h a). sem 𝓛 ((F T g L).shr_at a.0 b o κ)) (inside T g L x, tied))))

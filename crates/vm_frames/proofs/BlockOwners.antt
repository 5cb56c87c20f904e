-- What an `Arc` of a block tells. Assumes `Logic`.
use Rattle.std.proofs.Common.{ℕ, ◌+◌, [], ◌∷◌, Bool, false}
use base.Logic.{SProp, comm∗, ent, sep, ex}
use base.Fml.{Incl-refl, Fml, Lft, Share, fsep, fwand, finv, flft, fshr_bor}
use contract.BorrowLft.{◌⊑◌}
use types.Kit.{later, use2, await, updating, now, suffices, ‵, ◌$◌, ◌∵◌, !, qed, ◌⊛◌, move, drop, use1, split, frame, assume, show, fsplit, fsplit3, fjoin, fjoin3, fpick, fpack, done}
use types.RcWeak.{part, part_in}
use Rattle.std_alloc.specs.Owners.{sole_or_counted}
use Rattle.std_alloc.specs.Arc.Ownership.{sole_owns, counted_owns, owner_owns, value_and_blocks, fields_shared, ptr_in_block}
use Rattle.vm_frames.specs.Tethers.{Wrapped, owner_count, owner_shown}
use denote.Laws.{Is, shows}
use denote.Steps.{peeks, owned}
use denote.Sharing.{said}
use denote.Struct.Struct.{Struct-Makes}
use Rattle.std_alloc.proofs.ArcSteps.{arc-Settles}
use seplogic.Ra.Ura.{Ura}
use denote.Sharing.{ShrLaws}
use Rattle.std_alloc.proofs.SharedLaws.{arc_fields_laws}
use ghost.Rules.{Halves}
use denote.SharingLaws.{contraction, said_shr_laws}
use Rattle.std_alloc.proofs.arc.Arc.TheLaws as arc-laws
use mir.Val.{Val}
use Rattle.vm_frames.proofs.BlockWalks.{plainly, one, one_made}
use types.Logic.{Logic, sem}
use denote.RattleType.{RattleType}
use denote.Param.Laws.{Laws}
use denote.RawPtr.{RawPtr, rawptr_pure, block_of, count_of}
use Rattle.std.specs.declared.alloc.Allocator.{Ghosts}
use Rattle.std_alloc.specs.contracts.arc.Arc as Arc
use Rattle.vm_frames.specs.contracts.block.Block as Block
use Rattle.vm_frames.proofs.block.Block.TheLaws as block-laws

module _ (P : RattleType) (g : Ghosts P.Denot) (LP : Laws P) where
  abbrev pub B : RattleType
  B = Block.the_row P g

  abbrev pub Counted : RattleType
  Counted = Arc.the_row B P g

  abbrev pub counted-laws : Laws Counted
  counted-laws = arc-laws.the_row_laws B P g (block-laws.the_row_laws P g LP) LP

  fields_laws : (d : Counted.Denot) → ShrLaws (fields_shared P g.dealloc_token B d.ptr d.value)
  fields_laws d = arc_fields_laws P g.dealloc_token B LP.shr_laws (block-laws.the_row_laws P g LP).shr_laws d.ptr d.value

  module _ {M : Type 1} {𝓤 : Ura M} (𝓛 : Logic 𝓤) (d : Counted.Denot) where
    abbrev Bits : RattleType
    Bits = Wrapped RawPtr

    abbrev Shown : ℕ → Fml
    Shown a = fsep (ptr_in_block d.ptr) (fsep (finv (owner_count P g d a)) (owner_shown P g d a))

    abbrev pub Out : Val → ℕ × Share → SProp 𝓤
    Out u s =
        sep 𝓤 (sem 𝓛 (fshr_bor (s.0 ∷ []) (λ q. flft (d.value.life ∷ []) q)))
        (sep 𝓤 (sem 𝓛 (flft (s.0 ∷ []) s.1))
        (sep 𝓤 (sem 𝓛 (Bits.own_val (d.ptr, tt) (u ∷ [])))
        (sep 𝓤 (sem 𝓛 (Shown s.0))
        (sem 𝓛 (fwand (flft (s.0 ∷ []) s.1) ((plainly (Counted ∷ [])).own_val (d, tt) (one u ∷ [])))))))

    -- an owner is its share of a token, under which the block's lifetime lasts, what it shows for that token's lifetime, and the way back
    pub owner_out : (u : Val) (τ : Lft) (r : Share) → τ ⊑ P.lives
        → ent 𝓤 (sep 𝓤 (sem 𝓛 (Counted.own_val d (u ∷ []))) (sem 𝓛 (flft τ r))) (𝓛.H.⇛ (sep 𝓤 (ex 𝓤 (Out u)) (sem 𝓛 (flft τ r))))
    owner_out u τ r lives =
        let t = g.dealloc_token in
        let p = d.ptr in
        let L = block-laws.the_row_laws P g LP in
        let sh = fields_shared P t B p d.value in
        let V = value_and_blocks P t B p d.value in
        let counted = counted_owns P t B p d.value in
        let here = ptr_in_block p in
        qed 𝓛 (‵ (Counted.own_val d (u ∷ [])) ∷ ‵ (flft τ r) ∷ []) ∵ updating ! $ fsplit ! $ peeks ! Bits (Is Bits) (shows 𝓛 Bits) (p, tt) (u ∷ []) (λ is. move ! (1 ∷ []) $ fsplit ! $ move ! (1 ∷ 3 ∷ []) $
        use2 𝓛 (later (‵ counted ⊛ ‵ (flft τ r))) (arc-Settles P B t LP L 𝓛 p d.value τ lives (block-laws.the_within P g τ lives) τ r (Incl-refl τ)) $ await ! tt $ now ! $ split ! $
        suffices ! _ (comm∗ 𝓤 (sem 𝓛 (flft τ r)) (ex 𝓤 (Out u))) $ move ! (1 ∷ []) $ frame ! $
        fpick ! (λ a. fsplit3 ! $ fpick ! (λ e. fpick ! (λ counts. move ! (2 ∷ []) $
        let I = owner_count P g d a in
        use1 𝓛 (‵ (sh (a ∷ [])) ⊛ ‵ (sh (a ∷ []))) (contraction 𝓛 sh (fields_laws d) (a ∷ [])) $ split ! $ use1 𝓛 (‵ (sh (a ∷ [])) ⊛ ‵ (sh (a ∷ []))) (contraction 𝓛 sh (fields_laws d) (a ∷ [])) $ split ! $
        fsplit ! $ move ! (1 ∷ []) $ drop ! $ fsplit ! $ drop ! $ fsplit ! $ drop ! $ show ! (Out u) (a, e) $
        -- [a share of the block's token; what is shown, twice; the token; the count; the place; the bits]
        frame ! $ move ! (2 ∷ []) $ frame ! $ owned ! Bits (Is Bits) (Struct-Makes 𝓛 (record { name = []; args = []; types = []; fields = RawPtr ∷ [] }) (rawptr_pure, tt)) (p, tt) (u ∷ []) is $ frame ! $
        move ! (2 ∷ []) $ use1 𝓛 (‵ (finv I) ⊛ ‵ (finv I)) (𝓛.invs.inv_dup I) $ split ! $
        move ! (4 ∷ []) $ use1 𝓛 (‵ here ⊛ ‵ here) (contraction 𝓛 (said here) (said_shr_laws here (λ _. tt)) []) $ split ! $
        move ! (2 ∷ 4 ∷ []) $ fjoin ! $ move ! (1 ∷ 0 ∷ []) $ fjoin ! $ frame ! $
        -- [the place; the count; what is shown; the bits]
        assume ! (‵ (flft (a ∷ []) e)) $ use1 𝓛 (‵ (part 63 a)) (part_in 63 𝓛 a e counts) $
        move ! (0 ∷ 2 ∷ 3 ∷ []) $ fjoin3 ! $ fpack ! ℕ (λ i. owner_owns V (block_of p) (count_of p + 0) i sh) a $
        fpack ! Bool (sole_or_counted (sole_owns P t B p d.value) counted) false $ move ! (1 ∷ 0 ∷ []) $ fjoin ! $ move ! (1 ∷ 0 ∷ []) $ fjoin ! $
        one_made ! Counted d u $ done !))))

pub token_halves : {M : Type 1} {𝓤 : Ura M} (𝓛 : Logic 𝓤) (ν : Lft) → Halves 𝓤 𝓛.H 𝓛.A (λ q. flft ν q)
token_halves 𝓛 ν = record { cut = 𝓛.lfts.lft_split ν; join = 𝓛.lfts.lft_join ν }

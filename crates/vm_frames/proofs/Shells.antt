-- An empty `Vec` of bytes is room for pages and the way back. Assumes `Logic`.
use Rattle.std.proofs.Common.{◌≡◌, ℕ, ◌+◌, ◌-◌, ◌*◌, ◌<◌, ◌≤◌, [], ◌∷◌, true, refl, sym, subst, arith, Vec}
use Rattle.std.proofs.lemmas.Bool.{ne_eqb, not_from_false}
use seplogic.Ra.Ura.{Ura}
use mir.Syntax.{Ty, w8, ty_int, ty_array}
use mir.Raw.{raw}
use mir.Val.{Val}
use base.Logic.{ent, sep, guard, never, id⊢, apply∗}
use base.Fml.{fwand, froom}
use types.Logic.{Logic, sem}
use types.Kit.{‵, ◌⊛◌, ◌$◌, ◌∵◌, !, qed, move, frame, assume, show, check, use1, use2, split, fsplit, fjoin, rewrite, done}
use denote.RattleType.{RattleType}
use denote.Builtin.{u8}
use denote.RawPtr.{Ptr, block_ptr, room_for, in_block, in_a_block, ◌+ₚ◌}
use Rattle.std.specs.declared.alloc.Allocator.{Ghosts}
use Rattle.std.specs.Allocator.{block_with_items}
use Rattle.std_alloc.specs.Vec.Ownership.{owns_if, has_block}
use Rattle.std_alloc.specs.contracts.vec.Vec as V
use Rattle.vm_frames.specs.Ownership.{Extent, IsPlaced, pages_type}
use Rattle.vm_frames.specs.contracts.block.Shell as Shell
use Rattle.vm_frames.proofs.BlockWalks.{plainly, one, one_made}
use Rattle.vm_frames.proofs.PageLoans.{pages_out}

module _ (P : RattleType) (g : Ghosts P.Denot) {M : Type 1} {𝓤 : Ura M} (𝓛 : Logic 𝓤) (v : Vec ℕ P.Denot) (u : Val) (lead n : ℕ) where
  abbrev at_lead : Extent
  at_lead = record { ptr = v.ptr +ₚ lead; count = n }

  pub carve : v.len ≡ 0 → 0 < v.cap → lead + n * 4096 ≤ v.cap
      → ent 𝓤 (sem 𝓛 ((V.the_row u8 P g).own_val v (u ∷ []))) (guard 𝓤 (IsPlaced (v.ptr +ₚ lead)) (sep 𝓤 (sem 𝓛 (room_for (pages_type n) (v.ptr +ₚ lead))) (sem 𝓛 (Shell.the_own P g at_lead (one u ∷ [])))))
  carve none some within =
      let live : has_block v.cap ≡ true = not_from_false _ (ne_eqb v.cap 0 (λ e. omega arith)) in
      let t = g.dealloc_token v.alloc in
      let byte : Ty = ty_int w8 in
      let Blk = λ (p : Ptr). block_with_items t u8 p v.len v.cap v.items in
      let all : v.cap - v.len ≡ v.cap = omega arith in
      qed 𝓛 (‵ ((V.the_row u8 P g).own_val v (u ∷ [])) ∷ []) ∵ fsplit ! $ move ! (1 ∷ []) $ fsplit ! $ move ! (1 ∷ []) $
      in_a_block ! v.ptr (λ p. in_block p (owns_if (has_block v.cap) (Blk p))) (id⊢ 𝓤 (never 𝓤)) (λ b o at.
      let front : o + v.len * 1 ≡ o = omega arith in
      let placed : IsPlaced (v.ptr +ₚ lead) = subst (λ (p : Ptr). IsPlaced (p +ₚ lead)) (sym at) refl in
      rewrite ! 0 (λ y. ‵ (owns_if y (Blk (block_ptr b o)))) live refl $ fsplit ! $ move ! (1 ∷ []) $ fsplit ! $
      rewrite ! 0 (λ k. ‵ (froom (raw (ty_array byte k)) b (o + v.len * 1))) all refl $ rewrite ! 0 (λ k. ‵ (froom (raw (ty_array byte v.cap)) b k)) front refl $
      use1 𝓛 (‵ (froom (ty_array byte v.cap) b o)) (𝓛.laws.raw-room (ty_array byte v.cap) b o) $
      use1 𝓛 (‵ (froom (pages_type n) b (o + lead)) ⊛ ‵ (fwand (froom (pages_type n) b (o + lead)) (froom (ty_array byte v.cap) b o))) (pages_out 𝓛 4096 lead n v.cap b o within) $ split ! $
      -- [the pages; the way back; the right to free; the elements; the bound; the fields]
      rewrite ! 0 (λ p. ‵ (room_for (pages_type n) (p +ₚ lead))) (sym at) refl $ check ! placed $ frame ! $
      show ! (λ i. sem 𝓛 (fwand (room_for (pages_type n) (v.ptr +ₚ lead)) ((plainly (V.the_row u8 P g ∷ [])).own_val (i.vec, tt) (one u ∷ [])))) (record { vec = v }) $
      assume ! (‵ (room_for (pages_type n) (v.ptr +ₚ lead))) $ rewrite ! 0 (λ p. ‵ (room_for (pages_type n) (p +ₚ lead))) at refl $
      use2 𝓛 (‵ (froom (ty_array byte v.cap) b o)) (apply∗ 𝓤 (sem 𝓛 (froom (pages_type n) b (o + lead))) (sem 𝓛 (froom (ty_array byte v.cap) b o))) $
      use1 𝓛 (‵ (froom (raw (ty_array byte v.cap)) b o)) (𝓛.laws.room-raw (ty_array byte v.cap) b o) $
      rewrite ! 0 (λ k. ‵ (froom (raw (ty_array byte v.cap)) b k)) (sym front) refl $ rewrite ! 0 (λ k. ‵ (froom (raw (ty_array byte k)) b (o + v.len * 1))) (sym all) refl $
      fjoin ! $ move ! (1 ∷ 0 ∷ []) $ fjoin ! $
      rewrite ! 0 (λ y. ‵ (owns_if y (Blk (block_ptr b o)))) (sym live) refl $ rewrite ! 0 (λ p. ‵ (in_block p (owns_if (has_block v.cap) (Blk p)))) (sym at) refl $
      move ! (1 ∷ 0 ∷ []) $ fjoin ! $ move ! (1 ∷ 0 ∷ []) $ fjoin ! $ one_made ! (V.the_row u8 P g) v u $ done !)

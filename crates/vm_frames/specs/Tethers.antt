-- What an owner of a block has while a page of the block is out.
use Rattle.std.specs.Prelude.{◌≡◌, ℕ, ◌+◌, List, [], ◌∷◌}
use base.Fml.{Share, Fml, fsep, fex, fwand, froom, flft, fobor, finv}
use base.Share
use mir.Val.{Val}
use denote.RattleType.{RattleType}
use denote.RawPtr.{Ptr, RawPtr, block_of, count_of}
use denote.Struct.Struct.{Struct}
use Rattle.std.specs.Thread.Scope.{refcount_invariant}
use Rattle.std.specs.declared.alloc.Allocator.{Ghosts}
use Rattle.std_alloc.specs.Arc.Ownership.{ptr_in_block, value_and_blocks, fields_shared}
use Rattle.std_alloc.specs.declared.arc.Arc.{Arc}
use Rattle.vm_frames.specs.Ownership.{Hold, IsPlaced, page_type}
use Rattle.vm_frames.specs.declared.block.Block.{Block}
use Rattle.vm_frames.specs.contracts.block.Block as block

-- a struct of one field, by that field alone
abbrev pub Wrapped : RattleType → RattleType
Wrapped R = Struct (record { name = []; args = []; types = []; fields = R ∷ [] })

-- the machine value of an owner, which is a pointer in two structs
abbrev pub OwnerBits : RattleType
OwnerBits = Wrapped (Wrapped RawPtr)

-- the page is in a block, whose first page is at p
pub record IsTied (h : Hold) (p : Ptr) : Type 0 where
  pub placed : IsPlaced h.page
  pub first : p ≡ h.first

module _ (Z : RattleType) (g : Ghosts Z.Denot) where
  abbrev pub Owner : Type 0
  Owner = Arc (Block Z.Denot) Z.Denot

  -- what a `&` to the owner x shows: the count of the owners, whose lifetime is n, and the block
  abbrev pub owner_count : Owner → ℕ → Fml
  owner_count x n = refcount_invariant (value_and_blocks Z g.dealloc_token (block.the_row Z g) x.ptr x.value) (block_of x.ptr) (count_of x.ptr + 0) n

  abbrev pub owner_shown : Owner → ℕ → Fml
  owner_shown x n = fields_shared Z g.dealloc_token (block.the_row Z g) x.ptr x.value (n ∷ [])

  -- what can be lent of an owner: its pointer, a half of its share s of the token of n, and what it shows
  abbrev pub owner_lent : Owner → ℕ → Share → List Val → Fml
  owner_lent x n s vs = fsep (OwnerBits.own_val ((x.ptr, tt), tt) vs) (fsep (ptr_in_block x.ptr) (fsep (flft (n ∷ []) (Share.right s)) (fsep (finv (owner_count x n)) (owner_shown x n))))

  -- what locks it: the other half of s keeps out a share q of the token of the block's lifetime a, and that the page p. With s whole it is the owner again
  abbrev pub owner_locked : Fml → Ptr → ℕ × ℕ × Share × Share → Fml
  owner_locked own p w =
      fsep (fwand (flft (w.0 ∷ []) w.2) own)
      (fsep (fobor (w.0 ∷ []) (Share.left w.2) (flft (w.1 ∷ []) w.3)) (fobor (w.1 ∷ []) w.3 (froom page_type (block_of p) (count_of p))))

  -- what the owner of a block has while its page is out
  abbrev pub tether_owns : (Owner → List Val → Fml) → Hold → List Val → Fml
  tether_owns own h vs =
      fex Owner (λ x. fex (IsTied h x.value.first) (λ _. fex (ℕ × ℕ × Share × Share) (λ w. fsep (owner_lent x w.0 w.2 vs) (owner_locked (own x vs) h.page w))))

  -- what a `&` to it shows: a `&` to such an owner
  abbrev pub tether_shares : (Owner → Fml) → Hold → Fml
  tether_shares shr h = fex Owner (λ x. fex (IsTied h x.value.first) (λ _. shr x))

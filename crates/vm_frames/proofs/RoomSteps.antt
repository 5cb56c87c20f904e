-- What the walks of a room share. Assumes `Logic`.
use Rattle.std.proofs.Common.{ℕ, List, [], ◌∷◌, Option, Some, None, refl}
use seplogic.Ra.Ura.{Ura}
use mir.Val.{Val}
use base.Fraction.{full_share}
use base.Fml.{fat}
use base.Logic.{ent, sep, id⊢, never_e}
use types.Logic.{Logic, sem}
use types.Kit.{‵, ◌⊛◌, some, ◌$◌, ◌∵◌, !, qed, by, keep, use1, pick, split}
use borrow.Table.OneValue.{part_out, part_in}
use denote.Builtin.{u8}
use denote.Memory.{part_at}
use denote.Param.Laws.{Laws, of_field, array_laws}
use denote.Param.Shared.{copy_shared}
use denote.RawPtr.{Ptr, block_ptr, null_ptr, room_for}
use denote.Struct.Field.{u8-field}
use denote.Struct.Laws.{u8-laws, u8-copy}
use Rattle.vm_frames.specs.Ownership.{Page, page_type, room_owns}

abbrev pub page_laws : Laws Page
page_laws = array_laws u8 (of_field u8-field u8-laws refl (copy_shared u8-field u8-copy)) 4096

module _ {M : Type 1} {𝓤 : Ura M} (𝓛 : Logic 𝓤) where
  open 𝓛 use {H}

  -- a page is its machine value in memory
  pub page_in : (bytes : List ℕ) (b o : ℕ) (v : Val) → ent 𝓤 (sep 𝓤 (H.at full_share page_type b o v) (sem 𝓛 (Page.own_val bytes (v ∷ [])))) (sem 𝓛 (part_at Page full_share bytes b o))
  page_in bytes b o v = part_in 𝓛 Page refl full_share bytes b o v

  -- the page is forgotten
  pub emptied : (p : Ptr) (page : Option (List ℕ)) → ent 𝓤 (sem 𝓛 (room_owns p page)) (sem 𝓛 (room_for page_type p))
  emptied p None = id⊢ 𝓤 _
  emptied (block_ptr b o) (Some bytes) =
      qed 𝓛 (‵ (part_at Page full_share bytes b o) ∷ []) ∵
      use1 𝓛 (some (λ (v : Val). ‵ (fat full_share page_type b o v) ⊛ ‵ (Page.own_val bytes (v ∷ [])))) (part_out 𝓛 Page refl full_share bytes b o) $ pick ! (λ v. split ! $ keep ! (0 ∷ []) $
      by ! (𝓛.laws.at_room page_type b o v))
  emptied null_ptr (Some bytes) = never_e 𝓤 _

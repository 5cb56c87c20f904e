-- A `&` to a room is made where one to its page is. Assumes `Logic`.
use Rattle.std.proofs.Common.{ℕ, List, Option, Some, None}
use base.Fml.{Lft}
use contract.BorrowLft.{⊑_static}
use types.Logic.{Logic}
use seplogic.Ra.Ura.{Ura}
use denote.RawPtr.{Ptr, room_for}
use denote.Shares.{Shares-less}
use denote.Sharing.{ShrLaws}
use denote.SharingLaws.{nothing_shr_laws}
use denote.Struct.Lending.{Lends, lent_at_shr_laws, Lends-lies, Lends-nothing, of_Lends}
use Rattle.vm_frames.specs.Ownership.{Page, page_type, room_owns, room_shares}
use Rattle.vm_frames.specs.contracts.block.Room as C
use Rattle.vm_frames.proofs.RoomSteps.{page_laws}
use Rattle.vm_frames.proofs.block.Room.TheLaw.Statement.{statement}

laws : (p : Ptr) (page : Option (List ℕ)) → ShrLaws (room_shares p page)
laws p None = nothing_shr_laws
laws p (Some page) = lent_at_shr_laws Page page_laws.shr_laws p page

lends : {M : Type 1} {𝓤 : Ura M} (𝓛 : Logic 𝓤) (l : Lft) (p : Ptr) (page : Option (List ℕ)) → Lends 𝓛 (room_owns p page) (room_shares p page) l
lends 𝓛 l p None = Lends-nothing 𝓛 (room_for page_type p) l
lends 𝓛 l p (Some page) = Lends-lies 𝓛 Page l p page (Shares-less 𝓛 Page Page.lives l (⊑_static l) (page_laws.shares 𝓛) page)

pub shares : statement
shares = of_Lends C.struct C.the_codes C.the_heap C.the_lent (λ d p. laws d.ptr d.page) tt (λ M 𝓤 𝓛 d p. lends 𝓛 (C.the_row).lives d.ptr d.page)

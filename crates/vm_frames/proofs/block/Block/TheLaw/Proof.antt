-- A `&` to a block holds a share of its lifetime's token. Assumes `Logic`.
use mathlib.Core.List.{[], ◌∷◌}
use base.Fraction.{full_share}
use base.Fml.{fbor, flft}
use types.Logic.{lfts}
use types.Kit.{‵, raw, ◌$◌, ◌∵◌, !, qed, updating, now, done}
use types.Tokens.{bor_fracture}
use denote.RattleType.{RattleType}
use denote.RawPtr.{block_of, count_of}
use denote.Param.Laws.{Laws}
use denote.Param.Shared.{copy_shared}
use denote.Struct.Field.{RawPtr-field}
use denote.Struct.Laws.{RawPtr-copy}
use denote.Sharing.{one}
use denote.SharingLaws.{one_shr_laws}
use denote.Struct.Lending.{of_Lends, Lends-first}
use Rattle.std.specs.declared.alloc.Allocator.{Ghosts}
use Rattle.vm_frames.specs.Ownership.{lent, page_type}
use Rattle.vm_frames.specs.contracts.block.Shell as Shell
use Rattle.vm_frames.specs.contracts.block.Block as C
use Rattle.vm_frames.proofs.block.Shell.TheLaws as shell
use Rattle.vm_frames.proofs.block.Block.TheLaw.Statement.{statement}

pub shares : (T : RattleType) (g : Ghosts T.Denot) (L : Laws T) → statement T g L
shares T g L =
    of_Lends (C.struct T g) (C.the_codes T.Denot T.coded (Shell.the_row T g).coded) (C.the_heap T g) (C.the_lent T g)
    (λ d p. one_shr_laws (λ q. flft (d.life ∷ []) q)) (copy_shared RawPtr-field RawPtr-copy, (shell.the_field_shared T g L, tt)) (λ M 𝓤 𝓛 d p.
    Lends-first 𝓛 (flft (d.life ∷ []) full_share) (lent d.life page_type d.shell.count (block_of d.shell.ptr) (count_of d.shell.ptr)) (one (λ q. flft (d.life ∷ []) q)) (C.the_row T g).lives
    (λ κ ts inc sp. qed 𝓛 (‵ (fbor κ (flft (d.life ∷ []) full_share)) ∷ raw (lfts 𝓛 ts) ∷ []) ∵ updating ! $ bor_fracture ! tt (λ q. flft (d.life ∷ []) q) full_share $ now ! $ done !))

-- `page` hands out the page that a `&` to the room shows. Assumes `Logic`.
use Rattle.std.proofs.Common.{[], ◌∷◌, refl}
use Rattle.std.proofs.raw_atomic.Walks.{proved}
use base.Fml.{ftrue, fat, fhide, flft}
use base.Fraction.{full_share}
use contract.Monad.{fact}
use contract.Running.{tables}
use mir.Syntax.{named, ty_ptr}
use mir.Val.{vptr}
use types.Kit.{‵, raw, at_ret, ◌⊛◌, ◌$◌, ◌∵◌, !, qed, done, move, keep, drop, use1, split, join, fsplit, fjoin, feq_i, rewrite, suffices, frame}
use types.Run.{enter, of_opd, addr, first, blocks, exec, returns, stop}
use types.ByLocal.{alloc_all, pass_all, free_all, look_at, take_at, give_at, get, through, sets, sets_last, env}
use denote.Builtin.{RawPtr}
use denote.Exit.{yes}
use denote.Memory.{hidden_shr}
use denote.Opens.{shr_dup, unhide, hide}
use denote.RawPtr.{InBlock, at_block, block_of, count_of, ptr_val, rawptr_vals, rawptr_Tells, rawptr_Lawful}
use denote.Ref.{ShrRef, shr_vals, shr_Tells}
use denote.Signature.{plain}
use denote.Steps.{nothing, heard}
use denote.Struct.Lending.{in_block_says, lent_at, lent_out}
use denote.Struct.Struct.{Struct}
use denote.Struct.Owning.{shape}
use denote.Triple.Walked.{Stays, walk_of, says, stay_dropped, stay_none_ref, Goes-dropped, Goes-none_ref, ends_at}
use Rattle.vm_frames.specs.Frame.{bytes_of}
use Rattle.vm_frames.specs.Ownership.{Page, room_shares}
use Rattle.vm_frames.specs.Rooms.{IsWritten}
use Rattle.vm_frames.specs.contracts.block.Room as Room
use Rattle.vm_frames.proofs.block.Room.TheLaws.{the_row_laws}
use Rattle.vm_frames.specs.contracts.block.Room.page as f
use Rattle.vm_frames.proofs.block.Room.page.Statement.{statement}
use Rattle.vm_frames.proofs.block.Room.page.Code as code

abbrev stayed : Stays f.ended.signature.params f.ended.kept
stayed = (stay_none_ref (0 ∷ []) tt (plain (λ _. Room.the_row)) yes, (stay_dropped (plain (λ _. RawPtr)) yes, tt))

pub page_spec : {M : Type 1} → statement M
page_spec 𝓤 𝓛 𝓜 𝓡 wired =
    let c = f.clauses 𝓛 𝓜.mem 𝓡.returns in
    let W = walk_of 𝓛 f.ended stayed c in
    let 𝓣 = tables 𝓤 𝓛.H 𝓜 𝓡 𝓡.env in
    proved 𝓛 f.ended stayed c 𝓜 𝓡 (Goes-none_ref 𝓛 1 (0 ∷ []) tt (plain (λ _. Room.the_row)) yes, (Goes-dropped 𝓛 1 (plain (λ _. RawPtr)) yes (λ κs x w. refl), tt))
    f.Key.name code.function (code.unfolded 𝓤 𝓛.H 𝓜 𝓡 wired)
    (λ κs. (shr_vals, (rawptr_vals, tt))) (λ κs. (shr_Tells (named 0) κs.0 Room.the_row, (rawptr_Tells, tt))) (λ κs qs bounds a _ are.
    let κ = κs.0 in
    let b = a.0.ref_ptr.0 in
    let o = a.0.ref_ptr.1 in
    let d = a.0.now in
    let p = a.1.0 in
    let Words = Struct (shape Room.the_type) in
    let Asked = IsWritten d p in
    let bytes = bytes_of d.page in
    let y : W.Ghost = ((κs, qs, bounds, a, (shr_vals a.0, (rawptr_vals p, tt))), tt) in
    qed 𝓛 (((‵ (flft κ qs.0) ⊛ ‵ ftrue) ⊛ ‵ ((ShrRef (named 0) κ Room.the_row).own_val a.0 (shr_vals a.0)) ⊛ ‵ (RawPtr.own_val p (rawptr_vals p)) ⊛ ‵ ftrue) ∷ raw (fact 𝓤 Asked) ∷ []) ∵
    move ! (1 ∷ []) $ heard ! Asked (λ asked. split ! $ split ! $ move ! (2 ∷ []) $ split ! $ keep ! (0 ∷ 2 ∷ []) $
    enter ! _ _ _ _ _ $ alloc_all ! (λ l. pass_all ! refl ((tt, tt), (rawptr_Lawful 𝓛).typed p _ refl) $
    fsplit ! $ drop ! $ shr_dup ! Room.the_row the_row_laws.shr_laws d b o κ $
    use1 𝓛 (‵ (hidden_shr Words κ tt b o) ⊛ ‵ (fhide (Room.the_lent d d.ptr κ))) (lent_out 𝓛 Room.struct Room.the_codes Room.the_heap Room.the_lent κ d b o) $ split ! $ drop ! $ unhide ! $
    rewrite ! 0 (λ x. ‵ (room_shares d.ptr x κ)) asked.written refl $ rewrite ! 0 (λ r. ‵ (lent_at Page r bytes κ)) asked.place refl $
    fsplit ! $ use1 𝓛 (raw (fact 𝓤 (InBlock p))) (in_block_says 𝓛 p) $ heard ! (InBlock p) (λ inb. hide ! $
    -- [the page; the room; the token; ..]
    take_at ! 2 $ rewrite ! 0 (λ r. ‵ (fat full_share ty_ptr (l 2) 0 (ptr_val r))) (at_block p inb) refl $ give_at ! 2 $
    first ! $ blocks ! $ sets ! (of_opd ! (get ! refl)) refl (tt, tt) $
    sets_last ! (addr ! (through ! refl (stop !))) refl (tt, tt) $
    exec ! 𝓣.C 𝓣.Λ (env code.Mir.locals l) code.Mir.t-2 (at_ret _ (W.post y)) $
    sets ! (of_opd ! (get ! refl)) refl (tt, tt) $
    returns ! (look_at ! 0 refl) $ free_all ! refl $
    suffices ! _ (ends_at 𝓛 f.ended stayed c y (vptr (block_of p) (count_of p)) (record { ref_ptr = (block_of p, count_of p); now = bytes }) (tt, (tt, tt)) (tt, (tt, tt))) $ says ! refl $
    feq_i ! _ (vptr (block_of p) (count_of p) ∷ []) _ refl $ move ! (0 ∷ 1 ∷ []) $ fjoin ! $
    nothing ! $ nothing ! $ fjoin ! $ feq_i ! _ (vptr b o ∷ []) _ refl $ move ! (0 ∷ 3 ∷ []) $ fjoin ! $ move ! (0 ∷ 1 ∷ []) $ fjoin ! $
    nothing ! $ move ! (3 ∷ 0 ∷ []) $ join ! $ frame ! $ frame ! $ done !))))

-- `page_mut` lends the page, and the room follows it. Assumes `Logic`.
use Rattle.std.proofs.Common.{◌≡◌, ℕ, List, [], ◌∷◌, Some, refl, sym, ◌∙◌}
use Rattle.std.proofs.raw_atomic.Walks.{proved}
use seplogic.Ra.Ura.{Ura}
use base.Fml.{Fml, GName, ftrue, fat, fsep, flft}
use base.Fraction.{full_share}
use base.Logic.{ent, sep, id⊢, never}
use contract.Monad.{fact}
use contract.Running.{tables}
use mir.Syntax.{named, ty_ptr}
use mir.Val.{Val, vptr}
use types.Logic.{Logic, sem}
use types.Kit.{‵, raw, at_ret, ◌⊛◌, some, later, ◌$◌, ◌∵◌, !, qed, done, move, keep, drop, use1, split, join, fsplit, fsplit3, fjoin, fpack, rewrite, suffices, frame, group, pick, await, split3}
use types.Run.{enter, of_opd, addr, first, blocks, exec, returns, stop}
use types.ByLocal.{alloc_all, pass_all, free_all, look_at, take_at, give_at, get, through, sets, sets_last, env}
use denote.Builtin.{RawPtr}
use denote.Exit.{yes, no}
use denote.Follow.{follows, lends_Part}
use denote.Memory.{cell_at, mem, part_at, part_of}
use denote.RattleType.{RattleType}
use denote.RawPtr.{block_ptr, in_a_block, lies_at, ptr_val, rawptr_vals, rawptr_Tells, rawptr_Lawful}
use denote.Ref.{MutRef, mut_vals, mut_Tells}
use denote.Signature.{plain, mut_ref_to}
use denote.Steps.{nothing, heard, opens}
use denote.Struct.Struct.{Struct}
use denote.Struct.Owning.{shape}
use denote.Triple.Walked.{Stays, walk_of, says, stay_dropped, Goes-dropped, Goes-spent_ref, ends_at}
use Rattle.vm_frames.specs.Frame.{bytes_of}
use Rattle.vm_frames.specs.Ownership.{Page, room_owns}
use Rattle.vm_frames.specs.Rooms.{IsWritten}
use Rattle.vm_frames.specs.contracts.block.Room as Room
use Rattle.vm_frames.specs.contracts.block.Room.page_mut as f
use Rattle.vm_frames.proofs.block.Room.page_mut.Statement.{statement}
use Rattle.vm_frames.proofs.block.Room.page_mut.Code as code

abbrev R : RattleType
R = Room.the_row

abbrev stayed : Stays f.ended.signature.params f.ended.kept
stayed = (stay_dropped (mut_ref_to (0 ∷ []) tt (plain (λ _. R))) no, (stay_dropped (plain (λ _. RawPtr)) yes, tt))

-- the room with another page
abbrev with_page : R.Denot → List ℕ → R.Denot
with_page h w = record h { page = Some w }

module _ {M : Type 1} {𝓤 : Ura M} (𝓛 : Logic 𝓤) (h : R.Denot) (us : List Val) (b o rb ro : ℕ) where
  -- all of the room but its page
  abbrev Rest : Fml
  Rest = fsep ((Struct (shape Room.the_type)).own_val tt us) (cell_at full_share R.mir us rb ro)

  back : h.ptr ≡ block_ptr b o → (w : List ℕ) → ent 𝓤 (sep 𝓤 (sem 𝓛 ((mem Page).own_at w b o)) (sem 𝓛 Rest)) (sem 𝓛 ((mem R).own_at (with_page h w) rb ro))
  unfolding part_of
  back at w =
      qed 𝓛 (‵ (part_at Page full_share w b o) ∷ ‵ Rest ∷ []) ∵ rewrite ! 0 (λ p. ‵ (lies_at Page full_share p w)) (sym at) refl $
      move ! (1 ∷ []) $ fsplit ! $ move ! (0 ∷ 2 ∷ []) $ fjoin ! $ move ! (1 ∷ 0 ∷ []) $ fjoin ! $
      fpack ! (List Val) (λ ws. fsep (cell_at full_share R.mir ws rb ro) (R.own_val (with_page h w) ws)) us $ done !

pub page_mut_spec : {M : Type 1} → statement M
page_mut_spec 𝓤 𝓛 𝓜 𝓡 wired =
    let c = f.clauses 𝓛 𝓜.mem 𝓡.returns in
    let W = walk_of 𝓛 f.ended stayed c in
    let 𝓣 = tables 𝓤 𝓛.H 𝓜 𝓡 𝓡.env in
    proved 𝓛 f.ended stayed c 𝓜 𝓡 (Goes-spent_ref 𝓛 1 (0 ∷ []) tt (plain (λ _. R)), (Goes-dropped 𝓛 1 (plain (λ _. RawPtr)) yes (λ κs x w. refl), tt))
    f.Key.name code.function (code.unfolded 𝓤 𝓛.H 𝓜 𝓡 wired)
    (λ κs. (mut_vals, (rawptr_vals, tt))) (λ κs. (mut_Tells (named 0) κs.0 R, (rawptr_Tells, tt))) (λ κs qs bounds a _ are.
    let κ = κs.0 in
    let q = qs.0 in
    let rb = a.0.ref_ptr.0 in
    let ro = a.0.ref_ptr.1 in
    let γ = a.0.ghost_name in
    let h = a.0.now in
    let p = a.1.0 in
    let bytes = bytes_of h.page in
    let Asked = IsWritten h p in
    let y : W.Ghost = ((κs, qs, bounds, a, (mut_vals a.0, (rawptr_vals p, tt))), tt) in
    qed 𝓛 (((‵ (flft κ q) ⊛ ‵ ftrue) ⊛ ‵ ((MutRef (named 0) κ R).own_val a.0 (mut_vals a.0)) ⊛ ‵ (RawPtr.own_val p (rawptr_vals p)) ⊛ ‵ ftrue) ∷ raw (fact 𝓤 Asked) ∷ []) ∵
    move ! (1 ∷ []) $ heard ! Asked (λ asked. split ! $ split ! $ move ! (2 ∷ []) $ split ! $ keep ! (0 ∷ 2 ∷ []) $
    enter ! _ _ _ _ _ $ alloc_all ! (λ l. pass_all ! refl ((tt, tt), (rawptr_Lawful 𝓛).typed p _ refl) $
    fsplit3 ! $ drop ! $ move ! (0 ∷ 1 ∷ 2 ∷ []) $ opens ! tt R rb ro (λ us.
    -- [the struct's cell; what it owns; the open borrow, in three entries]
    move ! (1 ∷ []) $ fsplit ! $ move ! (1 ∷ []) $ rewrite ! 0 (λ x. ‵ (room_owns h.ptr x)) asked.written refl $
    rewrite ! 0 (λ r. ‵ (lies_at Page full_share r bytes)) asked.place refl $ in_a_block ! p (λ r. lies_at Page full_share r bytes) (id⊢ 𝓤 (never 𝓤)) (λ b o at.
    -- [the page; what the fields own; the struct's cell; the open borrow]
    take_at ! 2 $ rewrite ! 0 (λ r. ‵ (fat full_share ty_ptr (l 2) 0 (ptr_val r))) at refl $ give_at ! 2 $
    first ! $ blocks ! $ sets ! (of_opd ! (get ! refl)) refl (tt, tt) $
    sets_last ! (addr ! (through ! refl (stop !))) refl (tt, tt) $
    exec ! 𝓣.C 𝓣.Λ (env code.Mir.locals l) code.Mir.t-2 (at_ret _ (W.post y)) $
    sets ! (of_opd ! (get ! refl)) refl (tt, tt) $
    let rest = Rest 𝓛 h us b o rb ro in
    let kept = back 𝓛 h us b o rb ro (asked.place ∙ at) in
    move ! (1 ∷ 2 ∷ []) $ fjoin ! $ move ! (2 ∷ 3 ∷ 4 ∷ 1 ∷ 0 ∷ []) $ group ! 5 $
    use1 𝓛 (later (some (λ (γ' : GName). ‵ ((MutRef (named 0) κ Page).own_val (record { ref_ptr = (b, o); ghost_name = γ'; now = bytes }) (vptr b o ∷ [])) ⊛ ‵ (flft κ q) ⊛ ‵ (follows R Page γ γ' (with_page h)))))
    (lends_Part 𝓛 R Page (with_page h) (named 0) κ q rb ro b o γ (sem 𝓛 rest) kept (R.coded.code h) (R.coded.code h) bytes) $ await ! tt $ pick ! (λ γ'.
    returns ! (look_at ! 0 refl) $ free_all ! refl $ keep ! (0 ∷ []) $ split3 ! $
    -- [the page's borrow; the token; how the room follows]
    suffices ! _ (ends_at 𝓛 f.ended stayed c y (vptr b o) (record { ref_ptr = (b, o); ghost_name = γ'; now = bytes }) (tt, (tt, tt)) (tt, (tt, tt))) $
    nothing ! $ nothing ! $ fjoin ! $ nothing ! $ fjoin ! $ join ! $ nothing ! $ move ! (2 ∷ 0 ∷ []) $ join ! $ join ! $ frame ! $ says ! refl $ done !))))))

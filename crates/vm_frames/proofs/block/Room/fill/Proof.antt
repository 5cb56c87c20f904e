-- `fill` writes the page into its room. Assumes `Logic`.
use Rattle.std.proofs.Common.{List, [], ◌∷◌, ◌++◌, Some, refl, sym}
use seplogic.Ra.Ura.{Ura}
use base.Fml.{ftrue, fat, flft}
use base.Fraction.{full_share}
use base.Logic.{SProp, ent, id⊢, never}
use contract.Monad.{Fun, fact}
use contract.Running.{tables, tables_of}
use mir.Syntax.{ty_ptr}
use mir.Val.{Val, vptr, vunit}
use prog.Memory.{Memory}
use prog.Routine.{Routine}
use prog.Wp.{Calls, Loops, WpFn, Tables}
use sound.WpLaws.{WpFn-mono}
use types.Logic.{Logic}
use types.Kit.{‵, raw, prop, at_ret, ◌⊛◌, ◌$◌, ◌∵◌, !, qed, done, move, keep, use2, split, join, fsplit, fsplit3, fjoin, fjoin3, feq_i, feq_l, regoal, rewrite, suffices, frame}
use types.Run.{enter, of_opd, unit_lit, init, first, blocks, exec, returns, stop, assigns_last}
use types.ByLocal.{alloc_all, pass_all, free_all, look_at, take_at, give_at, get, through, sets, env}
use denote.Builtin.{RawPtr}
use denote.Exit.{yes}
use denote.Memory.{part_at}
use denote.RattleType.{owns}
use denote.RawPtr.{in_a_block, lies_at, room_for, ptr_val, rawptr_Lawful}
use denote.Ref.{mut_vals}
use denote.Signature.{plain, types_at}
use denote.Steps.{nothing, heard, opens, closes}
use denote.Triple.Clauses.{Clauses, closing}
use denote.Triple.Spec.{Meets, triple_of}
use denote.Triple.Table.{entered}
use denote.Triple.Walked.{Stays, walk_of, says, stay_ref, stay_dropped, Goes-ref, Goes-dropped, ends_at, walk_Meets}
use Rattle.std.proofs.alloc.Calls.{Goes-blank}
use Rattle.vm_frames.specs.Ownership.{Page, page_type, room_owns}
use Rattle.vm_frames.specs.Rooms.{IsEmpty}
use Rattle.vm_frames.specs.contracts.block.Room.{the_row as R}
use Rattle.vm_frames.proofs.BlockWalks.{tells}
use Rattle.vm_frames.proofs.RoomSteps.{page_laws, page_in}
use Rattle.vm_frames.specs.contracts.block.Room.fill as f
use Rattle.vm_frames.proofs.block.Room.fill.Statement as stated
use Rattle.vm_frames.proofs.block.Room.fill.Code as code

abbrev stayed : Stays f.ended.signature.params f.ended.kept
stayed = (stay_ref (0 ∷ []) tt (plain (λ _. R)), (stay_dropped (plain (λ _. RawPtr)) yes, (stay_dropped (plain (λ _. Page)) yes, tt)))

module _ {M : Type 1} {𝓤 : Ura M} (𝓛 : Logic 𝓤) (at_mem : Memory → SProp 𝓤) (run : Routine → Fun 𝓤) where
  open 𝓛 use {H}

  abbrev held : Clauses 𝓤 f.ended
  held = f.clauses 𝓛 at_mem run

  module _ (C : Calls 𝓤 H) (Λ : Loops 𝓤 H) (z : (walk_of 𝓛 f.ended stayed held).Ghost) where
    abbrev Post : Val → SProp 𝓤
    Post = (walk_of 𝓛 f.ended stayed held).post z

    walks : ent 𝓤 ((walk_of 𝓛 f.ended stayed held).pre z) (WpFn 𝓤 H C Λ code.function ((walk_of 𝓛 f.ended stayed held).args z) Post)
    walks =
        let κ = z.0.0.0 in
        let q = z.0.1.0 in
        let a = z.0.3 in
        let vss = z.0.4 in
        let rb = a.0.ref_ptr.0 in
        let ro = a.0.ref_ptr.1 in
        let h = a.0.now in
        let p = a.1.0 in
        let bytes = a.1.1.0 in
        let full : R.Denot = record h { page = Some bytes } in
        let Asked = IsEmpty h p in
        qed 𝓛 (((‵ (flft κ q) ⊛ ‵ ftrue) ⊛ ‵ (owns (types_at f.ended.signature.params z.0.0) a vss)) ∷ raw (fact 𝓤 Asked) ∷ []) ∵
        move ! (1 ∷ []) $ heard ! Asked (λ asked. split ! $ split ! $ move ! (2 ∷ []) $
        fsplit ! $ fsplit3 ! $ feq_l ! (λ is₀. move ! (2 ∷ []) $ fsplit ! $ feq_l ! (λ is₁. fsplit ! $ tells ! Page page_laws bytes vss.1.1.0 (λ v is₂ good. keep ! (0 ∷ 2 ∷ 3 ∷ 4 ∷ []) $
        -- [the page's bytes; the room's name; its borrow; the token]
        regoal ! (λ (us : List Val). prop (WpFn 𝓤 H C Λ code.function (us ++ (vss.1.0 ++ (vss.1.1.0 ++ []))) Post)) is₀ refl $
        regoal ! (λ (us : List Val). prop (WpFn 𝓤 H C Λ code.function (mut_vals a.0 ++ (us ++ (vss.1.1.0 ++ []))) Post)) is₁ refl $
        regoal ! (λ (us : List Val). prop (WpFn 𝓤 H C Λ code.function (mut_vals a.0 ++ ((ptr_val p ∷ []) ++ (us ++ []))) Post)) is₂ refl $
        enter ! C Λ code.function (vptr rb ro ∷ ptr_val p ∷ v ∷ []) Post $ alloc_all ! (λ l. pass_all ! refl ((tt, tt), (((rawptr_Lawful 𝓛).typed p _ refl).0, (good, tt))) $
        move ! (1 ∷ 2 ∷ 3 ∷ []) $ opens ! tt R rb ro (λ us.
        -- [the struct's cell; what it owns; the open borrow, in three entries; the page's bytes]
        move ! (1 ∷ []) $ fsplit ! $ move ! (1 ∷ []) $ rewrite ! 0 (λ x. ‵ (room_owns h.ptr x)) asked.empty refl $
        rewrite ! 0 (λ r. ‵ (room_for page_type r)) asked.place refl $ in_a_block ! p (λ r. room_for page_type r) (id⊢ 𝓤 (never 𝓤)) (λ b o at.
        take_at ! 2 $ rewrite ! 0 (λ r. ‵ (fat full_share ty_ptr (l 2) 0 (ptr_val r))) at refl $ give_at ! 2 $
        first ! $ blocks ! $ sets ! (of_opd ! (get ! refl)) refl (tt, tt) $
        assigns_last ! (of_opd ! (get ! refl)) (through ! refl (stop !)) (init ! 0 refl good) $
        exec ! C Λ (env code.Mir.locals l) code.Mir.t-2 (at_ret _ Post) $
        sets ! (of_opd ! (unit_lit !)) refl (tt, tt) $
        -- [the page; what the fields own; the struct's cell; the open borrow; the page's bytes]
        move ! (0 ∷ 6 ∷ []) $ use2 𝓛 (‵ (part_at Page full_share bytes b o)) (page_in 𝓛 bytes b o v) $
        rewrite ! 0 (λ r. ‵ (lies_at Page full_share r bytes)) (sym at) refl $ rewrite ! 0 (λ r. ‵ (lies_at Page full_share r bytes)) (sym asked.place) refl $
        move ! (1 ∷ 0 ∷ []) $ fjoin ! $ move ! (1 ∷ []) $ closes ! tt R full us rb ro $
        returns ! (look_at ! 0 refl) $ free_all ! refl $
        -- [two parts of self; the token]
        suffices ! _ (ends_at 𝓛 f.ended stayed held z vunit tt (full, (tt, (tt, tt))) (tt, (tt, (tt, tt)))) $ says ! refl $
        feq_i ! (List Val) vss.0 (vptr rb ro ∷ []) is₀ $ fjoin3 ! $ nothing ! $ nothing ! $ fjoin ! $ nothing ! $ fjoin ! $ move ! (1 ∷ 0 ∷ []) $ fjoin ! $
        nothing ! $ move ! (2 ∷ 0 ∷ []) $ join ! $ frame ! $ frame ! $ feq_i ! (List Val) (vunit ∷ []) (vunit ∷ []) refl $ done !)))))))

  meets : (𝓣 : Tables 𝓤 H) → Meets 𝓛 f.ended.signature (WpFn 𝓤 H 𝓣.C 𝓣.Λ code.function) (closing 𝓛 f.ended held)
  meets 𝓣 =
      walk_Meets 𝓛 f.ended stayed (Goes-ref 𝓛 1 0 tt (plain (λ _. R)), (Goes-dropped 𝓛 1 (plain (λ _. RawPtr)) yes (λ κs x w. refl), (Goes-blank 𝓛 1 (plain (λ _. Page)) yes (λ κs x w. tt), tt))) held
      (WpFn 𝓤 H 𝓣.C 𝓣.Λ code.function) (WpFn-mono 𝓤 H 𝓛.laws 𝓣 code.function) (walks 𝓣.C 𝓣.Λ)

pub fill_spec : {M : Type 1} → stated.statement M
unfolding tables_of
fill_spec 𝓤 𝓛 𝓜 𝓡 wired =
    let 𝓣 : Tables 𝓤 𝓛.H = tables_of 𝓤 𝓛.H 𝓜 (tables 𝓤 𝓛.H 𝓜 𝓡 𝓡.env) in
    entered 𝓤 𝓛.H (triple_of 𝓛 f.ended.signature (closing 𝓛 f.ended (held 𝓛 𝓜.mem 𝓡.returns))) 𝓣.C 𝓣.Λ f.Key.name code.function
    (code.unfolded 𝓤 𝓛.H 𝓜 𝓡 wired) (meets 𝓛 𝓜.mem 𝓡.returns 𝓣)

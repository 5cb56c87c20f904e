-- `first` reads the pointer through a `&`. Assumes `Logic`.
use Rattle.std.proofs.Common.{◌+◌, List, [], ◌∷◌, ◌++◌, refl}
use seplogic.Ra.Ura.{Ura}
use base.Fml.{ftrue, fhide, flft}
use base.Logic.{SProp, ent}
use contract.Monad.{Fun, fact}
use contract.Running.{tables, tables_of}
use mir.MapTy.{inst_fn}
use mir.Syntax.{Fn, Args, Dict, a_type, dcons, dnil, ty_ptr}
use mir.Val.{Val, vptr}
use prog.Memory.{Memory}
use prog.Routine.{Routine}
use prog.Wp.{Calls, Loops, WpFn, Tables}
use sound.WpLaws.{WpFn-mono}
use types.Logic.{Logic}
use types.Kit.{‵, raw, prop, ◌⊛◌, ◌$◌, ◌∵◌, !, qed, done, move, keep, drop, use1, split, join, fsplit, fjoin, feq_i, feq_l, regoal, rewrite, suffices, frame}
use types.Run.{enter, of_opd, load, look, fld, returns, stop}
use types.ByLocal.{alloc_all, pass_all, free_all, look_at, through, sets}
use denote.Copied.{plain_Copied}
use denote.Exit.{yes}
use denote.Memory.{cell_at, hidden_shr}
use denote.Opens.{shr_dup, unhide, hide}
use denote.Param.{param, bounded}
use denote.Param.Laws.{Laws, param_laws}
use denote.RattleType.{RattleType, owns}
use denote.RawPtr.{Ptr, block_ptr, RawPtr, coded_ptr, ptr_own, rawptr_pure, ptr_val, rawptr_Lawful}
use denote.Signature.{plain, types_at}
use denote.Steps.{nothing, looks, shuts}
use denote.Struct.Laws.{RawPtr-laws}
use denote.Struct.Lending.{lent_out}
use denote.Struct.Owning.{shape}
use denote.Struct.Struct.{Struct}
use denote.Triple.Clauses.{Clauses, Ended, closing}
use denote.Triple.Spec.{Meets, triple_of}
use denote.Triple.Table.{entered}
use denote.Triple.Walked.{Stays, walk_of, says, stay_none_ref, Goes-none_ref, ends_at, walk_Meets}
use Rattle.std.specs.declared.alloc.Allocator.{Ghosts}
use contract.BorrowLft.{◌⊑◌}
use Rattle.vm_frames.specs.contracts.block.Block as Block
use Rattle.vm_frames.specs.contracts.block.Shell as Shell
use Rattle.vm_frames.proofs.block.Block.TheLaws as block-laws
use Rattle.vm_frames.specs.contracts.block.Block.first as F
use Rattle.vm_frames.specs.contracts.block.Block.first.Key.{name as #self}
use Rattle.vm_frames.proofs.block.Block.first.Statement as stated
use Rattle.vm_frames.proofs.block.Block.first.Code as code

module _ (A : RattleType) (L : Laws A) (g : Ghosts A.Denot) (d dd : Dict) where
  abbrev args : Args
  args = bounded (a_type ∷ []) (A, tt) (dcons d (dcons dd dnil))

  abbrev P : RattleType
  P = param 0 A

  abbrev LP : Laws P
  LP = param_laws 0 A L

  abbrev B : RattleType
  B = Block.the_row P g

  abbrev function : Fn
  function = inst_fn args code.function

  abbrev ended : Ended
  ended = F.ended A g d dd

  abbrev stayed : Stays ended.signature.params ended.kept
  stayed = (stay_none_ref (0 ∷ []) tt (plain (λ _. B)) yes, tt)

  module _ {M : Type 1} {𝓤 : Ura M} (𝓛 : Logic 𝓤) (at_mem : Memory → SProp 𝓤) (run : Routine → Fun 𝓤) where
    open 𝓛 use {H}

    abbrev held : Clauses 𝓤 ended
    held = F.clauses A g d dd 𝓛 at_mem run

    module _ (C : Calls 𝓤 H) (Λ : Loops 𝓤 H) (z : (walk_of 𝓛 ended stayed held).Ghost) where
      abbrev Post : Val → SProp 𝓤
      Post = (walk_of 𝓛 ended stayed held).post z

      walks : ent 𝓤 ((walk_of 𝓛 ended stayed held).pre z) (WpFn 𝓤 H C Λ function ((walk_of 𝓛 ended stayed held).args z) Post)
      walks =
          let κ = z.0.0.0 in
          let r = z.0.3.0 in
          let b = r.ref_ptr.0 in
          let o = r.ref_ptr.1 in
          let x = r.now in
          let p = x.first in
          let Words = Struct (shape (Block.the_type P g)) in
          let at = (rawptr_Lawful 𝓛).typed p (ptr_val p ∷ []) refl in
          qed 𝓛 (((‵ (flft κ z.0.1.0) ⊛ ‵ (flft z.0.0.1.0 z.0.1.1.0) ⊛ ‵ ftrue) ⊛ ‵ (owns (types_at ended.signature.params z.0.0) z.0.3 z.0.4)) ∷ (raw (fact 𝓤 (z.0.0.1.0 ⊑ A.lives)) ⊛ ‵ ftrue) ∷ []) ∵
          move ! (1 ∷ []) $ drop ! $ split ! $ move ! (1 ∷ []) $ fsplit ! $ fsplit ! $ feq_l ! (λ is.
          regoal ! (λ (us : List Val). prop (WpFn 𝓤 H C Λ function (us ++ []) Post)) is refl $
          enter ! C Λ function (vptr b o ∷ []) Post $ alloc_all ! (λ l. pass_all ! refl ((tt, tt), tt) $
          shr_dup ! B (block-laws.the_row_laws P g LP).shr_laws x b o κ $
          use1 𝓛 (‵ (hidden_shr Words κ (p, (x.shell, tt)) b o) ⊛ ‵ (fhide (Block.the_lent P g x (block_ptr b o) κ)))
          (lent_out 𝓛 (Block.struct P g) (Block.the_codes P.Denot P.coded (Shell.the_row P g).coded) (Block.the_heap P g) (Block.the_lent P g) κ x b o) $ split ! $
          move ! (1 ∷ []) $ drop ! $ unhide ! $ fsplit ! $ move ! (1 ∷ []) $ drop ! $ fsplit ! $ hide ! $ move ! (1 ∷ []) $ drop ! $
          -- [the pointer; the block; nothing; the tokens; ..]
          move ! (3 ∷ []) $ split ! $ move ! (2 ∷ 0 ∷ []) $
          looks ! tt RawPtr (plain_Copied 𝓛 Ptr coded_ptr (ty_ptr ∷ []) ptr_own rawptr_pure ptr_val RawPtr-laws.tells).opens p b (o + 0) (λ q' us.
          move ! (1 ∷ []) $ feq_l ! (λ e. rewrite ! 0 (λ (ws : List Val). ‵ (cell_at q' RawPtr.mir ws b (o + 0))) e refl $
          sets ! (of_opd ! (load ! (through ! refl (fld ! refl (stop !))) (look ! 0 refl))) refl at.0 $
          feq_i ! (List Val) (ptr_val p ∷ []) (ptr_val p ∷ []) refl $ move ! (1 ∷ 0 ∷ []) $ shuts ! tt RawPtr q' p (ptr_val p ∷ []) b (o + 0) $
          -- [the token; the pointer; the other tokens; the block]
          returns ! (look_at ! 0 refl) $ free_all ! refl $
          suffices ! _ (ends_at 𝓛 ended stayed held z (ptr_val p) p (tt, tt) (tt, tt)) $ says ! refl $ keep ! (0 ∷ 2 ∷ 3 ∷ []) $
          feq_i ! (List Val) (ptr_val p ∷ []) (ptr_val p ∷ []) refl $ move ! (3 ∷ []) $ feq_i ! (List Val) z.0.4.0 (vptr b o ∷ []) is $ fjoin ! $ nothing ! $ move ! (1 ∷ 0 ∷ []) $ fjoin ! $
          move ! (2 ∷ 3 ∷ []) $ join ! $ frame ! $ frame ! $ done !))))

    meets : (𝓣 : Tables 𝓤 H) → Meets 𝓛 ended.signature (WpFn 𝓤 H 𝓣.C 𝓣.Λ function) (closing 𝓛 ended held)
    meets 𝓣 = walk_Meets 𝓛 ended stayed (Goes-none_ref 𝓛 2 (0 ∷ []) tt (plain (λ _. B)) yes, tt) held (WpFn 𝓤 H 𝓣.C 𝓣.Λ function) (WpFn-mono 𝓤 H 𝓛.laws 𝓣 function) (walks 𝓣.C 𝓣.Λ)

pub first_spec : {M : Type 1} → stated.statement M
unfolding tables_of
first_spec 𝓤 𝓛 𝓜 𝓡 wired A L g d dd met md =
    let 𝓣 : Tables 𝓤 𝓛.H = tables_of 𝓤 𝓛.H 𝓜 (tables 𝓤 𝓛.H 𝓜 𝓡 𝓡.env) in
    entered 𝓤 𝓛.H (triple_of 𝓛 (ended A L g d dd).signature (closing 𝓛 (ended A L g d dd) (held A L g d dd 𝓛 𝓜.mem 𝓡.returns))) 𝓣.C 𝓣.Λ (#self (args A L g d dd)) (function A L g d dd)
    (code.unfolded 𝓤 𝓛.H 𝓜 𝓡 wired (A, tt) d dd) (meets A L g d dd 𝓛 𝓜.mem 𝓡.returns 𝓣)

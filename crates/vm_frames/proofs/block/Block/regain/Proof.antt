-- `regain` ends the lifetime, and hands the pages back to the vector. Assumes `Logic`.
use Rattle.std.proofs.Common.{List, [], ◌∷◌, ◌++◌, refl, ap, sym}
use seplogic.Ra.Ura.{Ura}
use mir.Syntax.{ty_ptr, Fn, Args, Dict, a_type, dcons, dnil}
use mir.Val.{Val}
use mir.MapTy.{inst_fn}
use base.Fraction.{full_share}
use base.Logic.{SProp, ent, apply∗}
use base.Fml.{ftrue, fat, froom}
use prog.Memory.{Memory}
use prog.Routine.{Routine}
use prog.Wp.{Calls, Loops, WpFn, Tables}
use contract.Monad.{Fun, fact}
use contract.Running.{tables, tables_of}
use sound.WpLaws.{WpFn-mono}
use types.Logic.{Logic, sem}
use types.Kit.{‵, raw, ◌⊛◌, later, prop, ◌$◌, ◌∵◌, !, qed, move, drop, use2, split, fsplit, fjoin, fpick, group, regoal, rewrite, suffices, await, done}
use types.Part.{sub, whole}
use types.Run.{enter, returns, of_opd, fld, stop}
use types.ByLocal.{alloc_all, pass_all, free_all, look_at, take_at, give_at, get, get_in, sets}
use denote.Exit.{no}
use denote.RattleType.{RattleType, owns}
use denote.Param.{param, bounded, layout}
use denote.Builtin.{u8}
use denote.Param.Laws.{Laws, param_laws, of_field}
use denote.Signature.{plain, types_at}
use denote.Steps.{nothing, only}
use denote.Triple.Clauses.{Clauses, Ended, closing}
use denote.Triple.Entry.{alive}
use denote.Triple.Spec.{Meets, triple_of}
use denote.Triple.Table.{entered}
use denote.Triple.Walked.{Stays, stay_dropped, walk_of, ends_at, walk_Meets}
use Rattle.std.specs.declared.alloc.Allocator.{Ghosts}
use Rattle.std.proofs.alloc.Calls.{Goes-blank}
use Rattle.vm_frames.proofs.BlockWalks.{plainly, one_had, two_had, two, pointer_laws}
use contract.BorrowLft.{◌⊑◌}
use denote.Struct.Laws.{u8-laws, u8-copy}
use denote.Struct.Field.{u8-field}
use denote.Param.Shared.{copy_shared}
use denote.RawPtr.{RawPtr, block_of, count_of, room_for}
use denote.Struct.Struct.{as_fields}
use types.Tokens.{lft_end}
use Rattle.std_alloc.specs.contracts.vec.Vec as Vec
use Rattle.std_alloc.proofs.vec.Vec.TheLaws as vec_laws
use Rattle.vm_frames.specs.Ownership.{page_type, pages_type}
use Rattle.vm_frames.specs.contracts.block.Shell as Shell
use Rattle.vm_frames.proofs.block.Shell.TheLaws as shell-laws
use Rattle.vm_frames.specs.contracts.block.Block as Block
use Rattle.vm_frames.proofs.PageLoans.{regain}
use Rattle.vm_frames.specs.contracts.block.Block.regain as F
use Rattle.vm_frames.specs.contracts.block.Block.regain.Key.{name as #self}
use Rattle.vm_frames.proofs.block.Block.regain.Statement as stated
use Rattle.vm_frames.proofs.block.Block.regain.Code as code

module _ (A : RattleType) (L : Laws A) (g : Ghosts A.Denot) (d dd : Dict) where
  abbrev args : Args
  args = bounded (a_type ∷ []) (A, tt) (dcons d (dcons dd dnil))

  abbrev P : RattleType
  P = param 0 A

  abbrev LP : Laws P
  LP = param_laws 0 A L

  abbrev function : Fn
  function = inst_fn args code.function

  abbrev ended : Ended
  ended = F.ended A g d dd

  abbrev stayed : Stays ended.signature.params ended.kept
  stayed = (stay_dropped (plain (λ _. Block.the_row P g)) no, tt)

  module _ {M : Type 1} {𝓤 : Ura M} (𝓛 : Logic 𝓤) (at_mem : Memory → SProp 𝓤) (run : Routine → Fun 𝓤) where
    open 𝓛 use {H}

    abbrev held : Clauses 𝓤 ended
    held = F.clauses A g d dd 𝓛 at_mem run

    module _ (C : Calls 𝓤 H) (Λ : Loops 𝓤 H) (z : (walk_of 𝓛 ended stayed held).Ghost) where
      abbrev Post : Val → SProp 𝓤
      Post = (walk_of 𝓛 ended stayed held).post z

      abbrev toks : SProp 𝓤
      toks = alive 𝓛 ended.signature z.0.0 z.0.1

      walks : ent 𝓤 ((walk_of 𝓛 ended stayed held).pre z) (WpFn 𝓤 H C Λ function ((walk_of 𝓛 ended stayed held).args z) Post)
      walks =
          let a = z.0.3 in
          let vss = z.0.4 in
          let block = a.0 in
          let e = block.shell in
          let b = block_of e.ptr in
          let o = count_of e.ptr in
          let V = Vec.the_row u8 P g in
          let S = Shell.the_row P g in
          let B = Block.the_row P g in
          qed 𝓛 ((raw toks ⊛ ‵ (owns (types_at ended.signature.params z.0.0) a vss)) ∷ (raw (fact 𝓤 (z.0.0.0 ⊑ A.lives)) ⊛ ‵ ftrue) ∷ []) ∵
          move ! (1 ∷ []) $ drop ! $ split ! $ move ! (1 ∷ []) $
          fsplit ! $ fsplit ! $ two_had ! RawPtr S pointer_laws (shell-laws.the_row_laws P g LP) block.first e vss.0 (λ r u is₀ at good. drop ! $ fsplit ! $ fpick ! (λ typed. drop ! $ fpick ! (λ v.
          -- [the way back; what the block owns; nothing; the tokens]
          let Pages = room_for (pages_type e.count) e.ptr in
          let Whole = (plainly (V ∷ [])).own_val (v.vec, tt) (u ∷ []) in
          regoal ! (λ (us : List Val). prop (WpFn 𝓤 H C Λ function (us ++ []) Post)) is₀ refl $
          enter ! C Λ function (two r u ∷ []) Post $ alloc_all ! (λ l. pass_all ! refl (as_fields (ty_ptr ∷ layout S ∷ []) (r ∷ u ∷ []) (at, (good, tt)), tt) $
          move ! (1 ∷ []) $ fsplit ! $ lft_end ! tt $
          use2 𝓛 (later (‵ (froom (pages_type e.count) b o))) (regain 𝓛 block.life page_type b e.count o) $ await ! tt $
          rewrite ! 0 (λ r. ‵ (room_for (pages_type e.count) r)) (sym block.placed) refl $
          use2 𝓛 (‵ Whole) (apply∗ 𝓤 (sem 𝓛 Pages) (sem 𝓛 Whole)) $
          one_had ! V (vec_laws.the_row_laws u8 P g (of_field u8-field u8-laws refl (copy_shared u8-field u8-copy)) LP) v.vec (u ∷ []) (λ w shape fine.
          take_at ! 1 $ rewrite ! 0 (λ y. ‵ (fat full_share (layout B) (l 1) 0 (two r y))) (ap only shape) refl $ give_at ! 1 $
          sets ! (of_opd ! (get_in ! (fld ! refl (stop !)) (sub ! 1 refl (whole !)))) refl (as_fields (layout V ∷ []) (w ∷ []) (fine, tt)) $
          sets ! (of_opd ! (get_in ! (fld ! refl (stop !)) (sub ! 0 refl (whole !)))) refl fine $
          sets ! (of_opd ! (get ! refl)) refl fine $
          returns ! (look_at ! 0 refl) $ free_all ! refl $
          suffices ! _ (ends_at 𝓛 ended stayed held z w v.vec ((tt, (tt, tt)), tt) (tt, tt)) $
          move ! (1 ∷ []) $ drop ! $ nothing ! $ nothing ! $ fjoin ! $ move ! (2 ∷ 0 ∷ 1 ∷ []) $ group ! 3 $ nothing ! $ move ! (1 ∷ 0 ∷ []) $ done !)))))

    meets : (𝓣 : Tables 𝓤 H) → Meets 𝓛 ended.signature (WpFn 𝓤 H 𝓣.C 𝓣.Λ function) (closing 𝓛 ended held)
    meets 𝓣 =
        walk_Meets 𝓛 ended stayed (Goes-blank 𝓛 1 (plain (λ _. Block.the_row P g)) no (λ κs x f. tt), tt) held
        (WpFn 𝓤 H 𝓣.C 𝓣.Λ function) (WpFn-mono 𝓤 H 𝓛.laws 𝓣 function) (walks 𝓣.C 𝓣.Λ)

pub regain_spec : {M : Type 1} → stated.statement M
unfolding tables_of
regain_spec 𝓤 𝓛 𝓜 𝓡 wired A L g d dd met md =
    let 𝓣 : Tables 𝓤 𝓛.H = tables_of 𝓤 𝓛.H 𝓜 (tables 𝓤 𝓛.H 𝓜 𝓡 𝓡.env) in
    entered 𝓤 𝓛.H (triple_of 𝓛 (ended A L g d dd).signature (closing 𝓛 (ended A L g d dd) (held A L g d dd 𝓛 𝓜.mem 𝓡.returns))) 𝓣.C 𝓣.Λ (#self (args A L g d dd)) (function A L g d dd)
    (code.unfolded 𝓤 𝓛.H 𝓜 𝓡 wired (A, tt) d dd) (meets A L g d dd 𝓛 𝓜.mem 𝓡.returns 𝓣)

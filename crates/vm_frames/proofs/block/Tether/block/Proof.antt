-- `block` hands out the owner that a `&` shows. Assumes `Logic`.
use Rattle.std.proofs.Common.{◌+◌, List, [], ◌∷◌, ◌++◌, refl}
use seplogic.Ra.Ura.{Ura}
use base.Fml.{ftrue, flft}
use base.Logic.{SProp, ent}
use contract.Monad.{Fun, fact}
use contract.Running.{tables, tables_of}
use mir.MapTy.{inst_fn}
use mir.Syntax.{Fn, Args, Dict, a_type, dcons, dnil}
use mir.Val.{Val, vptr}
use prog.Memory.{Memory}
use prog.Routine.{Routine}
use prog.Wp.{Calls, Loops, WpFn, Tables}
use sound.WpLaws.{WpFn-mono}
use types.Logic.{Logic}
use types.Kit.{‵, raw, prop, ◌⊛◌, ◌$◌, ◌∵◌, !, qed, done, move, keep, drop, split, fsplit, fjoin, feq_i, feq_l, fpick, regoal, suffices, frame}
use types.Run.{enter, addr, fld, returns, stop}
use types.ByLocal.{alloc_all, pass_all, free_all, look_at, through, sets}
use denote.Exit.{yes}
use denote.Opens.{shr_dup, unhide, hide}
use denote.Param.{param, bounded}
use denote.Param.Laws.{Laws, param_laws}
use denote.RattleType.{RattleType, owns}
use denote.Signature.{plain, types_at}
use denote.Steps.{nothing}
use denote.Triple.Clauses.{Clauses, Ended, closing}
use denote.Triple.Spec.{Meets, triple_of}
use denote.Triple.Table.{entered}
use denote.Triple.Walked.{Stays, walk_of, says, stay_none_ref, Goes-none_ref, ends_at, walk_Meets}
use Rattle.std.specs.declared.alloc.Allocator.{Ghosts}
use contract.BorrowLft.{◌⊑◌}
use Rattle.vm_frames.specs.contracts.block.Tether as Tether
use Rattle.vm_frames.proofs.block.Tether.TheLaws as tether-laws
use Rattle.vm_frames.proofs.BlockOwners.{Counted}
use Rattle.vm_frames.specs.contracts.block.Tether.block as F
use Rattle.vm_frames.specs.contracts.block.Tether.block.Key.{name as #self}
use Rattle.vm_frames.proofs.block.Tether.block.Statement as stated
use Rattle.vm_frames.proofs.block.Tether.block.Code as code

module _ (A : RattleType) (L : Laws A) (g : Ghosts A.Denot) (d dd : Dict) where
  abbrev args : Args
  args = bounded (a_type ∷ []) (A, tt) (dcons d (dcons dd dnil))

  abbrev P : RattleType
  P = param 0 A

  abbrev LP : Laws P
  LP = param_laws 0 A L

  abbrev T : RattleType
  T = Tether.the_row P g

  abbrev function : Fn
  function = inst_fn args code.function

  abbrev ended : Ended
  ended = F.ended A g d dd

  abbrev stayed : Stays ended.signature.params ended.kept
  stayed = (stay_none_ref (0 ∷ []) tt (plain (λ _. T)) yes, tt)

  module _ {M : Type 1} {𝓤 : Ura M} (𝓛 : Logic 𝓤) (at_mem : Memory → SProp 𝓤) (run : Routine → Fun 𝓤) where
    open 𝓛 use {H}

    abbrev held : Clauses 𝓤 ended
    held = F.clauses A g d dd 𝓛 at_mem run

    module _ (C : Calls 𝓤 H) (Λ : Loops 𝓤 H) (z : (walk_of 𝓛 ended stayed held).Ghost) where
      abbrev Post : Val → SProp 𝓤
      Post = (walk_of 𝓛 ended stayed held).post z

      walks : ent 𝓤 ((walk_of 𝓛 ended stayed held).pre z) (WpFn 𝓤 H C Λ function ((walk_of 𝓛 ended stayed held).args z) Post)
      walks =
          let κ = z.0.0.0 in
          let r = z.0.3.0 in
          let b = r.ref_ptr.0 in
          let o = r.ref_ptr.1 in
          let h = r.now in
          let R = Counted P g LP in
          qed 𝓛 (((‵ (flft κ z.0.1.0) ⊛ ‵ (flft z.0.0.1.0 z.0.1.1.0) ⊛ ‵ ftrue) ⊛ ‵ (owns (types_at ended.signature.params z.0.0) z.0.3 z.0.4)) ∷ (raw (fact 𝓤 (z.0.0.1.0 ⊑ A.lives)) ⊛ ‵ ftrue) ∷ []) ∵
          move ! (1 ∷ []) $ drop ! $ split ! $ move ! (1 ∷ []) $ fsplit ! $ fsplit ! $ feq_l ! (λ is.
          regoal ! (λ (us : List Val). prop (WpFn 𝓤 H C Λ function (us ++ []) Post)) is refl $
          enter ! C Λ function (vptr b o ∷ []) Post $ alloc_all ! (λ l. pass_all ! refl ((tt, tt), tt) $
          shr_dup ! T (tether-laws.the_row_laws P g LP).shr_laws h b o κ $ unhide ! $ fpick ! (λ x. fpick ! (λ tied.
          fsplit ! $ move ! (1 ∷ []) $ drop ! $ fsplit ! $ hide ! $ move ! (1 ∷ []) $ drop ! $
          -- [the owner; the tether; nothing; the tokens; ..]
          sets ! (addr ! (through ! refl (fld ! refl (stop !)))) refl (tt, tt) $
          returns ! (look_at ! 0 refl) $ free_all ! refl $
          suffices ! _ (ends_at 𝓛 ended stayed held z (vptr b (o + 0)) (record { ref_ptr = (b, o + 0); now = x }) (tt, tt) (tt, tt)) $ says ! tied.first $ keep ! (0 ∷ 1 ∷ 3 ∷ []) $
          feq_i ! (List Val) (vptr b (o + 0) ∷ []) (vptr b (o + 0) ∷ []) refl $ fjoin ! $ move ! (1 ∷ []) $ feq_i ! (List Val) z.0.4.0 (vptr b o ∷ []) is $ fjoin ! $ nothing ! $ move ! (1 ∷ 0 ∷ []) $ fjoin ! $
          move ! (2 ∷ []) $ frame ! $ frame ! $ done !))))

    meets : (𝓣 : Tables 𝓤 H) → Meets 𝓛 ended.signature (WpFn 𝓤 H 𝓣.C 𝓣.Λ function) (closing 𝓛 ended held)
    meets 𝓣 = walk_Meets 𝓛 ended stayed (Goes-none_ref 𝓛 2 (0 ∷ []) tt (plain (λ _. T)) yes, tt) held (WpFn 𝓤 H 𝓣.C 𝓣.Λ function) (WpFn-mono 𝓤 H 𝓛.laws 𝓣 function) (walks 𝓣.C 𝓣.Λ)

pub block_spec : {M : Type 1} → stated.statement M
unfolding tables_of
block_spec 𝓤 𝓛 𝓜 𝓡 wired A L g d dd met md =
    let 𝓣 : Tables 𝓤 𝓛.H = tables_of 𝓤 𝓛.H 𝓜 (tables 𝓤 𝓛.H 𝓜 𝓡 𝓡.env) in
    entered 𝓤 𝓛.H (triple_of 𝓛 (ended A L g d dd).signature (closing 𝓛 (ended A L g d dd) (held A L g d dd 𝓛 𝓜.mem 𝓡.returns))) 𝓣.C 𝓣.Λ (#self (args A L g d dd)) (function A L g d dd)
    (code.unfolded 𝓤 𝓛.H 𝓜 𝓡 wired (A, tt) d dd) (meets A L g d dd 𝓛 𝓜.mem 𝓡.returns 𝓣)

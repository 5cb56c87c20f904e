-- `close` puts the page back, and with it the two tokens. Assumes `Logic`.
use Rattle.std.proofs.Common.{◌≡◌, List, [], ◌∷◌, ◌++◌, refl, ap, None}
use seplogic.Ra.Ura.{Ura}
use mir.Syntax.{Fn, Args, Dict, a_type, dcons, dnil}
use mir.Val.{Val}
use mir.MapTy.{inst_fn}
use base.Fraction.{full_share}
use base.Logic.{SProp, ent, apply∗}
use base.Fml.{flft, fat}
use prog.Memory.{Memory}
use prog.Routine.{Routine}
use prog.Wp.{Calls, Loops, WpFn, Tables}
use contract.Monad.{Fun, fact}
use contract.Running.{tables, tables_of}
use sound.WpLaws.{WpFn-mono}
use types.Logic.{Logic, sem}
use types.Kit.{‵, raw, ◌⊛◌, prop, ◌$◌, ◌∵◌, !, qed, move, drop, use2, split, fsplit, fsplit3, fjoin, fpick, group, regoal, rewrite, suffices, done}
use types.Part.{sub, whole}
use types.Run.{enter, returns, of_opd, fld, stop}
use types.ByLocal.{alloc_all, pass_all, free_all, look_at, take_at, give_at, get, get_in, sets}
use denote.Exit.{yes, no}
use denote.RattleType.{RattleType, owns}
use denote.Param.{param, bounded, layout}
use denote.Param.Laws.{Laws, param_laws}
use denote.Signature.{plain, types_at}
use denote.Steps.{nothing, heard, only}
use denote.Triple.Clauses.{Clauses, Ended, closing}
use denote.Triple.Entry.{alive}
use denote.Triple.Spec.{Meets, triple_of}
use denote.Triple.Table.{entered}
use denote.Triple.Walked.{Stays, stay_dropped, walk_of, ends_at, walk_Meets}
use Rattle.std.specs.declared.alloc.Allocator.{Ghosts}
use Rattle.std.proofs.alloc.Calls.{Goes-blank}
use Rattle.vm_frames.proofs.BlockWalks.{plainly, none, tells, one_had, none_had}
use Rattle.vm_frames.specs.contracts.block.Room as Room
use Rattle.vm_frames.specs.contracts.block.Tether as Tether
use contract.BorrowLft.{◌⊑◌}
use denote.RawPtr.{room_for}
use types.Tokens.{obor_close}
use Rattle.vm_frames.specs.Ownership.{page_type, room_owns}
use Rattle.vm_frames.proofs.block.Tether.TheLaws as tether-laws
use Rattle.vm_frames.proofs.BlockOwners.{Counted, counted-laws}
use Rattle.vm_frames.specs.contracts.block.Tether.close as F
use Rattle.vm_frames.specs.contracts.block.Tether.close.Key.{name as #self}
use Rattle.vm_frames.proofs.block.Tether.close.Statement as stated
use Rattle.vm_frames.proofs.block.Tether.close.Code as code

module _ (A : RattleType) (L : Laws A) (g : Ghosts A.Denot) (d dd : Dict) where
  abbrev args : Args
  args = bounded (a_type ∷ []) (A, tt) (dcons d (dcons dd dnil))

  abbrev P : RattleType
  P = param 0 A

  abbrev LP : Laws P
  LP = param_laws 0 A L

  abbrev function : Fn
  function = inst_fn args code.function

  abbrev ended : Ended
  ended = F.ended A g d dd

  abbrev stayed : Stays ended.signature.params ended.kept
  stayed = (stay_dropped (plain (λ _. Tether.the_row P g)) no, (stay_dropped (plain (λ _. Room.the_row)) yes, tt))

  module _ {M : Type 1} {𝓤 : Ura M} (𝓛 : Logic 𝓤) (at_mem : Memory → SProp 𝓤) (run : Routine → Fun 𝓤) where
    open 𝓛 use {H}

    abbrev held : Clauses 𝓤 ended
    held = F.clauses A g d dd 𝓛 at_mem run

    module _ (C : Calls 𝓤 H) (Λ : Loops 𝓤 H) (z : (walk_of 𝓛 ended stayed held).Ghost) where
      abbrev Post : Val → SProp 𝓤
      Post = (walk_of 𝓛 ended stayed held).post z

      abbrev toks : SProp 𝓤
      toks = alive 𝓛 ended.signature z.0.0 z.0.1

      walks : ent 𝓤 ((walk_of 𝓛 ended stayed held).pre z) (WpFn 𝓤 H C Λ function ((walk_of 𝓛 ended stayed held).args z) Post)
      walks =
          let a = z.0.3 in
          let vss = z.0.4 in
          let h = a.0 in
          let p = h.page in
          let R = Counted P g LP in
          let T = Tether.the_row P g in
          let room : (Room.the_row).Denot = record { ptr = p; page = None } in
          let Asked = a.1.0 ≡ room in
          qed 𝓛 ((raw toks ⊛ ‵ (owns (types_at ended.signature.params z.0.0) a vss)) ∷ (raw (fact 𝓤 (z.0.0.0 ⊑ A.lives)) ⊛ raw (fact 𝓤 Asked)) ∷ []) ∵
          move ! (1 ∷ []) $ split ! $ drop ! $ heard ! Asked (λ asked. split ! $ move ! (1 ∷ []) $
          fsplit ! $ tells ! T (tether-laws.the_row_laws P g LP) h vss.0 (λ v is₀ fine. move ! (1 ∷ []) $ fsplit ! $ fsplit ! $ none_had ! vss.1.0 (λ is₁. move ! (1 ∷ []) $ drop ! $
          regoal ! (λ (us : List Val). prop (WpFn 𝓤 H C Λ function (us ++ (vss.1.0 ++ [])) Post)) is₀ refl $
          regoal ! (λ (us : List Val). prop (WpFn 𝓤 H C Λ function ((v ∷ []) ++ (us ++ [])) Post)) is₁ refl $
          enter ! C Λ function (v ∷ none ∷ []) Post $ alloc_all ! (λ l. pass_all ! refl (fine, ((tt, tt), tt)) $
          move ! (1 ∷ []) $ fsplit ! $ drop ! $ fpick ! (λ x. fpick ! (λ tied. fpick ! (λ w. fsplit ! $ fsplit ! $ drop ! $ fsplit ! $ drop ! $ fsplit ! $ move ! (1 ∷ []) $ drop ! $ move ! (1 ∷ []) $ fsplit3 ! $
          -- [the way back; the owner's open borrow; the page's; the other half of the owner's token; the room; the tokens; ..]
          move ! (4 ∷ []) $ rewrite ! 0 (λ (r : (Room.the_row).Denot). ‵ (room_owns r.ptr r.page)) asked refl $ rewrite ! 0 (λ r. ‵ (room_for page_type r)) tied.placed refl $ move ! (3 ∷ 0 ∷ []) $ obor_close ! tt $ drop ! $
          move ! (2 ∷ 0 ∷ []) $ obor_close ! tt $ drop ! $ move ! (0 ∷ 2 ∷ []) $ use2 𝓛 (‵ (flft (w.0 ∷ []) w.2)) (𝓛.lfts.lft_join (w.0 ∷ []) w.2) $
          let Whole = (plainly (R ∷ [])).own_val (x, tt) (v ∷ []) in
          use2 𝓛 (‵ Whole) (apply∗ 𝓤 (sem 𝓛 (flft (w.0 ∷ []) w.2)) (sem 𝓛 Whole)) $ one_had ! R (counted-laws P g LP) x (v ∷ []) (λ u shape good.
          take_at ! 1 $ rewrite ! 0 (λ y. ‵ (fat full_share (layout T) (l 1) 0 y)) (ap only shape) refl $ give_at ! 1 $
          sets ! (of_opd ! (get_in ! (fld ! refl (stop !)) (sub ! 0 refl (whole !)))) refl good $
          sets ! (of_opd ! (get ! refl)) refl good $
          returns ! (look_at ! 0 refl) $ free_all ! refl $
          suffices ! _ (ends_at 𝓛 ended stayed held z u x (tt, (tt, tt)) (tt, (tt, tt))) $
          nothing ! $ nothing ! $ fjoin ! $ nothing ! $ fjoin ! $ move ! (2 ∷ 0 ∷ 1 ∷ []) $ group ! 3 $ nothing ! $ move ! (1 ∷ 0 ∷ []) $ done !))))))))

    meets : (𝓣 : Tables 𝓤 H) → Meets 𝓛 ended.signature (WpFn 𝓤 H 𝓣.C 𝓣.Λ function) (closing 𝓛 ended held)
    meets 𝓣 =
        walk_Meets 𝓛 ended stayed (Goes-blank 𝓛 1 (plain (λ _. Tether.the_row P g)) no (λ κs x f. tt), (Goes-blank 𝓛 1 (plain (λ _. Room.the_row)) yes (λ κs x f. tt), tt)) held
        (WpFn 𝓤 H 𝓣.C 𝓣.Λ function) (WpFn-mono 𝓤 H 𝓛.laws 𝓣 function) (walks 𝓣.C 𝓣.Λ)

pub close_spec : {M : Type 1} → stated.statement M
unfolding tables_of
close_spec 𝓤 𝓛 𝓜 𝓡 wired A L g d dd met md =
    let 𝓣 : Tables 𝓤 𝓛.H = tables_of 𝓤 𝓛.H 𝓜 (tables 𝓤 𝓛.H 𝓜 𝓡 𝓡.env) in
    entered 𝓤 𝓛.H (triple_of 𝓛 (ended A L g d dd).signature (closing 𝓛 (ended A L g d dd) (held A L g d dd 𝓛 𝓜.mem 𝓡.returns))) 𝓣.C 𝓣.Λ (#self (args A L g d dd)) (function A L g d dd)
    (code.unfolded 𝓤 𝓛.H 𝓜 𝓡 wired (A, tt) d dd) (meets A L g d dd 𝓛 𝓜.mem 𝓡.returns 𝓣)

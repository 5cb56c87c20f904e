-- `open` locks the owner's token, then a share of the block's, and takes the first page out. Assumes `Logic`.
use Rattle.std.proofs.Common.{◌≡◌, ℕ, ◌+◌, ◌-◌, ◌<◌, List, [], ◌∷◌, ◌++◌, refl, sym, ap, subst, None}
use seplogic.Ra.Ura.{Ura}
use mir.Syntax.{Fn, Args, Dict, a_type, dcons, dnil}
use mir.Val.{Val}
use mir.MapTy.{inst_fn}
use base.Logic.{SProp, ent}
use base.Fml.{fsep, finv, Lft, ftrue, flft, fbor, froom, Share, fex, fwand, fshr_bor}
use prog.Memory.{Memory}
use prog.Routine.{Routine}
use prog.Wp.{Calls, Loops, WpFn, Tables}
use contract.Monad.{Fun, fact}
use contract.Running.{tables, tables_of}
use sound.WpLaws.{WpFn-mono}
use types.Logic.{Logic}
use types.Kit.{‵, raw, ◌⊛◌, later, prop, ◌$◌, ◌∵◌, !, qed, move, drop, use1, use2, split, join, fsplit, fjoin, fpack, regoal, rewrite, suffices, await, done, some, pick, split3, fjoin3}
use types.Part.{agg}
use types.Run.{enter, returns, of_opd, and_then, no_more}
use types.ByLocal.{alloc_all, pass_all, free_all, look_at, get, sets}
use denote.Exit.{yes, no}
use denote.RattleType.{RattleType, owns}
use denote.Param.{param, bounded, layout}
use denote.Param.Laws.{Laws, param_laws}
use denote.Signature.{plain, types_at}
use denote.Steps.{nothing, heard}
use denote.Triple.Clauses.{Clauses, Ended, closing}
use denote.Triple.Spec.{Meets, triple_of}
use denote.Triple.Table.{entered}
use denote.Triple.Walked.{Stays, stay_dropped, walk_of, ends_at, walk_Meets}
use Rattle.std.specs.declared.alloc.Allocator.{Ghosts}
use Rattle.std.proofs.mem.Facts.{says_three}
use Rattle.std.proofs.alloc.Calls.{Goes-blank}
use Rattle.vm_frames.proofs.BlockWalks.{none, one, three, tells, one_made, none_made, three_made, none_had}
use Rattle.vm_frames.specs.contracts.block.Loan as Loan
use Rattle.vm_frames.specs.contracts.block.Room as Room
use Rattle.vm_frames.specs.contracts.block.Tether as Tether
use contract.BorrowLft.{◌⊑◌}
use denote.Laws.{Typed}
use denote.RawPtr.{RawPtr, Ptr, block_ptr, block_of, count_of, room_for, ◌+ₚ◌}
use denote.Struct.Struct.{as_fields}
use Rattle.vm_frames.specs.contracts.block.Tether.TheInside as Inside
use types.Tokens.{bor_open, shr_bor-open}
use Rattle.vm_frames.specs.Ownership.{Hold, IsPlaced, loans, page_type}
use Rattle.vm_frames.specs.Tethers.{Wrapped, Owner, IsTied, owner_count, owner_shown, owner_lent, owner_locked}
use Rattle.std_alloc.specs.Arc.Ownership.{ptr_in_block}
use base.Share
use Rattle.vm_frames.proofs.BlockOwners.{Counted, counted-laws, owner_out, token_halves}
use Rattle.vm_frames.proofs.PageLoans.{first_loan}
use Rattle.vm_frames.specs.contracts.block.Tether.open as F
use Rattle.vm_frames.specs.contracts.block.Tether.open.Key.{name as #self}
use Rattle.vm_frames.proofs.block.Tether.open.Statement as stated
use Rattle.vm_frames.proofs.block.Tether.open.Code as code

module _ (A : RattleType) (L : Laws A) (g : Ghosts A.Denot) (d dd : Dict) where
  abbrev args : Args
  args = bounded (a_type ∷ []) (A, tt) (dcons d (dcons dd dnil))

  abbrev P : RattleType
  P = param 0 A

  abbrev LP : Laws P
  LP = param_laws 0 A L

  abbrev function : Fn
  function = inst_fn args code.function

  abbrev ended : Ended
  ended = F.ended A g d dd

  abbrev stayed : Stays ended.signature.params ended.kept
  stayed = (stay_dropped (plain (λ _. Counted P g LP)) no, (stay_dropped (plain (λ _. Loan.the_row)) yes, tt))

  module _ {M : Type 1} {𝓤 : Ura M} (𝓛 : Logic 𝓤) (at_mem : Memory → SProp 𝓤) (run : Routine → Fun 𝓤) where
    open 𝓛 use {H}

    abbrev held : Clauses 𝓤 ended
    held = F.clauses A g d dd 𝓛 at_mem run

    module _ (C : Calls 𝓤 H) (Λ : Loops 𝓤 H) (z : (walk_of 𝓛 ended stayed held).Ghost) where
      abbrev Post : Val → SProp 𝓤
      Post = (walk_of 𝓛 ended stayed held).post z

      walks : ent 𝓤 ((walk_of 𝓛 ended stayed held).pre z) (WpFn 𝓤 H C Λ function ((walk_of 𝓛 ended stayed held).args z) Post)
      walks =
          let a = z.0.3 in
          let vss = z.0.4 in
          let arc = a.0 in
          let s = a.1.0 in
          let R = Counted P g LP in
          let T = Tether.the_row P g in
          let h : Hold = record { page = s.ptr; first = arc.value.first } in
          let life : Lft = s.life ∷ [] in
          let p : Ptr = s.ptr in
          let b = block_of p in
          let o = count_of p in
          let room : (Room.the_row).Denot = record { ptr = p; page = None } in
          let moved : p +ₚ 4096 ≡ block_ptr b (o + 4096) = ap (λ r. r +ₚ 4096) s.placed in
          let rest : (Loan.the_row).Denot = record { life = s.life; ptr = p +ₚ 4096; count = s.count - 1; placed = subst IsPlaced (sym moved) refl } in
          let Lender = s.life ≡ arc.value.life in
          let Some = 0 < s.count in
          qed 𝓛 (((‵ (flft z.0.0.0 z.0.1.0) ⊛ ‵ ftrue) ⊛ ‵ (owns (types_at ended.signature.params z.0.0) a vss)) ∷ (raw (fact 𝓤 (z.0.0.0 ⊑ A.lives)) ⊛ raw (fact 𝓤 Lender) ⊛ raw (fact 𝓤 Some)) ∷ []) ∵
          move ! (1 ∷ []) $ split3 ! $ heard ! (z.0.0.0 ⊑ A.lives) (λ lives. heard ! Lender (λ lender. heard ! Some (λ any. split ! $ move ! (1 ∷ []) $
          fsplit ! $ tells ! R (counted-laws P g LP) arc vss.0 (λ u is₀ good. move ! (1 ∷ []) $ fsplit ! $ fsplit ! $ none_had ! vss.1.0 (λ is₁. move ! (1 ∷ []) $ drop ! $
          let inner = as_fields (layout R ∷ []) (u ∷ []) (good, tt) in
          let own = λ (i : Owner P g). (Inside.the_row P g).own_val (record { block = i }) (one u ∷ []) in
          let shown = λ (n : ℕ). fsep (ptr_in_block arc.ptr) (fsep (finv (owner_count P g arc n)) (owner_shown P g arc n)) in
          let all = λ (i : Owner P g) (k : ℕ × ℕ × Share × Share). fsep (owner_lent P g i k.0 k.2 (one u ∷ [])) (owner_locked P g (own i) p k) in
          let tied : IsTied h arc.value.first = record { placed = s.placed; first = refl } in
          regoal ! (λ (us : List Val). prop (WpFn 𝓤 H C Λ function (us ++ (vss.1.0 ++ [])) Post)) is₀ refl $
          regoal ! (λ (us : List Val). prop (WpFn 𝓤 H C Λ function ((u ∷ []) ++ (us ++ [])) Post)) is₁ refl $
          enter ! C Λ function (u ∷ none ∷ []) Post $ alloc_all ! (λ l. pass_all ! refl (good, ((tt, tt), tt)) $
          sets ! (agg ! (no_more !)) refl (tt, tt) $
          sets ! (of_opd ! (get ! refl)) refl good $
          sets ! (agg ! (and_then ! (get ! refl) (no_more !))) refl inner $
          sets ! (agg ! (no_more !)) refl (tt, tt) $
          sets ! (agg ! (and_then ! (get ! refl) (and_then ! (get ! refl) (and_then ! (get ! refl) (no_more !))))) refl (as_fields (layout Room.the_row ∷ layout T ∷ layout Loan.the_row ∷ []) (none ∷ one u ∷ none ∷ []) ((tt, tt), (inner, ((tt, tt), tt)))) $
          -- [the loans; the owner; the tokens; ..]
          move ! (2 ∷ []) $ split ! $ move ! (3 ∷ 0 ∷ []) $
          use2 𝓛 (later (some (λ (w : ℕ × Share). ‵ (fshr_bor (w.0 ∷ []) (λ q. flft (arc.value.life ∷ []) q)) ⊛ (‵ (flft (w.0 ∷ []) w.1) ⊛ (‵ ((Wrapped RawPtr).own_val (arc.ptr, tt) (u ∷ [])) ⊛ (‵ (shown w.0) ⊛ ‵ (fwand (flft (w.0 ∷ []) w.1) (own arc))))))
          ⊛ ‵ (flft z.0.0.0 z.0.1.0))) (owner_out P g LP 𝓛 arc u z.0.0.0 z.0.1.0 lives) $
          await ! tt $ split ! $ move ! (1 ∷ 2 ∷ []) $ join ! $ move ! (1 ∷ 2 ∷ []) $ pick ! (λ w. split ! $ move ! (1 ∷ []) $ split ! $ move ! (1 ∷ []) $ split3 ! $ move ! (4 ∷ 3 ∷ []) $
          -- [a share of the block's token; the owner's token; the bits; what is shown; the way back; the loans; the tokens; ..]
          let ν : Lft = w.0 ∷ [] in
          let e = w.1 in
          rewrite ! 0 (λ i. ‵ (fshr_bor ν (λ q. flft (i ∷ []) q))) (sym lender) refl $
          move ! (1 ∷ []) $ use1 𝓛 (‵ (flft ν (Share.left e)) ⊛ ‵ (flft ν (Share.right e))) (𝓛.lfts.lft_split ν e) $ split ! $ move ! (2 ∷ 0 ∷ []) $
          shr_bor-open ! tt (token_halves 𝓛 life) (λ q. move ! (6 ∷ []) $
          use1 𝓛 (‵ (fbor life (froom page_type b o)) ⊛ ‵ (loans s.life page_type (s.count - 1) b (o + 4096))) (first_loan 𝓛 s.life page_type b s.count o any) $ split ! $
          -- [the first loan; the others; the owner's open borrow; the block's token; a half of the owner's; the bits; what is shown; the way back; the tokens; ..]
          move ! (0 ∷ 3 ∷ []) $ bor_open ! tt $ move ! (7 ∷ 3 ∷ 0 ∷ []) $ fjoin3 ! $
          move ! (5 ∷ []) $ fsplit ! $ move ! (5 ∷ 1 ∷ []) $ fjoin ! $ move ! (1 ∷ 0 ∷ []) $ fjoin ! $ move ! (4 ∷ []) $ one_made ! (Wrapped RawPtr) (arc.ptr, tt) u $ fjoin ! $ fjoin ! $
          fpack ! (ℕ × ℕ × Share × Share) (all arc) (w.0, s.life, e, q) $
          fpack ! (IsTied h arc.value.first) (λ _. fex (ℕ × ℕ × Share × Share) (all arc)) tied $
          fpack ! (Owner P g) (λ i. fex (IsTied h i.value.first) (λ _. fex (ℕ × ℕ × Share × Share) (all i))) arc $
          nothing ! $ fpack ! (Typed T.mir (one u ∷ [])) (λ _. ftrue) (inner, tt) $ fjoin ! $
          -- [the tether; the room; the other loans; the tokens; ..]
          move ! (1 ∷ []) $ rewrite ! 0 (λ r. ‵ (room_for page_type r)) (sym s.placed) refl $ none_made ! $ fjoin ! $
          move ! (2 ∷ []) $ rewrite ! 0 (λ r. ‵ (loans s.life page_type (s.count - 1) (block_of r) (count_of r))) (sym moved) refl $ none_made ! $ fjoin ! $
          move ! (1 ∷ 2 ∷ 0 ∷ []) $ three_made ! Room.the_row T Loan.the_row room h rest none (one u) none $
          returns ! (look_at ! 0 refl) $ free_all ! refl $
          suffices ! _ (ends_at 𝓛 ended stayed held z (three none (one u) none) (room, h, rest) (tt, (tt, tt)) (tt, (tt, tt))) $ says_three ! (refl, refl, record { life = refl; begins = refl; count = refl }) $
          nothing ! $ nothing ! $ fjoin ! $ nothing ! $ fjoin ! $ move ! (2 ∷ 0 ∷ 1 ∷ []) $ done !))))))))

    meets : (𝓣 : Tables 𝓤 H) → Meets 𝓛 ended.signature (WpFn 𝓤 H 𝓣.C 𝓣.Λ function) (closing 𝓛 ended held)
    meets 𝓣 =
        walk_Meets 𝓛 ended stayed (Goes-blank 𝓛 1 (plain (λ _. Counted P g LP)) no (λ κs x f. tt), (Goes-blank 𝓛 1 (plain (λ _. Loan.the_row)) yes (λ κs x f. tt), tt)) held
        (WpFn 𝓤 H 𝓣.C 𝓣.Λ function) (WpFn-mono 𝓤 H 𝓛.laws 𝓣 function) (walks 𝓣.C 𝓣.Λ)

pub open_spec : {M : Type 1} → stated.statement M
unfolding tables_of
open_spec 𝓤 𝓛 𝓜 𝓡 wired A L g d dd met md =
    let 𝓣 : Tables 𝓤 𝓛.H = tables_of 𝓤 𝓛.H 𝓜 (tables 𝓤 𝓛.H 𝓜 𝓡 𝓡.env) in
    entered 𝓤 𝓛.H (triple_of 𝓛 (ended A L g d dd).signature (closing 𝓛 (ended A L g d dd) (held A L g d dd 𝓛 𝓜.mem 𝓡.returns))) 𝓣.C 𝓣.Λ (#self (args A L g d dd)) (function A L g d dd)
    (code.unfolded 𝓤 𝓛.H 𝓜 𝓡 wired (A, tt) d dd) (meets A L g d dd 𝓛 𝓜.mem 𝓡.returns 𝓣)

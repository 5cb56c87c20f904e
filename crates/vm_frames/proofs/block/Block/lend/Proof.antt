-- `lend` takes the pages out of the vector's room, starts the lifetime, and lends each page for it. Assumes `Logic`.
use Rattle.std.proofs.Common.{List, [], ◌∷◌, ◌++◌, refl}
use seplogic.Ra.Ura.{Ura}
use mir.Syntax.{ty_ptr, Fn, Args, Dict, a_type, dcons, dnil, w64}
use mir.Val.{Val, vint}
use mir.MapTy.{inst_fn}
use base.Logic.{SProp, ent}
use base.Fml.{ftrue, fsep}
use prog.Memory.{Memory}
use prog.Routine.{Routine}
use prog.Wp.{Calls, Loops, WpFn, Tables}
use contract.Monad.{Fun, fact}
use contract.Running.{tables, tables_of}
use sound.WpLaws.{WpFn-mono}
use types.Logic.{Logic}
use types.Kit.{feq_i, ‵, raw, ◌⊛◌, later, prop, ◌$◌, ◌∵◌, !, qed, move, drop, use1, split, fsplit, fjoin, feq_l, flt_l, fpack, regoal, rewrite, suffices, await, done, given, learn}
use types.Part.{agg}
use types.Run.{enter, returns, of_opd, and_then, no_more}
use types.ByLocal.{alloc_all, pass_all, free_all, look_at, get, sets}
use denote.Exit.{yes, no}
use denote.RattleType.{RattleType, owns}
use denote.Param.{param, bounded, layout}
use denote.Builtin.{u8, usize}
use denote.Param.Laws.{Laws, param_laws, of_field}
use denote.Signature.{plain, types_at}
use denote.Steps.{nothing, heard}
use denote.Triple.Clauses.{Clauses, Ended, closing}
use denote.Triple.Entry.{alive}
use denote.Triple.Spec.{Meets, triple_of}
use denote.Triple.Table.{entered}
use denote.Triple.Walked.{Stays, stay_dropped, walk_of, ends_at, walk_Meets}
use Rattle.std.specs.declared.alloc.Allocator.{Ghosts}
use Rattle.std.proofs.alloc.Calls.{Goes-blank}
use Rattle.vm_frames.proofs.BlockWalks.{none, one, two, tells, none_made, two_made}
use contract.BorrowLft.{◌⊑◌}
use denote.Laws.{Typed}
use denote.Struct.Laws.{u8-laws, u8-copy}
use denote.Struct.Field.{u8-field}
use denote.Param.Shared.{copy_shared}
use denote.Builtin.{RawPtr}
use Rattle.std.proofs.mem.Facts.{says_two}
use denote.RawPtr.{ptr_val, rawptr_Lawful, block_of, count_of, room_for, ◌+ₚ◌}
use denote.Struct.Struct.{as_fields}
use types.Tokens.{lft_new}
use Rattle.std_alloc.specs.contracts.vec.Vec as Vec
use Rattle.std_alloc.proofs.vec.Vec.TheLaws as vec_laws
use Rattle.vm_frames.specs.Ownership.{IsPlaced, lent, loans, page_type, pages_type}
use Rattle.vm_frames.specs.Loaned.{HasPages}
use Rattle.vm_frames.specs.contracts.block.Shell as Shell
use Rattle.vm_frames.specs.contracts.block.Block as Block
use Rattle.vm_frames.specs.contracts.block.Loan as Loan
use Rattle.vm_frames.proofs.PageLoans.{lend}
use Rattle.vm_frames.proofs.Shells.{carve}
use Rattle.vm_frames.specs.contracts.block.Block.lend as F
use Rattle.vm_frames.specs.contracts.block.Block.lend.Key.{name as #self}
use Rattle.vm_frames.proofs.block.Block.lend.Statement as stated
use Rattle.vm_frames.proofs.block.Block.lend.Code as code

module _ (A : RattleType) (L : Laws A) (g : Ghosts A.Denot) (d dd : Dict) where
  abbrev args : Args
  args = bounded (a_type ∷ []) (A, tt) (dcons d (dcons dd dnil))

  abbrev P : RattleType
  P = param 0 A

  abbrev LP : Laws P
  LP = param_laws 0 A L

  abbrev function : Fn
  function = inst_fn args code.function

  abbrev ended : Ended
  ended = F.ended A g d dd

  abbrev stayed : Stays ended.signature.params ended.kept
  stayed = (stay_dropped (plain (λ _. Vec.the_row u8 P g)) no, (stay_dropped (plain (λ _. usize)) yes, (stay_dropped (plain (λ _. usize)) yes, (stay_dropped (plain (λ _. RawPtr)) yes, tt))))

  module _ {M : Type 1} {𝓤 : Ura M} (𝓛 : Logic 𝓤) (at_mem : Memory → SProp 𝓤) (run : Routine → Fun 𝓤) where
    open 𝓛 use {H}

    abbrev held : Clauses 𝓤 ended
    held = F.clauses A g d dd 𝓛 at_mem run

    module _ (C : Calls 𝓤 H) (Λ : Loops 𝓤 H) (z : (walk_of 𝓛 ended stayed held).Ghost) where
      abbrev Post : Val → SProp 𝓤
      Post = (walk_of 𝓛 ended stayed held).post z

      abbrev toks : SProp 𝓤
      toks = alive 𝓛 ended.signature z.0.0 z.0.1

      walks : ent 𝓤 ((walk_of 𝓛 ended stayed held).pre z) (WpFn 𝓤 H C Λ function ((walk_of 𝓛 ended stayed held).args z) Post)
      walks =
          let a = z.0.3 in
          let vss = z.0.4 in
          let v = a.0 in
          let lead = a.1.0 in
          let n = a.1.1.0 in
          let r = a.1.1.1.0 in
          let p = v.ptr +ₚ lead in
          let V = Vec.the_row u8 P g in
          let S = Shell.the_row P g in
          let B = Block.the_row P g in
          let e : S.Denot = record { ptr = p; count = n } in
          let Asked = HasPages v lead n in
          qed 𝓛 ((raw toks ⊛ ‵ (owns (types_at ended.signature.params z.0.0) a vss)) ∷ (raw (fact 𝓤 (z.0.0.0 ⊑ A.lives)) ⊛ raw (fact 𝓤 Asked)) ∷ []) ∵
          move ! (1 ∷ []) $ split ! $ drop ! $ heard ! Asked (λ asked. split ! $ move ! (1 ∷ []) $
          fsplit ! $ tells ! V (vec_laws.the_row_laws u8 P g (of_field u8-field u8-laws refl (copy_shared u8-field u8-copy)) LP) v vss.0 (λ u is₀ good. move ! (1 ∷ []) $
          fsplit ! $ fsplit ! $ feq_l ! (λ is₁. flt_l ! (λ fits₁. fsplit ! $ fsplit ! $ feq_l ! (λ is₂. flt_l ! (λ fits₂. fsplit ! $ feq_l ! (λ is₃. drop ! $
          let inner = as_fields (layout V ∷ []) (u ∷ []) (good, tt) in
          let at = (rawptr_Lawful 𝓛).typed r (ptr_val r ∷ []) refl in
          let outer = as_fields (ty_ptr ∷ layout S ∷ []) (ptr_val r ∷ one u ∷ []) (at.0, (inner, tt)) in
          regoal ! (λ (us : List Val). prop (WpFn 𝓤 H C Λ function (us ++ (vss.1.0 ++ (vss.1.1.0 ++ (vss.1.1.1.0 ++ [])))) Post)) is₀ refl $
          regoal ! (λ (us : List Val). prop (WpFn 𝓤 H C Λ function ((u ∷ []) ++ (us ++ (vss.1.1.0 ++ (vss.1.1.1.0 ++ [])))) Post)) is₁ refl $
          regoal ! (λ (us : List Val). prop (WpFn 𝓤 H C Λ function ((u ∷ []) ++ ((vint w64 lead ∷ []) ++ (us ++ (vss.1.1.1.0 ++ [])))) Post)) is₂ refl $
          regoal ! (λ (us : List Val). prop (WpFn 𝓤 H C Λ function ((u ∷ []) ++ ((vint w64 lead ∷ []) ++ ((vint w64 n ∷ []) ++ (us ++ [])))) Post)) is₃ refl $
          enter ! C Λ function (u ∷ vint w64 lead ∷ vint w64 n ∷ ptr_val r ∷ []) Post $ alloc_all ! (λ l. pass_all ! refl (good, ((tt, record { fits = fits₁ }), ((tt, record { fits = fits₂ }), (rawptr_Lawful 𝓛).typed r _ refl))) $
          sets ! (of_opd ! (get ! refl)) refl good $
          sets ! (agg ! (and_then ! (get ! refl) (no_more !))) refl inner $
          sets ! (of_opd ! (get ! refl)) refl inner $
          sets ! (agg ! (and_then ! (get ! refl) (and_then ! (get ! refl) (no_more !)))) refl outer $
          sets ! (agg ! (no_more !)) refl (tt, tt) $
          sets ! (agg ! (and_then ! (get ! refl) (and_then ! (get ! refl) (no_more !)))) refl (as_fields (layout B ∷ layout Loan.the_row ∷ []) (two (ptr_val r) (one u) ∷ none ∷ []) (outer, ((tt, tt), tt))) $
          -- [the vector; the tokens; ..]
          use1 𝓛 (given (IsPlaced p) (‵ (room_for (pages_type n) p) ⊛ ‵ (Shell.the_own P g e (one u ∷ [])))) (carve P g 𝓛 v u lead n asked.empty asked.some asked.room) $ learn ! (λ placed. split ! $
          rewrite ! 0 (λ r. ‵ (room_for (pages_type n) r)) placed refl $ lft_new ! tt (λ α. move ! (1 ∷ []) $
          let b = block_of p in let o = count_of p in
          use1 𝓛 (later (‵ (fsep (loans α page_type n b o) (lent α page_type n b o)))) (lend 𝓛 α page_type b n o) $ await ! tt $ fsplit ! $
          -- [the loans; what is lent; the token of α; the vector without the pages; the tokens; ..]
          let block : B.Denot = record { first = r; shell = e; life = α; placed = placed } in
          let loan : (Loan.the_row).Denot = record { life = α; ptr = p; count = n; placed = placed } in
          none_made ! $ fjoin ! $ move ! (2 ∷ 1 ∷ []) $ fjoin ! $ move ! (2 ∷ []) $ nothing ! $ fpack ! (Typed S.mir (one u ∷ [])) (λ _. ftrue) (inner, tt) $ fjoin ! $
          feq_i ! (List Val) (ptr_val r ∷ []) (ptr_val r ∷ []) refl $ two_made ! RawPtr S r e (ptr_val r) (one u) $ fjoin ! $ two_made ! B Loan.the_row block loan (two (ptr_val r) (one u)) none $
          returns ! (look_at ! 0 refl) $ free_all ! refl $
          suffices ! _ (ends_at 𝓛 ended stayed held z (two (two (ptr_val r) (one u)) none) (block, loan) ((tt, (tt, (tt, (tt, tt)))), (tt, (tt, (tt, tt)))) (tt, (tt, (tt, (tt, tt))))) $ says_two ! (refl, record { life = refl; begins = refl; count = refl }) $
          nothing ! $ nothing ! $ fjoin ! $ nothing ! $ fjoin ! $ nothing ! $ fjoin ! $ nothing ! $ fjoin ! $ move ! (2 ∷ 0 ∷ 1 ∷ []) $ done !))))))))))

    meets : (𝓣 : Tables 𝓤 H) → Meets 𝓛 ended.signature (WpFn 𝓤 H 𝓣.C 𝓣.Λ function) (closing 𝓛 ended held)
    meets 𝓣 =
        walk_Meets 𝓛 ended stayed (Goes-blank 𝓛 1 (plain (λ _. Vec.the_row u8 P g)) no (λ κs x f. tt), (Goes-blank 𝓛 1 (plain (λ _. usize)) yes (λ κs x f. tt), (Goes-blank 𝓛 1 (plain (λ _. usize)) yes (λ κs x f. tt), (Goes-blank 𝓛 1 (plain (λ _. RawPtr)) yes (λ κs x f. tt), tt)))) held
        (WpFn 𝓤 H 𝓣.C 𝓣.Λ function) (WpFn-mono 𝓤 H 𝓛.laws 𝓣 function) (walks 𝓣.C 𝓣.Λ)

pub lend_spec : {M : Type 1} → stated.statement M
unfolding tables_of
lend_spec 𝓤 𝓛 𝓜 𝓡 wired A L g d dd met md =
    let 𝓣 : Tables 𝓤 𝓛.H = tables_of 𝓤 𝓛.H 𝓜 (tables 𝓤 𝓛.H 𝓜 𝓡 𝓡.env) in
    entered 𝓤 𝓛.H (triple_of 𝓛 (ended A L g d dd).signature (closing 𝓛 (ended A L g d dd) (held A L g d dd 𝓛 𝓜.mem 𝓡.returns))) 𝓣.C 𝓣.Λ (#self (args A L g d dd)) (function A L g d dd)
    (code.unfolded 𝓤 𝓛.H 𝓜 𝓡 wired (A, tt) d dd) (meets A L g d dd 𝓛 𝓜.mem 𝓡.returns 𝓣)

-- A list with a name: where its `=` stands, and what is read in front of it and behind it.
use Rattle.std.proofs.Common.{◌≡◌, ℕ, ◌+◌, ◌<◌, List, length, Some, None, Result, Ok, Err, IfErr, inl, inr, refl, ap, sym, subst, ◌∙◌, arith}
use Rattle.std.proofs.lemmas.Bool.{le-ltb, lt-ltb, ne_eqb}
use Rattle.std.proofs.lemmas.Grind.{get_or_default_zero}
use Rattle.std.proofs.lemmas.List.{length-take-le}
use Rattle.std.proofs.lemmas.Str.Pattern.{IsSplitOnceResult, split_once_first, split_parts}
use Rattle.std.specs.Borrow.{Bor}
use Rattle.std.specs.List.{position_or_len}
use Rattle.vm_lists.specs.declared.bounds.Limits.{Limits}
use Rattle.vm_lists.specs.declared.faults.ListFault.{ListFault}
use Rattle.vm_lists.specs.declared.faults.ListFaultKind.TheVariants.{Memory}
use Rattle.vm_lists.specs.declared.faults.NamedListFaultKind.TheVariants.{BadList, NoEquals}
use Rattle.vm_lists.specs.ListGrammar.{IsList}
use Rattle.vm_lists.specs.Lists.{IsFaultOf, list_of}
use Rattle.vm_lists.specs.declared.named.NamedList.{NamedList}
use Rattle.vm_lists.specs.NamedLists.{IsNamedFaultOf, IsNamedList, IsNamedOrMemory, Named, is_equals, named_as, named_in, named_of}
use Rattle.vm_lists.proofs.PlaceLaws.{stands_first}
use Rattle.vm_lists.proofs.SpelledLaws.{list_spelled, memory_from}

pub read_parts : (limits : Limits) (text : List ℕ) (x : Bor (List ℕ) × Bor (List ℕ)) → IsSplitOnceResult 61 text (Some x) → named_of limits text ≡ named_as x.0.now (list_of limits x.1.now)
unfolding named_of
read_parts limits text x h =
    let first = split_once_first 61 text (Some x) h (omega arith) in
    rw (lt-ltb _ _ first.0) (λ i. named_as (sym first.1 i) (list_of limits (sym first.2 i)))

read_none : (limits : Limits) (text : List ℕ) → IsSplitOnceResult 61 text None → named_of limits text ≡ Err (record { at = length text; kind = NoEquals })
unfolding named_of
read_none limits text h =
    let none : position_or_len is_equals text ≡ length text = split_once_first 61 text None h (omega arith) in
    rw (le-ltb (position_or_len is_equals text) (length text) (omega (arith, none))) refl

-- a text without `=`
pub no_equals : (limits : Limits) (text : List ℕ) → IsSplitOnceResult 61 text None → IsNamedFaultOf limits text (record { at = length text; kind = NoEquals })
no_equals limits text h = record {
  first = λ other. read_none limits text h;
  behind = λ memory. absurd cc;
  memory = λ memory. absurd cc;
}

-- the name ends where the first `=` stands
name_ends : (text : List ℕ) (x : Bor (List ℕ) × Bor (List ℕ)) → IsSplitOnceResult 61 text (Some x) → position_or_len is_equals text ≡ length x.0.now
name_ends text x h =
    let first = split_once_first 61 text (Some x) h (omega arith) in
    sym (ap length first.1 ∙ length-take-le (position_or_len is_equals text) text (omega (arith, first.0)))

later_behind : (name : List ℕ) (r : Result (List ℕ) ListFault) (at : ℕ) → IfErr r (λ found. at < found.at) → IfErr (named_as name r) (λ found. length name + 1 + at < found.at)
later_behind name (Ok values) at h = tt
later_behind name (Err found) at h = omega arith

-- the fault of the list behind the `=`
pub bad_list : (limits : Limits) (text : List ℕ) (x : Bor (List ℕ) × Bor (List ℕ)) (found : ListFault) → IsSplitOnceResult 61 text (Some x) → IsFaultOf (list_of limits x.1.now) found
    → IsNamedFaultOf limits text (record { at = length x.0.now + 1 + found.at; kind = BadList found.kind })
bad_list limits text x found h is =
    let read = read_parts limits text x h in
    record {
      first = λ other. read ∙ ap (named_as x.0.now) (is.first (λ memory. other (ap BadList memory)));
      behind = λ memory. omega (arith, name_ends text x h);
      memory = λ memory.
          let refused : found.kind ≡ Memory = cc in
          subst (λ r. IfErr r (λ later. length x.0.now + 1 + found.at < later.at)) (sym read) (later_behind x.0.now (list_of limits x.1.now) found.at (is.memory refused));
    }

-- the form of what is read
pub named_list_from : (limits : Limits) (text values : List ℕ) (x : Bor (List ℕ) × Bor (List ℕ)) → IsSplitOnceResult 61 text (Some x) → IsList limits x.1.now values
    → IsNamedList limits text (record { name = x.0.now; values = values })
named_list_from limits text values x h is =
    let parts = split_parts 61 text (Some x) h (omega arith) in
    record {
      list = x.1.now;
      whole = parts.0;
      first = λ k d below same. parts.1 k below (sym (get_or_default_zero x.0.now k d below) ∙ same);
      listed = is;
    }

-- what has the form is read
named_spelled : (limits : Limits) (text : List ℕ) (named : Named) → IsNamedList limits text named → named_of limits text ≡ Ok named
unfolding named_of
named_spelled limits text named is =
    let first = stands_first is_equals named.name 61 is.list (λ k d below. ne_eqb _ 61 (is.first k d below)) refl in
    ap (named_of limits) is.whole ∙ rw (first.one, first.before, first.after, list_spelled limits is.list named.values is.listed) refl

pub accepted_none : (limits : Limits) (text : List ℕ) → IsSplitOnceResult 61 text None → (named : Named) → IsNamedList limits text named → IsNamedOrMemory (Err (record { at = length text; kind = NoEquals })) named
accepted_none limits text h named is =
    absurd (let none = read_none limits text h in let spelled = named_spelled limits text named is in cc)

pub accepted_list : (limits : Limits) (text : List ℕ) (list : NamedList) → named_of limits text ≡ Ok (named_in list) → (named : Named) → IsNamedList limits text named → IsNamedOrMemory (Ok list) named
accepted_list limits text list read named is =
    inl (let spelled = named_spelled limits text named is in cc)

pub accepted_bad : (limits : Limits) (text : List ℕ) (at : ℕ) (found : ListFault) → IsNamedFaultOf limits text (record { at = at; kind = BadList found.kind })
    → (named : Named) → IsNamedList limits text named → IsNamedOrMemory (Err (record { at = at; kind = BadList found.kind })) named
accepted_bad limits text at found fault named is =
    let spelled = named_spelled limits text named is in
    inr (ap BadList (memory_from found.kind (λ other. let first = fault.first (λ (e : BadList found.kind ≡ BadList Memory). other (let same : found.kind ≡ Memory = cc in same)) in cc)))

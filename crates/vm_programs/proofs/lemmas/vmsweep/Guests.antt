-- What is read of lists for guests.
use Rattle.std.proofs.Common.{◌≡◌, ◌∙◌, ◌⊎◌, ℕ, ◌+◌, ◌<◌, List, [], ◌∷◌, ◌++◌, Option, Some, None, Result, Ok, Err, IfOk, IfErr, Bor, inl, inr, refl, sym, ap, map, drop, length, append_assoc, subst, drop-cons, get_or, suc, arith}
use Rattle.std.proofs.lemmas.List.{map-append}
use Rattle.std.proofs.lemmas.Result.{IfOk-weaker}
use Rattle.clap.specs.Words.{Row, Text}
use Rattle.vm_lists.specs.declared.faults.ListFaultKind.{ListFaultKind}
use Rattle.vm_lists.specs.declared.faults.ListFaultKind.TheVariants as list
use Rattle.vm_lists.specs.declared.faults.NamedListFault.{NamedListFault}
use Rattle.vm_lists.specs.declared.faults.NamedListFaultKind.{NamedListFaultKind}
use Rattle.vm_lists.specs.declared.faults.NamedListFaultKind.TheVariants.{BadList, NoEquals}
use Rattle.vm_lists.specs.declared.named.NamedList.{NamedList}
use Rattle.vm_lists.specs.NamedLists.{IsNamedFaultOf, Named, named_in, named_of}
use Rattle.vm_lists.specs.Names.{names_in}
use Rattle.vm_programs.specs.vmsweep.Keys.{limits_of, word_of}
use Rattle.vm_programs.specs.vmsweep.Lists.{◌>>=◌, for_guest, given_each, guest_list, guests_of, names_checked, read_each, read_one}
use Rattle.vm_programs.specs.vmsweep.Refused.{IsFirstOf}
use Rattle.vm_programs.specs.declared.vmsweep.faults.SweepFault.{SweepFault}
use Rattle.vm_programs.specs.declared.vmsweep.faults.SweepFault.TheVariants.{BadNamedList}
use Rattle.vm_programs.specs.declared.vmsweep.keys.SweptKey.{SweptKey}
use Rattle.vm_programs.specs.declared.vmsweep.keys.SweptKey.TheVariants.{Min, Shares}
use Rattle.vm_words.specs.Words.{texts_of}

-- the names of lists, as they are read
pub names-same : (lists : List NamedList) → names_in lists ≡ map (λ list. list.name) (map named_in lists)
names-same [] = refl
names-same (list ∷ lists) = ap (λ names. list.name.now ∷ names) (names-same lists)

-- ---- one list

wants-memory : (kind : NamedListFaultKind) → (kind ≡ BadList list.Memory) ⊎ (kind ≡ BadList list.Memory → ⊥)
wants-memory NoEquals = inr (λ e. absurd cc)
wants-memory (BadList list.NoItem) = inr (λ e. absurd cc)
wants-memory (BadList (list.OutsideRange limits)) = inr (λ e. absurd cc)
wants-memory (BadList list.EndsBelow) = inr (λ e. absurd cc)
wants-memory (BadList list.NoStep) = inr (λ e. absurd cc)
wants-memory (BadList list.Memory) = inl refl

pub one-read : (key : SweptKey) (text : Text) (named : Named) → named_of (limits_of key) text ≡ Ok named → read_one key text ≡ Ok named
unfolding read_one
one-read key text named is = ap (for_guest key) is

pub one-fault : (key : SweptKey) (text : Text) (fault : NamedListFault) → IsNamedFaultOf (limits_of key) text fault
    → IsFirstOf (read_one key text) (BadNamedList key fault)
unfolding read_one
one-fault key text fault first =
    elim (wants-memory fault.kind) [
      | inl memory ↦ inr memory
      | inr other ↦ inl (ap (for_guest key) (first.first other))
    ]

-- ---- all of them

-- what is read behind what was read before
abbrev pub behind : List Named → Result (List Named) SweepFault → Result (List Named) SweepFault
behind lists (Ok []) = Ok lists
behind lists (Ok (one ∷ more)) = Ok (lists ++ one ∷ more)
behind lists (Err fault) = Err fault

module _ (key : SweptKey) (lists : List Named) (text : Text) (texts : List Text) where
  pub one-more : (list : Named) → read_one key text ≡ Ok list → behind (lists ++ list ∷ []) (read_each key texts) ≡ behind lists (read_each key (text ∷ texts))
  one-more list is = rw is (go (read_each key texts) refl)
    where
      go : (rest : Result (List Named) SweepFault) → read_each key texts ≡ rest
          → behind (lists ++ list ∷ []) rest ≡ behind lists (rest >>= (λ more. Ok (list ∷ more)))
      go (Ok []) same = refl
      go (Ok (one ∷ more)) same = ap Ok (append_assoc lists (list ∷ []) (one ∷ more))
      go (Err fault) same = refl

  pub one-bad : (fault : SweepFault) → read_one key text ≡ Err fault → behind lists (read_each key (text ∷ texts)) ≡ Err fault
  one-bad fault is = rw is refl

  pub first-bad : (whole : Result (List Named) SweepFault) (fault : SweepFault) → behind lists (read_each key (text ∷ texts)) ≡ whole
      → IsFirstOf (read_one key text) fault → IsFirstOf whole fault
  first-bad whole fault same (inl is) = inl (sym same ∙ one-bad fault is)
  first-bad whole fault same (inr memory) = inr memory

module _ (key : SweptKey) (texts : List (Bor Text)) (i : ℕ) (d : Bor Text) (within : i < length texts) where
  text-at : drop i texts ≡ get_or texts i d ∷ drop (i + 1) texts
  text-at =
      let next : suc i ≡ i + 1 = omega arith in
      drop-cons texts i d within ∙ ap (λ (k : ℕ). get_or texts i d ∷ drop k texts) next

  -- one text more was read, and what is left completes the whole
  pub more-read : (old new : List NamedList) (list : NamedList) (whole : Result (List Named) SweepFault)
      → read_one key (get_or texts i d).now ≡ Ok (named_in list) → new ≡ old ++ list ∷ []
      → behind (map named_in old) (read_each key (map (λ t. t.now) (drop i texts))) ≡ whole
      → behind (map named_in new) (read_each key (map (λ t. t.now) (drop (i + 1) texts))) ≡ whole
  more-read old new list whole is pushed left =
      let rest = map (λ t. t.now) (drop (i + 1) texts) in
      ap (λ ls. behind ls (read_each key rest)) (ap (map named_in) pushed ∙ map-append named_in old (list ∷ []))
      ∙ one-more key (map named_in old) (get_or texts i d).now rest (named_in list) is
      ∙ ap (λ ts. behind (map named_in old) (read_each key (map (λ t. t.now) ts))) (sym text-at) ∙ left

  -- a text that can't be read is the fault of the whole
  pub bad-read : (old : List NamedList) (fault : SweepFault) (whole : Result (List Named) SweepFault)
      → IsFirstOf (read_one key (get_or texts i d).now) fault
      → behind (map named_in old) (read_each key (map (λ t. t.now) (drop i texts))) ≡ whole → IsFirstOf whole fault
  bad-read old fault whole first left =
      first-bad key (map named_in old) (get_or texts i d).now (map (λ t. t.now) (drop (i + 1) texts)) whole fault
      (ap (λ ts. behind (map named_in old) (read_each key (map (λ t. t.now) ts))) (sym text-at) ∙ left) first

module _ (key : SweptKey) (rows : List Row) (word : Text) (is : word ≡ word_of key) (texts : List Text) (given : texts ≡ texts_of word rows) where
  pub each-given : given_each key rows ≡ read_each key texts
  unfolding given_each
  each-given = rw (← is, ← given) refl

-- what is said of a reading is said of one that is the same
module _ {L : Type 0} (result : Result L SweepFault) (wanted found : Result (List Named) SweepFault) (same : wanted ≡ found) where
  pub if-ok-as : (value : L → Result (List Named) SweepFault) → IfOk result (λ l. found ≡ value l) → IfOk result (λ l. wanted ≡ value l)
  if-ok-as value is = IfOk-weaker result _ _ (λ l e. same ∙ e) is

  pub if-err-as : IfErr result (IsFirstOf found) → IfErr result (IsFirstOf wanted)
  if-err-as is = subst (λ (r : Result (List Named) SweepFault). IfErr result (IsFirstOf r)) (sym same) is

-- ---- the lists of both words

module _ (rows : List Row) where
  pub min-fault : (fault : SweepFault) → IsFirstOf (given_each Min rows) fault → IsFirstOf (guests_of rows) fault
  unfolding guests_of
  min-fault fault (inl is) = inl (rw is refl)
  min-fault fault (inr memory) = inr memory

  module _ (minimums : List Named) (min_given : given_each Min rows ≡ Ok minimums) where
    pub shares-fault : (fault : SweepFault) → IsFirstOf (given_each Shares rows) fault → IsFirstOf (guests_of rows) fault
    unfolding guests_of
    shares-fault fault (inl is) = inl (rw (min_given, is) refl)
    shares-fault fault (inr memory) = inr memory

    module _ (shares : List Named) (shares_given : given_each Shares rows ≡ Ok shares) where
      pub min-name : (fault : SweepFault) → names_checked Min minimums ≡ Err fault → IsFirstOf (guests_of rows) fault
      unfolding guests_of
      min-name fault is = inl (rw (min_given, shares_given, is) refl)

      pub shares-name : (fault : SweepFault) → names_checked Min minimums ≡ Ok tt → names_checked Shares shares ≡ Err fault
          → IsFirstOf (guests_of rows) fault
      unfolding guests_of
      shares-name fault good is = inl (rw (min_given, shares_given, good, is) refl)

      pub guests-read : names_checked Min minimums ≡ Ok tt → names_checked Shares shares ≡ Ok tt
          → guests_of rows ≡ Ok (record { minimums = map guest_list minimums; shares = map guest_list shares })
      unfolding guests_of
      guests-read good fine = rw (min_given, shares_given, good, fine) refl

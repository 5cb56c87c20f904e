use Rattle.std.proofs.Common.{◌≡◌, ℕ, ◌-◌, ◌<◌, ◌≤◌, List, [], ◌∷◌, ◌++◌, length, Option, Some, None, Result, Ok, Err, sym, subst, ap, ap₂, ◌∙◌, arith, rules}
use Rattle.json.specs.Token.{Token}
use Rattle.json.specs.Json.{Json, Items, array, object, parse_map, after_end_array, read_key, items, members, value}
use Rattle.std.specs.Prelude.{IfOk, IsTrue, OnOk}
use Rattle.json.specs.Reads.{opens, token_of}
use Rattle.json.proofs.Grammar.{value_is, value-begin_array, value-begin_object, read_key-shorter, items_end, items_fail, items_more, members_end, members_no_key, members_fail, members_more}
use Rattle.vm_json.specs.Tree.{array_at, gathered, value_view}
use Rattle.vm_json.specs.declared.error.ReadError.{ReadError}
use Rattle.vm_json.specs.declared.value.Value.{Value, Text, Number, Bool, Null, the_lemmas}
use Rattle.vm_json.proofs.TreeLemmas.{items_before, members_before, items_before-no_items, members_before-no_members, one_more_item, gathered_push, one_more_member, none_before, view-Object}
use Rattle.vm_json.proofs.value.+read.Goals as goal

-- one item more was read
item_more : (p : List Token → Option (Json × List Token)) (n : ℕ) (all : Option (Items × List Token)) (before after : List Json) (j : Json) (tokens rest : List Token)
    → all ≡ parse_map (items_before before) (items p n tokens) → length tokens ≤ n → after_end_array tokens ≡ None → p tokens ≡ Some (j, rest) → length rest < length tokens → after ≡ before ++ j ∷ []
    → (m : ℕ) × (length rest ≤ m) × (all ≡ parse_map (items_before after) (items p m rest))
item_more p n all before after j tokens rest so_far enough going read less pushed =
    let turn = items_more p n tokens rest j (omega (arith, enough)) going read in (
      n - 1,
      omega (arith, enough),
      so_far ∙ ap (parse_map (items_before before)) turn ∙ one_more_item before j _ ∙ ap (λ js. parse_map (items_before js) (items p (n - 1) rest)) (sym pushed),
    )

-- what holds of a result whose value is read from other tokens, or that leaves fewer
begun : (rest : List Token) (read same : Option (Json × List Token)) → read ≡ same → (r : Result Value ReadError)
    → IfOk r (λ v. same ≡ Some (value_view v, rest)) → IfOk r (λ v. read ≡ Some (value_view v, rest))
begun rest read same is (Ok v) found = is ∙ found
begun rest read same is (Err e) found = tt

sooner : (a b c : ℕ) (r : Result Value ReadError) → b < c → OnOk r (a ≤ b) → OnOk r (a < c)
sooner a b c (Ok v) less few = omega (arith, less, few)
sooner a b c (Err e) less few = tt

no_later : (a b : ℕ) (r : Result Value ReadError) → OnOk r (a < b) → OnOk r (a ≤ b)
no_later a b (Ok v) less = omega (arith, less)
no_later a b (Err e) less = tt

pub read_value-returns-in_default-clause-invalid : goal.read_value-returns-in_default-clause-invalid
read_value-returns-in_default-clause-invalid t c invalid =
    let empty : c.args.reader.now ≡ [] = grind arith in
    ap (value c.args.depth) empty ∙ value_is c.args.depth []

pub read_value-returns-clause-invalid : goal.read_value-returns-clause-invalid
read_value-returns-clause-invalid t c invalid =
    let first : c.args.reader.now ≡ token_of c.in-Some.token ∷ c.next.new.self = grind arith in
    ap (value c.args.depth) first ∙ c.value_from.ensures.invalid invalid

pub read_value-returns-clause-shorter : goal.read_value-returns-clause-shorter
read_value-returns-clause-shorter t c =
    let first : c.args.reader.now ≡ token_of c.in-Some.token ∷ c.next.new.self = grind arith in
    let longer = ap length first in
    sooner (length c.value_from.new.reader) (length c.next.new.self) (length c.args.reader.now) c.value_from.result
    (omega (arith, longer)) c.value_from.ensures.shorter

pub read_value-returns-clause-memory : goal.read_value-returns-clause-memory
read_value-returns-clause-memory t c refused =
    let first : c.args.reader.now ≡ token_of c.in-Some.token ∷ c.next.new.self = grind arith in
    subst (λ ts. IsTrue (opens ts)) (sym first) (c.value_from.ensures.memory refused)

pub read_value-returns-clause-ok : goal.read_value-returns-clause-ok
read_value-returns-clause-ok t c =
    let first : c.args.reader.now ≡ token_of c.in-Some.token ∷ c.next.new.self = grind arith in
    begun c.value_from.new.reader _ _ (ap (value c.args.depth) first) c.value_from.result c.value_from.ensures.ok

pub value_from-returns-then-depth-eq0-clause-invalid : goal.value_from-returns-then-depth-eq0-clause-invalid
unfolding value
value_from-returns-then-depth-eq0-clause-invalid t c never =
    let none : c.args.depth ≡ 0 = omega arith in
    ap₂ value none (ap (λ k. token_of k ∷ c.args.reader.now) c.in-BeginArray.is)

pub value_from-returns-then-depth-eq0-2-clause-invalid : goal.value_from-returns-then-depth-eq0-2-clause-invalid
unfolding value
value_from-returns-then-depth-eq0-2-clause-invalid t c never =
    let none : c.args.depth ≡ 0 = omega arith in
    ap₂ value none (ap (λ k. token_of k ∷ c.args.reader.now) c.in-BeginObject.is)

pub value_from-returns-else-depth-eq0-clause-invalid : goal.value_from-returns-else-depth-eq0-clause-invalid
value_from-returns-else-depth-eq0-clause-invalid t c invalid =
    let opened = ap (value c.args.depth) (ap (λ k. token_of k ∷ c.args.reader.now) c.in-BeginArray.is) ∙ value-begin_array c.args.depth c.args.reader.now (omega arith) in
    opened ∙ ap (parse_map array) (c.read_items.ensures.invalid invalid)

pub value_from-returns-else-depth-eq0-clause-shorter : goal.value_from-returns-else-depth-eq0-clause-shorter
value_from-returns-else-depth-eq0-clause-shorter t c =
    no_later (length c.read_items.new.reader) (length c.args.reader.now) c.read_items.result c.read_items.ensures.shorter

pub value_from-returns-else-depth-eq0-clause-ok : goal.value_from-returns-else-depth-eq0-clause-ok
value_from-returns-else-depth-eq0-clause-ok t c =
    let opened = ap (value c.args.depth) (ap (λ k. token_of k ∷ c.args.reader.now) c.in-BeginArray.is) ∙ value-begin_array c.args.depth c.args.reader.now (omega arith) in
    begun c.read_items.new.reader _ _ opened c.read_items.result c.read_items.ensures.ok

pub value_from-returns-in_err-members-in-BeginObject-clause-invalid : goal.value_from-returns-in_err-members-in-BeginObject-clause-invalid
value_from-returns-in_err-members-in-BeginObject-clause-invalid t c invalid =
    let opened = ap (value c.args.depth) (ap (λ k. token_of k ∷ c.args.reader.now) c.in-BeginObject.is) ∙ value-begin_object c.args.depth c.args.reader.now (omega arith) in
    let failed : members (value (c.args.depth - 1)) (length c.args.reader.now) c.args.reader.now ≡ None = grind arith in
    opened ∙ ap (parse_map object) failed

pub value_from-returns-in_ok-members-in-BeginObject-clause-ok : goal.value_from-returns-in_ok-members-in-BeginObject-clause-ok
value_from-returns-in_ok-members-in-BeginObject-clause-ok t c =
    let opened = ap (value c.args.depth) (ap (λ k. token_of k ∷ c.args.reader.now) c.in-BeginObject.is) ∙ value-begin_object c.args.depth c.args.reader.now (omega arith) in
    opened ∙ ap (parse_map object) c.in_ok-members-in-BeginObject.ensures.ok ∙ ap (λ j. Some (j, c.read_members.new.reader)) (sym (view-Object c.in_ok-members-in-BeginObject.members))

pub value_from-returns-in-String-clause-ok : goal.value_from-returns-in-String-clause-ok
value_from-returns-in-String-clause-ok t c =
    let is : token_of c.args.token ∷ c.args.reader.now ≡ Token.string c.in-String.text.now ∷ c.args.reader.now = ap (λ k. token_of k ∷ c.args.reader.now) c.in-String.is in
    let seen : value_view (Text c.in-String.text) ≡ Json.string c.in-String.text.now = search (rules, the_lemmas) in
    ap (value c.args.depth) is ∙ value_is c.args.depth _ ∙ ap (λ j. Some (j, c.args.reader.now)) (sym seen)

pub value_from-returns-in-Number-clause-ok : goal.value_from-returns-in-Number-clause-ok
value_from-returns-in-Number-clause-ok t c =
    let is : token_of c.args.token ∷ c.args.reader.now ≡ Token.number c.in-Number.text.now ∷ c.args.reader.now = ap (λ k. token_of k ∷ c.args.reader.now) c.in-Number.is in
    let seen : value_view (Number c.in-Number.text) ≡ Json.number c.in-Number.text.now = search (rules, the_lemmas) in
    ap (value c.args.depth) is ∙ value_is c.args.depth _ ∙ ap (λ j. Some (j, c.args.reader.now)) (sym seen)

pub value_from-returns-in-Bool-clause-ok : goal.value_from-returns-in-Bool-clause-ok
value_from-returns-in-Bool-clause-ok t c =
    let is : token_of c.args.token ∷ c.args.reader.now ≡ Token.boolean c.in-Bool.b ∷ c.args.reader.now = ap (λ k. token_of k ∷ c.args.reader.now) c.in-Bool.is in
    let seen : value_view (Bool c.in-Bool.b) ≡ Json.boolean c.in-Bool.b = search (rules, the_lemmas) in
    ap (value c.args.depth) is ∙ value_is c.args.depth _ ∙ ap (λ j. Some (j, c.args.reader.now)) (sym seen)

pub value_from-returns-in-Null-clause-ok : goal.value_from-returns-in-Null-clause-ok
value_from-returns-in-Null-clause-ok t c =
    let is : token_of c.args.token ∷ c.args.reader.now ≡ Token.null ∷ c.args.reader.now = ap (λ k. token_of k ∷ c.args.reader.now) c.in-Null.is in
    let seen : value_view Null ≡ Json.null = search (rules, the_lemmas) in
    ap (value c.args.depth) is ∙ value_is c.args.depth _ ∙ ap (λ j. Some (j, c.args.reader.now)) (sym seen)

pub value_from-returns-in-EndObject-clause-invalid : goal.value_from-returns-in-EndObject-clause-invalid
value_from-returns-in-EndObject-clause-invalid t c invalid =
    rw (value_is c.args.depth (token_of c.args.token ∷ c.args.reader.now)) (grind arith)

pub read_items-loop-reader-init : goal.read_items-loop-reader-init
read_items-loop-reader-init t c =
    let none : gathered c.new-texts.result.items c.new-values.result.items ≡ [] = λ i. gathered (c.new-texts.ensures.items i) (c.new-values.ensures.items i) in (
      length c.args.reader.now,
      omega arith,
      none_before _ ∙ ap (λ js. parse_map (items_before js) (items (value c.args.depth) (length c.args.reader.now) c.args.reader.now)) (sym none),
      omega arith,
    )

pub read_items-returns-in_err-item-clause-invalid : goal.read_items-returns-in_err-item-clause-invalid
read_items-returns-in_err-item-clause-invalid t c invalid =
    let p = value c.args.depth in
    let l = c.loop-reader in
    let n = l.invariant.0 in
    let going : (after_end_array l.reader ≡ None) × (c.take_end_array.new.self ≡ l.reader) = grind arith in
    let failed : p c.take_end_array.new.self ≡ None = grind arith in
    l.invariant.2 ∙ ap (parse_map (items_before (gathered l.texts.items l.values.items))) (items_fail p n l.reader going.0 (rw (← going.1) failed))

pub read_items-returns-in_default-clause-invalid : goal.read_items-returns-in_default-clause-invalid
read_items-returns-in_default-clause-invalid t c invalid =
    let p = value c.args.depth in
    let l = c.loop-reader in
    let n = l.invariant.0 in
    let going : (after_end_array l.reader ≡ None) × (c.take_end_array.new.self ≡ l.reader) = grind arith in
    let empty : c.take_end_array.new.self ≡ [] = grind arith in
    let failed : p c.take_end_array.new.self ≡ None = ap p empty ∙ value_is c.args.depth [] in
    l.invariant.2 ∙ ap (parse_map (items_before (gathered l.texts.items l.values.items))) (items_fail p n l.reader going.0 (rw (← going.1) failed))

pub read_items-loop-reader-preserved : goal.read_items-loop-reader-preserved
read_items-loop-reader-preserved t c =
    let l = c.loop-reader in
    let rest = c.next.new.self in
    let going : (after_end_array l.reader ≡ None) × (c.take_end_array.new.self ≡ l.reader) = grind arith in
    let first : c.take_end_array.new.self ≡ token_of c.in-Some.token ∷ rest = grind arith in
    let is : l.reader ≡ token_of c.in-Some.token ∷ rest = sym going.1 ∙ first in
    let done = c.in_ok-item.ensures in
    let longer = ap length is in
    let less : length c.value_from.new.reader < length l.reader = omega (arith, longer, done.shorter) in
    let turn = item_more (value c.args.depth) l.invariant.0 _ _ _ _ l.reader c.value_from.new.reader l.invariant.2 l.invariant.1 going.0 (ap (value c.args.depth) is ∙ done.ok) less (gathered_push l.texts.items l.values.items c.in_ok-item.item c.add.new.items.items c.in_ok-add.ensures.ok) in
    (turn.0, turn.1, turn.2, omega (arith, l.invariant.3))

pub read_items-loop-reader-preserved-in-Continue-1 : goal.read_items-loop-reader-preserved-in-Continue-1
read_items-loop-reader-preserved-in-Continue-1 t c =
    let l = c.loop-reader in
    let rest = c.next.new.self in
    let going : (after_end_array l.reader ≡ None) × (c.take_end_array.new.self ≡ l.reader) = grind arith in
    let first : c.take_end_array.new.self ≡ token_of c.in-Some.token ∷ rest = grind arith in
    let is : l.reader ≡ Token.string c.in-String.text.now ∷ rest = sym going.1 ∙ first ∙ ap (λ k. token_of k ∷ rest) c.in-String.is in
    let longer = ap length is in
    let less : length rest < length l.reader = omega (arith, longer) in
    let turn = item_more (value c.args.depth) l.invariant.0 _ _ _ _ l.reader rest l.invariant.2 l.invariant.1 going.0 (ap (value c.args.depth) is ∙ value_is c.args.depth _) less c.in_ok-gather.ensures.ok in
    (turn.0, turn.1, turn.2, omega (arith, l.invariant.3))

pub read_items-returns-clause-ok : goal.read_items-returns-clause-ok
read_items-returns-clause-ok t c =
    let p = value c.args.depth in
    let l = c.loop-reader in
    let n = l.invariant.0 in
    let r = c.take_end_array.new.self in
    let before = gathered l.texts.items l.values.items in
    ap array_at (l.invariant.2 ∙ ap (parse_map (items_before before)) (items_end p n l.reader r l.invariant.1 (grind arith)) ∙ ap (λ js. Some (js, r)) (items_before-no_items before))
    ∙ ap (λ j. Some (j, r)) (sym c.in_ok-array.ensures.ok)

pub read_members-returns-in_default-clause-invalid : goal.read_members-returns-in_default-clause-invalid
read_members-returns-in_default-clause-invalid t c invalid =
    let p = value c.args.depth in
    let l = c.loop-next in
    let n = l.invariant.0 in
    l.invariant.2 ∙ ap (parse_map (members_before l.found.items)) (members_no_key p n l.reader c.in_default.ensures.value)

pub read_members-returns-in_default-next-clause-ok : goal.read_members-returns-in_default-next-clause-ok
read_members-returns-in_default-next-clause-ok t c =
    let p = value c.args.depth in
    let l = c.loop-next in
    let n = l.invariant.0 in
    let r = c.next_key.new.self in
    l.invariant.2 ∙ ap (parse_map (members_before l.found.items)) (members_end p n l.reader r l.invariant.1 (grind arith)) ∙ ap (λ ms. Some (ms, r)) (members_before-no_members l.found.items)

pub read_members-returns-in_err-member-clause-invalid : goal.read_members-returns-in_err-member-clause-invalid
read_members-returns-in_err-member-clause-invalid t c invalid =
    let p = value c.args.depth in
    let l = c.loop-next in
    let n = l.invariant.0 in
    let k = c.in-Some.key.now in
    let s = c.next_key.new.self in
    let key : read_key l.reader ≡ Some (Some k, s) = grind arith in
    let failed : p s ≡ None = grind arith in
    l.invariant.2 ∙ ap (parse_map (members_before l.found.items)) (members_fail p n k l.reader s key failed)

pub read_members-loop-next-preserved : goal.read_members-loop-next-preserved
read_members-loop-next-preserved t c =
    let p = value c.args.depth in
    let l = c.loop-next in
    let n = l.invariant.0 in
    let k = c.in-Some.key.now in
    let s = c.next_key.new.self in
    let key : read_key l.reader ≡ Some (Some k, s) = grind arith in
    let done = c.in_ok-member.ensures in
    let v = c.in_ok-member.member in
    let r = c.read_value.new.reader in
    let less = read_key-shorter l.reader (Some k) s key in
    let lesser = done.shorter in
    let pushed : c.add.new.items.items ≡ l.found.items ++ (c.in-Some.key, v) ∷ [] = search rules in
    let turn = members_more p n k l.reader s r (value_view v) (omega (arith, l.invariant.1)) key done.ok in (
      n - 1,
      omega (arith, l.invariant.1),
      l.invariant.2 ∙ ap (parse_map (members_before l.found.items)) turn ∙ one_more_member l.found.items (c.in-Some.key, v) _
          ∙ ap (λ ms. parse_map (members_before ms) (members p (n - 1) r)) (sym pushed),
      omega (arith, l.invariant.3),
    )

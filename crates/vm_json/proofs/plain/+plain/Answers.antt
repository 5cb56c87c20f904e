use Rattle.std.proofs.Common.{◌≡◌, ℕ, ◌-◌, ◌<◌, ◌≤◌, ◌∷◌, List, length, map, Bool, true, false, cond, Option, Some, Ok, Err, Result, sym, ap, subst, ◌∙◌, rules, arith}
use Rattle.std.proofs.lemmas.List.{append-nil}
use Rattle.std.proofs.lemmas.Simd.{map-map}
use Rattle.std.specs.Borrow.{Bor}
use Rattle.std.specs.Prelude.{IfOk, IfSome}
use Rattle.std.specs.Result.{result_ok}
use Rattle.json.specs.Json.{Json, array, no_items}
use Rattle.json.specs.Lex.{Lexeme, token, comma, colon, between, lex}
use Rattle.json.specs.Token.{Token}
use Rattle.json.specs.Value.{items_of}
use Rattle.vm_json.specs.Plain.{GivesArray, GivesMembers, GivesValue}
use Rattle.vm_json.specs.Tree.{gathered, members_view, texts_view, value_view}
use Rattle.vm_json.specs.declared.value.Value.{Texts}
use Rattle.vm_json.proofs.TreeLemmas.{view-Object, view-Texts}
use Rattle.vm_json.proofs.PlainLemmas.{HasItems, HasMembers, array_given, object_given, texts_begin, item_added, items_ended, no_items_given, no_members_yet, member_added, members_ended, no_members_given}
use Rattle.vm_json.proofs.plain.+plain.Goals as goal

abbrev bytes : Bor (List ℕ) → List ℕ
bytes t = t.now

-- what holds of the content of an `Option`, where that is known, and of what `ok_or` makes of it
content : {A : Type 0} (P : A → Type 0) (o : Option A) (a : A) → o ≡ Some a → IfSome o P → P a
content P o a is h = subst (λ r. IfSome r P) is h

ok_content : {A E : Type 0} (P : A → Type 0) (r : Result A E) (o : Option A) → o ≡ result_ok r → IfSome o P → IfOk r P
ok_content P (Ok a) o is h = subst (λ q. IfSome q P) is h
ok_content P (Err e) o is h = tt

each_ok : {A E : Type 0} (P Q : A → Type 0) → ((a : A) → P a → Q a) → (r : Result A E) → IfOk r P → IfOk r Q
each_ok P Q then (Ok a) h = then a h
each_ok P Q then (Err e) h = tt

-- what stands behind an item, once it is known whether that is the closing bracket
seen_behind : (next : List ℕ) (closing : Lexeme) (o : Option (Bool × Bor (List ℕ))) (ended : Bool) (behind : Bor (List ℕ)) (is : Bool)
    → o ≡ Some (ended, behind) → ended ≡ is → IfSome o (λ r. lex between next ≡ cond r.0 closing comma ∷ lex between r.1.now) → lex between next ≡ cond is closing comma ∷ lex between behind.now
seen_behind next closing o ended behind is found known h =
    content (λ r. lex between next ≡ cond r.0 closing comma ∷ lex between r.1.now) o (ended, behind) found h ∙ ap (λ b. cond b closing comma ∷ lex between behind.now) known

pub plain_items-returns-in-Some-clause-value : goal.plain_items-returns-in-Some-clause-value
plain_items-returns-in-Some-clause-value t c =
    let seen : value_view (Texts c.new.result) ≡ array no_items = view-Texts c.new.result ∙ ap (λ ts. array (items_of (texts_view ts))) c.new.ensures.items in
    subst (λ j. GivesArray c.args.depth c.args.text.now j c.in-Some.left.now) (sym seen) (no_items_given c.args.depth c.args.text.now c.in-Some.left.now c.in-Some.ensures.lexemes)

pub plain_items-loop-values-init : goal.plain_items-loop-values-init
plain_items-loop-values-init t c =
    let depth = c.args.depth in
    let text = c.args.text.now in
    let left = c.in_ok-texts.left.now in
    let texts = c.in_ok-texts.texts.items in
    let all : map Json.string (map bytes texts) ≡ gathered texts c.new-values.result.items = map-map Json.string bytes texts ∙ sym (append-nil (texts_view texts)) ∙ ap (gathered texts) (sym c.new-values.ensures.items) in (
      search rules,
      subst (λ js. HasItems depth text js left) all (texts_begin depth text (map bytes texts) left c.in_ok-texts.ensures.ok),
      c.in_ok-texts.ensures.shorter,
    )

pub plain_items-returns-then-ended-clause-value : goal.plain_items-returns-then-ended-clause-value
plain_items-returns-then-ended-clause-value t c =
    let l = c.loop-values in
    let read = c.in_ok-value in
    let end = c.in_ok-ended in
    let before = gathered l.texts.items l.values.items in
    let after = gathered c.gather_value.new.texts.items c.gather_value.new.values.items in
    let ending = seen_behind read.next.now (token Token.end_array) c.after_item.result end.ended end.behind true end.ensures.ok_part c.if-ended.true c.after_item.ensures.lexemes in
    subst (λ j. GivesArray c.args.depth c.args.text.now j end.behind.now) (sym c.in_ok-array.ensures.ok)
    (items_ended c.args.depth c.args.text.now before l.left.now (value_view read.value) read.next.now end.behind.now after l.invariant.1 read.ensures.value ending c.in_ok-gather_value.ensures.ok)

pub plain_items-loop-values-preserved : goal.plain_items-loop-values-preserved
plain_items-loop-values-preserved t c =
    let l = c.loop-values in
    let read = c.in_ok-value in
    let end = c.in_ok-ended in
    let before = gathered l.texts.items l.values.items in
    let after = gathered c.gather_value.new.texts.items c.gather_value.new.values.items in
    let going = seen_behind read.next.now (token Token.end_array) c.after_item.result end.ended end.behind false end.ensures.ok_part c.if-ended.false c.after_item.ensures.lexemes in
    let shorter = content (λ r. length r.1.now < length read.next.now) c.after_item.result (end.ended, end.behind) end.ensures.ok_part c.after_item.ensures.shorter in (
      search rules,
      item_added c.args.depth c.args.text.now before l.left.now (value_view read.value) read.next.now end.behind.now after l.invariant.1 read.ensures.value going c.in_ok-gather_value.ensures.ok,
      omega (arith, shorter, read.ensures.shorter, l.invariant.2),
    )

pub plain_members-returns-in-Some-clause-value : goal.plain_members-returns-in-Some-clause-value
plain_members-returns-in-Some-clause-value t c =
    subst (λ ms. GivesMembers c.args.depth c.args.text.now (members_view ms) c.in-Some.left.now) (sym c.new-members.ensures.items) (no_members_given c.args.depth c.args.text.now c.in-Some.left.now c.in-Some.ensures.lexemes)

pub plain_members-loop-members-init : goal.plain_members-loop-members-init
plain_members-loop-members-init t c =
    let text = c.args.text.now in (
      search rules,
      subst (λ ms. HasMembers c.args.depth text ms text) (sym c.new-members.ensures.items) (no_members_yet c.args.depth text),
      omega arith,
    )

pub plain_members-returns-then-ended-clause-value : goal.plain_members-returns-then-ended-clause-value
plain_members-returns-then-ended-clause-value t c =
    let l = c.loop-members in
    let read = c.in_ok-value in
    let end = c.in_ok-ended in
    let key = c.in_ok-key.key in
    let inside = c.in_ok-key.behind_key in
    let named = content (λ r. lex between l.left.now ≡ token (Token.string r.0.now) ∷ colon ∷ lex between r.1.now) c.text_before.result (key, inside) c.in_ok-key.ensures.ok_part c.text_before.ensures.lexemes in
    let ending = seen_behind read.next.now (token Token.end_object) c.after_item.result end.ended end.behind true end.ensures.ok_part c.if-ended.true c.after_item.ensures.lexemes in
    members_ended c.args.depth c.args.text.now l.members.items l.left.now (key, read.value) inside.now read.next.now end.behind.now c.add.new.items.items l.invariant.1 named read.ensures.value ending c.in_ok-add.ensures.ok

pub plain_members-loop-members-preserved : goal.plain_members-loop-members-preserved
plain_members-loop-members-preserved t c =
    let l = c.loop-members in
    let read = c.in_ok-value in
    let end = c.in_ok-ended in
    let key = c.in_ok-key.key in
    let inside = c.in_ok-key.behind_key in
    let named = content (λ r. lex between l.left.now ≡ token (Token.string r.0.now) ∷ colon ∷ lex between r.1.now) c.text_before.result (key, inside) c.in_ok-key.ensures.ok_part c.text_before.ensures.lexemes in
    let shorter_key = content (λ r. length r.1.now < length l.left.now) c.text_before.result (key, inside) c.in_ok-key.ensures.ok_part c.text_before.ensures.shorter in
    let going = seen_behind read.next.now (token Token.end_object) c.after_item.result end.ended end.behind false end.ensures.ok_part c.if-ended.false c.after_item.ensures.lexemes in
    let shorter = content (λ r. length r.1.now < length read.next.now) c.after_item.result (end.ended, end.behind) end.ensures.ok_part c.after_item.ensures.shorter in (
      search rules,
      member_added c.args.depth c.args.text.now l.members.items l.left.now (key, read.value) inside.now read.next.now end.behind.now c.add.new.items.items l.invariant.1 named read.ensures.value going c.in_ok-add.ensures.ok,
      omega (arith, shorter, shorter_key, read.ensures.shorter, l.invariant.2),
    )

pub plain_value-returns-in-Some-clause-value : goal.plain_value-returns-in-Some-clause-value
plain_value-returns-in-Some-clause-value t c =
    let text = c.args.text.now in
    let inside = c.in-Some.inside.now in
    each_ok (λ f. GivesArray (c.args.depth - 1) inside (value_view f.0) f.1.now) (λ f. GivesValue c.args.depth text (value_view f.0) f.1.now)
    (λ f given. array_given c.args.depth text inside f.1.now (value_view f.0) (omega arith) c.in-Some.ensures.lexemes given)
    c.plain_items.result c.plain_items.ensures.value

pub plain_value-returns-in-Some-clause-shorter : goal.plain_value-returns-in-Some-clause-shorter
plain_value-returns-in-Some-clause-shorter t c =
    let text = c.args.text.now in
    let inside = c.in-Some.inside.now in
    let less : length inside < length text = c.in-Some.ensures.shorter in
    each_ok (λ f. length f.1.now ≤ length inside) (λ f. length f.1.now ≤ length text) (λ f few. omega (arith, less, few))
    c.plain_items.result c.plain_items.ensures.shorter

pub plain_value-returns-in-Some-after-clause-value : goal.plain_value-returns-in-Some-after-clause-value
plain_value-returns-in-Some-after-clause-value t c =
    let inside = c.in-Some-after.inside.now in
    let members = c.in_ok-members.members in
    let left = c.in_ok-members.left.now in
    subst (λ j. GivesValue c.args.depth c.args.text.now j left) (sym (view-Object members))
    (object_given c.args.depth c.args.text.now inside left (members_view members.items) (omega arith) c.in-Some-after.ensures.lexemes c.in_ok-members.ensures.value)

pub plain_value-returns-clause-value : goal.plain_value-returns-clause-value
plain_value-returns-clause-value t c =
    ok_content (λ found. GivesValue c.args.depth c.args.text.now (value_view found.0) found.1.now) c.ok_or.result c.leaf.result c.ok_or.ensures.ok_part (c.leaf.ensures.value c.args.depth)

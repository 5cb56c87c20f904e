use Rattle.std.proofs.Common.{◌≡◌, ◌+◌, ◌<◌, ℕ, Bool, List, [], ◌∷◌, ◌++◌, length, get_or, take, drop, map, sym, ap, ◌∙◌, subst, arith, append-nil}
use Rattle.std.specs.Borrow.{Bor}
use Rattle.std.specs.Option.{option_map}
use Rattle.std.proofs.lemmas.List.{drop_all, length-map, take_more}
use Rattle.vm_json.specs.declared.value.Value.{Value}
use Rattle.vm_keys.specs.OddKeys.{Odd, odd_from, odd_of}
use Rattle.vm_keys.specs.Seen.{AreSeen}
use Rattle.vm_keys.proofs.NearLemmas.{texts}
use Rattle.vm_keys.proofs.OddLemmas.{key_at, told_more}
use Rattle.vm_keys.proofs.SeenLemmas.{seen_none}
use Rattle.vm_keys.proofs.odd.odd_members.Goals as goal

pub loop-key-init : goal.loop-key-init
loop-key-init c =
    let known = texts c.args.known.now in
    let keys = map (λ (m : Bor (List ℕ) × Value). m.0.now) c.args.members.now in
    record {
      seen = subst (λ (flags : List Bool). AreSeen known [] flags) (sym c.in_ok-seen.ensures)
          (seen_none known (length c.args.known.now) (sym (length-map c.args.known.now (λ (k : Bor (List ℕ)). k.now))));
      whole = ap (λ items. map odd_of items ++ odd_from known [] keys) c.new-odd.ensures.items;
    }

pub loop-key-preserved : goal.loop-key-preserved
loop-key-preserved c =
    let known = texts c.args.known.now in
    let members = c.args.members.now in
    let keys = map (λ (m : Bor (List ℕ) × Value). m.0.now) members in
    let i = c.loop-key.key-index in
    let item = c.loop-key-item.result in
    let at : get_or keys i [] ≡ item.0.now = key_at members i item (omega arith) c.loop-key-item.is in
    let within : i < length keys = omega (arith, length-map members (λ (m : Bor (List ℕ) × Value). m.0.now)) in
    let found = c.in_ok-found.ensures (take i keys) c.loop-key.invariant.seen in
    record {
      seen = subst (λ (ks : List (List ℕ)). AreSeen known ks c.odd_key.new.seen.flags.items)
          (sym (take_more keys i [] within ∙ ap (λ (k : List ℕ). take i keys ++ k ∷ []) at)) found.1;
      whole = ap (λ (odd : List Odd). odd ++ odd_from known (take (i + 1) keys) (drop (i + 1) keys)) c.in_ok-add.ensures.ok
          ∙ told_more known keys i item.0.now (map odd_of c.loop-key.odd.items) (option_map odd_of c.in_ok-found.found) _ within at found.0 c.loop-key.invariant.whole;
    }

pub returns : goal.returns
returns c =
    let known = texts c.args.known.now in
    let members = c.args.members.now in
    let keys = map (λ (m : Bor (List ℕ) × Value). m.0.now) members in
    let i = c.loop-key.key-index in
    let odd = map odd_of c.loop-key.odd.items in
    let none : drop i keys ≡ [] = drop_all i keys (omega (arith, length-map members (λ (m : Bor (List ℕ) × Value). m.0.now))) in
    sym (append-nil odd) ∙ (ap (λ (ks : List (List ℕ)). odd ++ odd_from known (take i keys) ks) (sym none) ∙ c.loop-key.invariant.whole)

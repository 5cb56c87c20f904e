use Rattle.std.proofs.Common.{◌≡◌, ℕ, List, [], ◌∷◌, ◌++◌, Option, Some, None, cond, Bool, sym, ap, ◌∙◌, subst}
use Rattle.std.specs.Borrow.{Bor}
use Rattle.std.specs.Prelude.{bytes_eq}
use Rattle.vm_keys.specs.OddKeys.{unknown, twice}
use Rattle.vm_keys.specs.Seen.{place_in, AreSeen}
use Rattle.vm_keys.proofs.NearLemmas.{position-map, texts}
use Rattle.vm_keys.proofs.SeenLemmas.{seen_past_known, seen_past_unknown, told_known, told_unknown}
use Rattle.vm_keys.proofs.odd.odd_key.Goals as goal

pub returns-in-Some : goal.returns-in-Some
returns-in-Some c earlier seen =
    let known = texts c.args.known.now in
    let key = c.args.key.now in
    let found : place_in known key ≡ Some c.in-Some.place =
    sym (position-map (λ (k : Bor (List ℕ)). k.now) (λ one. bytes_eq one key) c.args.known.now) ∙ (sym c.place_of.ensures ∙ c.in-Some.is) in
    let was = c.note.ensures.was in (
      c.twice.ensures
          ∙ (ap (λ (b : Bool). cond b (Some (twice key)) None) was ∙ sym (told_known known earlier c.args.seen.now.flags.items key c.in-Some.place found seen)),
      subst (λ (flags : List Bool). AreSeen known (earlier ++ key ∷ []) flags) (sym c.note.ensures.is)
          (seen_past_known known earlier c.args.seen.now.flags.items key c.in-Some.place found seen),
    )

pub returns : goal.returns
returns c earlier seen =
    let known = texts c.args.known.now in
    let key = c.args.key.now in
    let none : place_in known key ≡ None =
    sym (position-map (λ (k : Bor (List ℕ)). k.now) (λ one. bytes_eq one key) c.args.known.now) ∙ (sym c.place_of.ensures ∙ c.in_default.is) in (
      ap (λ (n : Option (List ℕ)). Some (unknown key n)) c.in_ok-nearest.ensures ∙ sym (told_unknown known earlier key none),
      seen_past_unknown known earlier c.args.seen.now.flags.items key none seen,
    )

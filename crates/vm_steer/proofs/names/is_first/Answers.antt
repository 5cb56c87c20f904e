use Rattle.std.proofs.Common.{◌≡◌, ◌∙◌, ◌-◌, ◌≤◌, Bool, true, false, not, List, ℕ, Bor, length, map, arith, sym}
use Rattle.std.proofs.lemmas.List.{length-map}
use Rattle.std.specs.Bool.{OnTrue}
use Rattle.vm_steer.specs.Names.{place_of, stands_at, AreRising}
use Rattle.vm_steer.proofs.NameLemmas.{first_is, stands_in}
use Rattle.vm_steer.proofs.names.is_first.Goals as goal

at_front : (names : List (List ℕ)) (name : List ℕ) (place : ℕ) (r : Bool) → AreRising names → place ≡ 0 → r ≡ stands_at names place name → OnTrue r (place ≡ place_of names name)
at_front names name place true rising front is = first_is names name place rising (sym is) (λ some. absurd (omega (arith, some, front)))
at_front names name place false rising front is = tt

unless : (names : List (List ℕ)) (name : List ℕ) (place : ℕ) (r : Bool) → AreRising names → stands_at names place name ≡ true → r ≡ stands_at names (place - 1) name → OnTrue (not r) (place ≡ place_of names name)
unless names name place true rising at is = tt
unless names name place false rising at is = first_is names name place rising at (λ _. sym is)

anyway : (P : Type 0) (r : Bool) → P → OnTrue r P
anyway P true p = p
anyway P false p = tt

pub returns-then-place-eq0-clause-exact : goal.returns-then-place-eq0-clause-exact
returns-then-place-eq0-clause-exact c =
    at_front (map (λ (n : Bor (List ℕ)). n.now) c.args.names.now) c.args.name.now c.args.place c.is_at.result c.requires c.if-place-eq0.true c.is_at.ensures

pub returns-then-is_at-clause-exact : goal.returns-then-is_at-clause-exact
returns-then-is_at-clause-exact c =
    unless (map (λ (n : Bor (List ℕ)). n.now) c.args.names.now) c.args.name.now c.args.place c.is_at-then-is_at.result c.requires (sym c.is_at-2.ensures ∙ c.if-is_at.true) c.is_at-then-is_at.ensures

pub returns-then-is_at-clause-within : goal.returns-then-is_at-clause-within
returns-then-is_at-clause-within c =
    let names = map (λ (n : Bor (List ℕ)). n.now) c.args.names.now in
    let within = stands_in names c.args.place c.args.name.now (sym c.is_at-2.ensures ∙ c.if-is_at.true) in
    let all : length names ≡ length c.args.names.now = length-map c.args.names.now (λ (n : Bor (List ℕ)). n.now) in
    anyway (c.args.place ≤ length c.args.names.now) (not c.is_at-then-is_at.result) (omega (arith, within, all))

-- A device in which no page is used early, and a page that comes to be used early.
use Rattle.std.proofs.Common.{◌≡◌, ℕ, ◌<◌, Bool, true, false, List, [], ◌∷◌, ◌++◌, inl, inr, refl, sym, ap, ◌∙◌}
use Rattle.std.specs.Prelude.{◌==◌}
use Rattle.std.specs.List.{list_any}
use Rattle.std.proofs.lemmas.Bool.{cases_eq, eq-eqb}
use Rattle.std.proofs.lemmas.List.Elements.{All-nil, All-cons, All-append}
use Rattle.std.proofs.lemmas.List.Folds.{list_any-append}
use Rattle.vm_pages.specs.Pages.{no_pages, contains, insert, remove}
use Rattle.vm_pages.proofs.PageSets.{contains-no_pages, contains-insert_other, contains-remove_same, contains-remove_before}
use Rattle.vm_balloon.specs.Device.{DeviceState, AreApart, with_early_use}
use Rattle.vm_balloon.specs.DeviceFields.{AreListed}
use Rattle.vm_balloon.proofs.MarkLemmas.{or-true}

-- no page is in both sets where one is empty
pub AreApart-none : (balloon early : List Bool) (size : ℕ) → early ≡ no_pages size → AreApart balloon early
AreApart-none balloon early size none = λ page there. ap (λ pages. contains pages page) none ∙ contains-no_pages size page

-- the empty list has each page of the empty set
pub AreListed-none : (pages : List Bool) (listed : List ℕ) (size : ℕ) → pages ≡ no_pages size → listed ≡ [] → AreListed pages listed size
AreListed-none pages listed size none empty = record {
  in_range = rw empty (All-nil (λ page. page < size));
  covered = λ page there.
      let wrong : false ≡ true = sym (contains-no_pages size page) ∙ sym (ap (λ (xs : List Bool). contains xs page) none) ∙ there in
      absurd (cc);
}

-- a page leaves the balloon and is used early
pub used_early : (before now : DeviceState) (balloon early : List Bool) (page : ℕ) → before ≡ now → balloon ≡ remove before.balloon page → early ≡ insert before.early page
    → record before { balloon = balloon; early = early } ≡ with_early_use now page
used_early before now balloon early page same removed inserted =
    (λ i. record before { balloon = removed i; early = inserted i }) ∙ ap (λ (d : DeviceState). with_early_use d page) same

-- where a page leaves the one set for the other, none is in both
pub AreApart-used : (balloon early : List Bool) (page : ℕ) → AreApart balloon early → AreApart (remove balloon page) (insert early page)
AreApart-used balloon early page apart = λ other there. elim (cases_eq other page) [
  | inl same ↦
      let gone : contains (remove balloon page) other ≡ false = rw same (contains-remove_same balloon page) in
      let wrong : false ≡ true = sym gone ∙ there in
      absurd (cc)
  | inr differ ↦ contains-insert_other early page other differ ∙ apart other (contains-remove_before balloon page other there)
]

-- the list has each page of the set, also where both get one more
pub AreListed-used : (early : List Bool) (listed : List ℕ) (page size : ℕ) → page < size → AreListed early listed size → AreListed (insert early page) (listed ++ page ∷ []) size
AreListed-used early listed page size below are = record {
  in_range = All-append (λ p. p < size) listed (page ∷ []) are.in_range (All-cons (λ p. p < size) page [] below (All-nil (λ p. p < size)));
  covered = λ other there. list_any-append (λ number. number == other) listed (page ∷ []) ∙ (elim (cases_eq other page) [
    | inl same ↦
        let last : (page == other) ≡ true = eq-eqb page other (sym same) in
        rw last (or-true (list_any (λ number. number == other) listed))
    | inr differ ↦
        let before = are.covered other (sym (contains-insert_other early page other differ) ∙ there) in
        rw before refl
  ]);
}

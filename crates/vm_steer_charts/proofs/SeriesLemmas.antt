-- One good sample more.
use Rattle.std.proofs.Common.{◌≡◌, ◌∙◌, ℕ, ◌+◌, ◌-◌, ◌≤◌, nat_le, Bool, true, false, List, [], ◌∷◌, ◌++◌, drop, length, map, append_assoc, refl, sym, ap, arith, if◌then◌else◌}
use Rattle.std.proofs.lemmas.Bool.Decides.{nat_tests}
use Rattle.std.proofs.lemmas.List.{drop-append-le, drop-drop, drop-map, length-append, length-drop, length-map, map-append}
use Rattle.std.specs.Prelude.{Result, Ok, Err}
use Rattle.vm_samples.specs.declared.sample.BadSample.{BadSample}
use Rattle.vm_samples.specs.Policies.{PolicyView}
use Rattle.vm_samples.specs.Samples.{DomainView}
use Rattle.vm_steer.specs.Entries.{ToldView, names_in, remembered_in}
use Rattle.vm_steer.specs.Names.{AreRising}
use Rattle.vm_steer.specs.Order.{in_order, names_of as domain_names}
use Rattle.vm_steer.specs.Told.{sight_of, sights_of}
use Rattle.vm_steer.proofs.OrderLemmas.{placed_rising}
use Rattle.vm_steer.proofs.StepLemmas.{rising_told}
use Rattle.vm_steer.specs.Steering.{SteeringView, steered}
use Rattle.vm_steer_charts.specs.Rows.{Row, last_of, row_of, told_in}
use Rattle.vm_steer_charts.specs.Series.{SeriesView, after, after_good, begun_with, left_out, Shows}

-- of how many one is left out
out_of : (old : ℕ) (all : ℕ) → old ≡ all - (all - 10000) → (all - 10000) + (if nat_le 10000 old then 1 else 0) ≡ (all + 1) - 10000
out_of old all is = grind (arith, nat_tests, is)

module _ (told : List ToldView) (more : ToldView) (rows : List Row) (shown : rows ≡ map row_of (last_of 10000 told)) where
  many : length rows ≡ length told - (length told - 10000)
  many =
      ap (λ (l : List Row). length l) shown ∙ length-map (last_of 10000 told) row_of
      ∙ length-drop (length told - 10000) told

  longer : length (told ++ more ∷ []) ≡ length told + 1
  longer = length-append told (more ∷ [])

  out : (length told - 10000) + left_out rows ≡ length (told ++ more ∷ []) - 10000
  out = out_of (length rows) (length told) many ∙ ap (λ (n : ℕ). n - 10000) (sym longer)

  within : (length told - 10000) + left_out rows ≤ length told
  within = omega (arith, out, longer)

  rows_more : drop (left_out rows) rows ++ row_of more ∷ [] ≡ map row_of (last_of 10000 (told ++ more ∷ []))
  rows_more =
      ap (λ (l : List Row). drop (left_out rows) l ++ row_of more ∷ []) shown
      ∙ ap (λ (l : List Row). l ++ row_of more ∷ []) (drop-map row_of (left_out rows) (last_of 10000 told)
      ∙ ap (map row_of) (drop-drop (left_out rows) (length told - 10000) told))
      ∙ sym (map-append row_of (drop ((length told - 10000) + left_out rows) told) (more ∷ []))
      ∙ ap (map row_of) (sym (drop-append-le ((length told - 10000) + left_out rows) told (more ∷ []) within)
      ∙ ap (λ (n : ℕ). drop n (told ++ more ∷ [])) out)

pub shows_begun : (policy : PolicyView) → Shows [] (begun_with policy)
shows_begun policy = record { first = refl; rows = refl }

shows_more : (told : List ToldView) (s : SeriesView) (domains : List DomainView) → Shows told s
    → Shows (told ++ (steered s.steering domains).last ∷ []) (after_good s domains)
shows_more told s domains shown = record {
  first = ap (λ (n : ℕ). n + left_out s.rows) shown.first ∙ out told (steered s.steering domains).last s.rows shown.rows;
  rows = rows_more told (steered s.steering domains).last s.rows shown.rows;
}

-- what was told, with what is told of a sample, and of those behind it
pub record Step (told : List ToldView) (s : SeriesView) (sample : Result (List DomainView) BadSample) : Type 0 where
  pub all : List ToldView
  pub shown : Shows all (after s sample)
  pub same : (more : List (Result (List DomainView) BadSample)) → told ++ told_in s.steering (sample ∷ more) ≡ all ++ told_in (after s sample).steering more
  pub policy : (after s sample).steering.policy ≡ s.steering.policy

pub step : (told : List ToldView) (s : SeriesView) (sample : Result (List DomainView) BadSample) → Shows told s → Step told s sample
step told s (Ok domains) shown = record {
  all = told ++ (steered s.steering domains).last ∷ [];
  shown = shows_more told s domains shown;
  same = λ more. sym (append_assoc told ((steered s.steering domains).last ∷ []) (told_in (steered s.steering domains) more));
  policy = refl;
}
step told s (Err bad) shown = record { all = told; shown = shown; same = λ more. refl; policy = refl }

-- there is one more at most
left_within : (t : Bool) (n : ℕ) → nat_le 10000 n ≡ t → (if t then 1 else 0) ≤ n
left_within true n is = grind (arith, nat_tests, is)
left_within false n is = omega arith

one_more : (rows : List Row) (row : Row) → left_out rows + length (drop (left_out rows) rows ++ row ∷ []) ≡ length rows + 1
one_more rows row =
    let within : left_out rows ≤ length rows = left_within (nat_le 10000 (length rows)) (length rows) refl in
    omega (arith, length-append (drop (left_out rows) rows) (row ∷ []), length-drop (left_out rows) rows, within)

pub rows_within : (s : SeriesView) (sample : Result (List DomainView) BadSample) → (after s sample).first + length (after s sample).rows ≤ s.first + length s.rows + 1
rows_within s (Ok domains) = let more = one_more s.rows (row_of (steered s.steering domains).last) in omega (arith, more)
rows_within s (Err bad) = omega arith

-- ---- the domains of a sample are in order

rising_in_order : (domains : List DomainView) → AreRising (domain_names (in_order domains))
rising_in_order [] = record { rise = λ i j h l. absurd (omega arith) }
rising_in_order (d ∷ ds) = placed_rising d (in_order ds) (rising_in_order ds)

pub steered_rising : (s : SteeringView) (domains : List DomainView) → AreRising (names_in (steered s domains).last.domains)
steered_rising s domains =
    let ordered = in_order domains in
    let wide : length (sights_of s.policy s.last.domains ordered) ≡ length (domain_names ordered) =
    length-map ordered (λ (d : DomainView). sight_of s.policy (domain_names ordered) (remembered_in s.last.domains d.name) d)
    ∙ sym (length-map ordered (λ (d : DomainView). d.name)) in
    rising_told s.policy s.last.state (domain_names ordered) (sights_of s.policy s.last.domains ordered) wide (rising_in_order domains)

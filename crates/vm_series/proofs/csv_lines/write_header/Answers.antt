use Rattle.std.proofs.Common.{◌≡◌, ◌∷◌, [], ℕ, List}
use Rattle.vm_series.proofs.CsvLemmas.{written}
use Rattle.vm_series.specs.Csv.{header}
use Rattle.vm_series.proofs.csv_lines.write_header.Goals as goal

pub returns-clause-bytes : goal.returns-clause-bytes
unfolding header
returns-clause-bytes g c =
    let fields : List (List ℕ) =
    c.as_slice.result.now ∷ c.as_slice-2.result.now ∷ c.as_slice-3.result.now ∷ c.as_slice-4.result.now ∷ c.as_slice-5.result.now ∷ c.as_slice-6.result.now ∷ c.as_slice-7.result.now ∷ c.as_slice-8.result.now ∷ c.as_slice-9.result.now ∷ c.as_slice-10.result.now ∷ c.as_slice-11.result.now ∷ c.as_slice-12.result.now ∷ c.as_slice-13.result.now ∷ c.as_slice-14.result.now ∷ c.as_slice-15.result.now ∷ [] in
    let same : fields ≡ header =
    λ i. c.as_slice.ensures i ∷ c.as_slice-2.ensures i ∷ c.as_slice-3.ensures i ∷ c.as_slice-4.ensures i ∷ c.as_slice-5.ensures i ∷ c.as_slice-6.ensures i ∷ c.as_slice-7.ensures i ∷ c.as_slice-8.ensures i ∷ c.as_slice-9.ensures i ∷ c.as_slice-10.ensures i ∷ c.as_slice-11.ensures i ∷ c.as_slice-12.ensures i ∷ c.as_slice-13.ensures i ∷ c.as_slice-14.ensures i ∷ c.as_slice-15.ensures i ∷ [] in
    written c.args.writer.now c.requires c.write_fields.result _ _ fields header same c.write_fields.ensures.bytes

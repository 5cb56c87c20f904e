-- What the kit's writer writes, and one position more.
use Rattle.std.proofs.Common.{◌≡◌, ◌≢◌, ℕ, zero, suc, ◌+◌, List, ◌∷◌, [], ◌++◌, false, Option, Result, Ok, Err, OnOk, ap, ◌∙◌, sym, subst, add-one, arith}
use Rattle.std.proofs.lemmas.List.{append-nil}
use Rattle.std.specs.Io.KnownBytes.{Appends}
use Rattle.std.specs.List.{range_with_len}
use Rattle.csv.specs.declared.writer.QuoteStyle.TheVariants.{Necessary, NonNumeric}
use Rattle.csv.specs.declared.writer.Writer.{Writer}
use Rattle.csv.specs.declared.writer.WriterBuilder.{WriterBuilder}
use Rattle.csv.specs.Writing.{fields_written, has_written, row_text, writer_setup}
use Rattle.vm_series.specs.Csv.{IsAtRecord, records_text, rfc4180}

module _ {W : Type 0} (w : Writer W) (at : IsAtRecord w) where
  quotes : (writer_setup w).style ≢ NonNumeric
  quotes bad =
      let is : (writer_setup w).style ≡ Necessary = ap (λ (b : WriterBuilder). b.style) at.setup in
      let no : Necessary ≡ NonNumeric = sym is ∙ bad in
      cc

  -- a record that was written is the text of its fields
  pub written : {T E : Type 0} (r : Result T E) (x y : Option (List ℕ)) (fields wanted : List (List ℕ)) → fields ≡ wanted
      → OnOk r (fields_written w ≡ 0 → has_written w ≡ false → (writer_setup w).style ≢ NonNumeric → Appends x y (row_text (writer_setup w) fields))
      → OnOk r (Appends x y (records_text (wanted ∷ [])))
  written (Err e) x y fields wanted same bytes = tt
  written (Ok v) x y fields wanted same bytes =
      let there : row_text (writer_setup w) fields ≡ records_text (wanted ∷ []) =
      (λ i. row_text (at.setup i) (same i)) ∙ sym (append-nil (row_text rfc4180 wanted)) in
      subst (λ (text : List ℕ). Appends x y text) there (bytes at.fields at.wrote quotes)

range_more : (a n : ℕ) → range_with_len a (suc n) ≡ range_with_len a n ++ (a + n) ∷ []
range_more a zero = ap (λ (k : ℕ). k ∷ []) (omega arith)
range_more a (suc n) =
    ap (λ (l : List ℕ). a ∷ l) (range_more (a + 1) n ∙ ap (λ (k : ℕ). range_with_len (a + 1) n ++ k ∷ []) (omega arith))

-- one position more
pub positions_more : (n : ℕ) → range_with_len 0 (n + 1) ≡ range_with_len 0 n ++ n ∷ []
positions_more n = rw add-one (range_more 0 n ∙ ap (λ (k : ℕ). range_with_len 0 n ++ k ∷ []) (omega arith))

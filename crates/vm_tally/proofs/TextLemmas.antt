-- Texts of records that are put together piece by piece.
use Rattle.std.proofs.Common.{◌≡◌, ℕ, List, ◌++◌, Bool, Option, codes, ap, ◌∙◌, append_assoc}
use Rattle.std.specs.List.{flat_map}
use Rattle.vm_tally.specs.Table.{end_of_record, field, number_field, optional_field, yes_or_no}

-- four fields, and what is put behind them
pub four-fields : (text made a b c d behind : List ℕ) → text ≡ a ++ (codes "," ++ (b ++ (codes "," ++ (c ++ (codes "," ++ d))))) → made ≡ text ++ behind
    → made ≡ a ++ (field b ++ (field c ++ (field d ++ behind)))
four-fields text made a b c d behind begins ends =
    ends ∙ ap (λ (l : List ℕ). l ++ behind) begins
    ∙ append_assoc a _ behind ∙ ap (λ (l : List ℕ). a ++ (codes "," ++ l)) (append_assoc b _ behind ∙ ap (λ (l : List ℕ). b ++ (codes "," ++ l)) (append_assoc c _ behind))

-- what is put behind a text in five pieces
pub five-pieces : (made first a b c d e : List ℕ) → first ≡ a → made ≡ (((first ++ b) ++ c) ++ d) ++ e → made ≡ a ++ (b ++ (c ++ (d ++ e)))
five-pieces made first a b c d e begins ends =
    ends ∙ ap (λ (l : List ℕ). (((l ++ b) ++ c) ++ d) ++ e) begins ∙ append_assoc ((a ++ b) ++ c) d e ∙ append_assoc (a ++ b) c (d ++ e)
    ∙ append_assoc a b (c ++ (d ++ e))

-- in the order of a record
pub record-together : (one two three four five front : List ℕ) (numbers : List ℕ) (swept : List ℕ) (more : List ℕ) (so : Bool)
    (worst : Option ℕ) (found found_more : List ℕ) (said : Bool) → one ≡ front → two ≡ one ++ flat_map number_field found → three ≡ two ++ swept
    → four ≡ three ++ flat_map number_field found_more → five ≡ four ++ (field (yes_or_no said) ++ (optional_field worst ++ end_of_record))
    → found ≡ numbers → found_more ≡ more → said ≡ so
    → five ≡ front ++ (flat_map number_field numbers ++ (swept ++ (flat_map number_field more ++ (field (yes_or_no so) ++ (optional_field worst ++ end_of_record)))))
record-together one two three four five front numbers swept more so worst found found_more said is_one is_two is_three is_four is_five same same_more answer =
    let end = λ (b : Bool). field (yes_or_no b) ++ (optional_field worst ++ end_of_record) in
    five-pieces five one front (flat_map number_field found) swept (flat_map number_field found_more) (end said) is_one
    (is_five ∙ ap (λ (l : List ℕ). l ++ end said) (is_four ∙ ap (λ (l : List ℕ). l ++ flat_map number_field found_more)
    (is_three ∙ ap (λ (l : List ℕ). l ++ swept) is_two)))
    ∙ (λ i. front ++ (flat_map number_field (same i) ++ (swept ++ (flat_map number_field (same_more i) ++ end (answer i)))))

-- three pieces behind a text
pub fields-together : (text one two new a b c found_a found_c : List ℕ) → one ≡ text ++ found_a → two ≡ one ++ b → new ≡ two ++ found_c
    → found_a ≡ a → found_c ≡ c → new ≡ text ++ (a ++ (b ++ c))
fields-together text one two new a b c found_a found_c is_one is_two is_new same_a same_c =
    is_new ∙ ap (λ (l : List ℕ). l ++ found_c) (is_two ∙ ap (λ (l : List ℕ). l ++ b) is_one)
    ∙ (λ i. ((text ++ same_a i) ++ b) ++ same_c i) ∙ append_assoc (text ++ a) b c ∙ append_assoc text a (b ++ c)

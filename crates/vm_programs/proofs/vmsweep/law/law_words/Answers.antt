use Rattle.std.proofs.Common.{◌≡◌, ℕ, ◌<◌, List, [], ◌∷◌, Some, codes, refl, inl, inr, suc, zero, true≢false, arith}
use Rattle.std.specs.List.Sorted.{IsStrictlyIncreasing}
use Rattle.clap.specs.Words.{Text}
use Rattle.clap.proofs.OnLiterals.{clap_on_literals}
use Rattle.vm_lists.specs.Items.{item_of, number_written, range_written, values_of, written_of}
use Rattle.vm_lists.specs.Lists.{list_of}
use Rattle.vm_lists.specs.NamedLists.{named_of}
use Rattle.vm_lists.specs.Numbers.{digits_in, hundredths_of, number_of as value_of}
use Rattle.vm_lists.specs.Ranges.{spaced}
use Rattle.vm_words.specs.Words.{AreTaken, asked, command_line, flag_option, has_flag, number_of, text_of, texts_of, value_option}
use Rattle.vm_programs.specs.vmsweep.CommandLine.{rows_of, sweep_line}
use Rattle.vm_programs.specs.vmsweep.Examples.{AreRefusedFor, called, no_lists, of_guest}
use Rattle.vm_programs.specs.vmsweep.Keys.{limits_of, word_of}
use Rattle.vm_programs.specs.vmsweep.Lists.{given, given_each, guests_of, names_checked, read_one}
use Rattle.vm_programs.specs.vmsweep.Refused.{IsMemory, IsRefusal}
use Rattle.vm_programs.specs.declared.vmsweep.faults.SweepFault.{SweepFault}
use Rattle.vm_programs.proofs.lemmas.vmsweep.Taken.{untaken}
use Rattle.vm_programs.proofs.lemmas.words.{has-fault}
use Rattle.vm_programs.proofs.vmsweep.law.law_words.Goals as goal

two-rise : (a b : ℕ) → a < b → IsStrictlyIncreasing (a ∷ b ∷ [])
two-rise a b less zero within = less
two-rise a b less (suc k) within = absurd (omega arith)

refused-for : (words : List Text) (fault : SweepFault) → AreTaken sweep_line (called words) → (IsMemory fault → ⊥)
    → IsRefusal (rows_of (called words)) fault → AreRefusedFor words fault
refused-for words fault formed other first = record { formed = formed; first = first; untaken = untaken _ _ refl fault other first }

pub returns-clause-none : goal.returns-clause-none
unfolding clap_on_literals AreTaken asked command_line flag_option has_flag number_of text_of value_option sweep_line limits_of word_of given list_of texts_of given_each guests_of names_checked read_one named_of
returns-clause-none c = record {
  taken = record {
    formed = record { faultless = refl; apart = refl; fit = refl };
    lists = no_lists;
    read = refl;
    few_lists = omega arith;
    few = omega arith;
    drawn = λ drawing. absurd cc;
  };
  lists_are = refl;
  form_is = refl;
  progress_is = refl;
  workers_are = refl;
}

pub returns-clause-lists : goal.returns-clause-lists
unfolding clap_on_literals AreTaken asked command_line flag_option has_flag number_of text_of value_option sweep_line limits_of word_of given list_of item_of written_of range_written number_written values_of value_of digits_in hundredths_of spaced texts_of given_each guests_of names_checked read_one named_of
returns-clause-lists c = record {
  taken = record {
    formed = record { faultless = refl; apart = refl; fit = refl };
    lists = record no_lists { frames = Some (192 ∷ 224 ∷ 240 ∷ 256 ∷ []); tax = Some (0 ∷ 7500 ∷ []) };
    read = refl;
    few_lists = omega arith;
    few = omega arith;
    drawn = λ drawing. absurd cc;
  };
  lists_are = refl;
  form_is = refl;
  progress_is = refl;
  workers_are = refl;
}

pub returns-clause-guests : goal.returns-clause-guests
unfolding clap_on_literals AreTaken asked command_line flag_option has_flag number_of text_of value_option sweep_line limits_of word_of given list_of item_of written_of range_written number_written values_of value_of digits_in hundredths_of spaced texts_of given_each guests_of names_checked read_one named_of
returns-clause-guests c = record {
  taken = record {
    formed = record { faultless = refl; apart = refl; fit = refl };
    lists = record no_lists { swap = Some (0 ∷ []); page_rate = Some (256 ∷ []) };
    read = refl;
    few_lists = omega arith;
    few = omega arith;
    drawn = λ drawing. absurd cc;
  };
  lists_are = refl;
  form_is = refl;
  progress_is = refl;
  workers_are = refl;
}

pub returns-clause-rebalance : goal.returns-clause-rebalance
unfolding clap_on_literals AreTaken asked command_line flag_option has_flag number_of text_of value_option sweep_line limits_of word_of given list_of item_of written_of range_written number_written values_of value_of digits_in hundredths_of spaced texts_of given_each guests_of names_checked read_one named_of
returns-clause-rebalance c = record {
  taken = record {
    formed = record { faultless = refl; apart = refl; fit = refl };
    lists = record no_lists { rebalance = Some (0 ∷ 32 ∷ 64 ∷ 262144 ∷ []) };
    read = refl;
    few_lists = omega arith;
    few = omega arith;
    drawn = λ drawing. absurd cc;
  };
  lists_are = refl;
  form_is = refl;
  progress_is = refl;
  workers_are = refl;
}

pub returns-clause-drawing : goal.returns-clause-drawing
unfolding clap_on_literals AreTaken asked command_line flag_option has_flag number_of text_of value_option sweep_line limits_of word_of given list_of item_of written_of range_written number_written values_of value_of digits_in hundredths_of spaced texts_of given_each guests_of names_checked read_one named_of
returns-clause-drawing c = record {
  taken = record {
    formed = record { faultless = refl; apart = refl; fit = refl };
    lists = record no_lists { frames = Some (8 ∷ 16 ∷ []); tax = Some (25 ∷ 9999 ∷ []) };
    read = refl;
    few_lists = omega arith;
    few = omega arith;
    drawn = λ drawing. record { several = omega arith; rising = two-rise 8 16 (omega arith); few = omega arith };
  };
  lists_are = refl;
  form_is = refl;
  progress_is = refl;
  workers_are = refl;
}

pub returns-clause-outside : goal.returns-clause-outside
unfolding clap_on_literals AreTaken asked command_line flag_option has_flag number_of text_of value_option sweep_line limits_of word_of given list_of item_of written_of range_written number_written values_of value_of digits_in hundredths_of spaced texts_of given_each guests_of names_checked read_one named_of
returns-clause-outside c = refused-for _ _ (record { faultless = refl; apart = refl; fit = refl }) (λ memory. absurd cc) (inl (inl refl))

pub returns-clause-no_number : goal.returns-clause-no_number
unfolding clap_on_literals AreTaken asked command_line flag_option has_flag number_of text_of value_option sweep_line limits_of word_of given list_of item_of written_of range_written number_written values_of value_of digits_in hundredths_of spaced texts_of given_each guests_of names_checked read_one named_of
returns-clause-no_number c = refused-for _ _ (record { faultless = refl; apart = refl; fit = refl }) (λ memory. absurd cc) (inl (inl refl))

pub returns-clause-ends_below : goal.returns-clause-ends_below
unfolding clap_on_literals AreTaken asked command_line flag_option has_flag number_of text_of value_option sweep_line limits_of word_of given list_of item_of written_of range_written number_written values_of value_of digits_in hundredths_of spaced texts_of given_each guests_of names_checked read_one named_of
returns-clause-ends_below c = refused-for _ _ (record { faultless = refl; apart = refl; fit = refl }) (λ memory. absurd cc) (inl (inl refl))

pub returns-clause-no_step : goal.returns-clause-no_step
unfolding clap_on_literals AreTaken asked command_line flag_option has_flag number_of text_of value_option sweep_line limits_of word_of given list_of item_of written_of range_written number_written values_of value_of digits_in hundredths_of spaced texts_of given_each guests_of names_checked read_one named_of
returns-clause-no_step c = refused-for _ _ (record { faultless = refl; apart = refl; fit = refl }) (λ memory. absurd cc) (inl (inl refl))

pub returns-clause-in_order : goal.returns-clause-in_order
unfolding clap_on_literals AreTaken asked command_line flag_option has_flag number_of text_of value_option sweep_line limits_of word_of given list_of item_of written_of range_written number_written values_of value_of digits_in hundredths_of spaced texts_of given_each guests_of names_checked read_one named_of
returns-clause-in_order c = refused-for _ _ (record { faultless = refl; apart = refl; fit = refl }) (λ memory. absurd cc) (inl (inl refl))

pub returns-clause-too_far : goal.returns-clause-too_far
unfolding clap_on_literals AreTaken asked command_line flag_option has_flag number_of text_of value_option sweep_line limits_of word_of given list_of item_of written_of range_written number_written values_of value_of digits_in hundredths_of spaced texts_of given_each guests_of names_checked read_one named_of
returns-clause-too_far c = refused-for _ _ (record { faultless = refl; apart = refl; fit = refl }) (λ memory. absurd cc) (inl (inl refl))

pub returns-clause-too_many : goal.returns-clause-too_many
unfolding clap_on_literals AreTaken asked command_line flag_option has_flag number_of text_of value_option sweep_line limits_of word_of given list_of item_of written_of range_written number_written values_of value_of digits_in hundredths_of spaced texts_of given_each guests_of names_checked read_one named_of
returns-clause-too_many c = refused-for _ _ (record { faultless = refl; apart = refl; fit = refl }) (λ memory. memory) (inr (_, refl, record { few_lists = omega arith; many = omega arith; told = refl }))

pub returns-clause-no_machines : goal.returns-clause-no_machines
unfolding clap_on_literals AreTaken asked command_line flag_option has_flag number_of text_of value_option sweep_line limits_of word_of given list_of item_of written_of range_written number_written values_of value_of digits_in hundredths_of spaced texts_of given_each guests_of names_checked read_one named_of
returns-clause-no_machines c = refused-for _ _ (record { faultless = refl; apart = refl; fit = refl }) (λ memory. memory) (inr (_, refl, (omega arith, omega arith, refl, omega arith)))

pub returns-clause-one_machine : goal.returns-clause-one_machine
unfolding clap_on_literals AreTaken asked command_line flag_option has_flag number_of text_of value_option sweep_line limits_of word_of given list_of item_of written_of range_written number_written values_of value_of digits_in hundredths_of spaced texts_of given_each guests_of names_checked read_one named_of
returns-clause-one_machine c = refused-for _ _ (record { faultless = refl; apart = refl; fit = refl }) (λ memory. memory) (inr (_, refl, (omega arith, omega arith, refl, omega arith)))

pub returns-clause-same_machine : goal.returns-clause-same_machine
unfolding clap_on_literals AreTaken asked command_line flag_option has_flag number_of text_of value_option sweep_line limits_of word_of given list_of item_of written_of range_written number_written values_of value_of digits_in hundredths_of spaced texts_of given_each guests_of names_checked read_one named_of
returns-clause-same_machine c = refused-for _ _ (record { faultless = refl; apart = refl; fit = refl }) (λ memory. memory) (inr (_, refl, (omega arith, omega arith, refl, (omega arith, λ rising. let less = rising 0 (omega arith) in omega arith))))

pub returns-clause-too_many_curves : goal.returns-clause-too_many_curves
unfolding clap_on_literals AreTaken asked command_line flag_option has_flag number_of text_of value_option sweep_line limits_of word_of given list_of item_of written_of range_written number_written values_of value_of digits_in hundredths_of spaced texts_of given_each guests_of names_checked read_one named_of
returns-clause-too_many_curves c = refused-for _ _ (record { faultless = refl; apart = refl; fit = refl }) (λ memory. memory) (inr (_, refl, (omega arith, omega arith, refl, record { several = omega arith; rising = two-rise 8 9 (omega arith); many = omega arith; told = refl })))

pub returns-clause-too_many_of_four : goal.returns-clause-too_many_of_four
unfolding clap_on_literals AreTaken asked command_line flag_option has_flag number_of text_of value_option sweep_line limits_of word_of given list_of item_of written_of range_written number_written values_of value_of digits_in hundredths_of spaced texts_of given_each guests_of names_checked read_one named_of
returns-clause-too_many_of_four c = refused-for _ _ (record { faultless = refl; apart = refl; fit = refl }) (λ memory. memory) (inr (_, refl, (omega arith, omega arith, refl, record { several = omega arith; rising = two-rise 8 9 (omega arith); many = omega arith; told = refl })))

pub returns-clause-beside : goal.returns-clause-beside
unfolding clap_on_literals AreTaken asked command_line flag_option has_flag number_of text_of value_option sweep_line limits_of word_of given list_of texts_of given_each guests_of names_checked read_one named_of
returns-clause-beside c = λ taken. absurd (true≢false taken.formed.apart)

pub returns-clause-twice : goal.returns-clause-twice
unfolding clap_on_literals AreTaken asked command_line flag_option has_flag number_of text_of value_option sweep_line limits_of word_of given list_of texts_of given_each guests_of names_checked read_one named_of
returns-clause-twice c = λ taken. absurd (has-fault _ _ taken.formed.faultless)

pub returns-clause-more_workers : goal.returns-clause-more_workers
unfolding clap_on_literals AreTaken asked command_line flag_option has_flag number_of text_of value_option sweep_line limits_of word_of given list_of texts_of given_each guests_of names_checked read_one named_of
returns-clause-more_workers c = λ taken. absurd (has-fault _ _ taken.formed.faultless)

pub returns-clause-help : goal.returns-clause-help
unfolding clap_on_literals AreTaken asked command_line flag_option has_flag number_of text_of value_option sweep_line limits_of word_of given list_of texts_of given_each guests_of names_checked read_one named_of
returns-clause-help c = λ taken. absurd (has-fault _ _ taken.formed.faultless)

pub returns-clause-two_files : goal.returns-clause-two_files
unfolding clap_on_literals AreTaken asked command_line flag_option has_flag number_of text_of value_option sweep_line limits_of word_of given list_of texts_of given_each guests_of names_checked read_one named_of
returns-clause-two_files c = λ taken. absurd (has-fault _ _ taken.formed.faultless)

pub returns-clause-version : goal.returns-clause-version
unfolding clap_on_literals AreTaken asked command_line flag_option has_flag number_of text_of value_option sweep_line limits_of word_of given list_of texts_of given_each guests_of names_checked read_one named_of
returns-clause-version c = λ taken. absurd (has-fault _ _ taken.formed.faultless)

pub returns-clause-file : goal.returns-clause-file
unfolding clap_on_literals AreTaken asked command_line flag_option has_flag number_of text_of value_option sweep_line limits_of word_of given list_of item_of written_of range_written number_written values_of value_of digits_in hundredths_of spaced texts_of given_each guests_of names_checked read_one named_of
returns-clause-file c = record {
  taken = record {
    formed = record { faultless = refl; apart = refl; fit = refl };
    lists = record no_lists { tax = Some (0 ∷ []) };
    read = refl;
    few_lists = omega arith;
    few = omega arith;
    drawn = λ drawing. absurd cc;
  };
  lists_are = refl;
  form_is = refl;
  progress_is = refl;
  workers_are = refl;
}

pub returns-clause-percents : goal.returns-clause-percents
unfolding clap_on_literals AreTaken asked command_line flag_option has_flag number_of text_of value_option sweep_line limits_of word_of given list_of item_of written_of range_written number_written values_of value_of digits_in hundredths_of spaced texts_of given_each guests_of names_checked read_one named_of
returns-clause-percents c = record {
  taken = record {
    formed = record { faultless = refl; apart = refl; fit = refl };
    lists = record no_lists { min_percent = Some (33 ∷ 50 ∷ 60 ∷ 70 ∷ []) };
    read = refl;
    few_lists = omega arith;
    few = omega arith;
    drawn = λ drawing. absurd cc;
  };
  lists_are = refl;
  form_is = refl;
  progress_is = refl;
  workers_are = refl;
}

pub returns-clause-guest_lists : goal.returns-clause-guest_lists
unfolding clap_on_literals AreTaken asked command_line flag_option has_flag number_of text_of value_option sweep_line limits_of word_of given list_of item_of written_of range_written number_written values_of value_of digits_in hundredths_of spaced texts_of given_each guests_of names_checked read_one named_of
returns-clause-guest_lists c = record {
  taken = record {
    formed = record { faultless = refl; apart = refl; fit = refl };
    lists = record no_lists {
      minimums = of_guest (codes "web") (8 ∷ 12 ∷ 16 ∷ []) ∷ of_guest (codes "db") (4 ∷ []) ∷ [];
      shares = of_guest (codes "db") (1 ∷ 2000 ∷ []) ∷ [];
      seeds = Some 3;
    };
    read = refl;
    few_lists = omega arith;
    few = omega arith;
    drawn = λ drawing. absurd cc;
  };
  lists_are = refl;
  form_is = refl;
  progress_is = refl;
  workers_are = refl;
}

pub returns-clause-seeded_drawing : goal.returns-clause-seeded_drawing
unfolding clap_on_literals AreTaken asked command_line flag_option has_flag number_of text_of value_option sweep_line limits_of word_of given list_of item_of written_of range_written number_written values_of value_of digits_in hundredths_of spaced texts_of given_each guests_of names_checked read_one named_of
returns-clause-seeded_drawing c = record {
  taken = record {
    formed = record { faultless = refl; apart = refl; fit = refl };
    lists = record no_lists { frames = Some (8 ∷ 16 ∷ []); min_percent = Some (50 ∷ []); seeds = Some 1000 };
    read = refl;
    few_lists = omega arith;
    few = omega arith;
    drawn = λ drawing. record { several = omega arith; rising = two-rise 8 16 (omega arith); few = omega arith };
  };
  lists_are = refl;
  form_is = refl;
  progress_is = refl;
  workers_are = refl;
}

pub returns-clause-no_percent : goal.returns-clause-no_percent
unfolding clap_on_literals AreTaken asked command_line flag_option has_flag number_of text_of value_option sweep_line limits_of word_of given list_of item_of written_of range_written number_written values_of value_of digits_in hundredths_of spaced texts_of given_each guests_of names_checked read_one named_of
returns-clause-no_percent c = refused-for _ _ (record { faultless = refl; apart = refl; fit = refl }) (λ memory. absurd cc) (inl (inl refl))

pub returns-clause-no_page : goal.returns-clause-no_page
unfolding clap_on_literals AreTaken asked command_line flag_option has_flag number_of text_of value_option sweep_line limits_of word_of given list_of item_of written_of range_written number_written values_of value_of digits_in hundredths_of spaced texts_of given_each guests_of names_checked read_one named_of
returns-clause-no_page c = refused-for _ _ (record { faultless = refl; apart = refl; fit = refl }) (λ memory. absurd cc) (inl (inl refl))

pub returns-clause-no_equals : goal.returns-clause-no_equals
unfolding clap_on_literals AreTaken asked command_line flag_option has_flag number_of text_of value_option sweep_line limits_of word_of given list_of item_of written_of range_written number_written values_of value_of digits_in hundredths_of spaced texts_of given_each guests_of names_checked read_one named_of
returns-clause-no_equals c = refused-for _ _ (record { faultless = refl; apart = refl; fit = refl }) (λ memory. absurd cc) (inl (inl refl))

pub returns-clause-lists_first : goal.returns-clause-lists_first
unfolding clap_on_literals AreTaken asked command_line flag_option has_flag number_of text_of value_option sweep_line limits_of word_of given list_of item_of written_of range_written number_written values_of value_of digits_in hundredths_of spaced texts_of given_each guests_of names_checked read_one named_of
returns-clause-lists_first c = refused-for _ _ (record { faultless = refl; apart = refl; fit = refl }) (λ memory. absurd cc) (inl (inl refl))

pub returns-clause-no_name : goal.returns-clause-no_name
unfolding clap_on_literals AreTaken asked command_line flag_option has_flag number_of text_of value_option sweep_line limits_of word_of given list_of item_of written_of range_written number_written values_of value_of digits_in hundredths_of spaced texts_of given_each guests_of names_checked read_one named_of
returns-clause-no_name c = refused-for _ _ (record { faultless = refl; apart = refl; fit = refl }) (λ memory. memory) (inl (inl refl))

pub returns-clause-named_twice : goal.returns-clause-named_twice
unfolding clap_on_literals AreTaken asked command_line flag_option has_flag number_of text_of value_option sweep_line limits_of word_of given list_of item_of written_of range_written number_written values_of value_of digits_in hundredths_of spaced texts_of given_each guests_of names_checked read_one named_of
returns-clause-named_twice c = refused-for _ _ (record { faultless = refl; apart = refl; fit = refl }) (λ memory. memory) (inl (inl refl))

pub returns-clause-too_many_lists : goal.returns-clause-too_many_lists
unfolding clap_on_literals AreTaken asked command_line flag_option has_flag number_of text_of value_option sweep_line limits_of word_of given list_of item_of written_of range_written number_written values_of value_of digits_in hundredths_of spaced texts_of given_each guests_of names_checked read_one named_of
returns-clause-too_many_lists c = refused-for _ _ (record { faultless = refl; apart = refl; fit = refl }) (λ memory. memory) (inr (_, refl, omega arith))

pub returns-clause-too_many_runs : goal.returns-clause-too_many_runs
unfolding clap_on_literals AreTaken asked command_line flag_option has_flag number_of text_of value_option sweep_line limits_of word_of given list_of item_of written_of range_written number_written values_of value_of digits_in hundredths_of spaced texts_of given_each guests_of names_checked read_one named_of
returns-clause-too_many_runs c = refused-for _ _ (record { faultless = refl; apart = refl; fit = refl }) (λ memory. memory) (inr (_, refl, record { few_lists = omega arith; many = omega arith; told = refl }))

pub returns-clause-too_many_of_all : goal.returns-clause-too_many_of_all
unfolding clap_on_literals AreTaken asked command_line flag_option has_flag number_of text_of value_option sweep_line limits_of word_of given list_of item_of written_of range_written number_written values_of value_of digits_in hundredths_of spaced texts_of given_each guests_of names_checked read_one named_of
returns-clause-too_many_of_all c = refused-for _ _ (record { faultless = refl; apart = refl; fit = refl }) (λ memory. memory) (inr (_, refl, (omega arith, omega arith, refl, record { several = omega arith; rising = two-rise 8 9 (omega arith); many = omega arith; told = refl })))

pub returns-clause-more_seeds : goal.returns-clause-more_seeds
unfolding clap_on_literals AreTaken asked command_line flag_option has_flag number_of text_of value_option sweep_line limits_of word_of given list_of texts_of given_each guests_of names_checked read_one named_of
returns-clause-more_seeds c = λ taken. absurd (has-fault _ _ taken.formed.faultless)

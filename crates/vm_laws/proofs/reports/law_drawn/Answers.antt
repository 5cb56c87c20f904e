use Rattle.std.proofs.Common.{refl}
use Rattle.vm_sampling.specs.Words.{word, words_after, pick}
use Rattle.vm_sampling.specs.Lcg.{state_after}
use Rattle.vm_swap.specs.Area.{zero_bytes}
use Rattle.vm_balloon.specs.Service.{distinct}
use Rattle.vm_tax.specs.Ratio.{adjusted_ratio}
use Rattle.vm_tax.specs.Offers.{best_offer}
use Rattle.vm_plan.specs.Revocation.{revocation_list}
use Rattle.vm_plan.specs.Grants.{grants_up_to}
use Rattle.vm_plan.specs.Rebalancing.{rebalancing_list}
use Rattle.vm_reclaim.specs.Rebalance.{has_own_driver}
use Rattle.vm_commands.specs.Sizes.{unit_of, bytes_of_size, pages_of_size}
use Rattle.vm_commands.specs.Lines.{set_memory, minimum_of, set_minimum, shares_of, set_shares, domain_command, joined_size, tune_joined, sized_command, tune_command, command_of_words, command_of}
use Rattle.std.specs.Fmt.{digits}
use Rattle.vm_sim.specs.Lines.{number_line, fault_lines, memory_lines, statistics_lines, outcome_lines, command_line, move_line, block_line, state_line, read_line, stall_line, guest_line}
use Rattle.vm_sim.specs.Report.{answer_lines, boundary_text, epoch_text, machine_line, end_text, report_of_boundary, report_of_epoch}
use Rattle.vm_sim.specs.Course.{after_boundary, boundary_of_lines}
use Rattle.vm_laws.proofs.reports.law_drawn.Goals as goal

pub returns-clause-drawn_01 : goal.returns-clause-drawn_01
unfolding word words_after pick state_after zero_bytes distinct adjusted_ratio best_offer revocation_list grants_up_to rebalancing_list has_own_driver unit_of bytes_of_size pages_of_size set_memory minimum_of set_minimum shares_of set_shares domain_command joined_size tune_joined sized_command tune_command command_of_words command_of digits number_line fault_lines memory_lines statistics_lines outcome_lines command_line move_line block_line state_line read_line stall_line guest_line answer_lines boundary_text epoch_text machine_line end_text report_of_boundary report_of_epoch after_boundary boundary_of_lines
returns-clause-drawn_01 c = refl

pub returns-clause-drawn_02 : goal.returns-clause-drawn_02
unfolding word words_after pick state_after zero_bytes distinct adjusted_ratio best_offer revocation_list grants_up_to rebalancing_list has_own_driver unit_of bytes_of_size pages_of_size set_memory minimum_of set_minimum shares_of set_shares domain_command joined_size tune_joined sized_command tune_command command_of_words command_of digits number_line fault_lines memory_lines statistics_lines outcome_lines command_line move_line block_line state_line read_line stall_line guest_line answer_lines boundary_text epoch_text machine_line end_text report_of_boundary report_of_epoch after_boundary boundary_of_lines
returns-clause-drawn_02 c = refl

pub returns-clause-drawn_03 : goal.returns-clause-drawn_03
unfolding word words_after pick state_after zero_bytes distinct adjusted_ratio best_offer revocation_list grants_up_to rebalancing_list has_own_driver unit_of bytes_of_size pages_of_size set_memory minimum_of set_minimum shares_of set_shares domain_command joined_size tune_joined sized_command tune_command command_of_words command_of digits number_line fault_lines memory_lines statistics_lines outcome_lines command_line move_line block_line state_line read_line stall_line guest_line answer_lines boundary_text epoch_text machine_line end_text report_of_boundary report_of_epoch after_boundary boundary_of_lines
returns-clause-drawn_03 c = refl

pub returns-clause-drawn_04 : goal.returns-clause-drawn_04
unfolding word words_after pick state_after zero_bytes distinct adjusted_ratio best_offer revocation_list grants_up_to rebalancing_list has_own_driver unit_of bytes_of_size pages_of_size set_memory minimum_of set_minimum shares_of set_shares domain_command joined_size tune_joined sized_command tune_command command_of_words command_of digits number_line fault_lines memory_lines statistics_lines outcome_lines command_line move_line block_line state_line read_line stall_line guest_line answer_lines boundary_text epoch_text machine_line end_text report_of_boundary report_of_epoch after_boundary boundary_of_lines
returns-clause-drawn_04 c = refl

pub returns-clause-drawn_05 : goal.returns-clause-drawn_05
unfolding word words_after pick state_after zero_bytes distinct adjusted_ratio best_offer revocation_list grants_up_to rebalancing_list has_own_driver unit_of bytes_of_size pages_of_size set_memory minimum_of set_minimum shares_of set_shares domain_command joined_size tune_joined sized_command tune_command command_of_words command_of digits number_line fault_lines memory_lines statistics_lines outcome_lines command_line move_line block_line state_line read_line stall_line guest_line answer_lines boundary_text epoch_text machine_line end_text report_of_boundary report_of_epoch after_boundary boundary_of_lines
returns-clause-drawn_05 c = refl

pub returns-clause-drawn_06 : goal.returns-clause-drawn_06
unfolding word words_after pick state_after zero_bytes distinct adjusted_ratio best_offer revocation_list grants_up_to rebalancing_list has_own_driver unit_of bytes_of_size pages_of_size set_memory minimum_of set_minimum shares_of set_shares domain_command joined_size tune_joined sized_command tune_command command_of_words command_of digits number_line fault_lines memory_lines statistics_lines outcome_lines command_line move_line block_line state_line read_line stall_line guest_line answer_lines boundary_text epoch_text machine_line end_text report_of_boundary report_of_epoch after_boundary boundary_of_lines
returns-clause-drawn_06 c = refl

pub returns-clause-drawn_07 : goal.returns-clause-drawn_07
unfolding word words_after pick state_after zero_bytes distinct adjusted_ratio best_offer revocation_list grants_up_to rebalancing_list has_own_driver unit_of bytes_of_size pages_of_size set_memory minimum_of set_minimum shares_of set_shares domain_command joined_size tune_joined sized_command tune_command command_of_words command_of digits number_line fault_lines memory_lines statistics_lines outcome_lines command_line move_line block_line state_line read_line stall_line guest_line answer_lines boundary_text epoch_text machine_line end_text report_of_boundary report_of_epoch after_boundary boundary_of_lines
returns-clause-drawn_07 c = refl

pub returns-clause-drawn_08 : goal.returns-clause-drawn_08
unfolding word words_after pick state_after zero_bytes distinct adjusted_ratio best_offer revocation_list grants_up_to rebalancing_list has_own_driver unit_of bytes_of_size pages_of_size set_memory minimum_of set_minimum shares_of set_shares domain_command joined_size tune_joined sized_command tune_command command_of_words command_of digits number_line fault_lines memory_lines statistics_lines outcome_lines command_line move_line block_line state_line read_line stall_line guest_line answer_lines boundary_text epoch_text machine_line end_text report_of_boundary report_of_epoch after_boundary boundary_of_lines
returns-clause-drawn_08 c = refl

pub returns-clause-drawn_09 : goal.returns-clause-drawn_09
unfolding word words_after pick state_after zero_bytes distinct adjusted_ratio best_offer revocation_list grants_up_to rebalancing_list has_own_driver unit_of bytes_of_size pages_of_size set_memory minimum_of set_minimum shares_of set_shares domain_command joined_size tune_joined sized_command tune_command command_of_words command_of digits number_line fault_lines memory_lines statistics_lines outcome_lines command_line move_line block_line state_line read_line stall_line guest_line answer_lines boundary_text epoch_text machine_line end_text report_of_boundary report_of_epoch after_boundary boundary_of_lines
returns-clause-drawn_09 c = refl

pub returns-clause-drawn_10 : goal.returns-clause-drawn_10
unfolding word words_after pick state_after zero_bytes distinct adjusted_ratio best_offer revocation_list grants_up_to rebalancing_list has_own_driver unit_of bytes_of_size pages_of_size set_memory minimum_of set_minimum shares_of set_shares domain_command joined_size tune_joined sized_command tune_command command_of_words command_of digits number_line fault_lines memory_lines statistics_lines outcome_lines command_line move_line block_line state_line read_line stall_line guest_line answer_lines boundary_text epoch_text machine_line end_text report_of_boundary report_of_epoch after_boundary boundary_of_lines
returns-clause-drawn_10 c = refl

pub returns-clause-drawn_11 : goal.returns-clause-drawn_11
unfolding word words_after pick state_after zero_bytes distinct adjusted_ratio best_offer revocation_list grants_up_to rebalancing_list has_own_driver unit_of bytes_of_size pages_of_size set_memory minimum_of set_minimum shares_of set_shares domain_command joined_size tune_joined sized_command tune_command command_of_words command_of digits number_line fault_lines memory_lines statistics_lines outcome_lines command_line move_line block_line state_line read_line stall_line guest_line answer_lines boundary_text epoch_text machine_line end_text report_of_boundary report_of_epoch after_boundary boundary_of_lines
returns-clause-drawn_11 c = refl

pub returns-clause-drawn_12 : goal.returns-clause-drawn_12
unfolding word words_after pick state_after zero_bytes distinct adjusted_ratio best_offer revocation_list grants_up_to rebalancing_list has_own_driver unit_of bytes_of_size pages_of_size set_memory minimum_of set_minimum shares_of set_shares domain_command joined_size tune_joined sized_command tune_command command_of_words command_of digits number_line fault_lines memory_lines statistics_lines outcome_lines command_line move_line block_line state_line read_line stall_line guest_line answer_lines boundary_text epoch_text machine_line end_text report_of_boundary report_of_epoch after_boundary boundary_of_lines
returns-clause-drawn_12 c = refl

pub returns-clause-drawn_13 : goal.returns-clause-drawn_13
unfolding word words_after pick state_after zero_bytes distinct adjusted_ratio best_offer revocation_list grants_up_to rebalancing_list has_own_driver unit_of bytes_of_size pages_of_size set_memory minimum_of set_minimum shares_of set_shares domain_command joined_size tune_joined sized_command tune_command command_of_words command_of digits number_line fault_lines memory_lines statistics_lines outcome_lines command_line move_line block_line state_line read_line stall_line guest_line answer_lines boundary_text epoch_text machine_line end_text report_of_boundary report_of_epoch after_boundary boundary_of_lines
returns-clause-drawn_13 c = refl

pub returns-clause-drawn_14 : goal.returns-clause-drawn_14
unfolding word words_after pick state_after zero_bytes distinct adjusted_ratio best_offer revocation_list grants_up_to rebalancing_list has_own_driver unit_of bytes_of_size pages_of_size set_memory minimum_of set_minimum shares_of set_shares domain_command joined_size tune_joined sized_command tune_command command_of_words command_of digits number_line fault_lines memory_lines statistics_lines outcome_lines command_line move_line block_line state_line read_line stall_line guest_line answer_lines boundary_text epoch_text machine_line end_text report_of_boundary report_of_epoch after_boundary boundary_of_lines
returns-clause-drawn_14 c = refl

pub returns-clause-drawn_15 : goal.returns-clause-drawn_15
unfolding word words_after pick state_after zero_bytes distinct adjusted_ratio best_offer revocation_list grants_up_to rebalancing_list has_own_driver unit_of bytes_of_size pages_of_size set_memory minimum_of set_minimum shares_of set_shares domain_command joined_size tune_joined sized_command tune_command command_of_words command_of digits number_line fault_lines memory_lines statistics_lines outcome_lines command_line move_line block_line state_line read_line stall_line guest_line answer_lines boundary_text epoch_text machine_line end_text report_of_boundary report_of_epoch after_boundary boundary_of_lines
returns-clause-drawn_15 c = refl

pub returns-clause-drawn_16 : goal.returns-clause-drawn_16
unfolding word words_after pick state_after zero_bytes distinct adjusted_ratio best_offer revocation_list grants_up_to rebalancing_list has_own_driver unit_of bytes_of_size pages_of_size set_memory minimum_of set_minimum shares_of set_shares domain_command joined_size tune_joined sized_command tune_command command_of_words command_of digits number_line fault_lines memory_lines statistics_lines outcome_lines command_line move_line block_line state_line read_line stall_line guest_line answer_lines boundary_text epoch_text machine_line end_text report_of_boundary report_of_epoch after_boundary boundary_of_lines
returns-clause-drawn_16 c = refl

pub returns-clause-drawn_17 : goal.returns-clause-drawn_17
unfolding word words_after pick state_after zero_bytes distinct adjusted_ratio best_offer revocation_list grants_up_to rebalancing_list has_own_driver unit_of bytes_of_size pages_of_size set_memory minimum_of set_minimum shares_of set_shares domain_command joined_size tune_joined sized_command tune_command command_of_words command_of digits number_line fault_lines memory_lines statistics_lines outcome_lines command_line move_line block_line state_line read_line stall_line guest_line answer_lines boundary_text epoch_text machine_line end_text report_of_boundary report_of_epoch after_boundary boundary_of_lines
returns-clause-drawn_17 c = refl

pub returns-clause-drawn_18 : goal.returns-clause-drawn_18
unfolding word words_after pick state_after zero_bytes distinct adjusted_ratio best_offer revocation_list grants_up_to rebalancing_list has_own_driver unit_of bytes_of_size pages_of_size set_memory minimum_of set_minimum shares_of set_shares domain_command joined_size tune_joined sized_command tune_command command_of_words command_of digits number_line fault_lines memory_lines statistics_lines outcome_lines command_line move_line block_line state_line read_line stall_line guest_line answer_lines boundary_text epoch_text machine_line end_text report_of_boundary report_of_epoch after_boundary boundary_of_lines
returns-clause-drawn_18 c = refl

pub returns-clause-drawn_19 : goal.returns-clause-drawn_19
unfolding word words_after pick state_after zero_bytes distinct adjusted_ratio best_offer revocation_list grants_up_to rebalancing_list has_own_driver unit_of bytes_of_size pages_of_size set_memory minimum_of set_minimum shares_of set_shares domain_command joined_size tune_joined sized_command tune_command command_of_words command_of digits number_line fault_lines memory_lines statistics_lines outcome_lines command_line move_line block_line state_line read_line stall_line guest_line answer_lines boundary_text epoch_text machine_line end_text report_of_boundary report_of_epoch after_boundary boundary_of_lines
returns-clause-drawn_19 c = refl

pub returns-clause-drawn_20 : goal.returns-clause-drawn_20
unfolding word words_after pick state_after zero_bytes distinct adjusted_ratio best_offer revocation_list grants_up_to rebalancing_list has_own_driver unit_of bytes_of_size pages_of_size set_memory minimum_of set_minimum shares_of set_shares domain_command joined_size tune_joined sized_command tune_command command_of_words command_of digits number_line fault_lines memory_lines statistics_lines outcome_lines command_line move_line block_line state_line read_line stall_line guest_line answer_lines boundary_text epoch_text machine_line end_text report_of_boundary report_of_epoch after_boundary boundary_of_lines
returns-clause-drawn_20 c = refl

pub returns-clause-drawn_21 : goal.returns-clause-drawn_21
unfolding word words_after pick state_after zero_bytes distinct adjusted_ratio best_offer revocation_list grants_up_to rebalancing_list has_own_driver unit_of bytes_of_size pages_of_size set_memory minimum_of set_minimum shares_of set_shares domain_command joined_size tune_joined sized_command tune_command command_of_words command_of digits number_line fault_lines memory_lines statistics_lines outcome_lines command_line move_line block_line state_line read_line stall_line guest_line answer_lines boundary_text epoch_text machine_line end_text report_of_boundary report_of_epoch after_boundary boundary_of_lines
returns-clause-drawn_21 c = refl

pub returns-clause-drawn_22 : goal.returns-clause-drawn_22
unfolding word words_after pick state_after zero_bytes distinct adjusted_ratio best_offer revocation_list grants_up_to rebalancing_list has_own_driver unit_of bytes_of_size pages_of_size set_memory minimum_of set_minimum shares_of set_shares domain_command joined_size tune_joined sized_command tune_command command_of_words command_of digits number_line fault_lines memory_lines statistics_lines outcome_lines command_line move_line block_line state_line read_line stall_line guest_line answer_lines boundary_text epoch_text machine_line end_text report_of_boundary report_of_epoch after_boundary boundary_of_lines
returns-clause-drawn_22 c = refl

pub returns-clause-drawn_23 : goal.returns-clause-drawn_23
unfolding word words_after pick state_after zero_bytes distinct adjusted_ratio best_offer revocation_list grants_up_to rebalancing_list has_own_driver unit_of bytes_of_size pages_of_size set_memory minimum_of set_minimum shares_of set_shares domain_command joined_size tune_joined sized_command tune_command command_of_words command_of digits number_line fault_lines memory_lines statistics_lines outcome_lines command_line move_line block_line state_line read_line stall_line guest_line answer_lines boundary_text epoch_text machine_line end_text report_of_boundary report_of_epoch after_boundary boundary_of_lines
returns-clause-drawn_23 c = refl

pub returns-clause-drawn_24 : goal.returns-clause-drawn_24
unfolding word words_after pick state_after zero_bytes distinct adjusted_ratio best_offer revocation_list grants_up_to rebalancing_list has_own_driver unit_of bytes_of_size pages_of_size set_memory minimum_of set_minimum shares_of set_shares domain_command joined_size tune_joined sized_command tune_command command_of_words command_of digits number_line fault_lines memory_lines statistics_lines outcome_lines command_line move_line block_line state_line read_line stall_line guest_line answer_lines boundary_text epoch_text machine_line end_text report_of_boundary report_of_epoch after_boundary boundary_of_lines
returns-clause-drawn_24 c = refl

pub returns-clause-drawn_25 : goal.returns-clause-drawn_25
unfolding word words_after pick state_after zero_bytes distinct adjusted_ratio best_offer revocation_list grants_up_to rebalancing_list has_own_driver unit_of bytes_of_size pages_of_size set_memory minimum_of set_minimum shares_of set_shares domain_command joined_size tune_joined sized_command tune_command command_of_words command_of digits number_line fault_lines memory_lines statistics_lines outcome_lines command_line move_line block_line state_line read_line stall_line guest_line answer_lines boundary_text epoch_text machine_line end_text report_of_boundary report_of_epoch after_boundary boundary_of_lines
returns-clause-drawn_25 c = refl

pub returns-clause-drawn_26 : goal.returns-clause-drawn_26
unfolding word words_after pick state_after zero_bytes distinct adjusted_ratio best_offer revocation_list grants_up_to rebalancing_list has_own_driver unit_of bytes_of_size pages_of_size set_memory minimum_of set_minimum shares_of set_shares domain_command joined_size tune_joined sized_command tune_command command_of_words command_of digits number_line fault_lines memory_lines statistics_lines outcome_lines command_line move_line block_line state_line read_line stall_line guest_line answer_lines boundary_text epoch_text machine_line end_text report_of_boundary report_of_epoch after_boundary boundary_of_lines
returns-clause-drawn_26 c = refl

use Rattle.std.proofs.Common.{refl}
use Rattle.vm_sampling.specs.Words.{word, words_after, pick}
use Rattle.vm_sampling.specs.Lcg.{state_after}
use Rattle.vm_swap.specs.Area.{zero_bytes}
use Rattle.vm_balloon.specs.Service.{distinct}
use Rattle.vm_tax.specs.Ratio.{adjusted_ratio}
use Rattle.vm_tax.specs.Offers.{best_offer}
use Rattle.vm_plan.specs.Revocation.{revocation_list}
use Rattle.vm_plan.specs.Grants.{grants_up_to}
use Rattle.vm_plan.specs.Rebalancing.{rebalancing_list}
use Rattle.vm_reclaim.specs.Rebalance.{has_own_driver}
use Rattle.vm_commands.specs.Sizes.{unit_of, bytes_of_size, pages_of_size}
use Rattle.vm_commands.specs.Lines.{set_memory, minimum_of, set_minimum, shares_of, set_shares, domain_command, joined_size, tune_joined, sized_command, tune_command, command_of_words, command_of}
use Rattle.std.specs.Fmt.{digits}
use Rattle.vm_sim.specs.Lines.{number_line, fault_lines, memory_lines, statistics_lines, outcome_lines, command_line, move_line, block_line, state_line, read_line, stall_line, guest_line}
use Rattle.vm_sim.specs.Report.{answer_lines, boundary_text, epoch_text, machine_line, end_text, report_of_boundary, report_of_epoch}
use Rattle.vm_sim.specs.Course.{after_boundary, boundary_of_lines}
use Rattle.vm_laws.proofs.reports.law_corners.Goals as goal

pub returns-clause-both_books : goal.returns-clause-both_books
unfolding word words_after pick state_after zero_bytes distinct adjusted_ratio best_offer revocation_list grants_up_to rebalancing_list has_own_driver unit_of bytes_of_size pages_of_size set_memory minimum_of set_minimum shares_of set_shares domain_command joined_size tune_joined sized_command tune_command command_of_words command_of digits number_line fault_lines memory_lines statistics_lines outcome_lines command_line move_line block_line state_line read_line stall_line guest_line answer_lines boundary_text epoch_text machine_line end_text report_of_boundary report_of_epoch after_boundary boundary_of_lines
returns-clause-both_books c = refl

pub returns-clause-caps_and_demand : goal.returns-clause-caps_and_demand
unfolding word words_after pick state_after zero_bytes distinct adjusted_ratio best_offer revocation_list grants_up_to rebalancing_list has_own_driver unit_of bytes_of_size pages_of_size set_memory minimum_of set_minimum shares_of set_shares domain_command joined_size tune_joined sized_command tune_command command_of_words command_of digits number_line fault_lines memory_lines statistics_lines outcome_lines command_line move_line block_line state_line read_line stall_line guest_line answer_lines boundary_text epoch_text machine_line end_text report_of_boundary report_of_epoch after_boundary boundary_of_lines
returns-clause-caps_and_demand c = refl

pub returns-clause-freed_pages_come_back : goal.returns-clause-freed_pages_come_back
unfolding word words_after pick state_after zero_bytes distinct adjusted_ratio best_offer revocation_list grants_up_to rebalancing_list has_own_driver unit_of bytes_of_size pages_of_size set_memory minimum_of set_minimum shares_of set_shares domain_command joined_size tune_joined sized_command tune_command command_of_words command_of digits number_line fault_lines memory_lines statistics_lines outcome_lines command_line move_line block_line state_line read_line stall_line guest_line answer_lines boundary_text epoch_text machine_line end_text report_of_boundary report_of_epoch after_boundary boundary_of_lines
returns-clause-freed_pages_come_back c = refl

pub returns-clause-least_minimum : goal.returns-clause-least_minimum
unfolding word words_after pick state_after zero_bytes distinct adjusted_ratio best_offer revocation_list grants_up_to rebalancing_list has_own_driver unit_of bytes_of_size pages_of_size set_memory minimum_of set_minimum shares_of set_shares domain_command joined_size tune_joined sized_command tune_command command_of_words command_of digits number_line fault_lines memory_lines statistics_lines outcome_lines command_line move_line block_line state_line read_line stall_line guest_line answer_lines boundary_text epoch_text machine_line end_text report_of_boundary report_of_epoch after_boundary boundary_of_lines
returns-clause-least_minimum c = refl

pub returns-clause-memtune_books : goal.returns-clause-memtune_books
unfolding word words_after pick state_after zero_bytes distinct adjusted_ratio best_offer revocation_list grants_up_to rebalancing_list has_own_driver unit_of bytes_of_size pages_of_size set_memory minimum_of set_minimum shares_of set_shares domain_command joined_size tune_joined sized_command tune_command command_of_words command_of digits number_line fault_lines memory_lines statistics_lines outcome_lines command_line move_line block_line state_line read_line stall_line guest_line answer_lines boundary_text epoch_text machine_line end_text report_of_boundary report_of_epoch after_boundary boundary_of_lines
returns-clause-memtune_books c = refl

pub returns-clause-minimum_keeps_demand : goal.returns-clause-minimum_keeps_demand
unfolding word words_after pick state_after zero_bytes distinct adjusted_ratio best_offer revocation_list grants_up_to rebalancing_list has_own_driver unit_of bytes_of_size pages_of_size set_memory minimum_of set_minimum shares_of set_shares domain_command joined_size tune_joined sized_command tune_command command_of_words command_of digits number_line fault_lines memory_lines statistics_lines outcome_lines command_line move_line block_line state_line read_line stall_line guest_line answer_lines boundary_text epoch_text machine_line end_text report_of_boundary report_of_epoch after_boundary boundary_of_lines
returns-clause-minimum_keeps_demand c = refl

pub returns-clause-next_best : goal.returns-clause-next_best
unfolding word words_after pick state_after zero_bytes distinct adjusted_ratio best_offer revocation_list grants_up_to rebalancing_list has_own_driver unit_of bytes_of_size pages_of_size set_memory minimum_of set_minimum shares_of set_shares domain_command joined_size tune_joined sized_command tune_command command_of_words command_of digits number_line fault_lines memory_lines statistics_lines outcome_lines command_line move_line block_line state_line read_line stall_line guest_line answer_lines boundary_text epoch_text machine_line end_text report_of_boundary report_of_epoch after_boundary boundary_of_lines
returns-clause-next_best c = refl

pub returns-clause-refusals : goal.returns-clause-refusals
unfolding word words_after pick state_after zero_bytes distinct adjusted_ratio best_offer revocation_list grants_up_to rebalancing_list has_own_driver unit_of bytes_of_size pages_of_size set_memory minimum_of set_minimum shares_of set_shares domain_command joined_size tune_joined sized_command tune_command command_of_words command_of digits number_line fault_lines memory_lines statistics_lines outcome_lines command_line move_line block_line state_line read_line stall_line guest_line answer_lines boundary_text epoch_text machine_line end_text report_of_boundary report_of_epoch after_boundary boundary_of_lines
returns-clause-refusals c = refl

pub returns-clause-restarted_shares : goal.returns-clause-restarted_shares
unfolding word words_after pick state_after zero_bytes distinct adjusted_ratio best_offer revocation_list grants_up_to rebalancing_list has_own_driver unit_of bytes_of_size pages_of_size set_memory minimum_of set_minimum shares_of set_shares domain_command joined_size tune_joined sized_command tune_command command_of_words command_of digits number_line fault_lines memory_lines statistics_lines outcome_lines command_line move_line block_line state_line read_line stall_line guest_line answer_lines boundary_text epoch_text machine_line end_text report_of_boundary report_of_epoch after_boundary boundary_of_lines
returns-clause-restarted_shares c = refl

pub returns-clause-soft_to_low : goal.returns-clause-soft_to_low
unfolding word words_after pick state_after zero_bytes distinct adjusted_ratio best_offer revocation_list grants_up_to rebalancing_list has_own_driver unit_of bytes_of_size pages_of_size set_memory minimum_of set_minimum shares_of set_shares domain_command joined_size tune_joined sized_command tune_command command_of_words command_of digits number_line fault_lines memory_lines statistics_lines outcome_lines command_line move_line block_line state_line read_line stall_line guest_line answer_lines boundary_text epoch_text machine_line end_text report_of_boundary report_of_epoch after_boundary boundary_of_lines
returns-clause-soft_to_low c = refl

pub returns-clause-statistics_of_guest : goal.returns-clause-statistics_of_guest
unfolding word words_after pick state_after zero_bytes distinct adjusted_ratio best_offer revocation_list grants_up_to rebalancing_list has_own_driver unit_of bytes_of_size pages_of_size set_memory minimum_of set_minimum shares_of set_shares domain_command joined_size tune_joined sized_command tune_command command_of_words command_of digits number_line fault_lines memory_lines statistics_lines outcome_lines command_line move_line block_line state_line read_line stall_line guest_line answer_lines boundary_text epoch_text machine_line end_text report_of_boundary report_of_epoch after_boundary boundary_of_lines
returns-clause-statistics_of_guest c = refl

pub returns-clause-woken_1 : goal.returns-clause-woken_1
unfolding word words_after pick state_after zero_bytes distinct adjusted_ratio best_offer revocation_list grants_up_to rebalancing_list has_own_driver unit_of bytes_of_size pages_of_size set_memory minimum_of set_minimum shares_of set_shares domain_command joined_size tune_joined sized_command tune_command command_of_words command_of digits number_line fault_lines memory_lines statistics_lines outcome_lines command_line move_line block_line state_line read_line stall_line guest_line answer_lines boundary_text epoch_text machine_line end_text report_of_boundary report_of_epoch after_boundary boundary_of_lines
returns-clause-woken_1 c = refl

pub returns-clause-woken_2 : goal.returns-clause-woken_2
unfolding word words_after pick state_after zero_bytes distinct adjusted_ratio best_offer revocation_list grants_up_to rebalancing_list has_own_driver unit_of bytes_of_size pages_of_size set_memory minimum_of set_minimum shares_of set_shares domain_command joined_size tune_joined sized_command tune_command command_of_words command_of digits number_line fault_lines memory_lines statistics_lines outcome_lines command_line move_line block_line state_line read_line stall_line guest_line answer_lines boundary_text epoch_text machine_line end_text report_of_boundary report_of_epoch after_boundary boundary_of_lines
returns-clause-woken_2 c = refl

pub returns-clause-woken_3 : goal.returns-clause-woken_3
unfolding word words_after pick state_after zero_bytes distinct adjusted_ratio best_offer revocation_list grants_up_to rebalancing_list has_own_driver unit_of bytes_of_size pages_of_size set_memory minimum_of set_minimum shares_of set_shares domain_command joined_size tune_joined sized_command tune_command command_of_words command_of digits number_line fault_lines memory_lines statistics_lines outcome_lines command_line move_line block_line state_line read_line stall_line guest_line answer_lines boundary_text epoch_text machine_line end_text report_of_boundary report_of_epoch after_boundary boundary_of_lines
returns-clause-woken_3 c = refl

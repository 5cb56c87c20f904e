use Rattle.std.proofs.Common.{refl}
use Rattle.vm_sampling.specs.Words.{word, words_after, pick}
use Rattle.vm_sampling.specs.Lcg.{state_after}
use Rattle.vm_swap.specs.Area.{zero_bytes}
use Rattle.vm_balloon.specs.Service.{distinct}
use Rattle.vm_tax.specs.Ratio.{adjusted_ratio}
use Rattle.vm_tax.specs.Offers.{best_offer}
use Rattle.vm_plan.specs.Revocation.{revocation_list}
use Rattle.vm_plan.specs.Grants.{grants_up_to}
use Rattle.vm_plan.specs.Rebalancing.{rebalancing_list}
use Rattle.vm_reclaim.specs.Rebalance.{has_own_driver}
use Rattle.vm_commands.specs.Sizes.{unit_of, bytes_of_size, pages_of_size}
use Rattle.vm_commands.specs.Lines.{set_memory, minimum_of, set_minimum, shares_of, set_shares, domain_command, joined_size, tune_joined, sized_command, tune_command, command_of_words, command_of}
use Rattle.std.specs.Fmt.{digits}
use Rattle.vm_sim.specs.Course.{after_boundary, boundary_of_lines}
use Rattle.vm_tally.specs.Summary.{after_in, ready_in, summary_after, told_in}
use Rattle.vm_laws.proofs.reports.law_numbers.Goals as goal

pub returns-clause-both_books : goal.returns-clause-both_books
unfolding word words_after pick state_after zero_bytes distinct adjusted_ratio best_offer revocation_list grants_up_to rebalancing_list has_own_driver unit_of bytes_of_size pages_of_size set_memory minimum_of set_minimum shares_of set_shares domain_command joined_size tune_joined sized_command tune_command command_of_words command_of digits after_boundary boundary_of_lines told_in ready_in after_in summary_after
returns-clause-both_books c = refl

pub returns-clause-drawn_20 : goal.returns-clause-drawn_20
unfolding word words_after pick state_after zero_bytes distinct adjusted_ratio best_offer revocation_list grants_up_to rebalancing_list has_own_driver unit_of bytes_of_size pages_of_size set_memory minimum_of set_minimum shares_of set_shares domain_command joined_size tune_joined sized_command tune_command command_of_words command_of digits after_boundary boundary_of_lines told_in ready_in after_in summary_after
returns-clause-drawn_20 c = refl

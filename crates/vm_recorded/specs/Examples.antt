-- Worked examples: recorded hosts with units of 1000 KiB.
use Rattle.std.specs.Prelude.{ℕ, ◌≡◌, List, [], Option}
use Rattle.vm_samples.specs.Policies.{PolicyView}
use Rattle.vm_recorded.specs.Hosts.{GuestView}
use Rattle.vm_recorded.specs.Texts.{text_of}

abbrev pub policy_with : (overhead rate rebalance : ℕ) → PolicyView
policy_with overhead rate rebalance = record {
  unit = 1000;
  memory = 1000;
  overhead = overhead;
  rate = rate;
  rebalance = rebalance;
  tax = 7500;
  percents = record { high = 600; soft = 400; hard = 200; low = 100 };
  headroom = 20;
  cache = 50;
  most = 65;
  patience = 5;
  guests = [];
}

abbrev pub guest : (name : List ℕ) → (size min cap shares first : ℕ) → (uses : List (Option ℕ)) → GuestView
guest name size min cap shares first uses =
    record { name = name; size = size; min = min; cap = cap; shares = shares; first = first; uses = uses }

abbrev pub HasText : PolicyView → (epochs : ℕ) → List GuestView → (text : List ℕ) → Type 0
HasText policy epochs guests text = text_of (record { policy = policy; frames = 1000; epochs = epochs; guests = guests }) ≡ text

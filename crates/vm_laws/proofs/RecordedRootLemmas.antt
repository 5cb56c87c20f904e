-- The whole text of a recorded host is that of the tokens of its JSON value, and a line feed.
use Rattle.std.proofs.Common.{◌≡◌, ℕ, min, true, false, List, [], ◌∷◌, ◌++◌, codes, decimal, map, refl, sym, ap, ◌∙◌, append_assoc}
use Rattle.std.specs.List.{AllByRecursion}
use Rattle.json.specs.Print.{escape_byte}
use Rattle.json.specs.Token.{Token}
use Rattle.json.specs.Tree.{items_tokens, json_tokens}
use Rattle.vm_recorded.specs.Commands.{commands_of}
use Rattle.vm_recorded.specs.Hosts.{HostView, quantum_for, swap_for}
use Rattle.vm_recorded.specs.Texts.{guest_texts, head_of, listed, text_of}
use Rattle.vm_laws.specs.RecordedLines.{lines_of}
use Rattle.vm_config.specs.Schedule.{ScheduledLine}
use Rattle.vm_laws.proofs.PrintLemmas.{printed-items}
use Rattle.vm_laws.proofs.RecordedJsonLemmas.{Numbers, commands_json, guests_json, root_json}
use Rattle.vm_laws.proofs.RecordedLineLemmas.{line-texts}
use Rattle.vm_laws.proofs.RecordedTextLemmas.{IsSafe, command_text, commands-printed, guests-printed}
use Rattle.vm_laws.proofs.SafeLemmas.{AreSafe}
use Rattle.vm_laws.proofs.TokenLemmas.{text_before}

-- the numbers that stand in the text of a host
abbrev pub numbers_of : HostView → Numbers
numbers_of host = record {
  frames = host.frames;
  swap = swap_for host.guests;
  overhead = host.policy.overhead;
  tax = host.policy.tax;
  high = host.policy.percents.high;
  soft = host.policy.percents.soft;
  hard = host.policy.percents.hard;
  low = host.policy.percents.low;
  page_rate = min host.policy.rate 256;
  rebalance = host.policy.rebalance;
  page = host.policy.unit;
  quantum = quantum_for host.guests;
  epochs = host.epochs;
}

module _ (host : HostView) where
  abbrev cs : List ScheduledLine
  cs = lines_of host

  -- the tokens behind the guests
  abbrev behind : List Token
  behind = Token.key (codes "commands") ∷ Token.begin_array ∷ (items_tokens (commands_json cs) ++ Token.end_object ∷ [])

  -- with what stands behind the opening bracket of the guests
  abbrev shape : (n : Numbers) → (guests : List ℕ) → List ℕ
  shape n guests =
      codes "{\"version\":3,\"frames\":" ++ (decimal n.frames ++ (codes ",\"swap\":" ++ (decimal n.swap
      ++ (codes ",\"overhead\":" ++ (decimal n.overhead ++ (codes ",\"tax\":" ++ (decimal n.tax
      ++ (codes ",\"percent\":[" ++ (decimal n.high ++ (codes "," ++ (decimal n.soft ++ (codes "," ++ (decimal n.hard
      ++ (codes "," ++ (decimal n.low ++ (codes "],\"page_rate\":" ++ (decimal n.page_rate
      ++ (codes ",\"rebalance\":" ++ (decimal n.rebalance ++ (codes ",\"page\":" ++ (decimal n.page
      ++ (codes ",\"quantum\":" ++ (decimal n.quantum ++ (codes ",\"epochs\":" ++ (decimal n.epochs
      ++ (codes ",\"guests\":[" ++ guests))))))))))))))))))))))))))

  tokens-shape : (n : Numbers) → text_before false (json_tokens (root_json n host.guests cs)) (10 ∷ [])
      ≡ shape n (text_before false (items_tokens (guests_json n.quantum 0 host.guests) ++ behind) (10 ∷ []))
  unfolding text_before escape_byte
  tokens-shape n = refl

  shape-head : (guests : List ℕ) → shape (numbers_of host) guests ≡ head_of host ++ guests
  unfolding head_of
  shape-head guests = simp append_assoc refl

  module _ (guests_safe : AllByRecursion IsSafe host.guests) (commands_safe : AllByRecursion (λ c. AreSafe c.line) cs) where
    behind-printed : text_before true behind (10 ∷ []) ≡ codes ",\"commands\":[" ++ (listed (commands_of host) ++ codes "]}\n")
    unfolding text_before escape_byte
    behind-printed =
        ap (λ (l : List ℕ). codes ",\"commands\":[" ++ l)
        (printed-items (Token.end_object ∷ []) (10 ∷ []) (commands_json cs) (map command_text cs) (commands-printed cs commands_safe)
        ∙ ap (λ (l : List (List ℕ)). listed l ++ codes "]}\n") (sym (line-texts host.policy.unit 0 host.epochs host.guests)))

    pub root-printed : text_of host ≡ text_before false (json_tokens (root_json (numbers_of host) host.guests cs)) (10 ∷ [])
    unfolding text_of
    root-printed =
        let quantum = quantum_for host.guests in
        let texts = guest_texts quantum 0 host.guests in
        sym (tokens-shape (numbers_of host)
        ∙ ap (shape (numbers_of host))
        (printed-items behind (10 ∷ []) (guests_json quantum 0 host.guests) texts (guests-printed quantum 0 host.guests guests_safe)
        ∙ ap (λ (l : List ℕ). listed texts ++ 93 ∷ l) behind-printed)
        ∙ shape-head _)

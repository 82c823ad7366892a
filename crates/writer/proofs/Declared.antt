-- What a plan declares: how much it is, and what stands at a place of it.
use Prim.Native.Nat.{ℕ, ◌<◌}
use native.Mathlib.Nat.{zero-add}
use mathlib.Core.Path.{◌≡◌, ◌∙◌, ap}
use lib.ListN.{length, get_or}
use Rattle.plan.specs.Plans.{blank_event, blank_rule, blank_window, event_count, rule_count, event_at, rule_at, window_at}
use Rattle.theory.proofs.Observation.{length_tabulate, get_d_tabulate}
use Rattle.writer.specs.Types.{Plan}
use Rattle.writer.specs.Writing.{events_of, rules_of, windows_of}

module _ (p : Plan) where
  pub events_count : length (events_of p) ≡ event_count p
  events_count = length_tabulate (event_count p) 0 (λ e. event_at p e)

  pub rules_count : length (rules_of p) ≡ rule_count p
  rules_count = length_tabulate (rule_count p) 0 (λ i. rule_at p i)

  pub windows_count : length (windows_of p) ≡ event_count p
  windows_count = length_tabulate (event_count p) 0 (λ e. window_at p e)

  pub window_said : (k : ℕ) → k < event_count p → get_or (windows_of p) k blank_window ≡ window_at p k
  window_said k lt =
      get_d_tabulate (event_count p) 0 (λ e. window_at p e) k blank_window lt ∙ ap (λ (e : ℕ). window_at p e) (zero-add k)

  pub event_said : (k : ℕ) → k < event_count p → get_or (events_of p) k blank_event ≡ event_at p k
  event_said k lt =
      get_d_tabulate (event_count p) 0 (λ e. event_at p e) k blank_event lt ∙ ap (λ (e : ℕ). event_at p e) (zero-add k)

  pub rule_said : (k : ℕ) → k < rule_count p → get_or (rules_of p) k blank_rule.rule ≡ rule_at p k
  rule_said k lt =
      get_d_tabulate (rule_count p) 0 (λ i. rule_at p i) k blank_rule.rule lt ∙ ap (λ (i : ℕ). rule_at p i) (zero-add k)

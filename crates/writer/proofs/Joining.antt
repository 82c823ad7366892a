-- Records one after another: how many bytes they take.
use Prim.Native.Nat.{ℕ, zero, suc, ◌+◌, ◌*◌, ◌≤◌}
use mathlib.Core.Bool.{true, false}
use mathlib.Core.Logic.{inl, inr}
use native.Mathlib.Nat.{add-zero}
use native.Mathlib.Omega.{arith}
use mathlib.Core.List.{List, [], ◌∷◌, ◌++◌, append_assoc}
use mathlib.Core.Path.{◌≡◌, refl, sym, ◌∙◌, ap}
use lib.ListN.{length, length-append}
use Rattle.plan.specs.Base.{tabulate}
use Rattle.plan.specs.Plans.{event_count, rule_count, is_window}
use Rattle.plan.proofs.Tests.{either}
use Rattle.writer.specs.Types.{Event, Rule, Order, Need, Conditional, Window, Plan}
use Rattle.writer.specs.Writing.{events_of, rules_of, windows_of, event_record, rule_record, timed_record, window_record, window_bytes, joined, sheet_bytes, sheet_length}
use Rattle.writer.proofs.Declared.{events_count, rules_count, windows_count}

module _ {A : Type 0} (g : ℕ → A) where
  -- those made from a function: one more
  pub tabulate_next : (n i : ℕ) → tabulate (suc n) i g ≡ tabulate n i g ++ (g (i + n) ∷ [])
  unfolding tabulate
  tabulate_next zero i = ap (λ (k : ℕ). g k ∷ []) (sym (add-zero i))
  tabulate_next (suc n) i =
      ap (λ (l : List A). g i ∷ l)
      (tabulate_next n (suc i) ∙ ap (λ (k : ℕ). tabulate n (suc i) g ++ (g k ∷ [])) (omega arith))

-- an event takes three bytes, a rule three or four
pub events_length : (vs : List Event) → length (joined event_record vs) ≡ 3 * length vs
unfolding joined
events_length [] = refl
events_length (v ∷ vs) = omega (arith, events_length vs)

pub rule_few : (r : Rule) → length (rule_record r) ≤ 4
rule_few (Order a b) = omega arith
rule_few (Need a b) = omega arith
rule_few (Conditional a b c) = omega arith

pub rules_few : (rs : List Rule) → length (joined rule_record rs) ≤ 4 * length rs
unfolding joined
rules_few [] = omega arith
rules_few (r ∷ rs) = omega (arith, length-append (rule_record r) (joined rule_record rs), rule_few r, rules_few rs)

-- a window takes ten bytes, and no window none
module _ (e : ℕ) (w : Window) where
  pub window_some : is_window w ≡ true → window_record e w ≡ timed_record e w
  unfolding window_record
  window_some h = rw h

  pub window_none : is_window w ≡ false → window_record e w ≡ []
  unfolding window_record
  window_none h = rw h

  window_few : length (window_record e w) ≤ 10
  window_few = elim (either (is_window w)) [
    | inl h ↦ omega (arith, ap length (window_some h))
    | inr h ↦ omega (arith, ap length (window_none h))
  ]

pub windows_few : (e : ℕ) (ws : List Window) → length (window_bytes e ws) ≤ 10 * length ws
unfolding window_bytes
windows_few e [] = omega arith
windows_few e (w ∷ ws) = omega (arith, length-append (window_record e w) (window_bytes (suc e) ws), window_few e w, windows_few (suc e) ws)

-- a sheet in its four parts
module _ (p : Plan) where
  abbrev event_bytes : List ℕ
  event_bytes = joined event_record (events_of p)

  abbrev bytes_of_rule : List ℕ
  bytes_of_rule = joined rule_record (rules_of p)

  abbrev time_bytes : List ℕ
  time_bytes = window_bytes 0 (windows_of p)

  pub sheet_parts : sheet_bytes p ≡ event_bytes ++ (bytes_of_rule ++ (time_bytes ++ (5 ∷ [])))
  unfolding sheet_bytes
  sheet_parts =
      append_assoc (event_bytes ++ bytes_of_rule) time_bytes (5 ∷ [])
      ∙ append_assoc event_bytes bytes_of_rule (time_bytes ++ (5 ∷ []))

  -- the longest: 16 events, 16 rules of four bytes, 16 windows, and the end record
  pub sheet_short : event_count p ≤ 16 → rule_count p ≤ 16 → sheet_length p ≤ 273
  sheet_short few_events few_rules =
      omega (
        arith,
        ap length sheet_parts ∙ length-append event_bytes (bytes_of_rule ++ (time_bytes ++ (5 ∷ []))),
        length-append bytes_of_rule (time_bytes ++ (5 ∷ [])),
        length-append time_bytes (5 ∷ []),
        windows_few 0 (windows_of p),
        windows_count p,
        events_length (events_of p),
        rules_few (rules_of p),
        events_count p,
        rules_count p,
      )

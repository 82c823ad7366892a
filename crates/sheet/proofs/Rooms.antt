-- A plan has room for what a record without a fault declares.
use Prim.Native.Nat.{ℕ, zero, suc, ◌+◌, ◌≤◌, ◌<◌}
use mathlib.Core.Path.{◌≡◌, refl, ap}
use native.Mathlib.Omega.{arith}
use Rattle.plan.specs.Plans.{event_count, rule_count}
use Rattle.plan.specs.Records.{new_events, new_rules}
use Rattle.plan.proofs.FaultlessRecords.{Faultless}
use Rattle.sheet.specs.Types.{Plan, Record}

-- the plan has a place for what a record of kind k declares
pub record Room (p : Plan) (k : ℕ) : Type 0 where
  pub one : k ≡ 1 → event_count p < 16
  pub four : k ≡ 6 → event_count p + 4 ≤ 16
  pub rule : (k ≡ 1 → ⊥) → k < 6 → rule_count p < 16
  pub high : k ≤ 7

-- a kind below 6 that is neither 1 nor 5 declares a rule
rule_kind_lem : (k : ℕ) → (k ≡ 0 → ⊥) → k < 6 → (k ≡ 1 → ⊥) → (k ≡ 5 → ⊥) → new_rules k ≡ 1
rule_kind_lem zero l h a b = absurd (l refl)
rule_kind_lem (suc zero) l h a b = absurd (a refl)
rule_kind_lem (suc (suc zero)) l h a b = refl
rule_kind_lem (suc (suc (suc zero))) l h a b = refl
rule_kind_lem (suc (suc (suc (suc zero)))) l h a b = refl
rule_kind_lem (suc (suc (suc (suc (suc zero))))) l h a b = absurd (b refl)
rule_kind_lem (suc (suc (suc (suc (suc (suc k)))))) l h a b = absurd (omega arith)

pub room : {p : Plan} {len at : ℕ} {r : Record} → Faultless p len at r → (r.kind ≡ 5 → ⊥) → Room p r.kind
room {p} {len} {at} {r} q five = record {
  one = λ e. omega (arith, ap new_events e, q.events);
  four = λ e. omega (arith, ap new_events e, q.events);
  rule = λ a b. omega (arith, rule_kind_lem r.kind q.low b a five, q.rules);
  high = q.high;
}

-- What the kinds that have no arm of their own say: their body is empty, and they declare nothing.
use Prim.Native.Nat.{ℕ, zero, suc}
use mathlib.Core.Path.{◌≡◌, refl}
use Rattle.plan.specs.Records.{body_length, new_events, new_rules}

pub no_body : (k : ℕ) → (k ≡ 1 → ⊥) → (k ≡ 2 → ⊥) → (k ≡ 3 → ⊥) → (k ≡ 4 → ⊥) → (k ≡ 6 → ⊥) → (k ≡ 7 → ⊥) → 0 ≡ body_length k
no_body zero a b c d e f = refl
no_body (suc zero) a b c d e f = absurd (a refl)
no_body (suc (suc zero)) a b c d e f = absurd (b refl)
no_body (suc (suc (suc zero))) a b c d e f = absurd (c refl)
no_body (suc (suc (suc (suc zero)))) a b c d e f = absurd (d refl)
no_body (suc (suc (suc (suc (suc zero))))) a b c d e f = refl
no_body (suc (suc (suc (suc (suc (suc zero)))))) a b c d e f = absurd (e refl)
no_body (suc (suc (suc (suc (suc (suc (suc zero))))))) a b c d e f = absurd (f refl)
no_body (suc (suc (suc (suc (suc (suc (suc (suc k)))))))) a b c d e f = refl

pub no_events : (k : ℕ) → (k ≡ 1 → ⊥) → (k ≡ 6 → ⊥) → 0 ≡ new_events k
no_events zero a b = refl
no_events (suc zero) a b = absurd (a refl)
no_events (suc (suc zero)) a b = refl
no_events (suc (suc (suc zero))) a b = refl
no_events (suc (suc (suc (suc zero)))) a b = refl
no_events (suc (suc (suc (suc (suc zero))))) a b = refl
no_events (suc (suc (suc (suc (suc (suc zero)))))) a b = absurd (b refl)
no_events (suc (suc (suc (suc (suc (suc (suc zero))))))) a b = refl
no_events (suc (suc (suc (suc (suc (suc (suc (suc k)))))))) a b = refl

pub no_rules : (k : ℕ) → (k ≡ 2 → ⊥) → (k ≡ 3 → ⊥) → (k ≡ 4 → ⊥) → 0 ≡ new_rules k
no_rules zero a b c = refl
no_rules (suc zero) a b c = refl
no_rules (suc (suc zero)) a b c = absurd (a refl)
no_rules (suc (suc (suc zero))) a b c = absurd (b refl)
no_rules (suc (suc (suc (suc zero)))) a b c = absurd (c refl)
no_rules (suc (suc (suc (suc (suc zero))))) a b c = refl
no_rules (suc (suc (suc (suc (suc (suc zero)))))) a b c = refl
no_rules (suc (suc (suc (suc (suc (suc (suc zero))))))) a b c = refl
no_rules (suc (suc (suc (suc (suc (suc (suc (suc k)))))))) a b c = refl

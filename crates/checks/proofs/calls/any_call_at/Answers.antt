-- `any_call_at` meets its contract.
use mathlib.Core.Path.{sym, ◌∙◌}
use Rattle.plan.proofs.AnyCalls.{any_advance, any_other}
use Rattle.checks.proofs.calls.any_call_at.Goals as goal

pub returns-then-byte_at-eq-ADVANCE : goal.returns-then-byte_at-eq-ADVANCE
returns-then-byte_at-eq-ADVANCE c = any_advance c.args.bytes.now c.args.at _ (sym c.byte_at.ensures ∙ c.if-byte_at-eq-ADVANCE.true) c.advance_at.ensures

pub returns-else-byte_at-eq-ADVANCE : goal.returns-else-byte_at-eq-ADVANCE
returns-else-byte_at-eq-ADVANCE c = any_other c.args.bytes.now c.args.at _ (λ h. c.if-byte_at-eq-ADVANCE.false (c.byte_at.ensures ∙ h)) c.call_at.ensures

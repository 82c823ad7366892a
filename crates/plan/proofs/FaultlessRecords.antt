-- What is known of a record without a fault: no row of the table applies to it.
use Prim.Native.Nat.{ℕ, ◌+◌, ◌≤◌, ◌<◌}
use mathlib.Core.Bool.{false, not, ◌&&◌, ◌||◌}
use Rattle.std.specs.declared.option.Option.TheVariants.{None as none}
use mathlib.Core.Path.{◌≡◌}
use borrow.Author.Tests.{ltb-false, leb-false, eqb-false, le-ltb, lt-leb, ne_eqb}
use lib.Dec.{eqb, ltb}
use Rattle.plan.specs.Prelude.{Plan, Record}
use Rattle.plan.specs.Plans.{event_count, rule_count}
use Rattle.plan.specs.Rules.{bad_step, bad_attributes, bad_window, named, enforceable}
use Rattle.plan.specs.Records.{body_length, new_events, new_rules, is_rule, rule_of, record_fault}
use Rattle.plan.proofs.Tests.{or_left, or_right, or_both}
use Rattle.plan.proofs.Tables.{none_applies, no_row_none}

pub record Faultless (p : Plan) (len at : ℕ) (r : Record) : Type 0 where
  pub inside : at < len
  pub low : r.kind ≡ 0 → ⊥
  pub high : r.kind ≤ 7
  pub whole : at + 1 + body_length r.kind ≤ len
  pub events : event_count p + new_events r.kind ≤ 16
  pub rules : rule_count p + new_rules r.kind ≤ 16
  pub step : ((eqb r.kind 1 || eqb r.kind 6) && bad_step r.x) ≡ false
  pub attributes : (eqb r.kind 1 && bad_attributes r.y) ≡ false
  pub names : (is_rule r.kind && not (named (event_count p) (rule_of r))) ≡ false
  pub enforced : (is_rule r.kind && not (enforceable p (rule_of r))) ≡ false
  pub window : (eqb r.kind 7 && bad_window p r.x r.from r.until) ≡ false

pub faultless : (p : Plan) (len at : ℕ) (r : Record) → record_fault p len at r ≡ none → Faultless p len at r
unfolding record_fault
faultless p len at r h =
    let a = none_applies _ _ _ h in
    let b = none_applies _ _ _ a.1 in
    let c = none_applies _ _ _ b.1 in
    let d = none_applies _ _ _ c.1 in
    let e = none_applies _ _ _ d.1 in
    let f = none_applies _ _ _ e.1 in
    let g = none_applies _ _ _ f.1 in
    let i = none_applies _ _ _ g.1 in
    record {
      inside = leb-false _ _ a.0;
      low = eqb-false _ _ (or_left _ _ b.0);
      high = ltb-false _ _ (or_right (eqb r.kind 0) _ b.0);
      whole = ltb-false _ _ c.0;
      events = ltb-false _ _ (or_left _ _ d.0);
      rules = ltb-false _ _ (or_right (ltb 16 (event_count p + new_events r.kind)) _ d.0);
      step = e.0;
      attributes = f.0;
      names = g.0;
      enforced = i.0;
      window = (none_applies _ _ _ i.1).0;
    }

-- and the other way: where no row applies there is no fault
pub no_fault : (p : Plan) (len at : ℕ) (r : Record) → Faultless p len at r → record_fault p len at r ≡ none
unfolding record_fault
no_fault p len at r c =
    let events = event_count p + new_events r.kind in
    let rules = rule_count p + new_rules r.kind in
    no_row_none _ (
      lt-leb len at c.inside,
      (
        or_both (eqb r.kind 0) (ltb 7 r.kind) (ne_eqb r.kind 0 c.low) (le-ltb 7 r.kind c.high),
        (
          le-ltb len (at + 1 + body_length r.kind) c.whole,
          (
            or_both (ltb 16 events) (ltb 16 rules) (le-ltb 16 events c.events) (le-ltb 16 rules c.rules),
            (c.step, (c.attributes, (c.names, (c.enforced, (c.window, tt))))),
          ),
        ),
      ),
    )

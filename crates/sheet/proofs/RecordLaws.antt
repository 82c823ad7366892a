-- Laws of a sheet's records: the record past the end, the offset after a record, and the branches of its rule and of
-- what it declares.
use Rattle.std.proofs.Common.{◌≡◌, ℕ, ◌+◌, ◌≤◌, ◌<◌, List, sym, length, get_or, drop, arith, add-one, drop-cons}
use borrow.Author.Tests.{lt-ltb, le-ltb, eq-eqb, ne_eqb}
use Rattle.plan.specs.Records.{body_length, record_at, rule_of}
use Rattle.plan.specs.Records.{add_event, add_rule, add_window, add_events, table1, declare}
use Rattle.plan.proofs.ByteReads.{past_end}
use Rattle.sheet.specs.Types.{Order, Need, Conditional, Plan, Record}
use Rattle.sheet.specs.Internal.Place.{place_after}

-- past the end of a sheet's bytes
pub past_record : (b : List ℕ) (at : ℕ) → length b ≤ at → record { kind = 0; x = 0; y = 0; z = 0; from = 0; until = 0 } ≡ record_at b at
past_record b at h =
    let gone : (i : ℕ) → at ≤ i → get_or b i 0 ≡ 0 = λ i le. sym (past_end b i (omega arith)) in
    rw (gone at (omega arith), gone (at + 1) (omega arith), gone (at + 2) (omega arith), gone (at + 3) (omega arith))

-- the branches of `place_after`
module _ (len at : ℕ) (r : Record) where
  pub place_inside : at < len → place_after len at r ≡ at + 1 + body_length r.kind
  place_inside h = rw (lt-ltb at len h, place_after)

  pub place_past : len ≤ at → place_after len at r ≡ at
  place_past h = rw (le-ltb at len h, place_after)

-- an event of the table more, and the table's end
pub add_next : (p : Plan) (k i : ℕ) → i < length table1
    → add_events (add_event p k (get_or table1 i 0)) k (drop (i + 1) table1) ≡ add_events p k (drop i table1)
unfolding add_events
add_next p k i h = rw (add-one, drop-cons table1 i 0)

pub all_added : (p : Plan) (k i : ℕ) → i ≤ length table1 → length table1 ≤ i → p ≡ add_events p k (drop i table1)
unfolding add_events
all_added p k i a b = let e : i ≡ length table1 = omega arith in rw e

pub ruleset table_steps = (add_next, all_added)

-- the branches of `rule_of` and of `declare`
module _ (r : Record) where
  pub rule_order : r.kind ≡ 2 → Order r.x r.y ≡ rule_of r
  unfolding rule_of
  rule_order h = rw (eq-eqb r.kind 2 h, rule_of)

  pub rule_need : (r.kind ≡ 2 → ⊥) → r.kind ≡ 3 → Need r.x r.y ≡ rule_of r
  unfolding rule_of
  rule_need a h = rw (ne_eqb r.kind 2 a, eq-eqb r.kind 3 h, rule_of)

  pub rule_conditional : (r.kind ≡ 2 → ⊥) → (r.kind ≡ 3 → ⊥) → Conditional r.x r.y r.z ≡ rule_of r
  unfolding rule_of
  rule_conditional a b = rw (ne_eqb r.kind 2 a, ne_eqb r.kind 3 b, rule_of)

  module _ (p : Plan) where
    pub declare_event : r.kind ≡ 1 → add_event p r.x r.y ≡ declare p r
    unfolding declare
    declare_event h = rw (eq-eqb r.kind 1 h, declare)

    declare_events : (r.kind ≡ 1 → ⊥) → r.kind ≡ 6 → add_events p r.x table1 ≡ declare p r
    unfolding declare
    declare_events a h = rw (ne_eqb r.kind 1 a, eq-eqb r.kind 6 h, declare)

    declare_window : (r.kind ≡ 1 → ⊥) → (r.kind ≡ 6 → ⊥) → r.kind ≡ 7 → add_window p r.x r.from r.until ≡ declare p r
    unfolding declare
    declare_window a b h = rw (ne_eqb r.kind 1 a, ne_eqb r.kind 6 b, eq-eqb r.kind 7 h, declare)

    pub declare_rule : (r.kind ≡ 1 → ⊥) → r.kind < 6 → add_rule p (rule_of r) ≡ declare p r
    unfolding declare
    declare_rule a b = rw (ne_eqb r.kind 1 a, ne_eqb r.kind 6 (λ e. omega arith), ne_eqb r.kind 7 (λ e. omega arith), declare)

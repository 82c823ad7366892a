-- Tests of a rule over the array of a plan's events, by what the code reads out of it; the bits of attributes; and the
-- events that a rule names.
use Prim.Native.Nat.{ℕ, ◌*◌, ◌/◌, ◌%◌, ◌^◌, ◌≤◌, ◌<◌}
use native.Mathlib.Decide.{dec_lt}
use native.Mathlib.Omega.{arith}
use borrow.Author.Tests.{ltb-true, not-true, eq-eqb, ne_eqb}
use Rattle.std.proofs.Common.{bit_and}
use Rattle.std.proofs.lemmas.Nat.{pow_pos}
use Rattle.std.proofs.lemmas.Nat.Bits.{and_pow}
use mathlib.Core.Bool.{Bool, true, false, not, ◌&&◌, ◌||◌}
use mathlib.Core.List.{List}
use mathlib.Core.Path.{◌≡◌, sym, ◌∙◌, ap}
use lib.Dec.{eqb, ltb}
use lib.ListN.{get_or}
use Rattle.plan.proofs.Arrays.{read_in, read_past}
use Rattle.plan.specs.Prelude.{Event, Rule, Order, Need, Conditional, Plan}
use Rattle.plan.specs.Base.{read_at}
use Rattle.plan.specs.Plans.{blank_event, attributes_of, holds_bit, forcible, rejectable, delayable}
use Rattle.plan.specs.Rules.{named, enforceable}
use Rattle.plan.proofs.Tests.{and_left, and_right}

-- a bit of the attributes, as the code's `&` tests it
pub bit_test : (k n : ℕ) → not (eqb (bit_and n (2 ^ k)) 0) ≡ holds_bit (2 ^ k) n
bit_test k n = rw (and_pow n k) (go (n / 2 ^ k % 2) (omega arith))
  where
    go : (b : ℕ) → b < 2 → not (eqb (b * 2 ^ k) 0) ≡ eqb b 1
    go b lt = elim (dec_lt b 1) [
      | yes none ↦ let is : b ≡ 0 = omega arith in rw is (ap not (eq-eqb (0 * 2 ^ k) 0 (omega arith)))
      | no some ↦
          let is : b ≡ 1 = omega (arith, some) in
          let above = pow_pos k in
          rw is (ap not (ne_eqb (1 * 2 ^ k) 0 (λ zero. omega (arith, zero, above))))
    ]

module _ (p : Plan) where
  -- the attributes that the code reads are those of the plan's event e
  pub attributes_read : (events : List Event) (v : Event) (e : ℕ)
      → p.events ≡ events
      → v ≡ read_at 16 events e blank_event
      → v.attributes ≡ attributes_of p e
  attributes_read events v e same read =
      ap (λ (w : Event). w.attributes) read
      ∙ ap (λ (l : List Event). (read_at 16 l e blank_event).attributes) (sym same)

  -- bit k of the plan's event e, where the code read the attributes x in the array, or took 0 past its places, and r in x
  module _ (events : List Event) (same : p.events ≡ events) (k e x : ℕ) (r : Bool) (bit : r ≡ holds_bit k x) where
    pub bit_in : e < 16 → x ≡ (get_or events e blank_event).attributes → r ≡ holds_bit k (attributes_of p e)
    bit_in lt is =
        bit
        ∙ ap (holds_bit k) (is ∙ attributes_read events (get_or events e blank_event) e same (sym (read_in 16 events e blank_event lt)))

    pub bit_past : 16 ≤ e → x ≡ 0 → r ≡ holds_bit k (attributes_of p e)
    bit_past ge is =
        bit ∙ ap (holds_bit k) (is ∙ attributes_read events blank_event e same (sym (read_past 16 events e blank_event ge)))

  -- the same of an event by another name for it
  pub bit_named : (k n e : ℕ) (r : Bool) → n ≡ e → r ≡ holds_bit k (attributes_of p n) → r ≡ holds_bit k (attributes_of p e)
  bit_named k n e r same h = h ∙ ap (λ (x : ℕ). holds_bit k (attributes_of p x)) same

  module _ (rule : Rule) (a b : ℕ) where
    pub order_enforced : (x y : Bool)
        → rule ≡ Order a b
        → x ≡ delayable p b
        → y ≡ rejectable p a
        → (x || y) ≡ enforceable p rule
    unfolding enforceable
    order_enforced x y is h k = rw (is, h, k)

    pub need_enforced : (x y : Bool)
        → rule ≡ Need a b
        → x ≡ rejectable p a
        → y ≡ forcible p b
        → (x || y) ≡ enforceable p rule
    unfolding enforceable
    need_enforced x y is h k = rw (is, h, k)

    pub conditional_enforced : (c : ℕ) (x y z : Bool)
        → rule ≡ Conditional a b c
        → x ≡ rejectable p a
        → y ≡ rejectable p b
        → z ≡ forcible p c
        → (x || y || z) ≡ enforceable p rule
    unfolding enforceable
    conditional_enforced c x y z is h k l = rw (is, h, k, l)

-- a rule that names some of n declared events, none twice
pub two_named : (n a b : ℕ) (t : Bool) → (ltb a n && ltb b n && t) ≡ true → (a < n) × (b < n)
two_named n a b t h =
    let q = and_left (ltb a n && ltb b n) t h in
    (ltb-true a n (and_left (ltb a n) (ltb b n) q), ltb-true b n (and_right (ltb a n) (ltb b n) q))

pub record ThreeNamed (n a b c : ℕ) : Type 0 where
  pub first : a < n
  pub second : b < n
  pub third : c < n
  pub apart : eqb a b ≡ false

pub triple_named : (n a b c : ℕ) → named n (Conditional a b c) ≡ true → ThreeNamed n a b c
unfolding named
triple_named n a b c h =
    let q1 = and_left (ltb a n && ltb b n && ltb c n && not (eqb a b) && not (eqb a c)) (not (eqb b c)) h in
    let q2 = and_left (ltb a n && ltb b n && ltb c n && not (eqb a b)) (not (eqb a c)) q1 in
    let q3 = and_left (ltb a n && ltb b n && ltb c n) (not (eqb a b)) q2 in
    let t = two_named n a b (ltb c n) q3 in
    record {
      first = t.0;
      second = t.1;
      third = ltb-true c n (and_right (ltb a n && ltb b n) (ltb c n) q3);
      apart = not-true (eqb a b) (and_right (ltb a n && ltb b n && ltb c n) (not (eqb a b)) q2);
    }

-- How members grow into the least closed set: one rule, one pass over the rules, and one pass after another.
use Prim.Native.Nat.{ℕ, suc, ◌+◌, ◌≤◌, ◌<◌}
use native.Mathlib.Decide.{ℕ_discrete}
use native.Mathlib.Nat.{le_antisymm}
use native.Mathlib.Omega.{arith}
use borrow.Author.Tests.{not-true, not-false, lt-ltb, eqb-true, eq-eqb, ne_eqb}
use mathlib.Core.Bool.{Bool, true, false, not, ◌&&◌, ◌||◌, and-true, and-false}
use mathlib.Core.Logic.{◌⊎◌, inl, inr, ⊎_elim}
use mathlib.Core.Path.{◌≡◌, refl, sym, ◌∙◌, ap}
use lib.Dec.{eqb, ltb}
use Rattle.plan.specs.declared.rule.Rule.TheVariants.{Order}
use Rattle.plan.specs.Base.{count_below}
use Rattle.plan.specs.Fates.{Fates, is_settled}
use Rattle.plan.specs.Plans.{rule_count, rule_at, delayable}
use Rattle.plan.proofs.Tests.{and_left, and_right, and_both, and_not, or_either, or_right_true, clash, count_more, count_zero}
use Rattle.orders.specs.Closed.{Events, Stands, Wants, Closed, asks, target, Fit}
use Rattle.orders.proofs.Closure.{count_within, asks_wants, wants_asks, wants_unsettled, wants_more}
use Rattle.members.specs.Prelude.{none, some, Rule, Plan, Members}
use Rattle.members.specs.Sets.{in_set}
use Rattle.members.specs.Growing.{lacks, Added, Sure, NoFit, Passed, Closes}
use Rattle.members.proofs.Bits.{in_zero, in_below}

-- n is m with t, which was not in m
module _ (m n : Events) (t : ℕ) (is : (x : ℕ) → n x ≡ (eqb x t || m x)) where
  pub one_in : n t ≡ true
  one_in = is t ∙ rw (eq-eqb t t refl)

  pub old_in : (x : ℕ) → m x ≡ true → n x ≡ true
  old_in x h = is x ∙ rw h (or_right_true (eqb x t))

  pub in_either : (x : ℕ) → n x ≡ true → (x ≡ t) ⊎ (m x ≡ true)
  in_either x h =
      elim (or_either (eqb x t) (m x) (sym (is x) ∙ h)) [ inl a ↦ inl (eqb-true x t a) | inr a ↦ inr a ]

  -- it alone, where m has none
  pub only_one : ((x : ℕ) → m x ≡ false) → (x : ℕ) → n x ≡ true → x ≡ t
  only_one empty x h = elim (in_either x h) [ inl a ↦ a | inr a ↦ absurd (clash a (empty x)) ]

  pub count_one : t < 16 → m t ≡ false → count_below 16 n ≡ suc (count_below 16 m)
  count_one lt out = count_more 16 m n t lt out one_in (λ x ne. sym (is x ∙ rw (ne_eqb x t ne)))

-- what a rule lacks
itself : (a b c : Bool) → (((a && b) && c) && not a) ≡ false
itself true b c = and-false (b && c)
itself false b c = refl

module _ (p : Plan) (f : Fates) where
  module _ (m : Events) (r : Rule) where
    abbrev wanted : Bool
    wanted = asks p f m r && not (is_settled (f (target r)))

    lacks_asks : lacks p f m r ≡ true → asks p f m r ≡ true
    unfolding lacks
    lacks_asks h = and_left (asks p f m r) _ (and_left wanted _ h)

    lacks_open : lacks p f m r ≡ true → is_settled (f (target r)) ≡ false
    unfolding lacks
    lacks_open h = not-true _ (and_right (asks p f m r) _ (and_left wanted _ h))

    lacks_out : lacks p f m r ≡ true → m (target r) ≡ false
    unfolding lacks
    lacks_out h = not-true _ (and_right wanted _ h)

    -- a rule that lacks nothing has what it wants
    pub lacks_nothing : lacks p f m r ≡ false → Wants p f m r → m (target r) ≡ true
    unfolding lacks
    lacks_nothing h w =
        not-false _ (and_not wanted _ h (and_both _ _ (wants_asks p f m r w) (rw (wants_unsettled w))))

  -- the blank rule lacks nothing: it asks for its own b
  pub lacks_blank : (m : Events) → lacks p f m (Order 0 0) ≡ false
  unfolding lacks asks
  lacks_blank m = itself (m 0) (delayable p 0) (not (is_settled (f 0)))

  -- a closed set that holds the members has the event that a rule lacks
  pub within_fit : (l : ℕ → Bool) (m n : Events) (r : Rule)
      → ((x : ℕ) → m x ≡ true → n x ≡ true)
      → Closed p l f n
      → Stands p l r
      → lacks p f m r ≡ true
      → n (target r) ≡ true
  within_fit l m n r sub closed stands h =
      closed r stands (wants_more n sub (asks_wants p f m r (lacks_asks m r h) (lacks_open m r h)))

-- the events that may be members are those of a set of sixteen
module _ (p : Plan) (l : ℕ → Bool) (f : Fates) (able e : ℕ) where
  abbrev Surely : Members → Type 0
  Surely m = Sure p l f (in_set able) e m

  abbrev None : Type 0
  None = NoFit p l f (in_set able) e

  -- one rule that stands
  module _ (m n : Members) (r : Rule) (sure : Surely m) (stands : Stands p l r) where
    abbrev old : Events
    old = in_set m.set

    abbrev new : Events
    new = in_set n.set

    -- the members with the event that it asks for
    abbrev wider : Events
    wider x = eqb x (target r) || old x

    -- the event that it lacks lies in every set that would do
    needed : (k : Events) → Fit p l f (in_set able) e k → lacks p f old r ≡ true → k (target r) ≡ true
    needed k fit h = within_fit p f l old k r (sure.least k fit) fit.closed stands h

    wider_within : (k : Events)
        → Fit p l f (in_set able) e k
        → lacks p f old r ≡ true
        → (x : ℕ)
        → wider x ≡ true
        → k x ≡ true
    wider_within k fit h x g =
        ⊎_elim (λ a. ap k a ∙ needed k fit h) (sure.least k fit x) (in_either old wider (target r) (λ _. refl) x g)

    -- and is not the seventh there
    not_seventh : (k : Events) → Fit p l f (in_set able) e k → lacks p f old r ≡ true → 6 ≤ m.count → ⊥
    not_seventh k fit h full =
        let below : target r < 16 = in_below able (target r) (fit.ables (target r) (needed k fit h)) in
        let seven = count_one old wider (target r) (λ _. refl) below (lacks_out p f old r h) in
        omega (arith, seven, count_within 16 wider k (λ x lt. wider_within k fit h x), fit.few, sure.counted)

    -- the members after it, if there are any, and that there are none
    pub added_sure : Added p f (in_set able) m r (some n) → Surely n
    added_sure (inl (h, same)) = rw same sure
    added_sure (inr (h, g)) =
        let below : target r < 16 = in_below able (target r) g.fine in
        let members : count_below 16 new ≡ suc (count_below 16 old) = count_one old new (target r) g.has below (lacks_out p f old r h) in
        record {
          contains = old_in old new (target r) g.has e sure.contains;
          ables = λ x t. ⊎_elim (λ a. ap (in_set able) a ∙ g.fine) (sure.ables x) (in_either old new (target r) g.has x t);
          counted = omega (arith, sure.counted, g.counts);
          few = omega (arith, g.counts, g.room);
          least = λ k fit x t. wider_within k fit h x (sym (g.has x) ∙ t);
        }

    pub added_nofit : Added p f (in_set able) m r none → None
    added_nofit (h, inl unable) k fit = clash (fit.ables (target r) (needed k fit h)) unable
    added_nofit (h, inr full) k fit = not_seventh k fit h full

    -- they are no fewer; and where they are as many, the rule lacked nothing
    pub added_more : Added p f (in_set able) m r (some n) → m.count ≤ n.count
    added_more (inl (h, same)) = rw same (omega arith)
    added_more (inr (h, g)) = omega (arith, g.counts)

    pub added_same : Added p f (in_set able) m r (some n) → n.count ≡ m.count → (n ≡ m) × (lacks p f old r ≡ false)
    added_same (inl (h, same)) q = (same, h)
    added_same (inr (h, g)) q = absurd (omega (arith, g.counts))

  -- a pass over the rules, up to i: members that are sure and no fewer; and where they are as many, no rule so far lacks
  -- anything
  pub record Passing (m n : Members) (i : ℕ) : Type 0 where
    pub sure : Surely n
    pub more : m.count ≤ n.count
    pub same : n.count ≡ m.count
        → (j : ℕ)
        → j < i
        → l j ≡ true
        → lacks p f (in_set n.set) (rule_at p j) ≡ false

  pub pass_start : (m : Members) → Surely m → Passing m m 0
  pass_start m s =
      record { sure = s; more = omega arith; same = λ q j lt. absurd (omega arith) }

  module _ (m n : Members) (i : ℕ) (before : Passing m n i) where
    -- one place more that lacks nothing
    pass_on : (l i ≡ true → lacks p f (in_set n.set) (rule_at p i) ≡ false) → Passing m n (i + 1)
    pass_on here =
        record {
          sure = before.sure;
          more = before.more;
          same = λ q j lt stands. elim (ℕ_discrete j i) [
            | yes is ↦ ap (λ k. lacks p f (in_set n.set) (rule_at p k)) is ∙ here (ap l (sym is) ∙ stands)
            | no not-i ↦ before.same q j (omega arith) stands
          ];
        }

    -- a broken rule
    pub pass_broken : l i ≡ false → Passing m n (i + 1)
    pass_broken h = pass_on (λ stands. absurd (clash stands h))

    pub pass_blank : rule_at p i ≡ Order 0 0 → Passing m n (i + 1)
    pass_blank is = pass_on (λ stands. ap (lacks p f (in_set n.set)) is ∙ lacks_blank p f (in_set n.set))

    -- a rule that stands
    module _ (r : Rule) (here : Stands p l r) (at : rule_at p i ≡ r) where
      pub pass_next : (k : Members) → Added p f (in_set able) n r (some k) → Passing m k (i + 1)
      pass_next k added =
          let up = added_more n k r before.sure here added in
          let up' = before.more in
          record {
            sure = added_sure n k r before.sure here added;
            more = omega arith;
            same = λ q j j-lt j-stands.
                let kept = added_same n k r before.sure here added (omega arith) in
                ap (λ (w : Members). lacks p f (in_set w.set) (rule_at p j)) kept.0
                ∙ (pass_on (λ _. ap (lacks p f (in_set n.set)) at ∙ kept.1)).same (omega arith) j j-lt j-stands;
          }

      pub pass_fails : Added p f (in_set able) n r none → Passed p l f (in_set able) e m none
      pass_fails added = added_nofit n n r before.sure here added

    -- all rules
    pub pass_end : rule_count p ≤ i → Passed p l f (in_set able) e m (some n)
    pass_end ge =
        record {
          sure = before.sure;
          more = before.more;
          closed = λ q r stands wants.
              let all = before.same q stands.place (omega (arith, stands.within)) stands.unbroken in
              lacks_nothing p f (in_set n.set) r (sym (ap (lacks p f (in_set n.set)) stands.is) ∙ all) wants;
        }

  -- one pass after another: members that are sure, and closed where the last pass found no more
  pub record Closing (m : Members) (before : ℕ) : Type 0 where
    pub sure : Surely m
    pub more : before ≤ m.count
    pub closed : before ≡ m.count → Closed p l f (in_set m.set)

  -- the event alone
  pub close_start : (m : Members)
      → m.count ≡ 1
      → ((x : ℕ) → in_set m.set x ≡ ((eqb x e && (ltb e 16 && true)) || in_set 0 x))
      → in_set able e ≡ true
      → Closing m 0
  close_start m one-member is fine =
      let below : e < 16 = in_below able e fine in
      let alone : (x : ℕ) → in_set m.set x ≡ (eqb x e || in_set 0 x) = λ x. is x ∙ rw (lt-ltb e 16 below, and-true) in
      let only : (x : ℕ) → in_set m.set x ≡ true → x ≡ e = only_one (in_set 0) (in_set m.set) e alone in_zero in
      let counts = count_one (in_set 0) (in_set m.set) e alone below (in_zero e) in
      record {
        sure = record {
          contains = one_in (in_set 0) (in_set m.set) e alone;
          ables = λ x g. ap (in_set able) (only x g) ∙ fine;
          counted = omega (arith, counts, count_zero 16 (in_set 0) (λ x _. in_zero x));
          few = omega arith;
          least = λ k fit x g. ap k (only x g) ∙ fit.contains;
        };
        more = omega arith;
        closed = λ q. absurd (omega arith);
      }

  -- a pass more
  pub close_next : (m n : Members) → Passed p l f (in_set able) e m (some n) → Closing n m.count
  close_next m n passed = record { sure = passed.sure; more = passed.more; closed = λ q. passed.closed (sym q) }

  -- the last pass found no more
  pub close_end : (m : Members) (before : ℕ) → Closing m before → m.count ≤ before → Closes p l f (in_set able) e (some m)
  close_end m before c ge =
      record {
        fit = record {
          contains = c.sure.contains;
          closed = c.closed (le_antisymm c.more ge);
          ables = c.sure.ables;
          few = omega (arith, c.sure.counted, c.sure.few);
        };
        least = c.sure.least;
      }

  -- the event is not able
  pub unable_nofit : in_set able e ≡ false → None
  unable_nofit h k fit = clash (fit.ables e fit.contains) h

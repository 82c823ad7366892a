-- The members after one rule, over what code reads of it.
use Prim.Native.Nat.{ℕ, ◌+◌}
use native.Mathlib.Omega.{arith}
use borrow.Author.Tests.{ltb-true, ltb-false, lt-ltb}
use mathlib.Core.Bool.{Bool, true, false, not, ◌&&◌, ◌||◌, and-true}
use mathlib.Core.Logic.{inl, inr}
use mathlib.Core.Path.{◌≡◌, refl, sym, ◌∙◌, ap}
use lib.Bits.{bit_or}
use lib.Dec.{eqb, ltb}
use Rattle.std.proofs.lemmas.Bool.Decides.{nat_tests}
use Rattle.plan.specs.Fates.{Fates, is_done, is_gone}
use Rattle.plan.proofs.Tests.{and_left, and_right, either, and_not}
use Rattle.orders.specs.Closed.{asks, target}
use Rattle.members.specs.Prelude.{none, some, Rule, Plan, View, Members}
use Rattle.members.specs.Sets.{in_set, Shows}
use Rattle.members.specs.Growing.{lacks, Added}
use Rattle.members.proofs.Bits.{in_or, in_below}

pub one_or_other : (a b c d : Bool) → (a && not ((b || c) || d)) ≡ ((a && not (b || c)) && not d)
one_or_other a b c d = grind (arith, nat_tests)

-- an event that is settled or in a set, by the sets of a view
pub had_read : (p : Plan) (f : Fates) (v : View)
    → Shows p f v
    → (m t : ℕ)
    → in_set (bit_or (bit_or v.done v.gone) m) t ≡ ((is_done (f t) || is_gone (f t)) || in_set m t)
had_read p f v shows m t = rw (in_or (bit_or v.done v.gone) m t, in_or v.done v.gone t, shows.done t, shows.gone t)

-- the rule asks for nothing
pub added_unasked : (p : Plan) (f : Fates) (able : ℕ) (m : Members) (r : Rule)
    → asks p f (in_set m.set) r ≡ false
    → Added p f (in_set able) m r (some m)
unfolding lacks
added_unasked p f able m r h = inl (rw h, refl)

module _
    (p : Plan)
    (f : Fates)
    (v : View)
    (shows : Shows p f v)
    (able : ℕ)
    (m : Members)
    (r : Rule)
    (t : ℕ)
    (at : t ≡ target r)
    (q y : Bool)
    (asked : q ≡ asks p f (in_set m.set) r)
    (had : y ≡ in_set (bit_or (bit_or v.done v.gone) m.set) t)
  where
    -- the rule asks, and the event is neither settled nor a member
    lacks_read : (q && not y) ≡ lacks p f (in_set m.set) r
    unfolding lacks
    lacks_read =
        rw (asked, had, had_read p f v shows m.set t, at)
        (one_or_other (asks p f (in_set m.set) r) (is_done (f (target r))) (is_gone (f (target r))) (in_set m.set (target r)))

    -- the rule does not ask, or the event is settled or a member
    pub added_none : (q && not y) ≡ false → Added p f (in_set able) m r (some m)
    added_none h = inl (sym lacks_read ∙ h, refl)

    -- the event is able and one of six, or not
    module _ (new : (q && not y) ≡ true) (z : Bool) (told : z ≡ in_set able t) where
      able_read : in_set able (target r) ≡ z
      able_read = ap (in_set able) (sym at) ∙ sym told

      pub added_not : (z && ltb m.count 6) ≡ false → Added p f (in_set able) m r none
      added_not h = (
        sym lacks_read ∙ new,
        (elim (either z) [
          | inl a ↦ inr (ltb-false m.count 6 (and_not z _ h a))
          | inr a ↦ inl (able_read ∙ a)
        ]),
      )

      pub added_one : (n : Members)
          → (z && ltb m.count 6) ≡ true
          → n.count ≡ m.count + 1
          → ((x : ℕ) → in_set n.set x ≡ ((eqb x t && (ltb t 16 && true)) || in_set m.set x))
          → Added p f (in_set able) m r (some n)
      added_one n h counts more =
          let fine : z ≡ true = and_left z (ltb m.count 6) h in
          let below : ltb t 16 ≡ true = lt-ltb t 16 (in_below able t (sym told ∙ fine)) in
          inr (
            sym lacks_read ∙ new,
            record {
              fine = able_read ∙ fine;
              room = ltb-true m.count 6 (and_right z (ltb m.count 6) h);
              counts = counts;
              has = λ x. more x ∙ rw (below, and-true, at);
            },
          )

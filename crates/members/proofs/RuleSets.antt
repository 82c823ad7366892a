-- What one rule reckons with, asks for, forbids, owes and blocks, over sets as code reads and makes them.
use Prim.Native.Nat.{ℕ, ◌<◌}
use native.Mathlib.Omega.{arith}
use mathlib.Core.Bool.{Bool, false, not, ◌&&◌, ◌||◌, not-not, or-false, or_assoc}
use mathlib.Core.Path.{◌≡◌, sym, ◌∙◌, ap, ap₂}
use lib.Bits.{bit_or}
use lib.Dec.{eqb, ltb}
use Rattle.std.proofs.lemmas.Bool.Decides.{nat_tests}
use Rattle.plan.specs.declared.rule.Rule.TheVariants.{Order, Need, Conditional}
use Rattle.plan.specs.Fates.{Fates, is_done, is_gone}
use Rattle.plan.specs.Plans.{forcible, delayable}
use Rattle.plan.specs.Rules.{unstoppable, reckoned, triggered, bars, makes_wait, forbids, owes}
use Rattle.orders.specs.Closed.{asks}
use Rattle.orders.specs.Stepwise.{follows}
use Rattle.members.specs.Prelude.{Rule, Plan, View}
use Rattle.members.specs.Sets.{in_set, Shows}
use Rattle.members.proofs.Bits.{in_or}

-- the contract of `with_if` at one of the sixteen places: n is m, and e where told to
pub with_at : (m n e x : ℕ) (is : Bool)
    → x < 16
    → in_set n x ≡ ((eqb x e && (ltb e 16 && is)) || in_set m x)
    → in_set n x ≡ ((eqb x e && is) || in_set m x)
with_at m n e x is lt h = h ∙ grind (arith, nat_tests)

-- the same tests in another order
order_sorted : (a b s : Bool) → (b || (a || s)) ≡ ((a || b) || s)
order_sorted a b s = grind (arith, nat_tests)

need_sorted : (a s : Bool) → (a || s) ≡ ((a || false) || s)
need_sorted a s = grind (arith, nat_tests)

both_sorted : (g a b x y s : Bool)
    → ((b && (g && y)) || ((a && (g && x)) || s)) ≡ (((g && ((a && x) || (b && y))) || false) || s)
both_sorted g a b x y s = grind (arith, nat_tests)

-- a trigger that nothing can stop, for a c that cannot be forced; and one that a conditional reckons with
abbrev pending : Plan → Fates → ℕ → ℕ → Bool
pending p f k t = unstoppable p f t && not (forcible p k)

module _ (p : Plan) (f : Fates) (v : View) (shows : Shows p f v) (k t : ℕ) where
  pub pending_read : (s c : Bool)
      → s ≡ in_set v.stoppable t
      → c ≡ in_set v.forcible k
      → (not s && not c) ≡ pending p f k t
  pending_read s c hs hc =
      rw (hs, hc, shows.stops t, shows.forces k) (ap (λ (b : Bool). b && not (forcible p k)) (not-not (unstoppable p f t)))

  pub reckoned_read : (d w : Bool) → d ≡ in_set v.done t → w ≡ pending p f k t → (d || w) ≡ reckoned p f k t
  unfolding reckoned
  reckoned_read d w hd hw = rw (hd, hw, shows.done t)

-- two triggers, each sure or pending
spread : (a b x y : Bool) → (((a && b) || (a && x)) || (b && y)) ≡ ((a && (b || x)) || (b && (a || y)))
spread a b x y = grind (arith, nat_tests)

module _ (p : Plan) (f : Fates) (v : View) (shows : Shows p f v) (r : Rule) (a b : ℕ) where
  -- what a rule asks for
  module _ (m : ℕ) where
    -- a member, or done
    sure_read : (x : ℕ) → in_set (bit_or m v.done) x ≡ (in_set m x || is_done (f x))
    sure_read x = in_or m v.done x ∙ ap (λ (d : Bool). in_set m x || d) (shows.done x)

    pub order_asks : (x y : Bool) → r ≡ Order a b → x ≡ in_set m b → y ≡ in_set v.waits b → (x && y) ≡ asks p f (in_set m) r
    unfolding asks
    order_asks x y is h k = rw (is, h, k, shows.waits b)

    pub need_asks : (x : Bool) → r ≡ Need a b → x ≡ in_set (bit_or m v.done) a → x ≡ asks p f (in_set m) r
    unfolding asks
    need_asks x is h = rw is (h ∙ sure_read a)

    pub conditional_asks : (c : ℕ) (x y wy wx : Bool)
        → r ≡ Conditional a b c
        → x ≡ in_set (bit_or m v.done) a
        → y ≡ in_set (bit_or m v.done) b
        → wy ≡ pending p f c b
        → wx ≡ pending p f c a
        → (((x && y) || (x && wy)) || (y && wx)) ≡ asks p f (in_set m) r
    unfolding asks reckoned
    conditional_asks c x y wy wx is hx hy hv hw =
        rw (is, hx ∙ sure_read a, hy ∙ sure_read b, hv, hw)
        (spread (in_set m a || is_done (f a)) (in_set m b || is_done (f b)) (pending p f c b) (pending p f c a)
        ∙ ap₂ (λ (u w : Bool). ((in_set m a || is_done (f a)) && u) || ((in_set m b || is_done (f b)) && w))
        (or_assoc (in_set m b) (is_done (f b)) (pending p f c b)) (or_assoc (in_set m a) (is_done (f a)) (pending p f c a)))

  -- what it forbids
  module _ (e : ℕ) where
    pub order_forbids : (d w x y : Bool)
        → r ≡ Order a b
        → d ≡ in_set v.done b
        → w ≡ in_set v.waits b
        → x ≡ in_set v.done a
        → y ≡ in_set v.gone a
        → ((eqb e a && d) || ((eqb e b && w) && not (x || y))) ≡ forbids p f r e
    unfolding forbids bars makes_wait
    order_forbids d w x y is hd hw hx hy =
        rw (is, hd, hw, hx, hy, shows.done b, shows.waits b, shows.done a, shows.gone a)

    pub need_forbids : (g : Bool) → r ≡ Need a b → g ≡ in_set v.gone b → (eqb e a && g) ≡ forbids p f r e
    unfolding forbids bars makes_wait
    need_forbids g is hg = rw (is, hg, shows.gone b) (sym (or-false (eqb e a && is_gone (f b))))

    pub conditional_forbids : (c : ℕ) (g d x : Bool)
        → r ≡ Conditional a b c
        → g ≡ in_set v.gone c
        → d ≡ reckoned p f c b
        → x ≡ reckoned p f c a
        → (g && ((eqb e a && d) || (eqb e b && x))) ≡ forbids p f r e
    unfolding forbids bars makes_wait
    conditional_forbids c g d x is hg hd hx =
        rw (is, hg, hd, hx, shows.gone c) (sym (or-false (is_gone (f c) && _)))

  -- what it owes
  pub order_owes : r ≡ Order a b → false ≡ owes p f r
  unfolding owes
  order_owes is = rw is

  pub need_owes : (x y z : Bool)
      → r ≡ Need a b
      → x ≡ in_set v.done a
      → y ≡ in_set v.done b
      → z ≡ in_set v.gone b
      → (x && not (y || z)) ≡ owes p f r
  unfolding owes
  need_owes x y z is hx hy hz = rw (is, hx, hy, hz, shows.done a, shows.done b, shows.gone b)

  pub conditional_owes : (c : ℕ) (x ry y rx z w : Bool)
      → r ≡ Conditional a b c
      → x ≡ in_set v.done a
      → ry ≡ reckoned p f c b
      → y ≡ in_set v.done b
      → rx ≡ reckoned p f c a
      → z ≡ in_set v.done c
      → w ≡ in_set v.gone c
      → (((x && ry) || (y && rx)) && not (z || w)) ≡ owes p f r
  unfolding owes triggered
  conditional_owes c x ry y rx z w is hx jy hy jx hz hw =
      rw (is, hx, jy, hy, jx, hz, hw, shows.done a, shows.done b, shows.done c, shows.gone c)

  -- what it blocks: the set m, then with a, then with b
  module _ (left m : ℕ) (x : ℕ) (lt : x < 16) where
    abbrev Blocks : ℕ → Type 0
    Blocks n = in_set n x ≡ ((bars p f r x || follows p (in_set left) r x) || in_set m x)

    pub order_blocks : (n k : ℕ) (d l w : Bool)
        → r ≡ Order a b
        → d ≡ in_set v.done b
        → in_set k x ≡ ((eqb x a && (ltb a 16 && d)) || in_set m x)
        → l ≡ in_set left a
        → w ≡ in_set v.waits b
        → in_set n x ≡ ((eqb x b && (ltb b 16 && (l && (not (eqb a b) || w)))) || in_set k x)
        → Blocks n
    unfolding bars follows
    order_blocks n k d l w is hd hk hl hw hn =
        with_at k n b x (l && (not (eqb a b) || w)) lt hn
        ∙ rw (with_at m k a x d lt hk, is, hd, hl, hw, shows.done b, shows.waits b) (order_sorted
        (eqb x a && is_done (f b))
        (eqb x b && (in_set left a && (not (eqb a b) || delayable p b)))
        (in_set m x))

    pub need_blocks : (n : ℕ) (g : Bool)
        → r ≡ Need a b
        → g ≡ in_set v.gone b
        → in_set n x ≡ ((eqb x a && (ltb a 16 && g)) || in_set m x)
        → Blocks n
    unfolding bars follows
    need_blocks n g is hg hn =
        with_at m n a x g lt hn ∙ rw (is, hg, shows.gone b) (need_sorted (eqb x a && is_gone (f b)) (in_set m x))

    pub conditional_blocks : (c n k : ℕ) (g d e : Bool)
        → r ≡ Conditional a b c
        → g ≡ in_set v.gone c
        → d ≡ reckoned p f c b
        → in_set k x ≡ ((eqb x a && (ltb a 16 && (g && d))) || in_set m x)
        → e ≡ reckoned p f c a
        → in_set n x ≡ ((eqb x b && (ltb b 16 && (g && e))) || in_set k x)
        → Blocks n
    unfolding bars follows
    conditional_blocks c n k g d e is hg hd hk he hn =
        with_at k n b x (g && e) lt hn
        ∙ rw (with_at m k a x (g && d) lt hk, is, hg, hd, he, shows.gone c)
        (both_sorted (is_gone (f c)) (eqb x a) (eqb x b) (reckoned p f c b) (reckoned p f c a) (in_set m x))

-- Taking always the lowest event of a closed set that is not blocked: what it gives runs, and where the set runs at all
-- it gives the first order.
use Prim.Native.Nat.{ℕ, zero, suc, ◌≤◌, ◌<◌}
use native.Mathlib.Omega.{arith}
use native.Mathlib.Decide.{ℕ_discrete, dec_lt}
use borrow.Author.Tests.{not-true, eq-eqb, ne_eqb, eqb-true}
use mathlib.Core.Bool.{Bool, true, false, not, ◌&&◌, ◌||◌}
use mathlib.Core.List.{List, [], ◌∷◌}
use mathlib.Core.Logic.{◌≢◌, inl, inr}
use Rattle.std.specs.declared.option.Option.{Option}
use Rattle.std.specs.declared.option.Option.TheVariants.{None as none, Some as some}
use Rattle.std.specs.Option.{option_map as map}
use mathlib.Core.Path.{◌≡◌, refl, sym, ◌∙◌, ap, subst}
use lib.Dec.{eqb}
use lib.ListN.{length}
use Rattle.orders.specs.Prelude.{Rule, Order, Need, Conditional, Plan}
use Rattle.plan.specs.Base.{among, any_below}
use Rattle.plan.specs.Fates.{Fates, is_done, is_settled}
use Rattle.plan.specs.Plans.{event_count, delayable}
use Rattle.plan.specs.Rules.{ready, bars}
use Rattle.orders.specs.Closed.{Events, Stands, first, one, both, turned, Closed, target}
use Rattle.orders.specs.Runs.{doing, late, Waits, waits, Owed, needed, called, recalled, May, Run}
use Rattle.orders.specs.Sequences.{Ahead}
use Rattle.orders.specs.Stepwise.{follows, blocked, less, nothing, next, stepwise}
use Rattle.plan.proofs.Tests.{and_left, and_right, or_left, or_right, or_both, or_right_true, or_either, clash, either, any_false, any_none, some_none}
use Rattle.orders.proofs.Lowest.{lowest_some, lowest_any}
use Rattle.orders.proofs.Grounds.{refuted, each_fails, all_fail, bars_grounds, grounds_bar}
use Rattle.orders.proofs.Doing.{doing_as, ready_unsettled, ready_stays, unsettled_other}
use Rattle.orders.proofs.Running.{among_head, among_tail, among_cases, among_none, run_once, no_turn}
use Rattle.orders.proofs.Closure.{wants_unsettled, wants_more}
use Rattle.orders.proofs.Cutting.{closed_stays}
use Rattle.orders.proofs.Exchange.{Leading, drop_one, drop_same, exchange, drop_length, drop_before, drop_stays}

-- the set without x
pub less_in : (m : Events) (x y : ℕ) → less m x y ≡ true → m y ≡ true
less_in m x y h = and_left (m y) (not (eqb y x)) h

pub less_other : (m : Events) (x y : ℕ) → less m x y ≡ true → y ≢ x
less_other m x y h q = clash (eq-eqb y x q) (not-true (eqb y x) (and_right (m y) (not (eqb y x)) h))

pub less_stays : (m : Events) (x y : ℕ) → m y ≡ true → y ≢ x → less m x y ≡ true
less_stays m x y h ne = rw (h, ne_eqb y x ne)

pub nothing_none : (m : Events) → nothing m ≡ true → (x : ℕ) → x < 16 → m x ≡ false
unfolding nothing
nothing_none m h x lt = any_false 16 m (not-true (any_below 16 m) h) x lt

pub none_nothing : (m : Events) → ((x : ℕ) → x < 16 → m x ≡ false) → nothing m ≡ true
unfolding nothing
none_nothing m h = rw (any_none 16 m h)

pub some_left : (m : Events) (x : ℕ) → x < 16 → m x ≡ true → nothing m ≡ false
some_left m x lt h = refuted (nothing m) (λ t. clash h (nothing_none m t x lt))

map_cons : (c : ℕ) (q : Option (List ℕ)) (o : List ℕ)
    → map (λ (l : List ℕ). c ∷ l) q ≡ some o
    → (l : List ℕ) × (q ≡ some l) × (o ≡ c ∷ l)
map_cons c none o h = absurd (some_none (sym h))
map_cons c (some l) o h = (l, refl, cc)

module _ (p : Plan) (l : ℕ → Bool) where
  -- the steps
  pub step_ends : (k : ℕ) (f : Fates) (m : Events) → nothing m ≡ true → stepwise p l k f m ≡ some []
  unfolding stepwise
  step_ends zero f m h = rw h
  step_ends (suc k) f m h = rw (h, stepwise)

  pub step_full : (f : Fates) (m : Events) → nothing m ≡ false → stepwise p l 0 f m ≡ none
  unfolding stepwise
  step_full f m h = rw h

  pub step_stuck : (k : ℕ) (f : Fates) (m : Events)
      → nothing m ≡ false
      → next p l f m ≡ none
      → stepwise p l (suc k) f m ≡ none
  unfolding stepwise
  step_stuck k f m h q = rw (h, q, stepwise)

  pub step_takes : (k : ℕ) (f : Fates) (m : Events) (x : ℕ)
      → nothing m ≡ false
      → next p l f m ≡ some x
      → stepwise p l (suc k) f m ≡ map (λ (o : List ℕ). x ∷ o) (stepwise p l k (doing f x) (less m x))
  unfolding stepwise
  step_takes k f m x h q = rw (h, q, stepwise)

  -- blocked or not
  rule_free : (f : Fates) (m : Events) (x : ℕ)
      → blocked p l f m x ≡ false
      → (r : Rule)
      → Stands p l r
      → (bars p f r x || follows p m r x) ≡ false
  unfolding blocked
  rule_free f m x = each_fails p l (λ r. bars p f r x || follows p m r x)

  free_unblocked : (f : Fates) (m : Events) (x : ℕ)
      → ((r : Rule) → Stands p l r → (bars p f r x || follows p m r x) ≡ false)
      → blocked p l f m x ≡ false
  unfolding blocked
  free_unblocked f m x = all_fail p l (λ r. bars p f r x || follows p m r x)

  follows_other : (m : Events) (a x : ℕ) → m a ≡ true → a ≢ x → follows p m (Order a x) x ≡ true
  unfolding follows
  follows_other m a x h ne = rw (eq-eqb x x refl, h, ne_eqb a x ne)

  follows_waits : (m : Events) (a b x : ℕ) → x ≡ b → m a ≡ true → delayable p b ≡ true → follows p m (Order a b) x ≡ true
  unfolding follows
  follows_waits m a b x q h d = rw (eq-eqb x b q, h, d) (or_right_true (not (eqb a b)))

  -- an event of a closed set that is not blocked may be done
  pub unblocked_may : (f : Fates) (m : Events)
      → Closed p l f m
      → (x : ℕ)
      → m x ≡ true
      → (x < event_count p) × (ready p f x ≡ true)
      → blocked p l f m x ≡ false
      → May p l f x
  unblocked_may f m cl x h w free = record {
    declared = w.0;
    at_hand = w.1;
    unbarred = λ r st b. clash (grounds_bar p f x r b) (or_left (bars p f r x) (follows p m r x) (rule_free f m x free r st));
    unwaiting = λ r st u. stopped r st u (or_right (bars p f r x) (follows p m r x) (rule_free f m x free r st));
  }
    where
      stopped : (r : Rule) → Stands p l r → Waits p f x r → follows p m r x ≡ false → ⊥
      stopped r st (waits {a = a} {b = b} q d u) no_follow =
          clash (follows_waits m a b x q (cl r st (first (subst (λ (z : ℕ). m z ≡ true) q h) d u)) d) no_follow

  -- what is left of a closed set is closed
  pub closed_less : (f : Fates) (m : Events) (x : ℕ) → m x ≡ true → Closed p l f m → Closed p l (doing f x) (less m x)
  closed_less f m x t cl r st w =
      less_stays m x (target r) (closed_stays p l m f x t cl r st (wants_more m (less_in m x) w)) (unsettled_other f x (target r) (wants_unsettled w))

  -- the events of the set are declared, at hand, and stand in the array
  pub record Ready (f : Fates) (m : Events) : Type 0 where
    pub hand : (x : ℕ) → m x ≡ true → (x < event_count p) × (ready p f x ≡ true)
    pub low : (x : ℕ) → m x ≡ true → x < 16

  ready_less : (f : Fates) (m : Events) (x : ℕ) → Ready f m → Ready (doing f x) (less m x)
  ready_less f m x w = record {
    hand = λ y h. let z = w.hand y (less_in m x y h) in (z.0, ready_stays f x p y (less_other m x y h) z.1);
    low = λ y h. w.low y (less_in m x y h);
  }

  -- sound: what is given runs, and is made of the set
  pub record Sound (k : ℕ) (f : Fates) (m : Events) (o : List ℕ) : Type 0 where
    pub runs : Run p l f o
    pub short : length o ≤ k
    pub within : (x : ℕ) → among x o ≡ true → m x ≡ true
    pub whole : (x : ℕ) → m x ≡ true → among x o ≡ true

  sound_end : (k : ℕ) (f : Fates) (m : Events) → nothing m ≡ true → Closed p l f m → Ready f m → Sound k f m []
  sound_end k f m h cl w = record {
    runs = λ r st u. owed_none r st u;
    short = omega arith;
    within = λ x t. absurd (among_none x t);
    whole = λ x t. absurd (empty x t);
  }
    where
      empty : (x : ℕ) → m x ≡ true → ⊥
      empty x t = clash t (nothing_none m h x (w.low x t))

      owed_none : (r : Rule) → Stands p l r → Owed p f r → ⊥
      owed_none r st (needed {a = a} {b = b} d u) = empty b (cl r st (one (inr d) u))
      owed_none r st (called {a = a} {b = b} {c = c} d e u) = empty c (cl r st (both (inr d) (inr e) u))
      owed_none r st (recalled {a = a} {b = b} {c = c} d e u) = empty c (cl r st (turned (inr d) (inr e) u))

  -- the next event: of those not blocked the lowest
  pub record Next (f : Fates) (m : Events) (x : ℕ) : Type 0 where
    pub low : x < 16
    pub member : m x ≡ true
    pub free : blocked p l f m x ≡ false
    pub least : (y : ℕ) → y < 16 → m y ≡ true → blocked p l f m y ≡ false → x ≤ y

  pub next_is : (f : Fates) (m : Events) (x : ℕ) → next p l f m ≡ some x → Next f m x
  unfolding next
  next_is f m x q =
      let lo = lowest_some 16 (λ y. m y && not (blocked p l f m y)) x q in
      record {
        low = lo.below;
        member = and_left (m x) (not (blocked p l f m x)) lo.passes;
        free = not-true (blocked p l f m x) (and_right (m x) (not (blocked p l f m x)) lo.passes);
        least = λ y lt h u. lo.least y lt (rw (h, u));
      }

  next_any : (f : Fates) (m : Events) (y : ℕ) → y < 16 → m y ≡ true → blocked p l f m y ≡ false → (x : ℕ) × (next p l f m ≡ some x)
  unfolding next
  next_any f m y lt h u = lowest_any 16 (λ z. m z && not (blocked p l f m z)) y lt (rw (h, u))

  sound_step : (k : ℕ) (f : Fates) (m : Events) (x : ℕ) (o : List ℕ)
      → next p l f m ≡ some x
      → Closed p l f m
      → Ready f m
      → Sound k (doing f x) (less m x) o
      → Sound (suc k) f m (x ∷ o)
  sound_step k f m x o q cl w s =
      let n = next_is f m x q in
      record {
        runs = (unblocked_may f m cl x n.member (w.hand x n.member) n.free, s.runs);
        short = omega (arith, s.short);
        within = λ y h. elim (among_cases y x o h) [ inl z ↦ subst (λ (v : ℕ). m v ≡ true) (sym z) n.member | inr z ↦ less_in m x y (s.within y z) ];
        whole = λ y h. elim (ℕ_discrete y x) [ yes z ↦ among_head y x o z | no ne ↦ among_tail y x o (s.whole y (less_stays m x y h ne)) ];
      }

  pub sound : (k : ℕ) (f : Fates) (m : Events) (o : List ℕ) → stepwise p l k f m ≡ some o → Closed p l f m → Ready f m → Sound k f m o
  sound zero f m o h cl w = elim (either (nothing m)) [
    | inl t ↦ let q : [] ≡ o = cc (sym (step_ends zero f m t) ∙ h) in subst (Sound zero f m) q (sound_end zero f m t cl w)
    | inr t ↦ absurd (some_none (sym h ∙ step_full f m t))
  ]
  sound (suc k) f m o h cl w = elim (either (nothing m)) [
    | inl t ↦ let q : [] ≡ o = cc (sym (step_ends (suc k) f m t) ∙ h) in subst (Sound (suc k) f m) q (sound_end (suc k) f m t cl w)
    | inr t ↦ go t (next p l f m) refl (λ x u c v. sound k (doing f x) (less m x) u c v)
  ]
    where
      go : nothing m ≡ false
          → (n : Option ℕ)
          → next p l f m ≡ n
          → ((x : ℕ) (u : List ℕ) → stepwise p l k (doing f x) (less m x) ≡ some u → Closed p l (doing f x) (less m x) → Ready (doing f x) (less m x) → Sound k (doing f x) (less m x) u)
          → Sound (suc k) f m o
      go t none q rec = absurd (some_none (sym h ∙ step_stuck k f m t q))
      go t (some x) q rec =
          let u = map_cons x (stepwise p l k (doing f x) (less m x)) o (sym (step_takes k f m x t q) ∙ h) in
          let s = rec x u.0 u.1 (closed_less f m x (next_is f m x q).member cl) (ready_less f m x w) in
          subst (Sound (suc k) f m) (sym u.2) (sound_step k f m x u.0 q cl w s)

  -- the first event of a run is not blocked by the others
  head_follows : (f : Fates) (m : Events) (y : ℕ) (o : List ℕ)
      → Run p l f (y ∷ o)
      → ((x : ℕ) → m x ≡ true → among x (y ∷ o) ≡ true)
      → (r : Rule)
      → Stands p l r
      → follows p m r y ≡ true
      → ⊥
  unfolding follows
  head_follows f m y o run whole (Order a b) st h =
      let q = eqb-true y b (and_left (eqb y b) (m a && (not (eqb a b) || delayable p b)) h) in
      let t = and_right (eqb y b) (m a && (not (eqb a b) || delayable p b)) h in
      let u = and_right (m a) (not (eqb a b) || delayable p b) t in
      elim (ℕ_discrete a b) [
        | yes z ↦
            let d : delayable p b ≡ true = elim (or_either (not (eqb a b)) (delayable p b) u) [ inl v ↦ absurd (clash (eq-eqb a b z) (not-true (eqb a b) v)) | inr v ↦ v ] in
            run.0.unwaiting (Order a b) st (waits q d (subst (λ (v : ℕ). is_settled (f v) ≡ false) (q ∙ sym z) (ready_unsettled p f y run.0.at_hand)))
        | no ne ↦ elim (among_cases a y o (whole a (and_left (m a) (not (eqb a b) || delayable p b) t))) [
          | inl v ↦ ne (v ∙ q)
          | inr v ↦ no_turn p l (doing f y) a st (late refl (doing_as is_done refl f y b (sym q))) o run.1 v
        ]
      ]
  head_follows f m y o run whole (Need a b) st h = clash h refl
  head_follows f m y o run whole (Conditional a b c) st h = clash h refl

  head_free : (f : Fates) (m : Events) (y : ℕ) (o : List ℕ)
      → Run p l f (y ∷ o)
      → ((x : ℕ) → m x ≡ true → among x (y ∷ o) ≡ true)
      → blocked p l f m y ≡ false
  head_free f m y o run whole =
      free_unblocked f m y (λ r st.
      or_both
      (bars p f r y)
      (follows p m r y)
      (refuted (bars p f r y) (λ t. run.0.unbarred r st (bars_grounds p f y r t)))
      (refuted (follows p m r y) (head_follows f m y o run whole r st)))

  -- complete: a run of the whole set, and what is taken in its place
  pub record Made (f : Fates) (m : Events) (o : List ℕ) : Type 0 where
    pub runs : Run p l f o
    pub within : (x : ℕ) → among x o ≡ true → m x ≡ true
    pub whole : (x : ℕ) → m x ≡ true → among x o ≡ true
    pub low : (x : ℕ) → m x ≡ true → x < 16

  -- it follows no event that is left
  next_leads : (f : Fates) (m : Events) (o : List ℕ) (x : ℕ) → Made f m o → Next f m x → Leading p l x o
  next_leads f m o x w n a st na t =
      clash (follows_other m a x (w.within a t) na) (or_right (bars p f (Order a x) x) (follows p m (Order a x) x) (rule_free f m x n.free (Order a x) st))

  made_less : (f : Fates) (m : Events) (o : List ℕ) (x : ℕ) → Made f m o → Next f m x → Made (doing f x) (less m x) (drop_one x o)
  made_less f m o x w n =
      let run = exchange p l x f o w.runs (w.whole x n.member) (next_leads f m o x w n) in
      record {
        runs = run;
        within = λ y h. less_stays m x y (w.within y (drop_before x o y h)) (λ q. run_once p l f x (drop_one x o) run (subst (λ (z : ℕ). among z (drop_one x o) ≡ true) q h));
        whole = λ y h. drop_stays x o y (less_other m x y h) (w.whole y (less_in m x y h));
        low = λ y h. w.low y (less_in m x y h);
      }

  pub record Taken (k : ℕ) (f : Fates) (m : Events) (o : List ℕ) : Type 0 where
    pub order : List ℕ
    pub gives : stepwise p l k f m ≡ some order
    pub long : length order ≡ length o
    pub ahead : Ahead order o

  taken_end : (k : ℕ) (f : Fates) (m : Events) → Made f m [] → Taken k f m []
  taken_end k f m w = record {
    order = [];
    gives = step_ends k f m (none_nothing m (λ x lt. refuted (m x) (λ t. among_none x (w.whole x t))));
    long = refl;
    ahead = tt;
  }

  pub complete : (k : ℕ) (f : Fates) (m : Events) (o : List ℕ) → Made f m o → length o ≤ k → Taken k f m o
  complete zero f m [] w le = taken_end zero f m w
  complete zero f m (y ∷ o) w le = absurd (omega arith)
  complete (suc k) f m [] w le = taken_end (suc k) f m w
  complete (suc k) f m (y ∷ o) w le =
      let my = w.within y (among_head y y o refl) in
      let free = head_free f m y o w.runs w.whole in
      let a = next_any f m y (w.low y my) my free in
      let x = a.0 in
      let n = next_is f m x a.1 in
      let len = drop_length x (y ∷ o) (w.whole x n.member) in
      let r = complete k (doing f x) (less m x) (drop_one x (y ∷ o)) (made_less f m (y ∷ o) x w n) (omega arith) in
      record {
        order = x ∷ r.order;
        gives = step_takes k f m x (some_left m y (w.low y my) my) a.1 ∙ ap (map (λ (u : List ℕ). x ∷ u)) r.gives;
        long = ap suc r.long ∙ len;
        ahead = elim (dec_lt x y) [
          | yes lt ↦ inl lt
          | no ge ↦ let q : x ≡ y = omega (arith, n.least y (w.low y my) my free) in inr (q, subst (Ahead r.order) (drop_same x y o (sym q)) r.ahead)
        ];
      }

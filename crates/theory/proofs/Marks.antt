-- S-5: two states that are the same but for marks stay so under every write and every call that is taken.
use lib.Seq.{map-set as map_set}
use Prim.Native.Nat.{ℕ, zero, suc}
use mathlib.Core.Bool.{Bool, true, false, not, ◌&&◌, ◌||◌, cond}
use mathlib.Core.List.{List, [], ◌∷◌, map}
use Rattle.std.specs.declared.option.Option.{Option}
use Rattle.std.specs.declared.option.Option.TheVariants.{None as none, Some as some}
use Rattle.std.specs.Option.{option_map}
use mathlib.Core.Path.{◌≡◌, refl, sym, ◌∙◌, ap, ap₂, fun_ext}
use lib.Dec.{eqb, ltb}
use lib.ListN.{get_or, set, get_or-map}
use Rattle.theory.proofs.Types.{Fate, Open, Held, Done, Refused, Lapsed, Forced, Rule, Order, Need, Conditional, Plan, State}
use Rattle.plan.specs.declared.fate.Standing.{Standing}
use Rattle.plan.specs.Base.{any_below, when, first_of, lowest, read_at, store_at}
use Rattle.plan.specs.Fates.{Fates, is_open, is_held, is_done, is_gone, blank_standing}
use Rattle.plan.specs.Plans.{event_count, rule_count, rule_at, step_of, rejectable, delayable, allowed_at, over_at}
use Rattle.plan.specs.Rules.{unstoppable, reckoned, triggered, bars, makes_wait, forbids, owes, ready}
use Rattle.scheduler.specs.State.{fate_of, line_count, hold, settle_as, shut, break_rule, in_time, too_late, set_minute}
use Rattle.scheduler.specs.Rules.{stands, barred, forbidden, owing, strains, ruled_out}
use Rattle.scheduler.specs.Orders.{may_do, fate_at_turn, do_one, do_all, order_of, chosen}
use Rattle.scheduler.specs.Calls.{to_refuse, to_do, settle_once, settle_up_to, settle, break_if, record_broken, do_alone, decide, submit, lapse, close_step, refuse_held, finish, advance_to}
use Rattle.theory.specs.Marks.{forget_fate, forget_line, forget}
use Rattle.plan.proofs.Tests.{some_none}
use Rattle.plan.proofs.Fates.{as_done}
use Rattle.scheduler.proofs.Branches.{up_to-none, up_to-some, decide_order, decide_refuse, decide_alone, submit_same, submit_delayed, submit_decided, lapse_yes, lapse_no, lowest_held, refuse_none, refuse_some}

-- a list written after a map
map_store : {A B : Type 0} (f : A → B) (n : ℕ) (l : List A) (i : ℕ) (a : A) → map f (store_at n l i a) ≡ store_at n (map f l) i (f a)
map_store f n l i a = go (ltb i n)
  where
    go : (b : Bool) → map f (cond b (set l i a) l) ≡ cond b (set (map f l) i (f a)) (map f l)
    go true = map_set f l i a
    go false = refl

-- fates that are the same but for the mark
pub record SameKind (x y : Fate) : Type 0 where
  pub found_open : is_open x ≡ is_open y
  pub is_held_lem : is_held x ≡ is_held y
  pub is_done_lem : is_done x ≡ is_done y
  pub is_gone_lem : is_gone x ≡ is_gone y

-- a test that sees no mark
pub sees_none : {A : Type 0} (t : Fate → A) → t Forced ≡ t Done → (x : Fate) → t (forget_fate x) ≡ t x
sees_none t h Open = refl
sees_none t h Held = refl
sees_none t h Done = refl
sees_none t h Refused = refl
sees_none t h Lapsed = refl
sees_none t h Forced = sym h

same_kind : (x y : Fate) → forget_fate x ≡ forget_fate y → SameKind x y
same_kind x y h =
    let through : (t : Fate → Bool) → t Forced ≡ t Done → t x ≡ t y = λ t q. sym (sees_none t q x) ∙ ap t h ∙ sees_none t q y in
    record {
      found_open = through is_open refl;
      is_held_lem = through is_held refl;
      is_done_lem = through is_done refl;
      is_gone_lem = through is_gone refl;
    }

-- rules see no marks
module _ (p : Plan) (f g : Fates) (k : (e : ℕ) → SameKind (f e) (g e)) where
  reckoned_kind : (c t : ℕ) → reckoned p f c t ≡ reckoned p g c t
  unfolding reckoned unstoppable
  reckoned_kind c t = rw ((k t).is_done_lem, (k t).found_open)

  pub bars_kind : (r : Rule) (e : ℕ) → bars p f r e ≡ bars p g r e
  unfolding bars
  bars_kind (Order a b) e = rw (k b).is_done_lem
  bars_kind (Need a b) e = rw (k b).is_gone_lem
  bars_kind (Conditional a b c) e = rw (reckoned_kind c a, reckoned_kind c b, (k c).is_gone_lem)

  waits_kind : (r : Rule) (e : ℕ) → makes_wait p f r e ≡ makes_wait p g r e
  unfolding makes_wait
  waits_kind (Order a b) e = rw ((k a).is_done_lem, (k a).is_gone_lem)
  waits_kind (Need a b) e = refl
  waits_kind (Conditional a b c) e = refl

  pub forbids_kind : (r : Rule) (e : ℕ) → forbids p f r e ≡ forbids p g r e
  unfolding forbids
  forbids_kind r e = ap₂ (λ a b. a || b) (bars_kind r e) (waits_kind r e)

  pub owes_kind : (r : Rule) → owes p f r ≡ owes p g r
  unfolding owes triggered
  owes_kind (Order a b) = refl
  owes_kind (Need a b) = rw ((k a).is_done_lem, (k b).is_done_lem, (k b).is_gone_lem)
  owes_kind (Conditional a b c) =
      rw ((k a).is_done_lem, (k b).is_done_lem, reckoned_kind c a, reckoned_kind c b, (k c).is_done_lem, (k c).is_gone_lem)

  pub ready_kind : (e : ℕ) → ready p f e ≡ ready p g e
  unfolding ready
  ready_kind e = rw ((k e).found_open, (k e).is_held_lem)

-- the five writes, and forgetting before or after them
abbrev plain_standing : Standing → Standing
plain_standing v = record { fate = forget_fate v.fate }

forget_settle : (x : Fate) (s : State) (e : ℕ) → forget (settle_as x s e) ≡ settle_as (forget_fate x) (forget s) e
unfolding forget settle_as
forget_settle x s e =
    rw (
      map_store plain_standing 16 s.standings e (record { fate = x }),
      map_store forget_line 16 s.history (line_count s) (record { event = e; fate = x }),
    )

forget_hold : (s : State) (e : ℕ) → forget (hold s e) ≡ hold (forget s) e
unfolding forget hold
forget_hold s e = rw (map_store plain_standing 16 s.standings e (record { fate = Held }))

forget_shut : (s : State) (k : ℕ) → forget (shut s k) ≡ shut (forget s) k
unfolding forget shut
forget_shut s k = refl

forget_minute : (s : State) (m : ℕ) → forget (set_minute s m) ≡ set_minute (forget s) m
unfolding forget set_minute
forget_minute s m = refl

forget_break : (s : State) (i : ℕ) → forget (break_rule s i) ≡ break_rule (forget s) i
unfolding forget break_rule
forget_break s i = refl

-- an order's event without its mark is document 01's: done
pub forget_one : (s : State) (c : ℕ) → forget (do_one s c) ≡ settle_as Done (forget s) c
forget_one s c =
    forget_settle (fate_at_turn s c) s c ∙ ap (λ (x : Fate). settle_as x (forget s) c) (as_done forget_fate refl (is_open (fate_of s c)))

pub forget_fate_lem : (s : State) (e : ℕ) → fate_of (forget s) e ≡ forget_fate (fate_of s e)
unfolding forget
forget_fate_lem s e = go (ltb e 16)
  where
    go : (b : Bool) → (cond b (get_or (map plain_standing s.standings) e blank_standing) blank_standing).fate ≡ forget_fate (cond b (get_or s.standings e blank_standing) blank_standing).fate
    go true = ap (λ (v : Standing). v.fate) (get_or-map plain_standing s.standings e blank_standing)
    go false = refl

-- states that are the same but for marks
abbrev pub Like : State → State → Type 0
Like s t = forget s ≡ forget t

module _ (s t : State) (k : Like s t) where
  pub plan_like : s.plan ≡ t.plan
  unfolding forget
  plan_like = ap (λ (u : State). u.plan) k

  pub broken_like : s.broken ≡ t.broken
  unfolding forget
  broken_like = ap (λ (u : State). u.broken) k

  pub minute_like : s.minute ≡ t.minute
  unfolding forget
  minute_like = ap (λ (u : State). u.minute) k

  time_like : (e : ℕ) → in_time s e ≡ in_time t e
  time_like e = ap₂ (λ (p : Plan) (m : ℕ). allowed_at p m e) plan_like minute_like

  late_like : (e : ℕ) → too_late s e ≡ too_late t e
  late_like e = ap₂ (λ (p : Plan) (m : ℕ). over_at p m e) plan_like minute_like

  pub closed_like : s.closed ≡ t.closed
  unfolding forget
  closed_like = ap (λ (u : State). u.closed) k

  pub fate_like : (e : ℕ) → forget_fate (fate_of s e) ≡ forget_fate (fate_of t e)
  fate_like e = sym (forget_fate_lem s e) ∙ ap (λ (u : State). fate_of u e) k ∙ forget_fate_lem t e

  pub kind_like : (e : ℕ) → SameKind (fate_of s e) (fate_of t e)
  kind_like e = same_kind (fate_of s e) (fate_of t e) (fate_like e)

  stands_like : (i : ℕ) → stands s i ≡ stands t i
  stands_like i = ap (λ (l : List Bool). not (read_at 16 l i false)) broken_like

  -- some rule that stands passes a test that sees no mark
  any_like : (f g : Plan → Rule → Bool)
      → ((r : Rule) → f t.plan r ≡ g t.plan r)
      → any_below (rule_count s.plan) (λ i. stands s i && f s.plan (rule_at s.plan i))
      ≡ any_below (rule_count t.plan) (λ i. stands t i && g t.plan (rule_at t.plan i))
  any_like f g h =
      ap (λ (p : Plan). any_below (rule_count p) (λ i. stands s i && f p (rule_at p i))) plan_like
      ∙ ap (any_below (rule_count t.plan)) (fun_ext (λ i. ap₂ (λ a b. a && b) (stands_like i) (h (rule_at t.plan i))))

  ruled_like : (e : ℕ) → ruled_out s e ≡ ruled_out t e
  unfolding ruled_out
  ruled_like e =
      any_like (λ p r. bars p (fate_of s) r e) (λ p r. bars p (fate_of t) r e) (λ r. bars_kind t.plan (fate_of s) (fate_of t) kind_like r e)

  pub barred_like : (e : ℕ) → barred s e ≡ barred t e
  unfolding barred
  barred_like e = ap₂ (λ a b. a || b) (ruled_like e) (late_like e)

  forbidden_like : (e : ℕ) → forbidden s e ≡ forbidden t e
  unfolding forbidden
  forbidden_like e =
      any_like (λ p r. forbids p (fate_of s) r e) (λ p r. forbids p (fate_of t) r e) (λ r. forbids_kind t.plan (fate_of s) (fate_of t) kind_like r e)

  owing_like : owing s ≡ owing t
  unfolding owing
  owing_like = any_like (λ p r. owes p (fate_of s) r) (λ p r. owes p (fate_of t) r) (λ r. owes_kind t.plan (fate_of s) (fate_of t) kind_like r)

  may_like : (c : ℕ) → may_do s c ≡ may_do t c
  unfolding may_do
  may_like c =
      ap₂ (λ a b. a && b)
      (ap₂ (λ a b. a && not b)
      (ap (λ (p : Plan). ready p (fate_of s) c) plan_like ∙ ready_kind t.plan (fate_of s) (fate_of t) kind_like c)
      (forbidden_like c))
      (time_like c)

  -- the writes
  pub settle_like : (x y : Fate) → forget_fate x ≡ forget_fate y → (e : ℕ) → Like (settle_as x s e) (settle_as y t e)
  settle_like x y h e = forget_settle x s e ∙ ap₂ (λ f u. settle_as f u e) h k ∙ sym (forget_settle y t e)

  pub hold_like : (e : ℕ) → Like (hold s e) (hold t e)
  hold_like e = forget_hold s e ∙ ap (λ (u : State). hold u e) k ∙ sym (forget_hold t e)

  pub shut_like : (j : ℕ) → Like (shut s j) (shut t j)
  shut_like j = forget_shut s j ∙ ap (λ (u : State). shut u j) k ∙ sym (forget_shut t j)

  moved_like : (m : ℕ) → Like (set_minute s m) (set_minute t m)
  moved_like m = forget_minute s m ∙ ap (λ (u : State). set_minute u m) k ∙ sym (forget_minute t m)

  break_like : (i : ℕ) → Like (break_rule s i) (break_rule t i)
  break_like i = forget_break s i ∙ ap (λ (u : State). break_rule u i) k ∙ sym (forget_break t i)

  one_like : (c : ℕ) → Like (do_one s c) (do_one t c)
  one_like c = forget_one s c ∙ ap (λ (u : State). settle_as Done u c) k ∙ sym (forget_one t c)

-- orders: the same is chosen, and done alike
all_like : (s t : State) → Like s t → (o : List ℕ) → Like (do_all s o) (do_all t o)
unfolding do_all
all_like s t k [] = k
all_like s t k (c ∷ o) = all_like (do_one s c) (do_one t c) (one_like s t k c) o

order_like : (candidate : ℕ → Bool) (n : ℕ) (s t : State)
    → Like s t
    → (e : ℕ) (had : Bool)
    → order_of candidate n s e had ≡ order_of candidate n t e had
unfolding order_of
order_like candidate zero s t k e had = rw (owing_like s t k)
order_like candidate (suc n) s t k e had =
    ap₂ (λ m f. first_of m 0 f) (ap event_count (plan_like s t k)) (fun_ext (λ c.
    ap₂ (λ may later. when (candidate c && may) (option_map (λ o. c ∷ o) later)) (may_like s t k c)
    (order_like candidate n (do_one s c) (do_one t c) (one_like s t k c) e (had || eqb c e))))

pub chosen_like : (s t : State) → Like s t → (e : ℕ) → chosen s e ≡ chosen t e
unfolding chosen
chosen_like s t k e = ap (first_of 6 1) (fun_ext (λ n. order_like (λ c. true) n s t k e false))

-- settling
module _ (s t : State) (k : Like s t) where
  refuse_like : to_refuse s ≡ to_refuse t
  unfolding to_refuse
  refuse_like =
      ap₂ lowest (ap event_count (plan_like s t k)) (fun_ext (λ e. ap₂ (λ a b. a && b) (kind_like s t k e).is_held_lem (barred_like s t k e)))

  do_like : to_do s ≡ to_do t
  unfolding to_do
  do_like =
      ap₂ (λ n f. first_of n 0 f) (ap event_count (plan_like s t k)) (fun_ext (λ e. ap₂ when (kind_like s t k e).is_held_lem (chosen_like s t k e)))

  once_like : option_map forget (settle_once s) ≡ option_map forget (settle_once t)
  unfolding settle_once
  once_like = go (to_refuse s) refl (to_do s) refl
    where
      go : (q : Option ℕ) → to_refuse s ≡ q → (d : Option (List ℕ)) → to_do s ≡ d → option_map forget (settle_once s) ≡ option_map forget (settle_once t)
      go (some e) h d w = rw (sym refuse_like ∙ h, h, settle_once) (ap {B = Option State} some (settle_like s t k Refused Refused refl e))
      go none h none w = rw (sym refuse_like ∙ h, h, sym do_like ∙ w, w, settle_once)
      go none h (some o) w = rw (sym refuse_like ∙ h, h, sym do_like ∙ w, w, settle_once) (ap {B = Option State} some (all_like s t k o))

-- what is done in two states at once
like_as : {a b c d : State} → a ≡ c → b ≡ d → Like c d → Like a b
like_as p q k = ap forget p ∙ k ∙ sym (ap forget q)

up_like : (n : ℕ) (s t : State) → Like s t → Like (settle_up_to n s) (settle_up_to n t)
unfolding settle_up_to
up_like zero s t k = k
up_like (suc n) s t k = go (settle_once s) (settle_once t) refl refl (once_like s t k) (λ u v w. up_like n u v w)
  where
    go : (a b : Option State)
        → settle_once s ≡ a
        → settle_once t ≡ b
        → option_map forget a ≡ option_map forget b
        → ((u v : State) → Like u v → Like (settle_up_to n u) (settle_up_to n v))
        → Like (settle_up_to (suc n) s) (settle_up_to (suc n) t)
    go none none p q h later = like_as (up_to-none n s p) (up_to-none n t q) k
    go none (some v) p q h later = absurd (some_none (sym h))
    go (some u) none p q h later = absurd (some_none h)
    go (some u) (some v) p q h later = like_as (up_to-some n s u p) (up_to-some n t v q) (later u v cc)

pub settling_like : (s t : State) → Like s t → Like (settle s) (settle t)
unfolding settle
settling_like s t k = up_like 16 s t k

-- hand in, close a step, wind up
strains_like : (s t : State) → Like s t → (e i : ℕ) → strains s e i ≡ strains t e i
unfolding strains
strains_like s t k e i =
    let after = settle_like s t k Done Done refl e in
    ap (λ (p : Plan). stands s i && (forbids p (fate_of s) (rule_at p i) e || owes p (fate_of (settle_as Done s e)) (rule_at p i))) (plan_like s t k)
    ∙ ap₂ (λ a b. a && b) (stands_like s t k i)
    (ap₂ (λ a b. a || b)
    (forbids_kind t.plan (fate_of s) (fate_of t) (kind_like s t k) (rule_at t.plan i) e)
    (owes_kind t.plan (fate_of (settle_as Done s e)) (fate_of (settle_as Done t e)) (kind_like (settle_as Done s e) (settle_as Done t e) after) (rule_at t.plan i)))

record_like : (n : ℕ) (s t : State)
    → Like s t
    → (e : ℕ) (u v : State)
    → Like u v
    → Like (record_broken n s e u) (record_broken n t e v)
unfolding record_broken
record_like zero s t k e u v w = w
record_like (suc n) s t k e u v w = rw (strains_like s t k e n) (go (strains t e n) (record_like n s t k e u v w))
  where
    go : (b : Bool)
        → Like (record_broken n s e u) (record_broken n t e v)
        → Like (break_if b (record_broken n s e u) n) (break_if b (record_broken n t e v) n)
    go true h = break_like (record_broken n s e u) (record_broken n t e v) h n
    go false h = h

alone_like : (s t : State) → Like s t → (e : ℕ) → Like (do_alone s e) (do_alone t e)
unfolding do_alone
alone_like s t k e =
    like_as (ap (λ (n : ℕ). record_broken n s e (settle_as Done s e)) (ap rule_count (plan_like s t k))) refl
    (record_like (rule_count t.plan) s t k e (settle_as Done s e) (settle_as Done t e) (settle_like s t k Done Done refl e))

decide_like : (s t : State) → Like s t → (e : ℕ) → Like (decide s e) (decide t e)
decide_like s t k e = go (chosen t e) refl (rejectable t.plan e) refl
  where
    same : rejectable s.plan e ≡ rejectable t.plan e
    same = ap (λ (p : Plan). rejectable p e) (plan_like s t k)

    go : (q : Option (List ℕ)) → chosen t e ≡ q → (b : Bool) → rejectable t.plan e ≡ b → Like (decide s e) (decide t e)
    go (some o) h b r = like_as (decide_order s e o (chosen_like s t k e ∙ h)) (decide_order t e o h) (all_like s t k o)
    go none h true r =
        like_as (decide_refuse s e (chosen_like s t k e ∙ h) (same ∙ r)) (decide_refuse t e h r) (settle_like s t k Refused Refused refl e)
    go none h false r = like_as (decide_alone s e (chosen_like s t k e ∙ h) (same ∙ r)) (decide_alone t e h r) (alone_like s t k e)

pub submit_like : (s t : State) → Like s t → (e : ℕ) → Like (submit s e) (submit t e)
submit_like s t k e = go (is_open (fate_of t e)) refl (delayable t.plan e) refl
  where
    fresh : is_open (fate_of s e) ≡ is_open (fate_of t e)
    fresh = (kind_like s t k e).found_open

    same : delayable s.plan e ≡ delayable t.plan e
    same = ap (λ (p : Plan). delayable p e) (plan_like s t k)

    held : Like (hold s e) (hold t e)
    held = hold_like s t k e

    go : (o : Bool) → is_open (fate_of t e) ≡ o → (b : Bool) → delayable t.plan e ≡ b → Like (submit s e) (submit t e)
    go false h b r = like_as (submit_same s e (fresh ∙ h)) (submit_same t e h) k
    go true h true r =
        like_as (submit_delayed s e (fresh ∙ h) (same ∙ r)) (submit_delayed t e h r) (settling_like (hold s e) (hold t e) held)
    go true h false r =
        like_as (submit_decided s e (fresh ∙ h) (same ∙ r)) (submit_decided t e h r)
        (settling_like (decide (hold s e) e) (decide (hold t e) e) (decide_like (hold s e) (hold t e) held e))

lapse_like : (n e : ℕ) (s t : State) → Like s t → (j : ℕ) → Like (lapse n e s j) (lapse n e t j)
unfolding lapse
lapse_like zero e s t k j = k
lapse_like (suc n) e s t k j =
    go (lapses t) refl (λ u v w. lapse_like n (suc e) u v w j)
  where
    lapses : State → Bool
    lapses u = is_open (fate_of u e) && eqb (step_of u.plan e) j

    same : lapses s ≡ lapses t
    same = ap₂ (λ a b. a && b) (kind_like s t k e).found_open (ap (λ (p : Plan). eqb (step_of p e) j) (plan_like s t k))

    go : (b : Bool)
        → lapses t ≡ b
        → ((u v : State) → Like u v → Like (lapse n (suc e) u j) (lapse n (suc e) v j))
        → Like (lapse (suc n) e s j) (lapse (suc n) e t j)
    go true h later =
        like_as (lapse_yes n e s j (same ∙ h)) (lapse_yes n e t j h)
        (later (settle_as Lapsed s e) (settle_as Lapsed t e) (settle_like s t k Lapsed Lapsed refl e))
    go false h later = like_as (lapse_no n e s j (same ∙ h)) (lapse_no n e t j h) (later s t k)

pub close_like : (s t : State) → Like s t → (j : ℕ) → Like (close_step s j) (close_step t j)
unfolding close_step
close_like s t k j =
    like_as (ap (λ (n : ℕ). settle (lapse n 0 (shut s j) j)) (ap event_count (plan_like s t k))) refl
    (settling_like (lapse (event_count t.plan) 0 (shut s j) j) (lapse (event_count t.plan) 0 (shut t j) j)
    (lapse_like (event_count t.plan) 0 (shut s j) (shut t j) (shut_like s t k j) j))

refusing_like : (n : ℕ) (s t : State) → Like s t → Like (refuse_held n s) (refuse_held n t)
unfolding refuse_held
refusing_like zero s t k = k
refusing_like (suc n) s t k = go (lowest_held t) refl (λ u v w. refusing_like n u v w)
  where
    same : lowest_held s ≡ lowest_held t
    same = ap₂ lowest (ap event_count (plan_like s t k)) (fun_ext (λ e. (kind_like s t k e).is_held_lem))

    go : (q : Option ℕ)
        → lowest_held t ≡ q
        → ((u v : State) → Like u v → Like (refuse_held n u) (refuse_held n v))
        → Like (refuse_held (suc n) s) (refuse_held (suc n) t)
    go none h later = like_as (refuse_none n s (same ∙ h)) (refuse_none n t h) k
    go (some e) h later =
        like_as (refuse_some n s e (same ∙ h)) (refuse_some n t e h)
        (later (settle (settle_as Refused s e)) (settle (settle_as Refused t e))
        (settling_like (settle_as Refused s e) (settle_as Refused t e) (settle_like s t k Refused Refused refl e)))

pub finish_like : (s t : State) → Like s t → Like (finish s) (finish t)
unfolding finish
finish_like s t k = refusing_like 16 (settle s) (settle t) (settling_like s t k)

pub move_like : (s t : State) → Like s t → (m : ℕ) → Like (advance_to s m) (advance_to t m)
unfolding advance_to
move_like s t k m = settling_like (set_minute s m) (set_minute t m) (moved_like s t k m)

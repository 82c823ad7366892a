-- Reading a sheet gives the first state of a sound plan, or the empty state.
use Prim.Native.Nat.{ℕ, zero, suc, ◌+◌, ◌≤◌, ◌<◌}
use native.Mathlib.Omega.{arith}
use native.Mathlib.Decide.{ℕ_discrete}
use borrow.Author.Tests.{ltb-true, lt-ltb, leb-false, eqb-false, not-false}
use mathlib.Core.Bool.{Bool, true, false, not, ◌&&◌, ◌||◌}
use mathlib.Core.List.{List, [], ◌∷◌}
use mathlib.Core.Logic.{◌≢◌, inl, inr}
use Rattle.std.specs.declared.option.Option.{Option}
use Rattle.std.specs.declared.option.Option.TheVariants.{None as none, Some as some}
use mathlib.Core.Path.{◌≡◌, refl, sym, ◌∙◌, ap, subst}
use lib.Dec.{eqb, ltb, leb}
use lib.ListN.{length, get_or}
use Rattle.theory.proofs.Types.{Event, Rule, Order, Need, Conditional, RuleLine, Window, Plan, Record, State, SheetFault, Ok, Err, Reading}
use Rattle.plan.specs.Faults.{Verdict, refusal}
use Rattle.theory.proofs.Conjunctions.{and_three, and_four}
use Rattle.theory.proofs.SoundPlans.{Sound, rule_named, rule_enforced, same_enforced}
use Rattle.plan.specs.Plans.{event_count, rule_count, event_at, attributes_of, window_at, from_of, until_of, has_window, rule_at, holds_bit, delayable, blank_event, blank_rule, blank_window, empty_plan}
use Rattle.scheduler.specs.State.{first_state, empty_state}
use Rattle.plan.specs.Rules.{bad_step, bad_attributes, bad_window, named, enforceable, sound_event, sound_rule, sound_window}
use Rattle.plan.specs.Records.{body_length, record_at, rule_of, add_event, add_rule, add_window, table1, add_events, declare, is_rule, record_fault}
use Rattle.plan.specs.Sheets.{PlanReading, whole, faulty, read_from, read_plan, ending, sheet_plan}
use Rattle.scheduler.specs.Sheet.{admitted, read_sheet}
use Rattle.plan.proofs.Tests.{and_both, or_left, or_right, or_either, or_right_true}
use Rattle.plan.proofs.Windows.{blank_sound}
use Rattle.plan.proofs.Arrays.{length_store, read_same, read_other, read_blank}
use Rattle.plan.proofs.FaultlessRecords.{Faultless, faultless}

-- a plan as far as it is read: blanks stand past its counts
pub record Read (p : Plan) : Type 0 where
  pub events_len : length p.events ≡ 16
  pub rules_len : length p.rules ≡ 16
  pub windows_len : length p.windows ≡ 16
  pub events_blank : (e : ℕ) → event_count p ≤ e → event_at p e ≡ blank_event
  pub rules_blank : (i : ℕ) → rule_count p ≤ i → rule_at p i ≡ blank_rule.rule
  pub sound : Sound p

read_empty : Read empty_plan
read_empty = record {
  events_len = refl;
  rules_len = refl;
  windows_len = refl;
  events_blank = λ e l. read_blank 16 blank_event e;
  rules_blank = λ i l. ap (λ (v : RuleLine). v.rule) (read_blank 16 blank_rule i);
  sound = record {
    few_events = omega arith;
    few_rules = omega arith;
    event = λ e l. absurd (omega arith);
    rule = λ i l. absurd (omega arith);
    window = λ e l. blank_sound empty_plan e (read_blank 16 blank_window e);
  };
}

abbrev is_sound : Event → Bool
is_sound v = not (bad_step v.step) && not (bad_attributes v.attributes)

below_more : (x n : ℕ) → ltb x n ≡ true → ltb x (n + 1) ≡ true
below_more x n h = let lt = ltb-true x n h in lt-ltb x (n + 1) (omega arith)

-- a rule that names some of n events names some of one more
named_more : (n : ℕ) (u : Rule) → named n u ≡ true → named (n + 1) u ≡ true
unfolding named
named_more n (Order x y) h =
    let q = and_three (ltb x n) (ltb y n) (not (eqb x y)) h in
    rw (below_more x n q.0, below_more y n q.1, q.2)
named_more n (Need x y) h =
    let q = and_three (ltb x n) (ltb y n) (not (eqb x y)) h in
    rw (below_more x n q.0, below_more y n q.1, q.2)
named_more n (Conditional x y z) h =
    let q = and_three (ltb x n && ltb y n && ltb z n && not (eqb x y)) (not (eqb x z)) (not (eqb y z)) h in
    let v = and_four (ltb x n) (ltb y n) (ltb z n) (not (eqb x y)) q.0 in
    rw (below_more x n v.0, below_more y n v.1, below_more z n v.2, v.3, q.1, q.2)

-- one more event
module _ (p : Plan) (k a : ℕ) (r : Read p) (room : event_count p < 16) where
  new_event : event_at (add_event p k a) (event_count p) ≡ record { step = k; attributes = a }
  unfolding add_event
  new_event =
      read_same 16 p.events (event_count p) (record { step = k; attributes = a }) blank_event
      (omega (arith, r.events_len))

  old_event : (e : ℕ) → e ≢ event_count p → event_at (add_event p k a) e ≡ event_at p e
  unfolding add_event
  old_event e ne = read_other 16 p.events (event_count p) (record { step = k; attributes = a }) blank_event e ne

  -- an event that was declared has its attributes still
  same_attributes : (x : ℕ) → x < event_count p → attributes_of (add_event p k a) x ≡ attributes_of p x
  same_attributes x lt = ap (λ (v : Event). v.attributes) (old_event x (omega arith))

  rule_stays : (u : Rule)
      → named (event_count p) u ≡ true
      → enforceable p u ≡ true
      → (named (event_count (add_event p k a)) u && enforceable (add_event p k a) u) ≡ true
  unfolding add_event
  rule_stays u n e =
      and_both (named (event_count p + 1) u) (enforceable (add_event p k a) u) (named_more (event_count p) u n)
      (same_enforced p (add_event p k a) (event_count p) same_attributes u n ∙ e)

  event_sound : bad_step k ≡ false
      → bad_attributes a ≡ false
      → (e : ℕ)
      → e < event_count p + 1
      → sound_event (add_event p k a) e ≡ true
  unfolding sound_event
  event_sound hk ha e l = elim (ℕ_discrete e (event_count p)) [
    | yes q ↦ rw q (ap is_sound new_event ∙ rw (hk, ha))
    | no ne ↦ ap is_sound (old_event e ne) ∙ r.sound.event e (omega arith)
  ]

  -- a window that could be given still can
  window_stays : (e : ℕ) → sound_window p e ≡ true → sound_window (add_event p k a) e ≡ true
  unfolding sound_window add_event
  window_stays e h =
      let none = eqb (from_of p e) 0 && eqb (until_of p e) 0 in
      let right = ltb (from_of p e) (until_of p e) in
      elim (or_either none (ltb e (event_count p) && delayable p e && right) h) [
        | inl t ↦ rw t
        | inr t ↦
            let q = and_three (ltb e (event_count p)) (delayable p e) right t in
            let d : delayable (add_event p k a) e ≡ true = ap (holds_bit 4) (same_attributes e (ltb-true e (event_count p) q.0)) ∙ q.1 in
            rw (below_more e (event_count p) q.0, d, q.2) (or_right_true none)
      ]

  read_event : bad_step k ≡ false → bad_attributes a ≡ false → Read (add_event p k a)
  unfolding add_event sound_rule
  read_event hk ha = record {
    events_len = length_store 16 p.events (event_count p) _ ∙ r.events_len;
    rules_len = r.rules_len;
    windows_len = r.windows_len;
    events_blank = λ e l. old_event e (omega arith) ∙ r.events_blank e (omega arith);
    rules_blank = r.rules_blank;
    sound = record {
      few_events = omega arith;
      few_rules = r.sound.few_rules;
      event = event_sound hk ha;
      rule = λ i l. rule_stays (rule_at p i) (rule_named r.sound i l) (rule_enforced r.sound i l);
      window = λ e l. window_stays e (r.sound.window e l);
    };
  }

-- one more rule
module _ (p : Plan) (u : Rule) (r : Read p) (room : rule_count p < 16) (n : named (event_count p) u ≡ true)
    (e : enforceable p u ≡ true) where
  new_rule : rule_at (add_rule p u) (rule_count p) ≡ u
  unfolding add_rule
  new_rule =
      ap (λ (v : RuleLine). v.rule)
      (read_same 16 p.rules (rule_count p) (record { rule = u }) blank_rule (omega (arith, r.rules_len)))

  old_rule : (i : ℕ) → i ≢ rule_count p → rule_at (add_rule p u) i ≡ rule_at p i
  unfolding add_rule
  old_rule i ne =
      ap (λ (v : RuleLine). v.rule) (read_other 16 p.rules (rule_count p) (record { rule = u }) blank_rule i ne)

  -- a rule names and asks what it did
  same_tests : (v : Rule)
      → (named (event_count (add_rule p u)) v && enforceable (add_rule p u) v)
      ≡ (named (event_count p) v && enforceable p v)
  unfolding named enforceable add_rule
  same_tests (Order x y) = refl
  same_tests (Need x y) = refl
  same_tests (Conditional x y z) = refl

  rule_sound : (i : ℕ) → i < rule_count p + 1 → sound_rule (add_rule p u) i ≡ true
  unfolding sound_rule
  rule_sound i l = elim (ℕ_discrete i (rule_count p)) [
    | yes q ↦ rw (q, new_rule, same_tests u, n, e)
    | no ne ↦ rw (old_rule i ne, same_tests (rule_at p i)) (r.sound.rule i (omega arith))
  ]

  read_rule : Read (add_rule p u)
  unfolding add_rule sound_event sound_window
  read_rule = record {
    events_len = r.events_len;
    rules_len = length_store 16 p.rules (rule_count p) _ ∙ r.rules_len;
    windows_len = r.windows_len;
    events_blank = r.events_blank;
    rules_blank = λ i l. old_rule i (omega arith) ∙ r.rules_blank i (omega arith);
    sound = record {
      few_events = r.sound.few_events;
      few_rules = omega arith;
      event = r.sound.event;
      rule = rule_sound;
      window = r.sound.window;
    };
  }

-- the window of an event
module _ (p : Plan) (d from until : ℕ) (r : Read p) (good : bad_window p d from until ≡ false) where
  -- it is declared and delayable, and the window ends after it begins
  good_is : (d < event_count p) × (delayable p d ≡ true) × (from < until)
  unfolding bad_window
  good_is =
      let a = or_left (leb (event_count p) d || not (delayable p d) || has_window p d) (leb until from) good in
      let b = or_left (leb (event_count p) d || not (delayable p d)) (has_window p d) a in
      (leb-false (event_count p) d (or_left (leb (event_count p) d) (not (delayable p d)) b), not-false (delayable p d) (or_right (leb (event_count p) d) (not (delayable p d)) b), leb-false until from (or_right (leb (event_count p) d || not (delayable p d) || has_window p d) (leb until from) good))

  new_window : window_at (add_window p d from until) d ≡ record { from = from; until = until }
  unfolding add_window
  new_window = read_same 16 p.windows d (record { from = from; until = until }) blank_window (omega (arith, r.windows_len, good_is.0, r.sound.few_events))

  old_window : (e : ℕ) → e ≢ d → window_at (add_window p d from until) e ≡ window_at p e
  unfolding add_window
  old_window e ne = read_other 16 p.windows d (record { from = from; until = until }) blank_window e ne

  abbrev is_right : ℕ → Window → Bool
  is_right e w = (eqb w.from 0 && eqb w.until 0) || (ltb e (event_count p) && delayable p e && ltb w.from w.until)

  as_right : (e : ℕ) → sound_window (add_window p d from until) e ≡ is_right e (window_at (add_window p d from until) e)
  unfolding sound_window add_window
  as_right e = refl

  window_sound : (e : ℕ) → e < 16 → sound_window (add_window p d from until) e ≡ true
  unfolding sound_window
  window_sound e l = as_right e ∙ elim (ℕ_discrete e d) [
    | yes q ↦ rw q (ap (is_right d) new_window ∙ rw (lt-ltb d (event_count p) good_is.0, good_is.1, lt-ltb from until good_is.2) (or_right_true (eqb from 0 && eqb until 0)))
    | no ne ↦ ap (is_right e) (old_window e ne) ∙ r.sound.window e l
  ]

  -- a rule names and asks what it did
  window_tests : (v : Rule)
      → (named (event_count (add_window p d from until)) v && enforceable (add_window p d from until) v)
      ≡ (named (event_count p) v && enforceable p v)
  unfolding named enforceable add_window
  window_tests (Order x y) = refl
  window_tests (Need x y) = refl
  window_tests (Conditional x y z) = refl

  rule_windowed : (i : ℕ) → i < rule_count p → sound_rule (add_window p d from until) i ≡ true
  unfolding sound_rule add_window
  rule_windowed i l = window_tests (rule_at p i) ∙ r.sound.rule i l

  read_window : Read (add_window p d from until)
  unfolding add_window sound_event
  read_window = record {
    events_len = r.events_len;
    rules_len = r.rules_len;
    windows_len = length_store 16 p.windows d _ ∙ r.windows_len;
    events_blank = r.events_blank;
    rules_blank = r.rules_blank;
    sound = record {
      few_events = r.sound.few_events;
      few_rules = r.sound.few_rules;
      event = r.sound.event;
      rule = rule_windowed;
      window = window_sound;
    };
  }

-- the events of kind 6
read_events : (p : Plan) (k : ℕ) (l : List ℕ)
    → Read p
    → event_count p + length l ≤ 16
    → bad_step k ≡ false
    → ((i : ℕ) → bad_attributes (get_or l i 0) ≡ false)
    → Read (add_events p k l)
unfolding add_events
read_events p k [] r room hk h = r
read_events p k (a ∷ l) r room hk h =
    read_events (add_event p k a) k l (read_event p k a r (omega arith) hk (h 0)) (unfold add_event in omega arith) hk
    (λ i. h (suc i))

table_sound : (i : ℕ) → bad_attributes (get_or table1 i 0) ≡ false
table_sound zero = refl
table_sound (suc zero) = refl
table_sound (suc (suc zero)) = refl
table_sound (suc (suc (suc zero))) = refl
table_sound (suc (suc (suc (suc i)))) = refl

-- what it declares, kind by kind
module _ (p : Plan) (r : Read p) {len at : ℕ} where
  read_rule_record : (v : Record) → Faultless p len at v → is_rule v.kind ≡ true → rule_count p < 16 → Read (add_rule p (rule_of v))
  read_rule_record v c is room =
      read_rule p (rule_of v) r room (not-false _ (rw is at c.names)) (not-false _ (rw is at c.enforced))

  by_kind : (k x y z from until : ℕ)
      → Faultless p len at (record { kind = k; x = x; y = y; z = z; from = from; until = until })
      → k ≢ 5
      → Read (declare p (record { kind = k; x = x; y = y; z = z; from = from; until = until }))
  unfolding declare
  by_kind zero x y z f u c five = absurd (omega arith)
  by_kind (suc zero) x y z f u c five = read_event p x y r (omega arith) c.step c.attributes
  by_kind (suc (suc zero)) x y z f u c five = read_rule_record _ c refl (omega arith)
  by_kind (suc (suc (suc zero))) x y z f u c five = read_rule_record _ c refl (omega arith)
  by_kind (suc (suc (suc (suc zero)))) x y z f u c five = read_rule_record _ c refl (omega arith)
  by_kind (suc (suc (suc (suc (suc zero))))) x y z f u c five = absurd (omega arith)
  by_kind (suc (suc (suc (suc (suc (suc zero)))))) x y z f u c five =
      read_events p x table1 r (omega arith) c.step table_sound
  by_kind (suc (suc (suc (suc (suc (suc (suc zero))))))) x y z f u c five = read_window p x f u r c.window
  by_kind (suc (suc (suc (suc (suc (suc (suc (suc k)))))))) x y z f u c five = absurd (omega arith)

  read_declared : (v : Record) → Faultless p len at v → v.kind ≢ 5 → Read (declare p v)
  read_declared v c five = by_kind v.kind v.x v.y v.z v.from v.until c five

faulty_whole : {f : SheetFault} {at end : ℕ} {p : Plan} → faulty f at ≡ whole p end → ⊥
faulty_whole {f} {at} {end} {p} h = let z : ◌≡◌ {A = ℕ} 0 1 = cc in omega arith

same_plan : {p q : Plan} {at end : ℕ} → whole p at ≡ whole q end → p ≡ q
same_plan {p} {q} {at} {end} e = cc

-- so is every plan on the way
read_from_lem : (n : ℕ) (b : List ℕ) (at : ℕ) (p q : Plan) (end : ℕ) → Read p → read_from n b at p ≡ whole q end → Read q
unfolding read_from
read_from_lem zero b at p q end r h = absurd (faulty_whole h)
read_from_lem (suc n) b at p q end r h = go (record_fault p (length b) at v) refl (eqb v.kind 5) refl (read_from_lem n b)
  where
    v : Record
    v = record_at b at

    go : (o : Option SheetFault)
        → record_fault p (length b) at v ≡ o
        → (t : Bool)
        → eqb v.kind 5 ≡ t
        → ((at : ℕ) (p q : Plan) (end : ℕ) → Read p → read_from n b at p ≡ whole q end → Read q)
        → Read q
    go (some f) o t u rec = absurd (faulty_whole (rw (o, read_from) at h))
    go none o true u rec = subst Read (same_plan (rw (o, u, read_from) at h)) r
    go none o false u rec =
        let c = faultless p (length b) at v o in
        rec (at + 1 + body_length v.kind) (declare p v) q end (read_declared p r v c (eqb-false v.kind 5 u))
        (rw (o, u, read_from) at h)

-- a sheet's plan is the one that its records give
ending_whole : (b : List ℕ) (r : PlanReading) (p : Plan) (end : ℕ)
    → ending b r ≡ whole p end
    → (at : ℕ) × (r ≡ whole p at)
unfolding ending
ending_whole b (faulty f at) p end h = absurd (faulty_whole h)
ending_whole b (whole q at) p end h = go (ltb at (length b)) refl
  where
    go : (t : Bool) → ltb at (length b) ≡ t → (at' : ℕ) × (whole q at ≡ whole p at')
    go true t = absurd (faulty_whole (rw (t, ending) at h))
    go false t = (end, rw (t, ending) at h)

refused_admitted : {f : SheetFault} {at : ℕ} → ◌≡◌ {A = Verdict} (Err (refusal f at)) (Ok tt) → ⊥
refused_admitted {f} {at} h = let z : ◌≡◌ {A = ℕ} 0 1 = cc in omega arith

-- an admitted sheet's plan, and its state
record Declared (b : List ℕ) (s : State) : Type 0 where
  plan : Plan
  end : ℕ
  reads : read_plan b ≡ whole plan end
  first : s ≡ first_state plan

sheet_plan_lem : (b : List ℕ) (s : State) → read_sheet b ≡ admitted s → Declared b s
unfolding read_sheet sheet_plan
sheet_plan_lem b s h = go (sheet_plan b) refl
  where
    go : (o : PlanReading) → sheet_plan b ≡ o → Declared b s
    go (whole p at) q =
        let e = ending_whole b (read_plan b) p at q in
        record {
          plan = p;
          end = e.0;
          reads = e.1;
          first = sym (ap (λ (r : Reading). r.state) (rw (q, read_sheet) at h));
        }
    go (faulty f at) q = absurd (refused_admitted (ap (λ (r : Reading). r.verdict) (rw (q, read_sheet) at h)))

pub sheet_first : (b : List ℕ) (s : State) → read_sheet b ≡ admitted s → s ≡ first_state s.plan
sheet_first b s h = let e = (sheet_plan_lem b s h).first in e ∙ ap (λ (t : State). first_state t.plan) (sym e)

pub sheet_read : (b : List ℕ) (s : State) → read_sheet b ≡ admitted s → Read s.plan
unfolding read_plan
sheet_read b s h =
    let q = sheet_plan_lem b s h in
    subst (λ (t : State). Read t.plan) (sym q.first)
    (read_from_lem (length b + 1) b 0 empty_plan q.plan q.end read_empty q.reads)

pub sheet_sound : (b : List ℕ) (s : State) → read_sheet b ≡ admitted s → Sound s.plan
sheet_sound b s h = (sheet_read b s h).sound

-- its plan's arrays have their lengths
pub sheet_lengths : (b : List ℕ) (s : State)
    → read_sheet b ≡ admitted s
    → (length s.plan.events ≡ 16) × (length s.plan.rules ≡ 16)
sheet_lengths b s h = let r = sheet_read b s h in (r.events_len, r.rules_len)

-- a sheet turned down
pub sheet_refused : (b : List ℕ) (f : SheetFault) (at : ℕ)
    → (read_sheet b).verdict ≡ Err (refusal f at)
    → (read_sheet b).state ≡ empty_state
unfolding read_sheet
sheet_refused b f at h = go (sheet_plan b) refl
  where
    go : (o : PlanReading) → sheet_plan b ≡ o → (read_sheet b).state ≡ empty_state
    go (whole p end) q = absurd (refused_admitted (sym (rw (q, read_sheet) at h)))
    go (faulty f at) q = rw (q, read_sheet)

-- Demand 3, of the specification's scheduler: an invariant of any list on an admitted sheet, and what follows from it.
use Prim.Native.Nat.{ℕ, zero, suc, ◌≤◌, ◌<◌}
use native.Mathlib.Omega.{arith}
use native.Mathlib.Decide.{ℕ_discrete}
use borrow.Author.Tests.{eq-eqb, ne_eqb, eqb-true, ltb-true, ltb-false, lt-ltb, le-ltb, leb-true, leb-false, le-leb, lt-leb, not-true, not-false}
use mathlib.Core.Bool.{Bool, true, false, not, ◌&&◌, ◌||◌, and-false}
use mathlib.Core.List.{List, [], ◌∷◌, ◌++◌, append-nil}
use mathlib.Core.Logic.{◌≢◌, inl, inr}
use Rattle.std.specs.declared.option.Option.TheVariants.{None as none, Some as some}
use mathlib.Core.Path.{◌≡◌, refl, sym, ◌∙◌, ap, subst}
use lib.Dec.{eqb}
use lib.ListN.{length, length-replicate}
use Rattle.theory.proofs.Types.{Fate, Open, Held, Done, Refused, Lapsed, Forced, Rule, Order, Need, Conditional, Plan}
use Rattle.theory.proofs.Types.{Standing, Entry, State, CallFault, Unknown, AlreadyClosed, NotClosed, Backward, Reply, Call, Submit, Close, Finish, Advance}
use Rattle.plan.specs.Base.{any_below, all_below, among, those_below}
use Rattle.plan.specs.Plans.{event_count, rule_count, step_of, rule_at, has_event}
use Rattle.scheduler.specs.State.{first_state, fate_of, broken_at, closed_at, lines, hold, shut, settle_as, Sized}
use Rattle.plan.specs.Fates.{blank_standing, is_open, is_held, is_done, is_settled}
use Rattle.plan.specs.Histories.{blank_entry, fate_if, fates_in, done_in_turn, holds, declared_only}
use Rattle.plan.specs.Rules.{triggered, owes}
use Rattle.scheduler.specs.Orders.{Viable, has_viable}
use Rattle.scheduler.specs.Rules.{strains}
use Rattle.scheduler.specs.Calls.{do_alone, submit, close_step, finish, advance_to}
use Rattle.plan.specs.Faults.{first_fault, is_turned_down}
use Rattle.scheduler.specs.Coherent.{coherent}
use Rattle.scheduler.specs.Answers.{unclosed_at, call_fault, accept, call}
use Rattle.scheduler.specs.Sheet.{read_sheet, admitted}
use Rattle.scheduler.specs.Lists.{after, scheduler}
use Rattle.scheduler.specs.Demand.{seen, Observed, nothing_yet, submits, closes, any_call, was_submitted, was_closed, was_finished, minute_after, waits_as, state_of, accepted}
use Rattle.scheduler.specs.Demand.{starts_done, done_alone, newly_recorded, shows, only_history, observe, observe_all, broken, unbreakable, Holds, Extends, Grows, Keeps}
use Rattle.plan.proofs.Tests.{clash, either, or_either, count_zero, or_both, and_left, and_right, any_none, any_some, any_found, all_at}
use Rattle.plan.proofs.Arrays.{get_blank, read_blank}
use Rattle.plan.proofs.Fates.{open_is}
use Rattle.scheduler.proofs.Laws.{fate_hold_same, fate_hold_other, closed_hold, broken_hold, lines_hold, broken_settle, fate_shut, broken_shut, lines_shut, closed_shut_same, closed_shut_other, fate_minute, broken_minute, closed_minute, lines_minute}
use Rattle.scheduler.proofs.Branches.{submit_same, call_fault_lem, call_accept}
use Rattle.theory.proofs.SoundPlans.{Sound, step_low}
use Rattle.theory.proofs.SheetPlans.{sheet_first, sheet_sound}
use Rattle.theory.proofs.HistoryInvariant.{Shape, HistoryListed, BlankBeyond, same_events, shape_hold, beyond_hold}
use Rattle.theory.proofs.RuleInvariant.{SameToRules, Strict, strict_same, covered_same, unpaid}
use Rattle.theory.proofs.Invariant.{FatesLater, Invariant, Resting, rules_shut, beyond_shut, rules_minute, beyond_minute, close_keeps, finish_keeps, move_keeps}
use Rattle.theory.proofs.Submission.{rules_hold, Recorded, alone_recorded, Manner, ordered, waited, alone, Submitted, submit_keeps}
use Rattle.theory.proofs.InvariantCoherent.{rule_holds, invariant_coherent}
use Rattle.theory.proofs.Coherence.{call_taken, fault_answer}
use Rattle.theory.proofs.Minutes.{minute_submit, minute_close, minute_finish, minute_move}
use Rattle.theory.proofs.Observation.{Agrees, fates_observed, fate_observed, shown, alone_new, same_test, or_in, among_append, those_in, those_only}

-- the invariant of a list: what is observed so far, and the state
pub record ListInvariant (p : Plan) (o : Observed) (s : State) : Type 0 where
  pub invariant : Invariant p s
  pub beyond : BlankBeyond p s
  pub strict : Strict p s
  pub rest : Resting s
  pub agrees : Agrees o s
  pub finished : was_finished o ≡ true → (e : ℕ) → e < event_count p → is_settled (fate_of s e) ≡ true

-- the first state
module _ (p : Plan) where
  pub all_open : (e : ℕ) → fate_of (first_state p) e ≡ Open
  all_open e = ap (λ (v : Standing). v.fate) (read_blank 16 blank_standing e)

  pub first_sized : Sized (first_state p)
  first_sized = record {
    standings_len = length-replicate 16 blank_standing;
    broken_len = length-replicate 16 false;
    closed_len = length-replicate 8 false;
    history_len = length-replicate 16 blank_entry;
  }

module _ (p : Plan) (sd : Sound p) where
  unbroken : (i : ℕ) → broken_at (first_state p) i ≡ false
  unbroken i = read_blank 16 false i

  none_done : (e : ℕ) → is_done (fate_of (first_state p) e) ≡ false
  none_done e = ap is_done (all_open p e)

  first_listing : HistoryListed p (first_state p)
  unfolding fates_in declared_only
  first_listing = record {
    shape = record { same_plan = refl; sized = first_sized p };
    few = sd.few_events;
    tally = sym (count_zero (event_count p) _ (λ e l. ap is_settled (all_open p e)));
    listed = λ e l. sym (ap (λ x. fate_if (is_settled x) x) (all_open p e));
    only = refl;
  }

  first_unpaid : (r : Rule) → unpaid (first_state p) r ≡ false
  unfolding unpaid
  first_unpaid (Order a b) = refl
  first_unpaid (Need a b) = rw (none_done a)
  first_unpaid (Conditional a b c) = rw (none_done a)

  first_owes : (r : Rule) → owes (first_state p).plan (fate_of (first_state p)) r ≡ false
  unfolding owes triggered
  first_owes (Order a b) = refl
  first_owes (Need a b) = rw (none_done a)
  first_owes (Conditional a b c) = rw (none_done a, none_done b)

  first_invariant : Invariant p (first_state p)
  unfolding done_in_turn
  first_invariant = record {
    listing = first_listing;
    obeyed = record { turn = λ i a b l n r. refl; paid = λ i l n. first_unpaid (rule_at p i) };
    quiet = λ i l n. first_owes (rule_at p i);
    held = λ e l h. absurd (clash (ap is_held h) (ap is_held (all_open p e)));
    still = λ e l q. read_blank 8 false (step_of p e);
  }

  pub at_first : ListInvariant p nothing_yet (first_state p)
  unfolding among any_call minute_after
  at_first = record {
    invariant = first_invariant;
    beyond = record { unused = λ e ge. all_open p e; blank = λ i ge. get_blank 16 blank_entry i };
    strict = record {
      first = λ i a b l r d h. absurd (clash h (none_done b));
      spared = λ o t c v h d. absurd (clash d (none_done o));
      weak = λ i l n. absurd (clash n (unbroken i));
    };
    rest = λ e q h v. clash (ap is_held h) (ap is_held (all_open p e));
    agrees = record {
      history = refl;
      waits = λ e u. all_open p e;
      closed = λ k l. read_blank 8 false k;
      recorded = λ i l. unbroken i;
      minute = refl;
    };
    finished = λ w. absurd (clash w refl);
  }

-- what a call shows
observe_no : (p : Plan) (o : Observed) (c : Call) (h : List Entry)
    → accepted p o c ≡ false
    → observe p o c h ≡ only_history o h
unfolding observe
observe_no p o c h q = rw (q, observe)

observe_yes : (p : Plan) (o : Observed) (c : Call) (h : List Entry)
    → accepted p o c ≡ true
    → observe p o c h ≡ shows p o c h
unfolding observe
observe_yes p o c h q = rw (q, observe)

recorded_no : (p : Plan) (o : Observed) (e : ℕ) (h : List Entry)
    → done_alone p o e h ≡ false
    → newly_recorded p o e h ≡ []
unfolding newly_recorded
recorded_no p o e h q = rw (q, newly_recorded)

recorded_yes : (p : Plan) (o : Observed) (e : ℕ) (h : List Entry)
    → done_alone p o e h ≡ true
    → newly_recorded p o e h ≡ those_below (rule_count p) (strains (hold (state_of p o) e) e)
unfolding newly_recorded
recorded_yes p o e h q = rw (q, newly_recorded)

-- a call that is turned down shows the same history again
at_kept : {p : Plan} {o : Observed} {s : State} → ListInvariant p o s → ListInvariant p (only_history o (lines s)) s
at_kept k = record {
  invariant = k.invariant;
  beyond = k.beyond;
  strict = k.strict;
  rest = k.rest;
  agrees = record {
    history = refl;
    waits = k.agrees.waits;
    closed = k.agrees.closed;
    recorded = k.agrees.recorded;
    minute = k.agrees.minute;
  };
  finished = k.finished;
}

-- the state after an accepted call, and its history
pub record Step (p : Plan) (o : Observed) (s t : State) : Type 0 where
  pub at : ListInvariant p o t
  pub extends : Extends (lines s) (lines t)

module _ {p : Plan} {o : Observed} {s : State} (sd : Sound p) (k : ListInvariant p o s) where
  sh : Shape p s
  sh = k.invariant.listing.shape

  finished_later : (t : State)
      → FatesLater s t
      → was_finished o ≡ true
      → (e : ℕ)
      → e < event_count p
      → is_settled (fate_of t e) ≡ true
  finished_later t f w e l = elim (f e) [ inl z ↦ z | inr z ↦ ap is_settled z ∙ k.finished w e l ]

  waits_later : (t : State)
      → FatesLater s t
      → (e : ℕ)
      → is_settled (fate_of t e) ≡ false
      → fate_of t e ≡ waits_as (was_submitted o e)
  waits_later t f e u = elim (f e) [
    | inl z ↦ absurd (clash z u)
    | inr z ↦ z ∙ k.agrees.waits e (sym (ap is_settled z) ∙ u)
  ]

  -- closing
  has_event-same : (j : ℕ) → has_event s.plan j ≡ has_event p j
  has_event-same j = ap (λ q. has_event q j) sh.same_plan

  pub step_bound : (j : ℕ) → has_event p j ≡ true → j < 8
  unfolding has_event
  step_bound j h =
      let z = any_found (event_count p) (λ e. eqb (step_of p e) j) h in
      omega (arith, eqb-true (step_of p z.0) j z.2, step_low sd z.0 z.1)

  shut_closed : (j : ℕ) → j < 8 → (i : ℕ) → i < 8 → closed_at (shut s j) i ≡ any_call (closes i) (Close j ∷ o.calls)
  unfolding any_call
  shut_closed j l i m = elim (ℕ_discrete i j) [
    | yes r ↦ rw (eq-eqb i j r) (rw r (closed_shut_same s j sh.sized l))
    | no ne ↦ rw (ne_eqb i j ne) (closed_shut_other s j i ne ∙ k.agrees.closed i m)
  ]

  at_close : (j : ℕ) → j < 8 → Step p (shows p o (Close j) (lines (close_step s j))) s (close_step s j)
  unfolding any_call minute_after
  at_close j l =
      let z = close_keeps sd k.invariant j in
      let f : FatesLater s (close_step s j) = λ e. elim (z.later.fates e) [
        | inl y ↦ inl y
        | inr y ↦ inr (y ∙ fate_shut s j e)
      ] in
      record {
        at = record {
          invariant = z.invariant;
          beyond = z.later.beyond (beyond_shut j k.beyond);
          strict = z.later.strict (strict_same (rules_shut s j) k.strict);
          rest = z.rest;
          agrees = record {
            history = refl;
            waits = waits_later (close_step s j) f;
            closed = λ i m. z.later.same_closed i ∙ shut_closed j l i m;
            recorded = λ i m. z.later.same_broken i ∙ broken_shut s j i ∙ k.agrees.recorded i m;
            minute = minute_close s sh.sized j ∙ k.agrees.minute;
          };
          finished = finished_later (close_step s j) f;
        };
        extends = (z.later.new, z.later.lines_new ∙ ap (λ h. h ++ z.later.new) (lines_shut s j));
      }

  -- moving the minute
  at_move : (n : ℕ) → Step p (shows p o (Advance n) (lines (advance_to s n))) s (advance_to s n)
  unfolding any_call minute_after
  at_move n =
      let z = move_keeps sd k.invariant n in
      let f : FatesLater s (advance_to s n) = λ e. elim (z.later.fates e) [
        | inl y ↦ inl y
        | inr y ↦ inr (y ∙ fate_minute s n e)
      ] in
      record {
        at = record {
          invariant = z.invariant;
          beyond = z.later.beyond (beyond_minute n k.beyond);
          strict = z.later.strict (strict_same (rules_minute s n) k.strict);
          rest = z.rest;
          agrees = record {
            history = refl;
            waits = waits_later (advance_to s n) f;
            closed = λ i m. z.later.same_closed i ∙ closed_minute s n i ∙ k.agrees.closed i m;
            recorded = λ i m. z.later.same_broken i ∙ broken_minute s n i ∙ k.agrees.recorded i m;
            minute = minute_move s sh.sized n;
          };
          finished = finished_later (advance_to s n) f;
        };
        extends = (z.later.new, z.later.lines_new ∙ ap (λ h. h ++ z.later.new) (lines_minute s n));
      }

  -- step j has no event, or is closed
  abbrev passed : ℕ → Bool
  passed j = not (has_event p j) || was_closed o j

  -- winding up
  neither : (x : Fate) → (x ≡ Open → ⊥) → (x ≡ Held → ⊥) → is_settled x ≡ true
  neither Open a b = absurd (a refl)
  neither Held a b = absurd (b refl)
  neither Done a b = refl
  neither Refused a b = refl
  neither Lapsed a b = refl
  neither Forced a b = refl

  has_step : (e : ℕ) → e < event_count p → has_event p (step_of p e) ≡ true
  unfolding has_event
  has_step e l =
      any_some (event_count p) (λ j. eqb (step_of p j) (step_of p e)) e l (eq-eqb (step_of p e) (step_of p e) refl)

  at_finish : accepted p o Finish ≡ true → Step p (shows p o Finish (lines (finish s))) s (finish s)
  unfolding accepted any_call minute_after
  at_finish ok =
      let z = finish_keeps sd k.invariant in
      let f = z.settled.later in
      record {
        at = record {
          invariant = z.settled.invariant;
          beyond = f.beyond k.beyond;
          strict = f.strict k.strict;
          rest = z.settled.rest;
          agrees = record {
            history = refl;
            waits = waits_later (finish s) f.fates;
            closed = λ i m. f.same_closed i ∙ k.agrees.closed i m;
            recorded = λ i m. f.same_broken i ∙ k.agrees.recorded i m;
            minute = minute_finish s sh.sized ∙ k.agrees.minute;
          };
          finished = λ w e l.
              let closed : closed_at (finish s) (step_of p e) ≡ true =
              f.same_closed (step_of p e)
              ∙ k.agrees.closed (step_of p e) (step_low sd e l)
              ∙ shut_there e l in
              neither (fate_of (finish s) e) (λ q. clash closed (z.settled.invariant.still e l q)) (z.none_held e l);
        };
        extends = (f.new, f.lines_new);
      }
    where
      shut_there : (e : ℕ) → e < event_count p → was_closed o (step_of p e) ≡ true
      shut_there e l = rw (has_step e l) at (all_at 8 passed ok (step_of p e) (step_low sd e l))

  -- handing in: a further event among those handed in
  waits_more : (e j : ℕ) (x : Fate)
      → (j ≡ e → x ≡ Held)
      → (j ≢ e → x ≡ waits_as (was_submitted o j))
      → x ≡ waits_as (any_call (submits j) (Submit e ∷ o.calls))
  unfolding any_call
  waits_more e j x a b = elim (ℕ_discrete j e) [ yes r ↦ rw (eq-eqb j e r) (a r) | no ne ↦ rw (ne_eqb j e ne) (b ne) ]

  is_held_lem : (x : Fate) → is_open x ≡ false → is_settled x ≡ false → x ≡ Held
  is_held_lem Open a b = absurd (clash refl a)
  is_held_lem Held a b = refl
  is_held_lem Done a b = absurd (clash refl b)
  is_held_lem Refused a b = absurd (clash refl b)
  is_held_lem Lapsed a b = absurd (clash refl b)
  is_held_lem Forced a b = absurd (clash refl b)

  -- an event that is not open: nothing changes
  at_same : (e : ℕ) → is_open (fate_of s e) ≡ false → Step p (shows p o (Submit e) (lines s)) s s
  unfolding any_call minute_after
  at_same e q =
      let not-alone : done_alone p o e (lines s) ≡ false =
      ap (done_alone p o e) (sym (append-nil (lines s)))
      ∙ alone_new k.invariant.listing k.beyond k.agrees e []
      ∙ rw q in
      let none-new = recorded_no p o e (lines s) not-alone in
      record {
        at = record {
          invariant = k.invariant;
          beyond = k.beyond;
          strict = k.strict;
          rest = k.rest;
          agrees = record {
            history = refl;
            waits = λ j u. waits_more e j (fate_of s j)
                (λ r. is_held_lem (fate_of s j) (ap (λ i. is_open (fate_of s i)) r ∙ q) u) (λ ne. k.agrees.waits j u);
            closed = k.agrees.closed;
            recorded = λ i l. k.agrees.recorded i l ∙ ap (λ n. among i (n ++ o.recorded)) (sym none-new);
            minute = k.agrees.minute;
          };
          finished = k.finished;
        };
        extends = ([], sym (append-nil (lines s)));
      }

  module _ (e : ℕ) (lt : e < event_count p) (q : is_open (fate_of s e) ≡ true) where
    z : Submitted p (hold s e) (submit s e) e
    z = submit_keeps sd k.invariant e lt q

    held : SameToRules s (hold s e)
    held = rules_hold e k.invariant.listing lt (open_is (fate_of s e) q)

    lines_after : lines (submit s e) ≡ lines s ++ z.new
    lines_after = z.lines_new ∙ ap (λ h. h ++ z.new) (lines_hold s e)

    alone_after : done_alone p o e (lines (submit s e)) ≡ (starts_done z.new e && not (has_viable (hold s e) e))
    alone_after =
        ap (done_alone p o e) lines_after ∙ alone_new k.invariant.listing k.beyond k.agrees e z.new ∙ rw q

    waits_after : (j : ℕ)
        → is_settled (fate_of (submit s e) j) ≡ false
        → fate_of (submit s e) j ≡ waits_as (any_call (submits j) (Submit e ∷ o.calls))
    waits_after j u = elim (z.fates j) [
      | inl v ↦ absurd (clash v u)
      | inr v ↦ waits_more e j (fate_of (submit s e) j)
          (λ r. v ∙ rw r (fate_hold_same s e sh.sized (omega (arith, sd.few_events))))
          (λ ne. let y = v ∙ fate_hold_other s e j ne in y ∙ k.agrees.waits j (sym (ap is_settled y) ∙ u))
    ]

    -- the rules recorded before and now
    strains_shown : (i : ℕ) → strains (hold (state_of p o) e) e i ≡ strains (hold s e) e i
    strains_shown i = ap (λ t. strains (hold t e) e i) (sym (shown k.invariant.listing k.beyond k.agrees))

    r : Recorded p (rule_count p) (hold s e) e (settle_as Done (hold s e) e) (do_alone (hold s e) e)
    r = alone_recorded sd (shape_hold s e sh) e

    before : (i : ℕ) → i < 16 → broken_at (settle_as Done (hold s e) e) i ≡ among i o.recorded
    before i l = broken_settle Done (hold s e) e i ∙ broken_hold s e i ∙ k.agrees.recorded i l

    abbrev news : List ℕ
    news = those_below (rule_count p) (strains (hold (state_of p o) e) e)

    alone_broken : (i : ℕ) → i < 16 → broken_at (do_alone (hold s e) e) i ≡ among i (news ++ o.recorded)
    alone_broken i l = same_test (broken_at (do_alone (hold s e) e) i) (among i (news ++ o.recorded))
        (λ b. among_append i news o.recorded ∙ or_in (among i news) (among i o.recorded) (elim (r.only i b) [
          | inl y ↦ inr (sym (before i l) ∙ y)
          | inr y ↦
              inl (those_in (rule_count p) (strains (hold (state_of p o) e) e) i y.0 (strains_shown i ∙ y.1))
        ]))
        (λ a. elim (or_either (among i news) (among i o.recorded) (sym (among_append i news o.recorded) ∙ a)) [
          | inl y ↦
              let v = those_only (rule_count p) (strains (hold (state_of p o) e) e) i y in
              r.new i v.0 (sym (strains_shown i) ∙ v.1)
          | inr y ↦ r.kept i (before i l ∙ y)
        ])

    recorded_same : done_alone p o e (lines (submit s e)) ≡ false
        → ((i : ℕ) → broken_at (submit s e) i ≡ broken_at (hold s e) i)
        → (i : ℕ)
        → i < 16
        → broken_at (submit s e) i ≡ among i (newly_recorded p o e (lines (submit s e)) ++ o.recorded)
    recorded_same d b i l =
        b i
        ∙ broken_hold s e i
        ∙ k.agrees.recorded i l
        ∙ ap (λ n. among i (n ++ o.recorded)) (sym (recorded_no p o e (lines (submit s e)) d))

    by_manner : Manner (hold s e) (submit s e) e z.new
        → (i : ℕ)
        → i < 16
        → broken_at (submit s e) i ≡ among i (newly_recorded p o e (lines (submit s e)) ++ o.recorded)
    by_manner (ordered h b) = recorded_same (alone_after ∙ rw h (and-false (starts_done z.new e))) b
    by_manner (waited h b) = recorded_same (alone_after ∙ rw h) b
    by_manner (alone h d b) =
        λ i l. b i
        ∙ alone_broken i l
        ∙ ap (λ n. among i (n ++ o.recorded))
        (sym (recorded_yes p o e (lines (submit s e)) (alone_after ∙ rw (h, d))))

    at_submit : Step p (shows p o (Submit e) (lines (submit s e))) s (submit s e)
    unfolding any_call minute_after
    at_submit = record {
      at = record {
        invariant = z.invariant;
        beyond = z.beyond (beyond_hold e k.invariant.listing lt (open_is (fate_of s e) q) k.beyond);
        strict = z.strict (strict_same held k.strict) (covered_same sh k.invariant.quiet k.strict held e q);
        rest = z.rest;
        agrees = record {
          history = refl;
          waits = waits_after;
          closed = λ j l. z.same_closed j ∙ closed_hold s e j ∙ k.agrees.closed j l;
          recorded = by_manner z.manner;
          minute = minute_submit s sh.sized e (omega (arith, sd.few_events)) ∙ k.agrees.minute;
        };
        finished = λ w. absurd (clash (k.finished w e lt) (ap is_settled (open_is (fate_of s e) q)));
      };
      extends = (z.new, lines_after);
    }

  -- accepted is what the table says
  coh : coherent s ≡ true
  coh = invariant_coherent sd k.invariant

  opens : (j : ℕ) → j < 8 → unclosed_at s j ≡ not (passed j)
  opens j l = rw (has_event-same j, k.agrees.closed j l) (de_morgan (has_event p j) (was_closed o j))
    where
      de_morgan : (a b : Bool) → (a && not b) ≡ not (not a || b)
      de_morgan true b = refl
      de_morgan false b = refl

  some_open : (n : ℕ) → n ≤ 8 → all_below n passed ≡ false → any_below n (unclosed_at s) ≡ true
  unfolding all_below any_below
  some_open zero le h = absurd (clash refl h)
  some_open (suc n) le h = elim (either (passed n)) [
    | inr y ↦ rw (opens n (omega arith), y)
    | inl y ↦ rw (opens n (omega arith), y) (some_open n (omega arith) (rw y at h))
  ]

  pub accepted_fault : (c : Call) → accepted p o c ≡ true → call_fault s c ≡ none
  unfolding accepted call_fault first_fault
  accepted_fault (Submit e) h =
      rw (coh, lt-leb (event_count s.plan) e (omega (arith, ltb-true e (event_count p) h, same_events sh)))
  accepted_fault (Close j) h =
      let a = and_left (has_event p j) (not (was_closed o j)) h in
      let b = not-true (was_closed o j) (and_right (has_event p j) (not (was_closed o j)) h) in
      rw (coh, has_event-same j, a, k.agrees.closed j (step_bound j a), b)
  accepted_fault Finish h = rw (coh, any_none 8 (unclosed_at s) (λ j l. opens j l ∙ ap not (all_at 8 passed h j l)))
  accepted_fault (Advance n) h = rw (coh, le-ltb n s.minute (omega (arith, leb-true (minute_after o.calls) n h, k.agrees.minute)))

  pub refused_fault : (c : Call) → accepted p o c ≡ false → (f : CallFault) × (call_fault s c ≡ some f)
  unfolding accepted call_fault first_fault
  refused_fault (Submit e) h = (
    Unknown,
    rw (coh, le-leb (event_count s.plan) e (omega (arith, ltb-false e (event_count p) h, same_events sh))),
  )
  refused_fault (Close j) h = go (has_event p j) refl
    where
      go : (b : Bool) → has_event p j ≡ b → (f : CallFault) × (call_fault s (Close j) ≡ some f)
      go false q = (Unknown, rw (coh, has_event-same j, q))
      go true q = (
        AlreadyClosed,
        rw (coh, has_event-same j, q, k.agrees.closed j (step_bound j q), not-false (was_closed o j) (rw q at h)),
      )
  refused_fault Finish h = (NotClosed, rw (coh, some_open 8 (omega arith) h))
  refused_fault (Advance n) h = (Backward, rw (coh, lt-ltb n s.minute (omega (arith, leb-false (minute_after o.calls) n h, k.agrees.minute))))

  -- an accepted call
  at_accept : (c : Call)
      → accepted p o c ≡ true
      → Step p (shows p o c (lines (accept s c).state)) s (accept s c).state
  unfolding accept accepted
  at_accept (Submit e) h = go (is_open (fate_of s e)) refl
    where
      lt : e < event_count p
      lt = ltb-true e (event_count p) h

      go : (b : Bool) → is_open (fate_of s e) ≡ b → Step p (shows p o (Submit e) (lines (submit s e))) s (submit s e)
      go true q = at_submit e lt q
      go false q = subst (λ t. Step p (shows p o (Submit e) (lines t)) s t) (sym (submit_same s e q)) (at_same e q)
  at_accept (Close j) h = at_close j (step_bound j (and_left (has_event p j) (not (was_closed o j)) h))
  at_accept Finish h = at_finish h
  at_accept (Advance n) h = at_move n

  -- any call
  pub step : (c : Call) → Step p (observe p o c (lines (call s c).state)) s (call s c).state
  step c = go (accepted p o c) refl
    where
      to : (t : State) (v : Observed)
          → (call s c).state ≡ t
          → observe p o c (lines t) ≡ v
          → Step p v s t
          → Step p (observe p o c (lines (call s c).state)) s (call s c).state
      to t v a b w = subst (λ x. Step p (observe p o c (lines x)) s x) (sym a) (subst (λ x. Step p x s t) (sym b) w)

      go : (b : Bool) → accepted p o c ≡ b → Step p (observe p o c (lines (call s c).state)) s (call s c).state
      go true h =
          to (accept s c).state (shows p o c (lines (accept s c).state))
          (ap (λ (y : Reply). y.state) (call_accept s c (accepted_fault c h)))
          (observe_yes p o c (lines (accept s c).state) h) (at_accept c h)
      go false h =
          let f = refused_fault c h in
          to s (only_history o (lines s)) (ap (λ (y : Reply). y.state) (call_fault_lem s c f.0 f.1))
          (observe_no p o c (lines s) h) (record { at = at_kept k; extends = ([], sym (append-nil (lines s))) })

  -- the answer is a refusal exactly where the call is not accepted
  pub answer_accepted : (c : Call) → is_turned_down (call s c).answer ≡ not (accepted p o c)
  answer_accepted c = go (accepted p o c) refl
    where
      go : (b : Bool) → accepted p o c ≡ b → is_turned_down (call s c).answer ≡ not (accepted p o c)
      go true h = call_taken s c (accepted_fault c h) ∙ sym (ap not h)
      go false h = let f = refused_fault c h in ap is_turned_down (fault_answer s c f.0 f.1) ∙ sym (ap not h)

-- a whole list
pub at_after : {p : Plan}
    → Sound p
    → (cs : List Call) {o : Observed} {s : State}
    → ListInvariant p o s
    → ListInvariant p (observe_all p o (seen scheduler s cs)) (after scheduler s cs)
unfolding observe_all seen after
at_after sd [] k = k
at_after sd (c ∷ cs) k = at_after sd cs (step sd k c).at

grows_after : {p : Plan}
    → Sound p
    → (cs : List Call) {o : Observed} {s : State}
    → ListInvariant p o s
    → Grows (lines s) (seen scheduler s cs)
unfolding seen
grows_after sd [] k = tt
grows_after sd (c ∷ cs) k = ((step sd k c).extends, grows_after sd cs (step sd k c).at)

one_short : (b : Bool) (x : Fate) → length (fate_if b x) ≤ 1
one_short true x = omega arith
one_short false x = omega arith

module _ {p : Plan} {o : Observed} {s : State} (sd : Sound p) (k : ListInvariant p o s) where
  bk : HistoryListed p s
  bk = k.invariant.listing

  unrecorded : (i : ℕ) → i < rule_count p → among i o.recorded ≡ false → broken_at s i ≡ false
  unrecorded i l m = k.agrees.recorded i (omega (arith, sd.few_rules)) ∙ m

  holding_all : (i : ℕ) → i < rule_count p → among i o.recorded ≡ false → holds o.history (rule_at p i) ≡ true
  holding_all i l m =
      ap (λ h. holds h (rule_at p i)) k.agrees.history ∙ rule_holds sd k.invariant i l (unrecorded i l m)

  kept_all : (i : ℕ) → i < rule_count p → unbreakable p (rule_at p i) ≡ true → broken p o i ≡ false
  unfolding broken
  kept_all i l u =
      let m : among i o.recorded ≡ false = elim (either (among i o.recorded)) [
        | inr z ↦ z
        | inl z ↦ absurd (clash u (k.strict.weak i l (k.agrees.recorded i (omega (arith, sd.few_rules)) ∙ z)))
      ] in
      or_both (among i o.recorded) (not (holds o.history (rule_at p i))) m (ap not (holding_all i l m))

  pub at_holds : Holds p o s
  at_holds = record {
    once = λ e. subst (λ f. length f ≤ 1) (sym (fates_observed bk k.beyond k.agrees e))
        (one_short (is_settled (fate_of s e)) (fate_of s e));
    kept = kept_all;
    holding = holding_all;
    waiting = λ e q h v. k.rest e q (sym (fate_observed bk k.beyond k.agrees e) ∙ h)
        (subst (λ t. Viable t e q) (sym (shown bk k.beyond k.agrees)) v);
    settled = λ w e l. ap is_settled (fate_observed bk k.beyond k.agrees e) ∙ k.finished w e l;
    shown = shown bk k.beyond k.agrees;
    coherent_end = invariant_coherent sd k.invariant;
  }

-- the invariant at first, and after any list, on an admitted sheet
pub at_begin : (bytes : List ℕ) (s : State) → read_sheet bytes ≡ admitted s → ListInvariant s.plan nothing_yet s
at_begin bytes s read =
    subst (ListInvariant s.plan nothing_yet) (sym (sheet_first bytes s read)) (at_first s.plan (sheet_sound bytes s read))

pub at_list : (bytes : List ℕ) (s : State) (cs : List Call)
    → read_sheet bytes ≡ admitted s
    → ListInvariant s.plan (observe_all s.plan nothing_yet (seen scheduler s cs)) (after scheduler s cs)
at_list bytes s cs read =
    let sd = sheet_sound bytes s read in
    at_after sd cs (subst (ListInvariant s.plan nothing_yet) (sym (sheet_first bytes s read)) (at_first s.plan sd))

-- demand 3
pub demand3 : Keeps scheduler
demand3 bytes s cs read =
    let sd = sheet_sound bytes s read in
    let f = sheet_first bytes s read in
    let k = subst (ListInvariant s.plan nothing_yet) (sym f) (at_first s.plan sd) in
    record {
      claim = at_holds sd (at_after sd cs k);
      grows = subst (λ h. Grows h (seen scheduler s cs)) (sym k.agrees.history) (grows_after sd cs k);
    }

-- in a list, the answer to a call is a refusal exactly where the call is not accepted
pub answers_accepted : (bytes : List ℕ) (s : State) (cs : List Call) (c : Call)
    → read_sheet bytes ≡ admitted s
    → is_turned_down (call (after scheduler s cs) c).answer
    ≡ not (accepted s.plan (observe_all s.plan nothing_yet (seen scheduler s cs)) c)
answers_accepted bytes s cs c read = answer_accepted (sheet_sound bytes s read) (at_list bytes s cs read) c

-- an admitted sheet's first state has arrays of their lengths, and passes number 12
pub admitted_sized : (bytes : List ℕ) (s : State) → read_sheet bytes ≡ admitted s → Sized s
admitted_sized bytes s read = subst Sized (sym (sheet_first bytes s read)) (first_sized s.plan)

pub admitted_coherent : (bytes : List ℕ) (s : State) → read_sheet bytes ≡ admitted s → coherent s ≡ true
unfolding after
admitted_coherent bytes s read = invariant_coherent (sheet_sound bytes s read) (at_list bytes s [] read).invariant

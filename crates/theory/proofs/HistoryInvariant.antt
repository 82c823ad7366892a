-- The history's part of the invariant: it lists exactly the settled events, and each settlement keeps it so.
use Prim.Native.Nat.{ℕ, suc, ◌+◌, ◌≤◌, ◌<◌}
use native.Mathlib.Omega.{arith}
use native.Mathlib.Decide.{ℕ_discrete}
use native.Mathlib.Numerals.{add-one}
use borrow.Author.Tests.{eq-eqb, ne_eqb, lt-ltb, ltb-true}
use mathlib.Core.Bool.{true, false}
use mathlib.Core.List.{List, [], ◌∷◌, ◌++◌, append-nil}
use mathlib.Core.Logic.{◌≢◌}
use mathlib.Core.Path.{◌≡◌, refl, sym, ◌∙◌, ap}
use lib.Dec.{eqb, ltb}
use lib.ListN.{get_or}
use Rattle.theory.proofs.Types.{Fate, Open, Held, Plan, Entry, State}
use Rattle.plan.specs.Base.{count_below}
use Rattle.plan.specs.Plans.{event_count}
use Rattle.scheduler.specs.State.{fate_of, line_count, lines, hold, settle_as, Sized}
use Rattle.plan.specs.Histories.{blank_entry, fate_if, fates_in, declared_only}
use Rattle.plan.specs.Fates.{is_settled}
use Rattle.plan.proofs.Tests.{and_left, and_right, count_le, count_same, count_more}
use Rattle.plan.proofs.Lines.{declared_append, fates_append}
use Rattle.scheduler.proofs.Laws.{plan_settle, fate_settle_same, fate_settle_other, sized_settle, len_settle, lines_settle, line_settle_other}
use Rattle.scheduler.proofs.Laws.{plan_hold, fate_hold_same, fate_hold_other, sized_hold, len_hold, lines_hold, history_hold}

-- a history of declared events names no other
pub unlisted : (h : List Entry) (n e : ℕ) → declared_only h n ≡ true → n ≤ e → fates_in h e ≡ []
unfolding declared_only fates_in
unlisted [] n e d ge = refl
unlisted (l ∷ h) n e d ge =
    let lt : l.event < n = ltb-true l.event n (and_left (ltb l.event n) (declared_only h n) d) in
    rw (ne_eqb l.event e (λ q. omega arith)) (unlisted h n e (and_right (ltb l.event n) (declared_only h n) d) ge)

-- the plan is p, and the arrays have their lengths
pub record Shape (p : Plan) (s : State) : Type 0 where
  pub same_plan : s.plan ≡ p
  pub sized : Sized s

pub same_events : {p : Plan} {s : State} → Shape p s → event_count s.plan ≡ event_count p
same_events h = ap event_count h.same_plan

pub shape_settle : {p : Plan} (x : Fate) (s : State) (e : ℕ) → Shape p s → Shape p (settle_as x s e)
shape_settle x s e h = record { same_plan = plan_settle x s e ∙ h.same_plan; sized = sized_settle x s e h.sized }

pub shape_hold : {p : Plan} (s : State) (e : ℕ) → Shape p s → Shape p (hold s e)
shape_hold s e h = record { same_plan = plan_hold s e ∙ h.same_plan; sized = sized_hold s e h.sized }

-- each settled event has one line, with its fate, and there are no other lines
pub record HistoryListed (p : Plan) (s : State) : Type 0 where
  pub shape : Shape p s
  pub few : event_count p ≤ 16
  pub tally : line_count s ≡ count_below (event_count p) (λ e. is_settled (fate_of s e))
  pub listed : (e : ℕ) → e < event_count p → fates_in (lines s) e ≡ fate_if (is_settled (fate_of s e)) (fate_of s e)
  pub only : declared_only (lines s) (event_count p) ≡ true

-- unused places are blank
pub record BlankBeyond (p : Plan) (s : State) : Type 0 where
  pub unused : (e : ℕ) → event_count p ≤ e → fate_of s e ≡ Open
  pub blank : (i : ℕ) → line_count s ≤ i → get_or s.history i blank_entry ≡ blank_entry

pub len_le : {p : Plan} {s : State} → HistoryListed p s → line_count s ≤ 16
len_le {p} {s} k = omega (arith, k.tally, count_le (event_count p) (λ e. is_settled (fate_of s e)), k.few)

-- an unsettled event is settled
module _ {p : Plan} {s : State} (x : Fate) (e : ℕ) (fin : is_settled x ≡ true) (k : HistoryListed p s)
    (lt : e < event_count p) (un : is_settled (fate_of s e) ≡ false) where
  pub fate_then : fate_of (settle_as x s e) e ≡ x
  fate_then = fate_settle_same x s e k.shape.sized (omega (arith, k.few))

  more : count_below (event_count p) (λ j. is_settled (fate_of (settle_as x s e) j))
      ≡ suc (count_below (event_count p) (λ j. is_settled (fate_of s j)))
  more =
      count_more (event_count p) (λ j. is_settled (fate_of s j)) (λ j. is_settled (fate_of (settle_as x s e) j)) e lt un
      (ap is_settled fate_then ∙ fin) (λ j ne. ap is_settled (sym (fate_settle_other x s e j ne)))

  room : line_count s < 16
  room = omega (arith, more, count_le (event_count p) (λ j. is_settled (fate_of (settle_as x s e) j)), k.tally, k.few)

  pub len_then : line_count (settle_as x s e) ≡ line_count s + 1
  len_then = len_settle x s e room

  pub lines_then : lines (settle_as x s e) ≡ lines s ++ (record { event = e; fate = x } ∷ [])
  lines_then = lines_settle x s e k.shape.sized room

  fates_then : (j : ℕ) → fates_in (lines (settle_as x s e)) j ≡ fates_in (lines s) j ++ fate_if (eqb e j) x
  fates_then j = ap (λ h. fates_in h j) lines_then ∙ fates_append (lines s) (record { event = e; fate = x }) j

  listed_same : fates_in (lines (settle_as x s e)) e
      ≡ fate_if (is_settled (fate_of (settle_as x s e) e)) (fate_of (settle_as x s e) e)
  listed_same = rw (fates_then e, k.listed e lt, un, eq-eqb e e refl, fate_then, fin)

  listed_other : (j : ℕ)
      → j < event_count p
      → j ≢ e
      → fates_in (lines (settle_as x s e)) j
      ≡ fate_if (is_settled (fate_of (settle_as x s e) j)) (fate_of (settle_as x s e) j)
  listed_other j l ne =
      rw (fates_then j, ne_eqb e j (λ r. ne (sym r)), append-nil, fate_settle_other x s e j ne) (k.listed j l)

  pub listing_settle : HistoryListed p (settle_as x s e)
  unfolding declared_only
  listing_settle = record {
    shape = shape_settle x s e k.shape;
    few = k.few;
    tally = len_then ∙ add-one (line_count s) ∙ ap suc k.tally ∙ sym more;
    listed = λ j l. elim (ℕ_discrete j e) [ yes r ↦ rw r listed_same | no ne ↦ listed_other j l ne ];
    only = rw lines_then (declared_append (lines s) (record { event = e; fate = x } ∷ []) (event_count p) ∙ rw (k.only, lt-ltb e (event_count p) lt));
  }

  pub beyond_settle : BlankBeyond p s → BlankBeyond p (settle_as x s e)
  beyond_settle t = record {
    unused = λ j ge. fate_settle_other x s e j (λ r. omega arith) ∙ t.unused j ge;
    blank = λ i ge. line_settle_other x s e i (λ r. omega (arith, len_then)) ∙ t.blank i (omega (arith, len_then));
  }

-- a state that reads the same as another, of its fates' being settled and of its history
pub record Alike (s t : State) : Type 0 where
  pub settled : (e : ℕ) → is_settled (fate_of t e) ≡ is_settled (fate_of s e)
  pub fates : (e : ℕ) → fate_if (is_settled (fate_of t e)) (fate_of t e) ≡ fate_if (is_settled (fate_of s e)) (fate_of s e)
  pub len : line_count t ≡ line_count s
  pub same_lines : lines t ≡ lines s

pub listing_alike : {p : Plan} {s t : State} → Shape p t → Alike s t → HistoryListed p s → HistoryListed p t
listing_alike {p} {s} {t} sh a k = record {
  shape = sh;
  few = k.few;
  tally = a.len
      ∙ k.tally
      ∙ sym (count_same (event_count p) _ _ (λ j l. a.settled j));
  listed = λ j l. ap (λ h. fates_in h j) a.same_lines ∙ k.listed j l ∙ sym (a.fates j);
  only = ap (λ h. declared_only h (event_count p)) a.same_lines ∙ k.only;
}

-- an open event is held
module _ {p : Plan} {s : State} (e : ℕ) (k : HistoryListed p s) (lt : e < event_count p) (op : fate_of s e ≡ Open) where
  pub fate_held : fate_of (hold s e) e ≡ Held
  fate_held = fate_hold_same s e k.shape.sized (omega (arith, k.few))

  -- what does not tell open from held reads the same
  pub as_held : {A : Type 0} (g : Fate → A) → g Held ≡ g Open → (j : ℕ) → g (fate_of (hold s e) j) ≡ g (fate_of s j)
  as_held g q j = elim (ℕ_discrete j e) [ yes r ↦ rw (r, fate_held, op) q | no ne ↦ ap g (fate_hold_other s e j ne) ]

  pub listing_hold : HistoryListed p (hold s e)
  listing_hold =
      listing_alike (shape_hold s e k.shape)
      (record {
        settled = as_held is_settled refl;
        fates = as_held (λ x. fate_if (is_settled x) x) refl;
        len = len_hold s e;
        same_lines = lines_hold s e;
      })
      k

  pub beyond_hold : BlankBeyond p s → BlankBeyond p (hold s e)
  beyond_hold t = record {
    unused = λ j ge. fate_hold_other s e j (λ r. omega arith) ∙ t.unused j ge;
    blank = λ i ge. ap (λ h. get_or h i blank_entry) (history_hold s e) ∙ t.blank i (omega (arith, len_hold s e));
  }

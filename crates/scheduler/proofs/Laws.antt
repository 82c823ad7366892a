-- What a state reads after each of the five writes. Everything above uses these laws and not the records' text.
use Prim.Native.Nat.{ℕ, ◌+◌, ◌≤◌, ◌<◌}
use native.Mathlib.Omega.{arith}
use native.Mathlib.Decide.{ℕ_discrete, dec_lt}
use native.Mathlib.Numerals.{add-one}
use borrow.Author.Tests.{lt-ltb}
use mathlib.Core.Bool.{true, false}
use mathlib.Core.List.{[], ◌∷◌, ◌++◌}
use mathlib.Core.Logic.{◌≢◌, ◌⊎◌, inl, inr}
use mathlib.Core.Path.{◌≡◌, refl, sym, ◌∙◌, ap}
use lib.ListN.{get_or}
use lib.Seq.{take-suc-set}
use Rattle.scheduler.specs.Prelude.{Fate, Open, Held, Standing, State}
use Rattle.plan.specs.Fates.{is_open, is_done, is_settled, blank_standing}
use Rattle.plan.specs.Histories.{blank_entry}
use Rattle.scheduler.specs.State.{fate_of, broken_at, closed_at, line_count, lines, hold, settle_as, shut, break_rule, set_minute, Sized}
use Rattle.plan.proofs.Fates.{as_done}
use Rattle.plan.proofs.Arrays.{read_past, read_other, get_other, length_store, read_same}
use Rattle.scheduler.specs.Orders.{fate_at_turn, do_one}

-- past an array's end stands the blank
pub fate_past : (s : State) (e : ℕ) → 16 ≤ e → fate_of s e ≡ Open
fate_past s e ge = ap (λ (v : Standing). v.fate) (read_past 16 s.standings e blank_standing ge)

-- an event is settled
module _ (x : Fate) (s : State) (e : ℕ) where
  pub plan_settle : (settle_as x s e).plan ≡ s.plan
  unfolding settle_as
  plan_settle = refl

  pub closed_settle : (k : ℕ) → closed_at (settle_as x s e) k ≡ closed_at s k
  unfolding settle_as
  closed_settle k = refl

  pub broken_settle : (i : ℕ) → broken_at (settle_as x s e) i ≡ broken_at s i
  unfolding settle_as
  broken_settle i = refl

  pub fate_settle_same : Sized s → e < 16 → fate_of (settle_as x s e) e ≡ x
  unfolding settle_as
  fate_settle_same z lt =
      ap
      (λ (v : Standing). v.fate)
      (read_same 16 s.standings e (record { fate = x }) blank_standing (omega (arith, z.standings_len)))

  pub fate_settle_other : (j : ℕ) → j ≢ e → fate_of (settle_as x s e) j ≡ fate_of s j
  unfolding settle_as
  fate_settle_other j ne =
      ap (λ (v : Standing). v.fate) (read_other 16 s.standings e (record { fate = x }) blank_standing j ne)

  pub sized_settle : Sized s → Sized (settle_as x s e)
  unfolding settle_as
  sized_settle z = record {
    standings_len = length_store 16 s.standings e (record { fate = x }) ∙ z.standings_len;
    broken_len = z.broken_len;
    closed_len = z.closed_len;
    history_len = length_store 16 s.history (line_count s) (record { event = e; fate = x }) ∙ z.history_len;
  }

  pub len_settle : line_count s < 16 → line_count (settle_as x s e) ≡ line_count s + 1
  unfolding settle_as
  len_settle lt = rw (lt-ltb (line_count s) 16 lt)

  pub line_settle_other : (i : ℕ)
      → i ≢ line_count s
      → get_or (settle_as x s e).history i blank_entry ≡ get_or s.history i blank_entry
  unfolding settle_as
  line_settle_other i ne = get_other 16 s.history (line_count s) (record { event = e; fate = x }) blank_entry i ne

  pub lines_settle : Sized s
      → line_count s < 16
      → lines (settle_as x s e) ≡ lines s ++ (record { event = e; fate = x } ∷ [])
  unfolding settle_as
  lines_settle z lt =
      rw (lt-ltb (line_count s) 16 lt, add-one) (take-suc-set s.history (line_count s) (record { event = e; fate = x }) (omega (arith, z.history_len)))

-- every event has its old fate or, if it is the one settled, may have the new one
pub fate_settle_either : (x : Fate) (s : State) (e j : ℕ)
    → Sized s
    → (fate_of (settle_as x s e) j ≡ x) ⊎ (fate_of (settle_as x s e) j ≡ fate_of s j)
fate_settle_either x s e j z = elim (ℕ_discrete j e) [
  | no ne ↦ inr (fate_settle_other x s e j ne)
  | yes q ↦ elim (dec_lt e 16) [ yes lt ↦ inl (rw q (fate_settle_same x s e z lt)) | no ge ↦ inr (fate_past (settle_as x s e) j (omega arith) ∙ sym (fate_past s j (omega arith))) ]
]

-- one event of an order is done: what those who run orders use
module _ (s : State) (c : ℕ) where
  pub turn_done : is_done (fate_at_turn s c) ≡ true
  turn_done = as_done is_done refl (is_open (fate_of s c))

  pub turn_settled : is_settled (fate_at_turn s c) ≡ true
  turn_settled = as_done is_settled refl (is_open (fate_of s c))

  pub plan_one : (do_one s c).plan ≡ s.plan
  plan_one = plan_settle (fate_at_turn s c) s c

  pub sized_one : Sized s → Sized (do_one s c)
  sized_one z = sized_settle (fate_at_turn s c) s c z

  pub one_settled : Sized s → c < 16 → is_settled (fate_of (do_one s c) c) ≡ true
  one_settled z lt = ap is_settled (fate_settle_same (fate_at_turn s c) s c z lt) ∙ turn_settled

  pub fate_one_other : (j : ℕ) → j ≢ c → fate_of (do_one s c) j ≡ fate_of s j
  fate_one_other j ne = fate_settle_other (fate_at_turn s c) s c j ne

  pub settled_one : (e : ℕ) → Sized s → is_settled (fate_of s e) ≡ true → is_settled (fate_of (do_one s c) e) ≡ true
  settled_one e z h = elim (fate_settle_either (fate_at_turn s c) s c e z) [
    | inl d ↦ ap is_settled d ∙ turn_settled
    | inr q ↦ ap is_settled q ∙ h
  ]

-- an event is held
module _ (s : State) (e : ℕ) where
  pub plan_hold : (hold s e).plan ≡ s.plan
  unfolding hold
  plan_hold = refl

  pub closed_hold : (k : ℕ) → closed_at (hold s e) k ≡ closed_at s k
  unfolding hold
  closed_hold k = refl

  pub broken_hold : (i : ℕ) → broken_at (hold s e) i ≡ broken_at s i
  unfolding hold
  broken_hold i = refl

  pub history_hold : (hold s e).history ≡ s.history
  unfolding hold
  history_hold = refl

  pub len_hold : line_count (hold s e) ≡ line_count s
  unfolding hold
  len_hold = refl

  pub lines_hold : lines (hold s e) ≡ lines s
  unfolding hold
  lines_hold = refl

  pub fate_hold_same : Sized s → e < 16 → fate_of (hold s e) e ≡ Held
  unfolding hold
  fate_hold_same z lt =
      ap
      (λ (v : Standing). v.fate)
      (read_same 16 s.standings e (record { fate = Held }) blank_standing (omega (arith, z.standings_len)))

  pub fate_hold_other : (j : ℕ) → j ≢ e → fate_of (hold s e) j ≡ fate_of s j
  unfolding hold
  fate_hold_other j ne =
      ap (λ (v : Standing). v.fate) (read_other 16 s.standings e (record { fate = Held }) blank_standing j ne)

  pub sized_hold : Sized s → Sized (hold s e)
  unfolding hold
  sized_hold z = record {
    standings_len = length_store 16 s.standings e (record { fate = Held }) ∙ z.standings_len;
    broken_len = z.broken_len;
    closed_len = z.closed_len;
    history_len = z.history_len;
  }

-- a step is closed
module _ (s : State) (k : ℕ) where
  pub plan_shut : (shut s k).plan ≡ s.plan
  unfolding shut
  plan_shut = refl

  pub fate_shut : (e : ℕ) → fate_of (shut s k) e ≡ fate_of s e
  unfolding shut
  fate_shut e = refl

  pub broken_shut : (i : ℕ) → broken_at (shut s k) i ≡ broken_at s i
  unfolding shut
  broken_shut i = refl

  pub history_shut : (shut s k).history ≡ s.history
  unfolding shut
  history_shut = refl

  pub len_shut : line_count (shut s k) ≡ line_count s
  unfolding shut
  len_shut = refl

  pub lines_shut : lines (shut s k) ≡ lines s
  unfolding shut
  lines_shut = refl

  pub closed_shut_same : Sized s → k < 8 → closed_at (shut s k) k ≡ true
  unfolding shut
  closed_shut_same z lt = read_same 8 s.closed k true false (omega (arith, z.closed_len))

  pub closed_shut_other : (j : ℕ) → j ≢ k → closed_at (shut s k) j ≡ closed_at s j
  unfolding shut
  closed_shut_other j ne = read_other 8 s.closed k true false j ne

  pub sized_shut : Sized s → Sized (shut s k)
  unfolding shut
  sized_shut z = record {
    standings_len = z.standings_len;
    broken_len = z.broken_len;
    closed_len = length_store 8 s.closed k true ∙ z.closed_len;
    history_len = z.history_len;
  }

-- the minute is moved
module _ (s : State) (m : ℕ) where
  pub plan_minute : (set_minute s m).plan ≡ s.plan
  unfolding set_minute
  plan_minute = refl

  pub fate_minute : (e : ℕ) → fate_of (set_minute s m) e ≡ fate_of s e
  unfolding set_minute
  fate_minute e = refl

  pub broken_minute : (i : ℕ) → broken_at (set_minute s m) i ≡ broken_at s i
  unfolding set_minute
  broken_minute i = refl

  pub closed_minute : (k : ℕ) → closed_at (set_minute s m) k ≡ closed_at s k
  unfolding set_minute
  closed_minute k = refl

  pub history_minute : (set_minute s m).history ≡ s.history
  unfolding set_minute
  history_minute = refl

  pub len_minute : line_count (set_minute s m) ≡ line_count s
  unfolding set_minute
  len_minute = refl

  pub lines_minute : lines (set_minute s m) ≡ lines s
  unfolding set_minute
  lines_minute = refl

  pub minute_moved : (set_minute s m).minute ≡ m
  unfolding set_minute
  minute_moved = refl

  pub sized_minute : Sized s → Sized (set_minute s m)
  unfolding set_minute
  sized_minute z = record { standings_len = z.standings_len; broken_len = z.broken_len; closed_len = z.closed_len; history_len = z.history_len }

-- the other writes leave it
pub minute_settle : (x : Fate) (s : State) (e : ℕ) → (settle_as x s e).minute ≡ s.minute
unfolding settle_as
minute_settle x s e = refl

pub minute_hold : (s : State) (e : ℕ) → (hold s e).minute ≡ s.minute
unfolding hold
minute_hold s e = refl

pub minute_shut : (s : State) (k : ℕ) → (shut s k).minute ≡ s.minute
unfolding shut
minute_shut s k = refl

pub minute_break : (s : State) (i : ℕ) → (break_rule s i).minute ≡ s.minute
unfolding break_rule
minute_break s i = refl

-- a rule is recorded as broken
module _ (s : State) (i : ℕ) where
  pub plan_break : (break_rule s i).plan ≡ s.plan
  unfolding break_rule
  plan_break = refl

  pub fate_break : (e : ℕ) → fate_of (break_rule s i) e ≡ fate_of s e
  unfolding break_rule
  fate_break e = refl

  pub closed_break : (k : ℕ) → closed_at (break_rule s i) k ≡ closed_at s k
  unfolding break_rule
  closed_break k = refl

  pub history_break : (break_rule s i).history ≡ s.history
  unfolding break_rule
  history_break = refl

  pub len_break : line_count (break_rule s i) ≡ line_count s
  unfolding break_rule
  len_break = refl

  pub lines_break : lines (break_rule s i) ≡ lines s
  unfolding break_rule
  lines_break = refl

  pub broken_break_same : Sized s → i < 16 → broken_at (break_rule s i) i ≡ true
  unfolding break_rule
  broken_break_same z lt = read_same 16 s.broken i true false (omega (arith, z.broken_len))

  pub broken_break_other : (j : ℕ) → j ≢ i → broken_at (break_rule s i) j ≡ broken_at s j
  unfolding break_rule
  broken_break_other j ne = read_other 16 s.broken i true false j ne

  pub sized_break : Sized s → Sized (break_rule s i)
  unfolding break_rule
  sized_break z = record {
    standings_len = z.standings_len;
    broken_len = length_store 16 s.broken i true ∙ z.broken_len;
    closed_len = z.closed_len;
    history_len = z.history_len;
  }

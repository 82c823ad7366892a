-- A state that agrees with what a story has shown is the state that shows it; and which rules a story records.
use Prim.Native.Nat.{ℕ, zero, suc, ◌+◌, ◌<◌}
use native.Mathlib.Omega.{arith}
use native.Mathlib.Decide.{ℕ_discrete, dec_lt}
use native.Mathlib.Nat.{add-zero, zero-add}
use borrow.Author.Tests.{eq-eqb, eqb-true, lt-ltb}
use mathlib.Core.Bool.{Bool, true, false, not, ◌&&◌, ◌||◌, or_assoc}
use mathlib.Core.List.{List, [], ◌∷◌, ◌++◌}
use mathlib.Core.Logic.{◌⊎◌, inl, inr}
use mathlib.Core.Path.{◌≡◌, refl, sym, ◌∙◌, ap}
use lib.Dec.{eqb}
use lib.ListN.{length, get_or, get_or-eq_default}
use lib.Seq.{ext_get_or, get_or-take, length-take-le, drop-append_seam}
use Rattle.theory.proofs.Types.{Plan, Standing, Entry, State}
use Rattle.plan.specs.Base.{read_at, among, those_below, tabulate}
use Rattle.plan.specs.Plans.{event_count}
use Rattle.scheduler.specs.State.{fate_of, broken_at, closed_at, line_count, lines, hold}
use Rattle.plan.specs.Fates.{blank_standing, is_open, is_settled}
use Rattle.plan.specs.Histories.{blank_entry, fate_if, fates_in}
use Rattle.scheduler.specs.Orders.{has_viable}
use Rattle.scheduler.specs.Demand.{Observed, was_submitted, was_closed, minute_after, waits_as, observed_fate, state_of, starts_done, done_alone}
use Rattle.plan.proofs.Tests.{clash, either, or_either}
use Rattle.theory.proofs.HistoryInvariant.{HistoryListed, BlankBeyond, len_le, unlisted}

-- lists made from a function
module _ {A : Type 0} where
  pub length_tabulate : (n i : ℕ) (g : ℕ → A) → length (tabulate n i g) ≡ n
  unfolding tabulate
  length_tabulate zero i g = refl
  length_tabulate (suc n) i g = ap suc (length_tabulate n (suc i) g)

  pub get_d_tabulate : (n i : ℕ) (g : ℕ → A) (k : ℕ) (d : A) → k < n → get_or (tabulate n i g) k d ≡ g (i + k)
  unfolding tabulate
  get_d_tabulate zero i g k d lt = absurd (omega arith)
  get_d_tabulate (suc n) i g zero d lt = ap g (sym (add-zero i))
  get_d_tabulate (suc n) i g (suc k) d lt = get_d_tabulate n (suc i) g k d (omega arith) ∙ ap g (omega arith)

  -- a list of n elements is the one made from its elements
  pub as_tabulate : (n : ℕ) (l : List A) (g : ℕ → A) (d : A)
      → length l ≡ n
      → ((k : ℕ) → k < n → get_or l k d ≡ g k)
      → l ≡ tabulate n 0 g
  as_tabulate n l g d e h =
      ext_get_or d l (tabulate n 0 g) (e ∙ sym (length_tabulate n 0 g))
      (λ k lt. h k (omega arith) ∙ sym (get_d_tabulate n 0 g k d (omega arith) ∙ ap g (zero-add k)))

  -- the same by readings of an array of n elements
  pub array_tabulate : (n : ℕ) (l : List A) (g : ℕ → A) (d : A)
      → length l ≡ n
      → ((k : ℕ) → k < n → read_at n l k d ≡ g k)
      → l ≡ tabulate n 0 g
  array_tabulate n l g d e h = as_tabulate n l g d e (λ k lt. sym (rw (lt-ltb k n lt)) ∙ h k lt)

-- what is observed agrees with a state
pub record Agrees (o : Observed) (s : State) : Type 0 where
  pub history : o.history ≡ lines s
  pub waits : (e : ℕ) → is_settled (fate_of s e) ≡ false → fate_of s e ≡ waits_as (was_submitted o e)
  pub closed : (k : ℕ) → k < 8 → closed_at s k ≡ was_closed o k
  pub recorded : (i : ℕ) → i < 16 → broken_at s i ≡ among i o.recorded
  pub minute : s.minute ≡ minute_after o.calls

module _ {p : Plan} {o : Observed} {s : State} (k : HistoryListed p s) (t : BlankBeyond p s) (a : Agrees o s) where
  listed_all : (e : ℕ) → fates_in (lines s) e ≡ fate_if (is_settled (fate_of s e)) (fate_of s e)
  listed_all e = elim (dec_lt e (event_count p)) [
    | yes lt ↦ k.listed e lt
    | no ge ↦
        unlisted (lines s) (event_count p) e k.only (omega arith)
        ∙ sym (ap (λ x. fate_if (is_settled x) x) (t.unused e (omega arith)))
  ]

  pub fates_observed : (e : ℕ) → fates_in o.history e ≡ fate_if (is_settled (fate_of s e)) (fate_of s e)
  fates_observed e = ap (λ h. fates_in h e) a.history ∙ listed_all e

  pub fate_observed : (e : ℕ) → observed_fate o e ≡ fate_of s e
  unfolding observed_fate
  fate_observed e = elim (either (is_settled (fate_of s e))) [
    | inl z ↦ rw (fates_observed e, z, observed_fate)
    | inr z ↦ rw (fates_observed e, z, observed_fate) (sym (a.waits e z))
  ]

  standing_shown : (e : ℕ)
      → ◌≡◌ {A = Standing} (read_at 16 s.standings e blank_standing) (record { fate = observed_fate o e })
  standing_shown e i = record { fate = sym (fate_observed e) i }

  len_lines : length (lines s) ≡ line_count s
  len_lines = length-take-le (line_count s) s.history (omega (arith, len_le k, k.shape.sized.history_len))

  line_shown : (j : ℕ) → get_or s.history j blank_entry ≡ get_or o.history j blank_entry
  line_shown j = elim (dec_lt j (line_count s)) [
    | yes lt ↦ sym (ap (λ h. get_or h j blank_entry) a.history ∙ get_or-take (line_count s) s.history j blank_entry lt)
    | no ge ↦
        t.blank j (omega arith)
        ∙ sym
        (ap (λ h. get_or h j blank_entry) a.history
        ∙ get_or-eq_default (lines s) blank_entry (omega (arith, len_lines)))
  ]

  -- the state is the one that shows what is observed
  pub shown : s ≡ state_of p o
  unfolding state_of
  shown i = record {
    plan = k.shape.same_plan i;
    standings = array_tabulate 16 s.standings (λ e. record { fate = observed_fate o e }) blank_standing
        k.shape.sized.standings_len (λ e lt. standing_shown e) i;
    broken = array_tabulate 16 s.broken (λ j. among j o.recorded) false k.shape.sized.broken_len
        a.recorded i;
    closed = array_tabulate 8 s.closed (was_closed o) false k.shape.sized.closed_len a.closed i;
    history = as_tabulate 16 s.history (λ j. get_or o.history j blank_entry) blank_entry
        k.shape.sized.history_len (λ j lt. line_shown j) i;
    history_len = (sym (ap length a.history ∙ len_lines)) i;
    minute = a.minute i;
  }

  -- the test for an event done alone, read off the state, where a history adds lines
  pub alone_new : (e : ℕ) (new : List Entry)
      → done_alone p o e (lines s ++ new) ≡ (is_open (fate_of s e) && starts_done new e && not (has_viable (hold s e) e))
  unfolding done_alone
  alone_new e new = rw (fate_observed e, ← shown, a.history, drop-append_seam (lines s) new)

-- two tests that imply each other are the same
pub same_test : (a b : Bool) → (a ≡ true → b ≡ true) → (b ≡ true → a ≡ true) → a ≡ b
same_test true b p q = sym (p refl)
same_test false true p q = q refl
same_test false false p q = refl

pub or_in : (a b : Bool) → (a ≡ true) ⊎ (b ≡ true) → (a || b) ≡ true
or_in true b h = refl
or_in false b (inl h) = absurd (clash h refl)
or_in false b (inr h) = h

pub among_append : (x : ℕ) (xs ys : List ℕ) → among x (xs ++ ys) ≡ (among x xs || among x ys)
unfolding among
among_append x [] ys = refl
among_append x (y ∷ xs) ys = rw (among_append x xs ys) (sym (or_assoc (eqb x y) (among x xs) (among x ys)))

-- the numbers that pass a test
those_yes : (n : ℕ) (p : ℕ → Bool) → p n ≡ true → those_below (suc n) p ≡ n ∷ those_below n p
unfolding those_below
those_yes n p h = rw (h, those_below)

those_no : (n : ℕ) (p : ℕ → Bool) → p n ≡ false → those_below (suc n) p ≡ those_below n p
unfolding those_below
those_no n p h = rw (h, those_below)

pub those_in : (n : ℕ) (p : ℕ → Bool) (i : ℕ) → i < n → p i ≡ true → among i (those_below n p) ≡ true
unfolding among
those_in zero p i lt h = absurd (omega arith)
those_in (suc n) p i lt h = elim (ℕ_discrete i n) [
  | yes r ↦ rw (those_yes n p (rw r at h), eq-eqb i n r)
  | no ne ↦ elim (either (p n)) [
    | inl z ↦ rw (those_yes n p z) (or_in (eqb i n) (among i (those_below n p)) (inr (those_in n p i (omega arith) h)))
    | inr z ↦ rw (those_no n p z) (those_in n p i (omega arith) h)
  ]
]

pub those_only : (n : ℕ) (p : ℕ → Bool) (i : ℕ) → among i (those_below n p) ≡ true → (i < n) × (p i ≡ true)
unfolding among those_below
those_only zero p i h = absurd (clash h refl)
those_only (suc n) p i h = elim (either (p n)) [
  | inr z ↦ let r = those_only n p i (rw (those_no n p z) at h) in (omega (arith, r.0), r.1)
  | inl z ↦ elim (or_either (eqb i n) (among i (those_below n p)) (rw (those_yes n p z) at h)) [
    | inl q ↦ (omega (arith, eqb-true i n q), rw (eqb-true i n q) z)
    | inr q ↦ let r = those_only n p i q in (omega (arith, r.0), r.1)
  ]
]

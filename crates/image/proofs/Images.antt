-- The theorems on images: exactly the 384 bytes that a state is written with are images, and an image and its state
-- say each other.
use Prim.Native.Nat.{ℕ, ◌+◌, ◌-◌, ◌*◌, ◌/◌, ◌%◌, ◌<◌}
use native.Mathlib.Omega.{arith}
use borrow.Author.Tests.{eqb-true, ltb-true, ltb-false}
use mathlib.Core.Bool.{Bool, true, false, ◌&&◌, ◌||◌}
use mathlib.Core.List.{List}
use mathlib.Core.Logic.{inl, inr}
use mathlib.Core.Path.{◌≡◌, refl, sym, ◌∙◌, ap, subst}
use lib.Dec.{eqb, ltb}
use lib.ListN.{length}
use Rattle.image.specs.Types.{Fate, Event, Rule, RuleLine, Window, Standing, Entry, State}
use Rattle.plan.specs.Base.{one_if, all_below, tabulate, read_at}
use Rattle.plan.specs.Fates.{fate_number, blank_standing}
use Rattle.plan.specs.Plans.{event_at, rule_at, window_at, blank_event, blank_rule, blank_window}
use Rattle.plan.specs.Records.{rule_of}
use Rattle.plan.specs.Histories.{blank_entry}
use Rattle.plan.proofs.Tests.{either, and_left, and_right, all_at, all_of}
use Rattle.scheduler.specs.State.{fate_of, broken_at, closed_at}
use Rattle.theory.proofs.Conjunctions.{and_three, and_four}
use Rattle.theory.proofs.Observation.{length_tabulate, array_tabulate}
use Rattle.image.specs.Layout.{kind_at, a_at, b_at, c_at, fate_at, mark_at, shut_at, line_fate_at, minute_at, from_at, until_at, spare_at, rule_kind, rule_a, rule_b, rule_c, place_of, word_byte, row_byte, image_of, byte_at, fate_from, event_in, record_in, rule_in, standing_in, entry_in, window_in, plan_in, state_in, place_ok, is_byte, word_ok, is_image, Whole}
use Rattle.image.proofs.Rows.{read_tabulate}
use Rattle.image.proofs.Numbers.{fate_back, fate_low, number_back, mark_back, mark_low, one_back, record_of, rule_back, rule_passes, RuleBytes, rule_bytes}
use Rattle.image.proofs.Words.{word_said, row_said, Low, word_shown, row_shown, word_low}
use Rattle.image.proofs.Bytes.{Shows, shows_image, image_shows}

-- the parts of a conjunction of six tests
pub and_six : (a b c d e f : Bool)
    → (a && b && c && d && e && f) ≡ true
    → (a ≡ true) × (b ≡ true) × (c ≡ true) × (d ≡ true) × (e ≡ true) × (f ≡ true)
and_six a b c d e f h =
    let q = and_three (a && b && c && d) e f h in
    let p = and_four a b c d q.0 in
    (p.0, p.1, p.2, p.3, q.1, q.2)

-- an array is the one made from what is read of it
array_said : {A : Type 0} (n : ℕ) (l : List A) (g : ℕ → A) (d : A)
    → length l ≡ n
    → ((k : ℕ) → k < n → g k ≡ read_at n l k d)
    → tabulate n 0 g ≡ l
array_said n l g d e h = sym (array_tabulate n l g d e (λ k lt. sym (h k lt)))

-- bytes that show a state are an image
module _ (s : State) (b : List ℕ) (h : Shows s b) where
  place_passes : (i : ℕ) → i < 16 → place_ok b i ≡ true
  unfolding place_ok
  place_passes i lt =
      rw (h.plan.kind i lt, h.plan.third i lt, h.calls.fate i lt, h.calls.mark i lt, h.calls.line_fate i lt)
      (rw (rule_passes (rule_at s.plan i), fate_low (fate_of s i), mark_low (broken_at s i), fate_low (place_of s i).fate))

  shut_passes : (k : ℕ) → k < 8 → ltb (byte_at b (shut_at + k)) 2 ≡ true
  shut_passes k lt = rw (h.calls.shut k lt) (mark_low (closed_at s k))

  spare_passes : (k : ℕ) → k < 80 → eqb (byte_at b (spare_at + k)) 0 ≡ true
  spare_passes k lt = rw (h.plan.spare k lt)

  -- the lower three of the four from a place on, where they show a number
  low_passes : (at m : ℕ) → ((k : ℕ) → k < 4 → byte_at b (at + k) ≡ word_byte m k) → Low b at
  low_passes at m w =
      let there : at + 0 ≡ at = omega arith in
      (rw (sym (ap (byte_at b) there) ∙ w 0 (omega arith)) (word_low m).0, rw (w 1 (omega arith)) (word_low m).1, rw (w 2 (omega arith)) (word_low m).2)

  row_passes : (at : ℕ) (f : ℕ → ℕ) → ((i : ℕ) → i < 64 → byte_at b (at + i) ≡ row_byte f i) → (e : ℕ) → e < 16 → Low b (at + 4 * e)
  row_passes at f w e lt = low_passes (at + 4 * e) (f e) byte
    where
      byte : (k : ℕ) → k < 4 → byte_at b (at + 4 * e + k) ≡ word_byte (f e) k
      byte k lk =
          let there : at + 4 * e + k ≡ at + (4 * e + k) = omega arith in
          let q : (4 * e + k) / 4 ≡ e = omega arith in
          let r : (4 * e + k) % 4 ≡ k = omega arith in
          ap (byte_at b) there ∙ w (4 * e + k) (omega arith) ∙ (λ i. word_byte (f (q i)) (r i))

  lows : (e : ℕ) → e < 33 → Low b (minute_at + 4 * e)
  lows e lt = elim (either (ltb e 1)) [
    | inl x ↦
        let here : minute_at ≡ minute_at + 4 * e = omega (arith, ltb-true e 1 x) in
        subst (Low b) here (low_passes minute_at s.minute h.calls.minute)
    | inr x ↦ elim (either (ltb e 17)) [
      | inl y ↦
          let here : from_at + 4 * (e - 1) ≡ minute_at + 4 * e = omega (arith, ltb-false e 1 x) in
          subst (Low b) here (row_passes from_at (λ k. (window_at s.plan k).from) h.plan.from (e - 1) (omega (arith, ltb-true e 17 y)))
      | inr y ↦
          let here : until_at + 4 * (e - 17) ≡ minute_at + 4 * e = omega (arith, ltb-false e 17 y) in
          subst (Low b) here (row_passes until_at (λ k. (window_at s.plan k).until) h.plan.until (e - 17) (omega arith))
    ]
  ]

  word_passes : (e : ℕ) → e < 33 → word_ok b e ≡ true
  unfolding word_ok
  word_passes e lt = let w = lows e lt in rw (w.0, w.1, w.2)

  pub shows_is : is_image b ≡ true
  unfolding is_image
  shows_is =
      rw (h.plan.version, all_of 16 (place_ok b) place_passes, all_of 8 (λ k. ltb (byte_at b (shut_at + k)) 2) shut_passes)
      (rw (all_of 80 (λ k. eqb (byte_at b (spare_at + k)) 0) spare_passes) (all_of 33 (word_ok b) word_passes))

-- the state that they say is the one that they show
module _ (s : State) (b : List ℕ) (h : Shows s b) (w : Whole s) where
  event_said : (k : ℕ) → k < 16 → event_in b k ≡ event_at s.plan k
  event_said k lt i = record { step = h.plan.step k lt i; attributes = h.plan.attributes k lt i }

  record_said : (k : ℕ) → k < 16 → record_in b k ≡ record_of (rule_at s.plan k)
  record_said k lt i = record { kind = h.plan.kind k lt i; x = h.plan.first k lt i; y = h.plan.second k lt i; z = h.plan.third k lt i; from = 0; until = 0 }

  rule_said : (k : ℕ) → k < 16 → rule_in b k ≡ read_at 16 s.plan.rules k blank_rule
  rule_said k lt = ap {B = RuleLine} (λ (x : Rule). record { rule = x }) (ap rule_of (record_said k lt) ∙ rule_back (rule_at s.plan k))

  standing_said : (k : ℕ) → k < 16 → standing_in b k ≡ read_at 16 s.standings k blank_standing
  standing_said k lt = ap {B = Standing} (λ (x : Fate). record { fate = x }) (ap fate_from (h.calls.fate k lt) ∙ fate_back (fate_of s k))

  entry_said : (k : ℕ) → k < 16 → entry_in b k ≡ place_of s k
  entry_said k lt i = record { event = h.calls.line_event k lt i; fate = (ap fate_from (h.calls.line_fate k lt) ∙ fate_back (place_of s k).fate) i }

  mark_said : (k : ℕ) → k < 16 → eqb (byte_at b (mark_at + k)) 1 ≡ broken_at s k
  mark_said k lt = rw (h.calls.mark k lt) (mark_back (broken_at s k))

  shut_said : (k : ℕ) → k < 8 → eqb (byte_at b (shut_at + k)) 1 ≡ closed_at s k
  shut_said k lt = rw (h.calls.shut k lt) (mark_back (closed_at s k))

  window_said : (k : ℕ) → k < 16 → window_in b k ≡ window_at s.plan k
  window_said k lt i = record {
    from = row_said b from_at 16 (λ e. (window_at s.plan e).from) h.plan.from k lt i;
    until = row_said b until_at 16 (λ e. (window_at s.plan e).until) h.plan.until k lt i;
  }

  plan_said : plan_in b ≡ s.plan
  unfolding plan_in
  plan_said i = record {
    events = array_said 16 s.plan.events (event_in b) blank_event w.events_len event_said i;
    event_count = h.plan.events i;
    rules = array_said 16 s.plan.rules (rule_in b) blank_rule w.rules_len rule_said i;
    rule_count = h.plan.rules i;
    windows = array_said 16 s.plan.windows (window_in b) blank_window w.windows_len window_said i;
  }

  pub shows_said : state_in b ≡ s
  unfolding state_in
  shows_said i = record {
    plan = plan_said i;
    standings = array_said 16 s.standings (standing_in b) blank_standing w.sized.standings_len standing_said i;
    broken = array_said 16 s.broken (λ k. eqb (byte_at b (mark_at + k)) 1) false w.sized.broken_len mark_said i;
    closed = array_said 8 s.closed (λ k. eqb (byte_at b (shut_at + k)) 1) false w.sized.closed_len shut_said i;
    history = array_said 16 s.history (entry_in b) blank_entry w.sized.history_len entry_said i;
    history_len = h.calls.lines i;
    minute = word_said b minute_at s.minute h.calls.minute i;
  }

-- bytes that are an image show the state that they say
module _ (b : List ℕ) (h : is_image b ≡ true) where
  tests : (eqb (byte_at b 0) 1 ≡ true)
      × (all_below 16 (place_ok b) ≡ true)
      × (all_below 8 (λ k. ltb (byte_at b (shut_at + k)) 2) ≡ true)
      × (all_below 80 (λ k. eqb (byte_at b (spare_at + k)) 0) ≡ true)
  unfolding is_image
  tests = and_four (eqb (byte_at b 0) 1) (all_below 16 (place_ok b)) (all_below 8 (λ k. ltb (byte_at b (shut_at + k)) 2)) (all_below 80 (λ k. eqb (byte_at b (spare_at + k)) 0)) (and_left (eqb (byte_at b 0) 1 && all_below 16 (place_ok b) && all_below 8 (λ k. ltb (byte_at b (shut_at + k)) 2) && all_below 80 (λ k. eqb (byte_at b (spare_at + k)) 0)) (all_below 33 (word_ok b)) h)

  words : all_below 33 (word_ok b) ≡ true
  unfolding is_image
  words = and_right (eqb (byte_at b 0) 1 && all_below 16 (place_ok b) && all_below 8 (λ k. ltb (byte_at b (shut_at + k)) 2) && all_below 80 (λ k. eqb (byte_at b (spare_at + k)) 0)) (all_below 33 (word_ok b)) h

  low_at : (at e : ℕ) → e < 33 → minute_at + 4 * e ≡ at → Low b at
  unfolding word_ok
  low_at at e lt q =
      let m = minute_at + 4 * e in
      subst (Low b) q (and_three (is_byte (byte_at b m)) (is_byte (byte_at b (m + 1))) (is_byte (byte_at b (m + 2))) (all_at 33 (word_ok b) words e lt))

  window_shown : (e : ℕ) → e < 16 → window_in b e ≡ window_at (state_in b).plan e
  unfolding state_in plan_in
  window_shown e lt = sym (read_tabulate 16 e blank_window lt (window_in b))

  module _ (i : ℕ) (lt : i < 16) where
    place_tests : (ltb 1 (byte_at b (kind_at + i)) ≡ true)
        × (ltb (byte_at b (kind_at + i)) 5 ≡ true)
        × ((eqb (byte_at b (kind_at + i)) 4 || eqb (byte_at b (c_at + i)) 0) ≡ true)
        × (ltb (byte_at b (fate_at + i)) 6 ≡ true)
        × (ltb (byte_at b (mark_at + i)) 2 ≡ true)
        × (ltb (byte_at b (line_fate_at + i)) 6 ≡ true)
    unfolding place_ok
    place_tests = and_six
        (ltb 1 (byte_at b (kind_at + i)))
        (ltb (byte_at b (kind_at + i)) 5)
        (eqb (byte_at b (kind_at + i)) 4 || eqb (byte_at b (c_at + i)) 0)
        (ltb (byte_at b (fate_at + i)) 6)
        (ltb (byte_at b (mark_at + i)) 2)
        (ltb (byte_at b (line_fate_at + i)) 6)
        (all_at 16 (place_ok b) tests.1 i lt)

    said : RuleBytes (record_in b i)
    said = rule_bytes (byte_at b (kind_at + i)) (byte_at b (a_at + i)) (byte_at b (b_at + i)) (byte_at b (c_at + i)) place_tests.0 place_tests.1 place_tests.2

    event_shown : event_in b i ≡ event_at (state_in b).plan i
    unfolding state_in plan_in
    event_shown = sym (read_tabulate 16 i blank_event lt (event_in b))

    rule_shown : rule_of (record_in b i) ≡ rule_at (state_in b).plan i
    unfolding state_in plan_in
    rule_shown = ap (λ (v : RuleLine). v.rule) (sym (read_tabulate 16 i blank_rule lt (rule_in b)))

    fate_shown : fate_from (byte_at b (fate_at + i)) ≡ fate_of (state_in b) i
    unfolding state_in
    fate_shown = ap (λ (v : Standing). v.fate) (sym (read_tabulate 16 i blank_standing lt (standing_in b)))

    mark_shown : eqb (byte_at b (mark_at + i)) 1 ≡ broken_at (state_in b) i
    unfolding state_in
    mark_shown = sym (read_tabulate 16 i false lt (λ k. eqb (byte_at b (mark_at + k)) 1))

    entry_shown : entry_in b i ≡ place_of (state_in b) i
    unfolding state_in
    entry_shown = sym (read_tabulate 16 i blank_entry lt (entry_in b))

  shut_shown : (k : ℕ) → k < 8 → eqb (byte_at b (shut_at + k)) 1 ≡ closed_at (state_in b) k
  unfolding state_in
  shut_shown k lt = sym (read_tabulate 8 k false lt (λ k. eqb (byte_at b (shut_at + k)) 1))

  pub said_shows : Shows (state_in b) b
  unfolding state_in plan_in
  said_shows = record {
    plan = record {
      version = eqb-true (byte_at b 0) 1 tests.0;
      events = refl;
      rules = refl;
      step = λ i lt. ap (λ (v : Event). v.step) (event_shown i lt);
      attributes = λ i lt. ap (λ (v : Event). v.attributes) (event_shown i lt);
      kind = λ i lt. sym (said i lt).kind_is ∙ ap rule_kind (rule_shown i lt);
      first = λ i lt. sym (said i lt).a_is ∙ ap rule_a (rule_shown i lt);
      second = λ i lt. sym (said i lt).b_is ∙ ap rule_b (rule_shown i lt);
      third = λ i lt. sym (said i lt).c_is ∙ ap rule_c (rule_shown i lt);
      from = λ i lt. row_shown b from_at 16 (λ e le. low_at (from_at + 4 * e) (1 + e) (omega arith) (omega arith)) i lt ∙ ap (λ (v : Window). word_byte v.from (i % 4)) (window_shown (i / 4) (omega arith));
      until = λ i lt. row_shown b until_at 16 (λ e le. low_at (until_at + 4 * e) (17 + e) (omega arith) (omega arith)) i lt ∙ ap (λ (v : Window). word_byte v.until (i % 4)) (window_shown (i / 4) (omega arith));
      spare = λ i lt. eqb-true (byte_at b (spare_at + i)) 0 (all_at 80 (λ k. eqb (byte_at b (spare_at + k)) 0) tests.3 i lt);
    };
    calls = record {
      lines = refl;
      fate = λ i lt. sym (number_back (byte_at b (fate_at + i)) (place_tests i lt).3) ∙ ap fate_number (fate_shown i lt);
      mark = λ i lt. sym (one_back (byte_at b (mark_at + i)) (place_tests i lt).4) ∙ ap one_if (mark_shown i lt);
      shut = λ k lt. sym (one_back (byte_at b (shut_at + k)) (all_at 8 (λ k. ltb (byte_at b (shut_at + k)) 2) tests.2 k lt)) ∙ ap one_if (shut_shown k lt);
      line_event = λ i lt. ap (λ (v : Entry). v.event) (entry_shown i lt);
      line_fate = λ i lt. sym (number_back (byte_at b (line_fate_at + i)) (place_tests i lt).5) ∙ ap (λ (v : Entry). fate_number v.fate) (entry_shown i lt);
      minute = word_shown b minute_at (low_at minute_at 0 (omega arith) refl);
    };
  }

-- the state that bytes say has arrays of their lengths
pub said_whole : (b : List ℕ) → Whole (state_in b)
unfolding state_in plan_in
said_whole b = record {
  sized = record {
    standings_len = length_tabulate 16 0 (standing_in b);
    broken_len = length_tabulate 16 0 (λ k. eqb (byte_at b (mark_at + k)) 1);
    closed_len = length_tabulate 8 0 (λ k. eqb (byte_at b (shut_at + k)) 1);
    history_len = length_tabulate 16 0 (entry_in b);
  };
  events_len = length_tabulate 16 0 (event_in b);
  rules_len = length_tabulate 16 0 (rule_in b);
  windows_len = length_tabulate 16 0 (window_in b);
}

-- a state's bytes are an image
pub image_is : (s : State) → is_image (image_of s) ≡ true
image_is s = shows_is s (image_of s) (image_shows s)

-- they say the state
pub read_back : (s : State) → Whole s → state_in (image_of s) ≡ s
read_back s w = shows_said s (image_of s) (image_shows s) w

-- an image is the bytes of the state that it says: exactly the bytes that a state is written with are images
pub write_back : (b : List ℕ) → length b ≡ 384 → is_image b ≡ true → image_of (state_in b) ≡ b
write_back b z h = sym (shows_image (state_in b) b z (said_shows b h))

-- two states with the same bytes are the same
pub image_same : (s t : State) → Whole s → Whole t → image_of s ≡ image_of t → s ≡ t
image_same s t v w e = sym (read_back s v) ∙ ap state_in e ∙ read_back t w

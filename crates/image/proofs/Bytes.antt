-- Bytes that show a state, place by place: they are its image.
use Prim.Native.Nat.{ℕ, ◌+◌, ◌/◌, ◌%◌, ◌≤◌, ◌<◌}
use native.Mathlib.Omega.{arith}
use mathlib.Core.Bool.{false}
use mathlib.Core.List.{List}
use mathlib.Core.Path.{◌≡◌, refl, sym, ◌∙◌, ap, subst}
use lib.ListN.{length, get_or, replicate, length-replicate, get_or-replicate}
use Rattle.image.specs.Types.{Event, RuleLine, Window, Standing, Entry, Plan, State}
use Rattle.plan.specs.Base.{one_if, tabulate, read_at}
use Rattle.plan.specs.Fates.{fate_number, blank_standing}
use Rattle.plan.specs.Plans.{event_count, rule_count, step_of, attributes_of, rule_at, window_at, blank_event, blank_rule, blank_window}
use Rattle.plan.specs.Histories.{blank_entry}
use Rattle.scheduler.specs.State.{fate_of, broken_at, closed_at, line_count}
use Rattle.image.specs.Layout.{step_at, attributes_at, kind_at, a_at, b_at, c_at, fate_at, mark_at, shut_at, line_event_at, line_fate_at, minute_at, from_at, until_at, spare_at, rule_kind, rule_a, rule_b, rule_c, place_of, word_byte, row_byte, image_of, byte_at}
use Rattle.image.specs.Internal.Writes.{written, plan_rows, call_rows, with_plan, with_call}
use Rattle.image.proofs.Rows.{read_get, length_written, row_of, written_apart, written_row, split_off, split_last}

-- what the bytes show of a plan
pub record ShowsPlan (p : Plan) (b : List ℕ) : Type 0 where
  pub version : byte_at b 0 ≡ 1
  pub events : byte_at b 1 ≡ event_count p
  pub rules : byte_at b 2 ≡ rule_count p
  pub step : (i : ℕ) → i < 16 → byte_at b (step_at + i) ≡ step_of p i
  pub attributes : (i : ℕ) → i < 16 → byte_at b (attributes_at + i) ≡ attributes_of p i
  pub kind : (i : ℕ) → i < 16 → byte_at b (kind_at + i) ≡ rule_kind (rule_at p i)
  pub first : (i : ℕ) → i < 16 → byte_at b (a_at + i) ≡ rule_a (rule_at p i)
  pub second : (i : ℕ) → i < 16 → byte_at b (b_at + i) ≡ rule_b (rule_at p i)
  pub third : (i : ℕ) → i < 16 → byte_at b (c_at + i) ≡ rule_c (rule_at p i)
  pub from : (i : ℕ) → i < 64 → byte_at b (from_at + i) ≡ row_byte (λ e. (window_at p e).from) i
  pub until : (i : ℕ) → i < 64 → byte_at b (until_at + i) ≡ row_byte (λ e. (window_at p e).until) i
  pub spare : (i : ℕ) → i < 80 → byte_at b (spare_at + i) ≡ 0

-- and of what calls have changed
pub record ShowsCalls (s : State) (b : List ℕ) : Type 0 where
  pub lines : byte_at b 3 ≡ line_count s
  pub fate : (i : ℕ) → i < 16 → byte_at b (fate_at + i) ≡ fate_number (fate_of s i)
  pub mark : (i : ℕ) → i < 16 → byte_at b (mark_at + i) ≡ one_if (broken_at s i)
  pub shut : (k : ℕ) → k < 8 → byte_at b (shut_at + k) ≡ one_if (closed_at s k)
  pub line_event : (i : ℕ) → i < 16 → byte_at b (line_event_at + i) ≡ (place_of s i).event
  pub line_fate : (i : ℕ) → i < 16 → byte_at b (line_fate_at + i) ≡ fate_number (place_of s i).fate
  pub minute : (k : ℕ) → k < 4 → byte_at b (minute_at + k) ≡ word_byte s.minute k

pub record Shows (s : State) (b : List ℕ) : Type 0 where
  pub plan : ShowsPlan s.plan b
  pub calls : ShowsCalls s b

-- bytes that show a state are its image: row after row is split off
module _ (s : State) (b : List ℕ) (z : length b ≡ 384) (h : Shows s b) where
  low : (k : ℕ) (x : ℕ) → byte_at b k ≡ x → (i : ℕ) → i < 1 → byte_at b (k + i) ≡ x
  low k x e i lt =
      let none : k + i ≡ k = omega arith in
      ap (byte_at b) none ∙ e

  pub shows_image : b ≡ image_of s
  unfolding image_of tabulate
  shows_image =
      split_off 0 1 (λ _. 1) b _ (omega (arith, z)) (low 0 1 h.plan.version)
      (split_off 1 1 (λ _. event_count s.plan) b _ (omega (arith, z)) (low 1 _ h.plan.events)
      (split_off 2 1 (λ _. rule_count s.plan) b _ (omega (arith, z)) (low 2 _ h.plan.rules)
      (split_off 3 1 (λ _. line_count s) b _ (omega (arith, z)) (low 3 _ h.calls.lines)
      (split_off step_at 16 _ b _ (omega (arith, z)) h.plan.step
      (split_off attributes_at 16 _ b _ (omega (arith, z)) h.plan.attributes
      (split_off kind_at 16 _ b _ (omega (arith, z)) h.plan.kind
      (split_off a_at 16 _ b _ (omega (arith, z)) h.plan.first
      (split_off b_at 16 _ b _ (omega (arith, z)) h.plan.second
      (split_off c_at 16 _ b _ (omega (arith, z)) h.plan.third
      (split_off fate_at 16 _ b _ (omega (arith, z)) h.calls.fate
      (split_off mark_at 16 _ b _ (omega (arith, z)) h.calls.mark
      (split_off shut_at 8 _ b _ (omega (arith, z)) h.calls.shut
      (split_off line_event_at 16 _ b _ (omega (arith, z)) h.calls.line_event
      (split_off line_fate_at 16 _ b _ (omega (arith, z)) h.calls.line_fate
      (split_off minute_at 4 _ b _ (omega (arith, z)) h.calls.minute
      (split_off from_at 64 _ b _ (omega (arith, z)) h.plan.from
      (split_off until_at 64 _ b _ (omega (arith, z)) h.plan.until
      (split_last spare_at 80 b z h.plan.spare))))))))))))))))))

-- the rows of a plan, written over bytes whose spare bytes are zero
module _ (p : Plan) (b : List ℕ) (z : length b ≡ 384) where
  row : (j i : ℕ) → j < 11 → i < (row_of (plan_rows p) j).len → byte_at (written (plan_rows p) b) ((row_of (plan_rows p) j).at + i) ≡ (row_of (plan_rows p) j).byte i
  row j i lt w = written_row (plan_rows p) j b 384 i z refl lt w

  event : (i : ℕ) → i < 16 → get_or p.events i blank_event ≡ read_at 16 p.events i blank_event
  event i lt = sym (read_get 16 i blank_event lt p.events)

  rule : (i : ℕ) → i < 16 → get_or p.rules i blank_rule ≡ read_at 16 p.rules i blank_rule
  rule i lt = sym (read_get 16 i blank_rule lt p.rules)

  window : (i : ℕ) → i < 64 → get_or p.windows (i / 4) blank_window ≡ window_at p (i / 4)
  window i lt = sym (read_get 16 (i / 4) blank_window (omega arith) p.windows)

  pub plan_shown : ((i : ℕ) → i < 80 → byte_at b (spare_at + i) ≡ 0) → ShowsPlan p (with_plan p b)
  unfolding with_plan
  plan_shown blank = record {
    version = row 0 0 (omega arith) (omega arith);
    events = row 1 0 (omega arith) (omega arith);
    rules = row 2 0 (omega arith) (omega arith);
    step = λ i lt. row 3 i (omega arith) lt ∙ ap (λ (v : Event). v.step) (event i lt);
    attributes = λ i lt. row 4 i (omega arith) lt ∙ ap (λ (v : Event). v.attributes) (event i lt);
    kind = λ i lt. row 5 i (omega arith) lt ∙ ap (λ (v : RuleLine). rule_kind v.rule) (rule i lt);
    first = λ i lt. row 6 i (omega arith) lt ∙ ap (λ (v : RuleLine). rule_a v.rule) (rule i lt);
    second = λ i lt. row 7 i (omega arith) lt ∙ ap (λ (v : RuleLine). rule_b v.rule) (rule i lt);
    third = λ i lt. row 8 i (omega arith) lt ∙ ap (λ (v : RuleLine). rule_c v.rule) (rule i lt);
    from = λ i lt. row 9 i (omega arith) lt ∙ ap (λ (v : Window). word_byte v.from (i % 4)) (window i lt);
    until = λ i lt. row 10 i (omega arith) lt ∙ ap (λ (v : Window). word_byte v.until (i % 4)) (window i lt);
    spare = λ i lt. written_apart 304 384 (plan_rows p) b (spare_at + i) refl (omega arith, omega arith) ∙ blank i lt;
  }

-- the rows that a call may change, written over bytes that show the plan
module _ (s : State) (b : List ℕ) (z : length b ≡ 384) where
  changed : (j i : ℕ) → j < 7 → i < (row_of (call_rows s) j).len → byte_at (written (call_rows s) b) ((row_of (call_rows s) j).at + i) ≡ (row_of (call_rows s) j).byte i
  changed j i lt w = written_row (call_rows s) j b 384 i z refl lt w

  head_kept : (k : ℕ) → k < 3 → byte_at (written (call_rows s) b) k ≡ byte_at b k
  head_kept k lt = written_apart 0 3 (call_rows s) b k refl (omega arith, lt)

  plan_kept : (k : ℕ) → (4 ≤ k) × (k < 100) → byte_at (written (call_rows s) b) k ≡ byte_at b k
  plan_kept k w = written_apart 4 100 (call_rows s) b k refl w

  windows_kept : (k : ℕ) → (176 ≤ k) × (k < 384) → byte_at (written (call_rows s) b) k ≡ byte_at b k
  windows_kept k w = written_apart 176 384 (call_rows s) b k refl w

  entry : (i : ℕ) → i < 16 → get_or s.history i blank_entry ≡ place_of s i
  entry i lt = sym (read_get 16 i blank_entry lt s.history)

  calls_shown : ShowsCalls s (with_call s b)
  unfolding with_call
  calls_shown = record {
    lines = changed 0 0 (omega arith) (omega arith);
    fate = λ i lt. changed 1 i (omega arith) lt ∙ ap (λ (v : Standing). fate_number v.fate) (sym (read_get 16 i blank_standing lt s.standings));
    mark = λ i lt. changed 2 i (omega arith) lt ∙ ap one_if (sym (read_get 16 i false lt s.broken));
    shut = λ i lt. changed 3 i (omega arith) lt ∙ ap one_if (sym (read_get 8 i false lt s.closed));
    line_event = λ i lt. changed 4 i (omega arith) lt ∙ ap (λ (v : Entry). v.event) (entry i lt);
    line_fate = λ i lt. changed 5 i (omega arith) lt ∙ ap (λ (v : Entry). fate_number v.fate) (entry i lt);
    minute = λ k lt. changed 6 k (omega arith) lt;
  }

  -- the plan is shown still
  plan_stays : (p : Plan) → ShowsPlan p b → ShowsPlan p (with_call s b)
  unfolding with_call
  plan_stays p h = record {
    version = head_kept 0 (omega arith) ∙ h.version;
    events = head_kept 1 (omega arith) ∙ h.events;
    rules = head_kept 2 (omega arith) ∙ h.rules;
    step = λ i lt. plan_kept (step_at + i) (omega arith, omega arith) ∙ h.step i lt;
    attributes = λ i lt. plan_kept (attributes_at + i) (omega arith, omega arith) ∙ h.attributes i lt;
    kind = λ i lt. plan_kept (kind_at + i) (omega arith, omega arith) ∙ h.kind i lt;
    first = λ i lt. plan_kept (a_at + i) (omega arith, omega arith) ∙ h.first i lt;
    second = λ i lt. plan_kept (b_at + i) (omega arith, omega arith) ∙ h.second i lt;
    third = λ i lt. plan_kept (c_at + i) (omega arith, omega arith) ∙ h.third i lt;
    from = λ i lt. windows_kept (from_at + i) (omega arith, omega arith) ∙ h.from i lt;
    until = λ i lt. windows_kept (until_at + i) (omega arith, omega arith) ∙ h.until i lt;
    spare = λ i lt. windows_kept (spare_at + i) (omega arith, omega arith) ∙ h.spare i lt;
  }

  pub call_shown : ShowsPlan s.plan b → Shows s (with_call s b)
  call_shown h = record { plan = plan_stays s.plan h; calls = calls_shown }

  pub call_length : length (with_call s b) ≡ 384
  unfolding with_call
  call_length = length_written (call_rows s) b ∙ z

-- a state written whole, over zeros
module _ (s : State) where
  blank : List ℕ
  blank = replicate 384 0

  blank_length : length blank ≡ 384
  unfolding blank
  blank_length = length-replicate {A = ℕ} 384 0

  base_length : length (with_plan s.plan blank) ≡ 384
  unfolding with_plan
  base_length = length_written (plan_rows s.plan) blank ∙ blank_length

  base_shows : ShowsPlan s.plan (with_plan s.plan blank)
  unfolding blank
  base_shows = plan_shown s.plan blank blank_length zeros
    where
      zeros : (i : ℕ) → i < 80 → byte_at blank (spare_at + i) ≡ 0
      zeros i lt = get_or-replicate 384 (spare_at + i) 0 0 (omega arith)

  whole_shows : Shows s (with_call s (with_plan s.plan blank))
  whole_shows = call_shown s (with_plan s.plan blank) base_length base_shows

  whole_is : with_call s (with_plan s.plan blank) ≡ image_of s
  whole_is =
      shows_image s (with_call s (with_plan s.plan blank))
      (call_length s (with_plan s.plan blank) base_length)
      whole_shows

  -- what the code writes
  pub written_whole : with_call s (with_plan s.plan (replicate 384 0)) ≡ image_of s
  unfolding blank
  written_whole = whole_is

  -- the image of a state shows it, and has its length (384)
  pub image_shows : Shows s (image_of s)
  image_shows = subst (Shows s) whole_is whole_shows

  pub image_length : length (image_of s) ≡ 384
  image_length = ap length (sym whole_is) ∙ call_length s (with_plan s.plan blank) base_length

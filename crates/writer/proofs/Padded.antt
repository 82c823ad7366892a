-- Plans with blanks past what they declare: how they are made, event after event and rule after rule, and what is read of
-- them.
use Prim.Native.Nat.{ℕ, zero, suc, ◌+◌, ◌-◌, ◌≤◌, ◌<◌}
use native.Mathlib.Nat.{add-zero}
use native.Mathlib.Omega.{arith}
use native.Mathlib.Decide.{dec_lt}
use borrow.Author.Tests.{lt-ltb, eqb-true, ltb-true, not-true, not-false}
use mathlib.Core.Bool.{true, false, ◌&&◌}
use mathlib.Core.Logic.{inl, inr}
use lib.Dec.{eqb, ltb}
use mathlib.Core.List.{List, [], ◌∷◌, ◌++◌, map}
use mathlib.Core.Path.{◌≡◌, refl, sym, ◌∙◌, ap}
use lib.ListN.{length, get_or, take, drop, set, replicate, length-append, length-map, length-drop, length-replicate, take-append-drop, get_or-append, get_or-map}
use lib.Seq.{get_or-append-add, set_at, append_snoc, length-take-le, get_or-take, get_or-drop, ext_get_or}
use Rattle.plan.specs.Base.{tabulate, read_at, store_at}
use Rattle.plan.specs.Plans.{blank_event, blank_rule, blank_window, event_count, rule_count, event_at, attributes_of, rule_at, window_at, from_of, until_of, is_window, delayable}
use Rattle.plan.specs.Rules.{sound_window}
use Rattle.plan.proofs.Tests.{and_left, and_right, or_either, clash, either}
use Rattle.plan.proofs.Windows.{window_past}
use Rattle.theory.proofs.Conjunctions.{and_three}
use Rattle.theory.proofs.SoundPlans.{Sound}
use Rattle.plan.specs.Records.{add_event, add_rule, add_window}
use Rattle.plan.proofs.Arrays.{read_in, get_blank}
use Rattle.theory.proofs.SheetPlans.{Read}
use Rattle.theory.proofs.Observation.{as_tabulate}
use Rattle.writer.specs.Types.{Event, Rule, RuleLine, Window, Plan}
use Rattle.writer.specs.Writing.{events_of, rules_of, windows_of, SameDeclared, plain}
use Rattle.writer.proofs.Declared.{events_count, rules_count, windows_count, event_said}

-- a list, and blanks up to 16 places
module _ {A : Type 0} (blank : A) where
  abbrev padded : List A → List A
  padded l = l ++ replicate (16 - length l) blank

  -- one more
  padded_next : (l : List A) (a : A) → length l < 16 → set (padded l) (length l) a ≡ padded (l ++ (a ∷ []))
  padded_next l a lt =
      let left : 16 - length l ≡ suc (16 - suc (length l)) = omega arith in
      let size : length (l ++ (a ∷ [])) ≡ suc (length l) = omega (arith, length-append l (a ∷ [])) in
      ap (λ (n : ℕ). set (l ++ replicate n blank) (length l) a) left
      ∙ set_at l blank (replicate (16 - suc (length l)) blank) a (length l) refl
      ∙ sym (append_snoc l a (replicate (16 - suc (length l)) blank))
      ∙ ap (λ (n : ℕ). l ++ (a ∷ []) ++ replicate (16 - n) blank) (sym size)

  stored_next : (l : List A) (a : A) → length l < 16 → store_at 16 (padded l) (length l) a ≡ padded (l ++ (a ∷ []))
  stored_next l a lt = rw (lt-ltb (length l) 16 lt) (padded_next l a lt)

  -- one blank more changes nothing
  pub padded_same : (l : List A) → length l < 16 → padded l ≡ padded (l ++ (blank ∷ []))
  padded_same l lt =
      let left : 16 - length l ≡ suc (16 - suc (length l)) = omega arith in
      let size : length (l ++ (blank ∷ [])) ≡ suc (length l) = omega (arith, length-append l (blank ∷ [])) in
      ap (λ (n : ℕ). l ++ replicate n blank) left
      ∙ sym (append_snoc l blank (replicate (16 - suc (length l)) blank))
      ∙ ap (λ (n : ℕ). l ++ (blank ∷ []) ++ replicate (16 - n) blank) (sym size)

  -- the first of the blanks
  padded_first : (l : List A) → length l < 16 → read_at 16 (padded l) (length l) blank ≡ blank
  padded_first l lt =
      read_in 16 (padded l) (length l) blank lt
      ∙ ap (λ (k : ℕ). get_or (padded l) k blank) (sym (add-zero (length l)))
      ∙ get_or-append-add l (replicate (16 - length l) blank) 0 blank
      ∙ get_blank (16 - length l) blank 0

  -- what is read of it
  padded_read : (l : List A) (i : ℕ) → length l ≤ 16 → i < length l → read_at 16 (padded l) i blank ≡ get_or l i blank
  padded_read l i few lt =
      read_in 16 (padded l) i blank (omega arith)
      ∙ get_or-append l (replicate (16 - length l) blank) blank i lt

-- an array of 16 places with blanks from the n-th on is what is read of its first n places, and blanks
padded_array : {A : Type 0} (blank : A) (l : List A) (n : ℕ)
    → length l ≡ 16
    → n ≤ 16
    → ((i : ℕ) → n ≤ i → read_at 16 l i blank ≡ blank)
    → tabulate n 0 (λ i. read_at 16 l i blank) ++ replicate (16 - n) blank ≡ l
padded_array {A} blank l n len few beyond =
    (λ i. first i ++ rest i) ∙ take-append-drop n l
  where
    first : tabulate n 0 (λ i. read_at 16 l i blank) ≡ take n l
    first =
        sym (as_tabulate n (take n l) (λ i. read_at 16 l i blank) blank (length-take-le n l (omega arith)) (λ k lt. get_or-take n l k blank lt ∙ sym (read_in 16 l k blank (omega arith))))

    rest : replicate (16 - n) blank ≡ drop n l
    rest =
        ext_get_or blank (replicate (16 - n) blank) (drop n l)
        (length-replicate (16 - n) blank ∙ sym (length-drop n l ∙ ap (λ (k : ℕ). k - n) len))
        (λ k lt. get_blank (16 - n) blank k ∙ sym (get_or-drop n l k blank ∙ sym (read_in 16 l (n + k) blank (omega (arith, length-replicate (16 - n) blank))) ∙ beyond (n + k) (omega arith)))

-- a rule in its place
abbrev pub line_of : Rule → RuleLine
line_of r = record { rule = r }

abbrev pub made : List Event → List RuleLine → List Window → Plan
made es ls ws = record {
  events = padded blank_event es;
  event_count = length es;
  rules = padded blank_rule ls;
  rule_count = length ls;
  windows = padded blank_window ws;
}

-- one more event, and one more rule
pub add_event_lem : (es : List Event) (ls : List RuleLine) (ws : List Window) (v : Event)
    → length es < 16
    → add_event (made es ls ws) v.step v.attributes ≡ made (es ++ (v ∷ [])) ls ws
unfolding add_event
add_event_lem es ls ws v lt = λ i. record {
  events = stored_next blank_event es v lt i;
  event_count = sym (length-append es (v ∷ [])) i;
  rules = padded blank_rule ls;
  rule_count = length ls;
  windows = padded blank_window ws;
}

pub add_rule_lem : (es : List Event) (ls : List RuleLine) (ws : List Window) (r : Rule)
    → length ls < 16
    → add_rule (made es ls ws) r ≡ made es (ls ++ (line_of r ∷ [])) ws
unfolding add_rule
add_rule_lem es ls ws r lt = λ i. record {
  events = padded blank_event es;
  event_count = length es;
  rules = stored_next blank_rule ls (line_of r) lt i;
  rule_count = sym (length-append ls (line_of r ∷ [])) i;
  windows = padded blank_window ws;
}

-- the window of the next event
module _ (es : List Event) (ls : List RuleLine) (ws : List Window) (e : ℕ) (q : length ws ≡ e) (lt : e < 16) where
  pub add_window_lem : (w : Window) → add_window (made es ls ws) e w.from w.until ≡ made es ls (ws ++ (w ∷ []))
  unfolding add_window
  add_window_lem w =
      let stored = ap (λ (k : ℕ). store_at 16 (padded blank_window ws) k w) (sym q) ∙ stored_next blank_window ws w (omega arith) in
      λ i. record {
        events = padded blank_event es;
        event_count = length es;
        rules = padded blank_rule ls;
        rule_count = length ls;
        windows = stored i;
      }

  -- which had none, and may go without
  pub next_blank : window_at (made es ls ws) e ≡ blank_window
  next_blank = ap (λ (k : ℕ). read_at 16 (padded blank_window ws) k blank_window) (sym q) ∙ padded_first blank_window ws (omega arith)

  pub no_window : made es ls ws ≡ made es ls (ws ++ (blank_window ∷ []))
  no_window i = record {
    events = padded blank_event es;
    event_count = length es;
    rules = padded blank_rule ls;
    rule_count = length ls;
    windows = padded_same blank_window ws (omega arith) i;
  }

-- what it declares
module _ (es : List Event) (ls : List RuleLine) (ws : List Window) where
  made_event : (e : ℕ) → length es ≤ 16 → e < length es → event_at (made es ls ws) e ≡ get_or es e blank_event
  made_event e few lt = padded_read blank_event es e few lt

  made_events : length es ≤ 16 → events_of (made es ls ws) ≡ es
  made_events few =
      sym (as_tabulate (length es) es (λ e. event_at (made es ls ws) e) blank_event refl (λ e lt. sym (made_event e few lt)))

  made_windows : length es ≤ 16 → length ws ≡ length es → windows_of (made es ls ws) ≡ ws
  made_windows few q =
      sym (as_tabulate (length es) ws (λ e. window_at (made es ls ws) e) blank_window q
      (λ e lt. sym (padded_read blank_window ws e (omega arith) (omega arith))))

made_rules : (es : List Event) (rs : List Rule) (ws : List Window) → length rs ≤ 16 → rules_of (made es (map line_of rs) ws) ≡ rs
made_rules es rs ws few =
    let ls = map line_of rs in
    let size : length ls ≡ length rs = length-map rs line_of in
    let said : (i : ℕ) → i < length rs → get_or rs i blank_rule.rule ≡ rule_at (made es ls ws) i = λ i lt.
    ap (λ (l : RuleLine). l.rule)
    (sym (padded_read blank_rule ls i (omega arith) (omega arith) ∙ get_or-map line_of rs i blank_rule.rule)) in
    ap (λ (n : ℕ). tabulate n 0 (λ i. rule_at (made es ls ws) i)) size
    ∙ sym (as_tabulate (length rs) rs (λ i. rule_at (made es ls ws) i) blank_rule.rule refl said)

-- the plain plan is made of what the plan declares
module _ (p : Plan) where
  pub plain_made : made (events_of p) (map line_of (rules_of p)) (windows_of p) ≡ plain p
  plain_made =
      let lines = length-map (rules_of p) line_of ∙ rules_count p in
      λ i. record {
        events = events_of p ++ replicate (16 - events_count p i) blank_event;
        event_count = events_count p i;
        rules = map line_of (rules_of p) ++ replicate (16 - lines i) blank_rule;
        rule_count = lines i;
        windows = windows_of p ++ replicate (16 - windows_count p i) blank_window;
      }

  -- it declares the same
  pub plain_same : event_count p ≤ 16 → rule_count p ≤ 16 → SameDeclared (plain p) p
  plain_same few_events few_rules = record {
    events =
        ap events_of (sym plain_made)
        ∙ made_events (events_of p) (map line_of (rules_of p)) (windows_of p) (omega (arith, events_count p));
    rules =
        ap rules_of (sym plain_made)
        ∙ made_rules (events_of p) (rules_of p) (windows_of p) (omega (arith, rules_count p));
    windows =
        ap windows_of (sym plain_made)
        ∙ made_windows (events_of p) (map line_of (rules_of p)) (windows_of p) (omega (arith, events_count p)) (windows_count p ∙ sym (events_count p));
  }

  -- an event of it has its attributes, also before all rules are there
  pub made_attributes : event_count p ≤ 16
      → (ls : List RuleLine) (ws : List Window) (e : ℕ)
      → e < event_count p
      → attributes_of (made (events_of p) ls ws) e ≡ attributes_of p e
  made_attributes few ls ws e lt =
      ap (λ (v : Event). v.attributes)
      (made_event (events_of p) ls ws e (omega (arith, events_count p)) (omega (arith, events_count p)) ∙ event_said p e lt)

-- lines of rules made from a function
lines_made : (n i : ℕ) (g : ℕ → Rule) → map line_of (tabulate n i g) ≡ tabulate n i (λ k. line_of (g k))
unfolding tabulate
lines_made zero i g = refl
lines_made (suc n) i g = ap (λ (l : List RuleLine). line_of (g i) ∷ l) (lines_made n (suc i) g)

-- the windows of a sound plan: of an event that has one, what a sheet may give it; else nothing stands there
module _ (p : Plan) (e : ℕ) (s : sound_window p e ≡ true) where
  pub sound_blank : is_window (window_at p e) ≡ false → window_at p e ≡ blank_window
  unfolding sound_window
  sound_blank h = elim (or_either (eqb (from_of p e) 0 && eqb (until_of p e) 0) (ltb e (event_count p) && delayable p e && ltb (from_of p e) (until_of p e)) s) [
    | inl t ↦
        let a = eqb-true (from_of p e) 0 (and_left (eqb (from_of p e) 0) (eqb (until_of p e) 0) t) in
        let b = eqb-true (until_of p e) 0 (and_right (eqb (from_of p e) 0) (eqb (until_of p e) 0) t) in
        λ i. record { from = a i; until = b i }
    | inr t ↦
        let lt = ltb-true (from_of p e) (until_of p e) (and_right (ltb e (event_count p) && delayable p e) (ltb (from_of p e) (until_of p e)) t) in
        let z = eqb-true (until_of p e) 0 (not-false (eqb (until_of p e) 0) h) in
        absurd (omega (arith, lt, z))
  ]

  pub sound_timed : is_window (window_at p e) ≡ true → (e < event_count p) × (delayable p e ≡ true) × (from_of p e < until_of p e)
  unfolding sound_window
  sound_timed h = elim (or_either (eqb (from_of p e) 0 && eqb (until_of p e) 0) (ltb e (event_count p) && delayable p e && ltb (from_of p e) (until_of p e)) s) [
    | inl t ↦ absurd (clash (and_right (eqb (from_of p e) 0) (eqb (until_of p e) 0) t) (not-true (eqb (until_of p e) 0) h))
    | inr t ↦
        let q = and_three (ltb e (event_count p)) (delayable p e) (ltb (from_of p e) (until_of p e)) t in
        (ltb-true e (event_count p) q.0, q.1, ltb-true (from_of p e) (until_of p e) q.2)
  ]

sound_past : (p : Plan) → Sound p → (e : ℕ) → event_count p ≤ e → window_at p e ≡ blank_window
sound_past p sd e le = elim (dec_lt e 16) [
  | no ge ↦ window_past p e (omega arith)
  | yes lt ↦ elim (either (is_window (window_at p e))) [
    | inr h ↦ sound_blank p e (sd.window e lt) h
    | inl h ↦ absurd (omega (arith, (sound_timed p e (sd.window e lt) h).0))
  ]
]

-- a plan that a sheet gave is plain
pub plain_is : (p : Plan) → Read p → plain p ≡ p
plain_is p r = λ i. record {
  events = padded_array blank_event p.events (event_count p) r.events_len r.sound.few_events r.events_blank i;
  event_count = event_count p;
  rules = lines i;
  rule_count = rule_count p;
  windows = padded_array blank_window p.windows (event_count p) r.windows_len r.sound.few_events (sound_past p r.sound) i;
}
  where
    lines : map line_of (rules_of p) ++ replicate (16 - rule_count p) blank_rule ≡ p.rules
    lines =
        ap (λ (l : List RuleLine). l ++ replicate (16 - rule_count p) blank_rule) (lines_made (rule_count p) 0 (λ i. rule_at p i))
        ∙ padded_array blank_rule p.rules (rule_count p) r.rules_len r.sound.few_rules (λ i le. ap line_of (r.rules_blank i le))

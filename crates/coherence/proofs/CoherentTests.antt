-- Number 12 from what the code reads of the parts: which events have a line, and the places of those that are done.
use Rattle.std.proofs.lemmas.Bool.{and_left as and_fails_left, and_right as and_fails_right}
use Prim.Native.Nat.{ℕ, ◌≤◌, ◌<◌}
use native.Mathlib.Omega.{arith}
use borrow.Author.Tests.{lt-ltb, ltb-false, leb-true, not-true, not-false, lt-leb, le-leb}
use mathlib.Core.Bool.{Bool, true, false, not, ◌&&◌, ◌||◌, and-true, and-false}
use mathlib.Core.List.{List}
use mathlib.Core.Logic.{inl, inr}
use mathlib.Core.Path.{◌≡◌, refl, sym, ◌∙◌, ap}
use lib.Dec.{eqb, ltb, leb}
use lib.ListN.{get_or}
use Rattle.coherence.specs.Prelude.{Fate, Event, Rule, Order, Need, Conditional, RuleLine, Plan, Standing, Entry}
use Rattle.plan.specs.Base.{read_at, all_below}
use Rattle.plan.specs.Fates.{Fates, is_open, is_held, is_done, is_gone, is_settled, blank_standing, fates_of}
use Rattle.plan.specs.Plans.{blank_event, blank_rule, holds_bit, event_count, rule_count, event_at, step_of, rule_at, forcible, delayable}
use Rattle.plan.specs.Rules.{bad_step, bad_attributes, named, enforceable, sound_event, sound_rule, unstoppable, reckoned, triggered, owes, sound_windows}
use Rattle.plan.specs.Histories.{done_in, done_in_turn, holds, declared_only, listed_as}
use Rattle.coherence.specs.Listings.{Placed, place_in, Marked}
use Rattle.coherence.specs.Cohering.{event_coheres, events_cohere, rule_coheres, rules_cohere, coheres, awaits}
use Rattle.plan.proofs.Tests.{clash, either, and_left, and_right, and_both, and_not, all_at, all_of}
use Rattle.plan.proofs.Arrays.{read_in}
use Rattle.plan.proofs.Loops.{all_fail}
use Rattle.plan.proofs.RuleReads.{two_named, triple_named}
use Rattle.coherence.proofs.Lines.{listed_done}

-- a held event may wait, and an open one's step is not closed
abbrev may_be_held : Plan → Fates → ℕ → Bool
may_be_held p f e = not (is_held (f e) && not (delayable p e))

abbrev may_be_open : Plan → Fates → List Bool → ℕ → Bool
may_be_open p f closed e = not (is_open (f e) && read_at 8 closed (step_of p e) false)

-- what the code asks of an event v with the fate x: that it is sound, and not wrong: settled and not listed (b), held
-- and not delayable, or open in a closed step
abbrev sound_as : Event → Bool
sound_as v = not (bad_step v.step) && not (bad_attributes v.attributes)

abbrev wrong_as : Event → Fate → Bool → List Bool → Bool
wrong_as v x b closed =
    (is_settled x && not b)
    || not (not (is_held x && not (holds_bit 4 v.attributes)))
    || (is_open x && get_or closed v.step false)

module _ (v : Event) where
  step_low : ltb 7 v.step ≡ false → v.step < 8
  step_low f = omega (arith, ltb-false 7 v.step f)

  pub sound_step : sound_as v ≡ true → v.step < 8
  sound_step h =
      step_low (not-true (ltb 7 v.step) (and_left (not (bad_step v.step)) (not (bad_attributes v.attributes)) h))

  regroup : (x : Fate) (b : Bool) (closed : List Bool)
      → (sound_as v && not (wrong_as v x b closed)) ≡ (sound_as v && not (is_settled x && not b) && not (is_held x && not (holds_bit 4 v.attributes)) && not (is_open x && read_at 8 closed v.step false))
  regroup x b closed = elim (either (ltb 7 v.step)) [
    | inl t ↦ rw t
    | inr t ↦ rw (t, lt-ltb v.step 8 (step_low t))
        (go (not (bad_attributes v.attributes)) (is_settled x && not b) (not (is_held x && not (holds_bit 4 v.attributes))) (is_open x && get_or closed v.step false))
  ]
    where
      go : (s a h o : Bool) → (s && not (a || not h || o)) ≡ (s && not a && h && not o)
      go true true h o = refl
      go true false true o = refl
      go true false false o = refl
      go false a h o = refl

-- the same in the arrays
abbrev sound_at : List Event → ℕ → Bool
sound_at events e = sound_as (get_or events e blank_event)

abbrev wrong_at : List Event → List Standing → List Bool → List Bool → ℕ → Bool
wrong_at events standings closed listed e =
    wrong_as (get_or events e blank_event) (get_or standings e blank_standing).fate (get_or listed e false) closed

abbrev pub passes_at : List Event → List Standing → List Bool → List Bool → ℕ → Bool
passes_at events standings closed listed e = sound_at events e && not (wrong_at events standings closed listed e)

pub passes_both : (events : List Event) (standings : List Standing) (closed listed : List Bool) (e : ℕ)
    → sound_at events e ≡ true
    → wrong_at events standings closed listed e ≡ false
    → passes_at events standings closed listed e ≡ true
passes_both events standings closed listed e sound right =
    and_both (sound_at events e) (not (wrong_at events standings closed listed e)) sound (ap not right)

module _ (p : Plan) (standings : List Standing) (closed listed : List Bool) (h : List Entry)
    (few : event_count p ≤ 16) (told : Marked h (fates_of standings) listed) where
  event_test : (e : ℕ)
      → e < 16
      → passes_at p.events standings closed listed e ≡ event_coheres p (fates_of standings) closed h e
  unfolding event_coheres sound_event
  event_test e lt =
      ap (λ v. sound_as v && not (wrong_as v (get_or standings e blank_standing).fate (get_or listed e false) closed))
      (sym (read_in 16 p.events e blank_event lt))
      ∙ ap (λ w. sound_as (event_at p e) && not (wrong_as (event_at p e) w.fate (get_or listed e false) closed))
      (sym (read_in 16 standings e blank_standing lt))
      ∙ ap (λ b. sound_as (event_at p e) && not (wrong_as (event_at p e) (fates_of standings e) b closed))
      (sym (read_in 16 listed e false lt))
      ∙ regroup (event_at p e) (fates_of standings e) (read_at 16 listed e false) closed
      ∙ ap (λ t. sound_as (event_at p e) && t && may_be_held p (fates_of standings) e && may_be_open p (fates_of standings) closed e)
      (sym (told e))

  module _ (e : ℕ) (lt : e < event_count p) where
    pub event_unsound : sound_at p.events e ≡ false
        → events_cohere p (fates_of standings) closed h ≡ false
    event_unsound f =
        all_fail (event_count p) (event_coheres p (fates_of standings) closed h) e lt
        (sym (event_test e (omega arith)) ∙ and_fails_left _ _ f)

    pub event_wrong : wrong_at p.events standings closed listed e ≡ true
        → events_cohere p (fates_of standings) closed h ≡ false
    event_wrong f =
        all_fail (event_count p) (event_coheres p (fates_of standings) closed h) e lt
        (sym (event_test e (omega arith)) ∙ and_fails_right (sound_at p.events e) _ (ap not f))

  pub events_pass : ((e : ℕ) → e < event_count p → passes_at p.events standings closed listed e ≡ true)
      → events_cohere p (fates_of standings) closed h ≡ true
  events_pass each =
      all_of (event_count p) (event_coheres p (fates_of standings) closed h)
      (λ e lt. sym (event_test e (omega arith)) ∙ each e lt)

-- a need that holds of a history that lists what is done owes nothing: d its trigger is done, x what it calls for is
-- done, y that is gone
paid : (d x y : Bool) → (not (d && not (x || y)) && not (d && not x)) ≡ (not (d && not x) && true)
paid true true y = refl
paid true false y = and-false (not (not y))
paid false x y = refl

-- a conditional owes and holds only where a trigger cannot be stopped: d and e its triggers are done, u and v nothing
-- can stop them, n what it calls for cannot be forced, x and y that is done, or gone
one_done_lem : (u n s : Bool) → (not (((u && n) || false) && not s) && true) ≡ not (((u || false) && n) && not s)
one_done_lem true true s = and-true (not (not s))
one_done_lem true false s = refl
one_done_lem false n s = refl

awaited : (d e u v n x y : Bool)
    → (not (((d && (e || (v && n))) || (e && (d || (u && n)))) && not (x || y)) && not (d && e && not x))
    ≡ (not (d && e && not x) && not (((d && v) || (e && u)) && n && not (x || y)))
awaited true true u v n true y = sym (ap not (and-false ((v || u) && n)))
awaited true true u v n false y = and-false (not (not y))
awaited true false u v n x y = one_done_lem v n (x || y)
awaited false true u v n x y = other u n (x || y)
  where
    other : (u n s : Bool) → (not ((u && n) && not s) && true) ≡ not ((u && n) && not s)
    other u n s = and-true (not ((u && n) && not s))
awaited false false u v n x y = refl

module _ (p : Plan) (f : Fates) (closed : List Bool) (h : List Entry) where
  event_listed : (e : ℕ) → event_coheres p f closed h e ≡ true → listed_as h e (f e) ≡ true
  unfolding event_coheres
  event_listed e is =
      and_right (sound_event p e) (listed_as h e (f e))
      (and_left (sound_event p e && listed_as h e (f e)) (may_be_held p f e)
      (and_left (sound_event p e && listed_as h e (f e) && may_be_held p f e) (may_be_open p f closed e) is))

  module _ (pass : events_cohere p f closed h ≡ true) where
    listed_as_lem : (e : ℕ) → e < event_count p → done_in h e ≡ is_done (f e)
    listed_as_lem e lt =
        listed_done h e (f e) (event_listed e (all_at (event_count p) (event_coheres p f closed h) pass e lt))

    holds_paid : (r : Rule)
        → named (event_count p) r ≡ true
        → (not (owes p f r) && holds h r) ≡ (holds h r && not (awaits p f h r))
    unfolding named owes triggered reckoned holds awaits
    holds_paid (Order a b) n = sym (and-true (not (done_in_turn h b a)))
    holds_paid (Need a b) n =
        let q = two_named _ a b _ n in
        rw (listed_as_lem a q.0, listed_as_lem b q.1) (paid (is_done (f a)) (is_done (f b)) (is_gone (f b)))
    holds_paid (Conditional a b c) n =
        let q = triple_named _ a b c n in
        rw (listed_as_lem a q.first, listed_as_lem b q.second, listed_as_lem c q.third)
        (awaited (is_done (f a)) (is_done (f b)) (unstoppable p f a) (unstoppable p f b) (not (forcible p c)) (is_done (f c)) (is_gone (f c)))

    -- so number 12 asks of a rule that it is sound, and recorded as broken, or holds and awaits nothing
    rule_test : (broken : List Bool) (i : ℕ)
        → rule_coheres p f broken h i ≡ (sound_rule p i && (read_at 16 broken i false || (holds h (rule_at p i) && not (awaits p f h (rule_at p i)))))
    unfolding rule_coheres sound_rule
    rule_test broken i = elim (either (named (event_count p) (rule_at p i))) [
      | inl n ↦ rw (holds_paid (rule_at p i) n)
      | inr n ↦ rw n
    ]

-- the same of the rule that the code reads
abbrev pub rule_in : List RuleLine → ℕ → Rule
rule_in rules i = (get_or rules i blank_rule).rule

abbrev pub admits_at : Plan → ℕ → List RuleLine → ℕ → Bool
admits_at p n rules i = named n (rule_in rules i) && enforceable p (rule_in rules i)

abbrev pub kept_at : Plan → Fates → List Entry → List Bool → List RuleLine → ℕ → Bool
kept_at p f h broken rules i = get_or broken i false || (holds h (rule_in rules i) && not (awaits p f h (rule_in rules i)))

pub kept_both : (p : Plan) (f : Fates) (n : ℕ) (h : List Entry) (broken : List Bool) (rules : List RuleLine) (i : ℕ)
    → admits_at p n rules i ≡ true
    → kept_at p f h broken rules i ≡ true
    → (admits_at p n rules i && kept_at p f h broken rules i) ≡ true
kept_both p f n h broken rules i = and_both (admits_at p n rules i) (kept_at p f h broken rules i)

module _ (p : Plan) (f : Fates) (broken closed : List Bool) (h : List Entry) (few : rule_count p ≤ 16)
    (pass : events_cohere p f closed h ≡ true) where
  read_rule : (i : ℕ)
      → i < rule_count p
      → (admits_at p (event_count p) p.rules i && kept_at p f h broken p.rules i) ≡ rule_coheres p f broken h i
  unfolding sound_rule
  read_rule i lt =
      ap (λ (v : RuleLine). (named (event_count p) v.rule && enforceable p v.rule) && (get_or broken i false || (holds h v.rule && not (awaits p f h v.rule))))
      (sym (read_in 16 p.rules i blank_rule (omega arith)))
      ∙ ap (λ b. sound_rule p i && (b || (holds h (rule_at p i) && not (awaits p f h (rule_at p i))))) (sym (read_in 16 broken i false (omega arith)))
      ∙ sym (rule_test p f closed h pass broken i)

  module _ (i : ℕ) (lt : i < rule_count p) where
    pub rule_unsound : admits_at p (event_count p) p.rules i ≡ false
        → rules_cohere p f broken h ≡ false
    rule_unsound bad =
        all_fail (rule_count p) (rule_coheres p f broken h) i lt (sym (read_rule i lt) ∙ and_fails_left _ _ bad)

    pub rule_breaks : kept_at p f h broken p.rules i ≡ false → rules_cohere p f broken h ≡ false
    rule_breaks bad =
        all_fail (rule_count p) (rule_coheres p f broken h) i lt
        (sym (read_rule i lt) ∙ and_fails_right (admits_at p (event_count p) p.rules i) _ bad)

  pub rules_pass : ((i : ℕ)
      → i < rule_count p
      → (admits_at p (event_count p) p.rules i && kept_at p f h broken p.rules i) ≡ true)
      → rules_cohere p f broken h ≡ true
  rules_pass each = all_of (rule_count p) (rule_coheres p f broken h) (λ i lt. sym (read_rule i lt) ∙ each i lt)

-- a rule that names events with places, in each of its forms: where the events are, and what the places say
module _ (rule : Rule) (a b : ℕ) (names : (n : ℕ) × (n ≤ 16) × (named n rule ≡ true)) where
  pub order_inside : rule ≡ Order a b → (a < 16) × (b < 16)
  unfolding named
  order_inside is =
      let q = two_named names.0 a b (not (eqb a b)) (rw is at names.2) in
      (omega (arith, q.0, names.1), omega (arith, q.1, names.1))

  pub need_inside : rule ≡ Need a b → (a < 16) × (b < 16)
  unfolding named
  need_inside is =
      let q = two_named names.0 a b (not (eqb a b)) (rw is at names.2) in
      (omega (arith, q.0, names.1), omega (arith, q.1, names.1))

  pub conditional_inside : (c : ℕ) → rule ≡ Conditional a b c → (a < 16) × (b < 16) × (c < 16)
  conditional_inside c is =
      let q = triple_named names.0 a b c (rw is at names.2) in
      (omega (arith, q.first, names.1), omega (arith, q.second, names.1), omega (arith, q.third, names.1))

  module _ (places : List ℕ) (h : List Entry) (p : Placed h (place_in places)) where
    pub order_holds : rule ≡ Order a b
        → not (ltb 0 (get_or places b 0) && ltb (get_or places b 0) (get_or places a 0)) ≡ holds h rule
    unfolding holds
    order_holds is =
        let q = order_inside is in
        rw (is, p.turn b a, lt-ltb b 16 q.1, lt-ltb a 16 q.0)

    pub need_holds : rule ≡ Need a b
        → not (ltb 0 (get_or places a 0) && not (ltb 0 (get_or places b 0))) ≡ holds h rule
    unfolding holds
    need_holds is =
        let q = need_inside is in
        rw (is, p.done a, p.done b, lt-ltb a 16 q.0, lt-ltb b 16 q.1)

    pub conditional_holds : (c : ℕ)
        → rule ≡ Conditional a b c
        → not (ltb 0 (get_or places a 0) && ltb 0 (get_or places b 0) && not (ltb 0 (get_or places c 0))) ≡ holds h rule
    unfolding holds
    conditional_holds c is =
        let q = conditional_inside c is in
        rw (is, p.done a, p.done b, p.done c, lt-ltb a 16 q.0, lt-ltb b 16 q.1, lt-ltb c 16 q.2)

-- a rule that is no conditional awaits nothing
pub awaits_not : (p : Plan) (f : Fates) (h : List Entry) (rule : Rule)
    → ((a b c : ℕ) → rule ≡ Conditional a b c → ⊥)
    → false ≡ awaits p f h rule
unfolding awaits
awaits_not p f h (Order a b) not = refl
awaits_not p f h (Need a b) not = refl
awaits_not p f h (Conditional a b c) not = absurd (not a b c refl)

-- an order and a need await nothing
module _ (p : Plan) (f : Fates) (h : List Entry) (rule : Rule) (a b : ℕ) where
  pub order_awaits : rule ≡ Order a b → false ≡ awaits p f h rule
  unfolding awaits
  order_awaits is = rw is

  pub need_awaits : rule ≡ Need a b → false ≡ awaits p f h rule
  unfolding awaits
  need_awaits is = rw is

-- what a conditional awaits, as the code reads it
abbrev unstoppable_as : Event → Fate → Bool
unstoppable_as v x = is_open x && not (holds_bit 2 v.attributes) && not (holds_bit 4 v.attributes)

module _ (events : List Event) (standings : List Standing) (places : List ℕ) (rule : Rule) where
  abbrev fate_inside : ℕ → Fate
  fate_inside e = (get_or standings e blank_standing).fate

  abbrev event_in : ℕ → Event
  event_in e = get_or events e blank_event

  abbrev done_at : ℕ → Bool
  done_at e = ltb 0 (get_or places e 0)

  pub conditional_awaits : (a b c : ℕ)
      → ((n : ℕ) × (n ≤ 16) × (named n rule ≡ true))
      → rule ≡ Conditional a b c
      → (u v w z : Bool)
      → u ≡ unstoppable_as (event_in b) (fate_inside b)
      → v ≡ unstoppable_as (event_in a) (fate_inside a)
      → w ≡ holds_bit 1 (event_in c).attributes
      → z ≡ is_settled (fate_inside c)
      → (p : Plan) (h : List Entry)
      → p.events ≡ events
      → Placed h (place_in places)
      → ((((done_at a && u) || (done_at b && v)) && not w) && not z) ≡ awaits p (fates_of standings) h rule
  unfolding awaits unstoppable
  conditional_awaits a b c names is u v w z hu hv hw hz p h same placed =
      let q = conditional_inside rule a b names c is in
      let fate : (e : ℕ) → e < 16 → fate_inside e ≡ fates_of standings e =
      λ e lt. ap (λ (s : Standing). s.fate) (sym (read_in 16 standings e blank_standing lt)) in
      let event : (e : ℕ) → e < 16 → event_in e ≡ event_at p e =
      λ e lt. ap (λ (l : List Event). get_or l e blank_event) (sym same) ∙ sym (read_in 16 p.events e blank_event lt) in
      let done : (e : ℕ) → e < 16 → done_at e ≡ done_in h e =
      λ e lt. sym (placed.done e ∙ ap (ltb 0) (read_in 16 places e 0 lt)) in
      rw (is, hu, hv, hw, hz, done a q.0, done b q.1, fate a q.0, fate b q.1, fate c q.2, event a q.0, event b q.1, event c q.2)

-- the tests of number 12 in turn: the first that fails decides
module _ (p : Plan) (len : ℕ) where
  abbrev few : Bool
  few = leb (event_count p) 16 && leb (rule_count p) 16 && leb len 16

  pub few_events : not few ≡ false → event_count p ≤ 16
  few_events is =
      leb-true (event_count p) 16
      (and_left (leb (event_count p) 16) (leb (rule_count p) 16)
      (and_left (leb (event_count p) 16 && leb (rule_count p) 16) (leb len 16) (not-false few is)))

  pub few_rules : not few ≡ false → rule_count p ≤ 16
  few_rules is =
      leb-true (rule_count p) 16
      (and_right (leb (event_count p) 16) (leb (rule_count p) 16)
      (and_left (leb (event_count p) 16 && leb (rule_count p) 16) (leb len 16) (not-false few is)))

  module _ (f : Fates) (broken closed : List Bool) (h : List Entry) where
    abbrev declared : Bool
    declared = declared_only h (event_count p)

    abbrev events : Bool
    events = events_cohere p f closed h

    pub many_fail : not few ≡ true → coheres p f broken closed h len ≡ false
    unfolding coheres
    many_fail bad = rw (not-true few bad)

    pub many_events : 16 < event_count p → coheres p f broken closed h len ≡ false
    unfolding coheres
    many_events many = rw (lt-leb (event_count p) 16 many)

    pub many_rules : 16 < rule_count p → coheres p f broken closed h len ≡ false
    unfolding coheres
    many_rules many = rw (lt-leb (rule_count p) 16 many, and-false (leb (event_count p) 16))

    pub many_lines : 16 < len → coheres p f broken closed h len ≡ false
    unfolding coheres
    many_lines many = rw (lt-leb len 16 many, and-false (leb (event_count p) 16 && leb (rule_count p) 16))

    pub events_fail : events ≡ false → coheres p f broken closed h len ≡ false
    unfolding coheres
    events_fail bad = rw (bad, and-false (few && declared))

    -- a history that does not go with the events
    pub lines_fail : (declared && all_below (event_count p) (λ e. listed_as h e (f e))) ≡ false
        → coheres p f broken closed h len ≡ false
    unfolding coheres
    lines_fail bad = elim (either declared) [
      | inr d ↦ rw (d, and-false few)
      | inl d ↦ events_fail (elim (either events) [
        | inr e ↦ e
        | inl e ↦ absurd (clash (all_of (event_count p) (λ k. listed_as h k (f k))
            (λ k lt. event_listed p f closed h k (all_at (event_count p) (event_coheres p f closed h) e k lt))) (and_not declared _ bad d))
      ])
    ]

    pub rules_decide : event_count p ≤ 16
        → rule_count p ≤ 16
        → len ≤ 16
        → declared ≡ true
        → events ≡ true
        → coheres p f broken closed h len ≡ (rules_cohere p f broken h && sound_windows p)
    unfolding coheres
    rules_decide es rs ls d e = rw (le-leb (event_count p) 16 es, le-leb (rule_count p) 16 rs, le-leb len 16 ls, d, e)

-- Handing in an open event keeps the invariant: it is done by an order, waits or is refused, or is done alone, with
-- the rules that this strains recorded as broken.
use Prim.Native.Nat.{ℕ, zero, suc, ◌≤◌, ◌<◌}
use native.Mathlib.Omega.{arith}
use native.Mathlib.Decide.{ℕ_discrete}
use borrow.Author.Tests.{eq-eqb, ne_eqb, eqb-true, eqb-false, not-true}
use mathlib.Core.Bool.{Bool, true, false, not, ◌&&◌, ◌||◌, and-false, or-false}
use mathlib.Core.List.Memᴰ
use mathlib.Core.List.{List, [], ◌∷◌, ◌++◌, append-nil, append_assoc}
use mathlib.Core.Logic.{◌≢◌, ◌⊎◌, inl, inr}
use Rattle.std.specs.declared.option.Option.{Option}
use Rattle.std.specs.declared.option.Option.TheVariants.{None as none, Some as some}
use mathlib.Core.Path.{◌≡◌, refl, sym, ◌∙◌, ap, ap₂, subst, fun_ext}
use lib.Dec.{eqb}
use lib.ListN.{get_or}
use Rattle.theory.proofs.Types.{Open, Held, Done, Refused, Rule, Order, Need, Conditional, Plan, Entry, State}
use Rattle.plan.specs.Plans.{event_count, rule_count, step_of, rule_at, delayable, rejectable, forcible}
use Rattle.scheduler.specs.State.{fate_of, broken_at, closed_at, line_count, lines, hold, settle_as}
use Rattle.plan.specs.Histories.{blank_entry, fate_if}
use Rattle.plan.specs.Fates.{is_open, is_held, is_done, is_gone, is_settled}
use Rattle.plan.specs.Rules.{enforceable, reckoned, triggered, bars, makes_wait, forbids, owes}
use Rattle.scheduler.specs.Orders.{fate_at_turn, do_one, Viable, chosen, do_all, has_viable}
use Rattle.scheduler.specs.Rules.{strains}
use Rattle.scheduler.specs.Calls.{Turn, refuses, does, Turns, stay, turn, settle, break_if, record_broken, do_alone, submit}
use Rattle.scheduler.specs.Demand.{unbreakable, starts_done}
use Rattle.scheduler.specs.Grounds.{NoViable}
use Rattle.plan.proofs.Tests.{clash, either, or_left, or_right, or_both, and_left, and_right, and_both, and_not}
use Rattle.plan.proofs.Fates.{open_is}
use Rattle.orders.proofs.Doing.{done_settled, reckoned_same}
use Rattle.scheduler.proofs.Laws.{turn_settled, fate_settle_other, closed_settle, broken_settle, plan_hold, fate_hold_other, closed_hold, broken_hold, lines_hold}
use Rattle.scheduler.proofs.Laws.{plan_break, fate_break, closed_break, history_break, len_break, lines_break, broken_break_same, broken_break_other, sized_break}
use Rattle.scheduler.proofs.Branches.{decide_order, decide_refuse, decide_alone, submit_delayed, submit_decided}
use Rattle.scheduler.proofs.Searching.{ready_unsettled, member_settled, chosen_none, chosen_first, viable_has, chosen_none_has}
use Rattle.scheduler.proofs.Settling.{settle_turns}
use Rattle.theory.specs.Waiting.{Awaits}
use Rattle.theory.proofs.SoundPlans.{Sound, rule_enforced}
use Rattle.theory.proofs.Waits.{awaits_other, reckoned_refusable}
use Rattle.theory.proofs.HistoryInvariant.{Shape, HistoryListed, BlankBeyond, listing_alike, same_events, shape_settle, fate_then, lines_then, listing_settle, beyond_settle, fate_held, as_held, listing_hold}
use Rattle.theory.proofs.RuleInvariant.{NoStanding, RulesObeyed, Strict, Quiet, SameToRules, obeyed_same, quiet_same, unpaid, unpaid_same}
use Rattle.theory.proofs.RuleInvariant.{Covered, not_done, delayable_same, settled_stays, open_then, done_then, gone_then, owed_less, obeyed_do, obeyed_done, obeyed_drop, quiet_drop}
use Rattle.theory.proofs.Invariant.{held_unsettled, open_unsettled, FatesLater, fates_trans, OpenNotClosed, Later, later_trans}
use Rattle.theory.proofs.Invariant.{later_drop, Invariant, do_run, turn_keeps, turns_keeps, Resting, Settled, settle_keeps}

-- an open event is held: nothing that the rules read changes
pub rules_hold : {p : Plan} {s : State} (e : ℕ)
    → HistoryListed p s
    → e < event_count p
    → fate_of s e ≡ Open
    → SameToRules s (hold s e)
rules_hold {p} {s} e k lt op = record {
  same_plan = plan_hold s e;
  opens = λ j h. elim (ℕ_discrete j e) [
    | yes r ↦ absurd (clash h (ap (λ i. is_open (fate_of (hold s e) i)) r ∙ ap is_open (fate_held e k lt op)))
    | no ne ↦ sym (ap is_open (fate_hold_other s e j ne)) ∙ h
  ];
  done = as_held e k lt op is_done refl;
  gone = as_held e k lt op is_gone refl;
  recorded = broken_hold s e;
  same_lines = lines_hold s e;
}

-- tests: a conditional's other trigger is done (d) only if c is, so that c is not gone (g) and is settled (z)
calm_second_test : (g d x y z : Bool)
    → (d ≡ true → g ≡ false)
    → (d ≡ true → z ≡ true)
    → (((g && d) || false) || (((d && x) || (y && d)) && not z)) ≡ false
calm_second_test g true x y z a b = rw (a refl, b refl) (and-false (x || (y && true)))
calm_second_test g false x y z a b = rw (and-false g, and-false y)

calm_first_test : (g d x y z : Bool)
    → (d ≡ true → g ≡ false)
    → (d ≡ true → z ≡ true)
    → (((g && (d || false)) || false) || (((y && d) || (d && x)) && not z)) ≡ false
calm_first_test g true x y z a b = rw (a refl, b refl) (and-false ((y && true) || x))
calm_first_test g false x y z a b = rw (and-false g, and-false y)

-- u is t with those of the first n rules recorded that doing e in s strains
pub record Recorded (p : Plan) (n : ℕ) (s : State) (e : ℕ) (t u : State) : Type 0 where
  pub fate : (j : ℕ) → fate_of u j ≡ fate_of t j
  pub closed : (k : ℕ) → closed_at u k ≡ closed_at t k
  pub history : u.history ≡ t.history
  pub len : line_count u ≡ line_count t
  pub same_lines : lines u ≡ lines t
  pub shape : Shape p u
  pub kept : (i : ℕ) → broken_at t i ≡ true → broken_at u i ≡ true
  pub new : (i : ℕ) → i < n → strains s e i ≡ true → broken_at u i ≡ true
  pub only : (i : ℕ) → broken_at u i ≡ true → (broken_at t i ≡ true) ⊎ ((i < n) × (strains s e i ≡ true))

recorded_one : {p : Plan} (n : ℕ) (s : State) (e : ℕ) (t u : State)
    → n < 16
    → Recorded p n s e t u
    → (b : Bool)
    → strains s e n ≡ b
    → Recorded p (suc n) s e t (break_if b u n)
recorded_one n s e t u lt r true q = record {
  fate = λ j. fate_break u n j ∙ r.fate j;
  closed = λ k. closed_break u n k ∙ r.closed k;
  history = history_break u n ∙ r.history;
  len = len_break u n ∙ r.len;
  same_lines = lines_break u n ∙ r.same_lines;
  shape = record { same_plan = plan_break u n ∙ r.shape.same_plan; sized = sized_break u n r.shape.sized };
  kept = λ i b. elim (ℕ_discrete i n) [
    | yes z ↦ rw z (broken_break_same u n r.shape.sized lt)
    | no ne ↦ broken_break_other u n i ne ∙ r.kept i b
  ];
  new = λ i l z. elim (ℕ_discrete i n) [
    | yes y ↦ rw y (broken_break_same u n r.shape.sized lt)
    | no ne ↦ broken_break_other u n i ne ∙ r.new i (omega arith) z
  ];
  only = λ i b. elim (ℕ_discrete i n) [
    | yes z ↦ inr (omega arith, rw z q)
    | no ne ↦ elim (r.only i (sym (broken_break_other u n i ne) ∙ b)) [
      | inl y ↦ inl y
      | inr y ↦ inr (omega (arith, y.0), y.1)
    ]
  ];
}
recorded_one n s e t u lt r false q = record {
  fate = r.fate;
  closed = r.closed;
  history = r.history;
  len = r.len;
  same_lines = r.same_lines;
  shape = r.shape;
  kept = r.kept;
  new = λ i l z. elim (ℕ_discrete i n) [ yes y ↦ absurd (clash z (rw y q)) | no ne ↦ r.new i (omega arith) z ];
  only = λ i b. elim (r.only i b) [ inl y ↦ inl y | inr y ↦ inr (omega (arith, y.0), y.1) ];
}

recorded : {p : Plan} (n : ℕ) (s : State) (e : ℕ) (t : State)
    → n ≤ 16
    → Shape p t
    → Recorded p n s e t (record_broken n s e t)
unfolding record_broken
recorded zero s e t le sh = record {
  fate = λ j. refl;
  closed = λ k. refl;
  history = refl;
  len = refl;
  same_lines = refl;
  shape = sh;
  kept = λ i b. b;
  new = λ i l z. absurd (omega arith);
  only = λ i b. inl b;
}
recorded (suc n) s e t le sh =
    recorded_one n s e t (record_broken n s e t) (omega arith) (recorded n s e t (omega arith) sh) (strains s e n) refl

pub alone_recorded : {p : Plan} {s : State}
    → Sound p
    → Shape p s
    → (e : ℕ)
    → Recorded p (rule_count p) s e (settle_as Done s e) (do_alone s e)
unfolding do_alone
alone_recorded {p} {s} sd sh e =
    let n = ap rule_count sh.same_plan in
    subst (λ m. Recorded p m s e (settle_as Done s e) (record_broken (rule_count s.plan) s e (settle_as Done s e))) n
    (recorded (rule_count s.plan) s e (settle_as Done s e) (omega (arith, sd.few_rules)) (shape_settle Done s e sh))

-- an event done alone, t the state after
module _ {p : Plan} {s : State} (sd : Sound p) (e : ℕ) (k : HistoryListed p s) (w : RulesObeyed p s) (q : Quiet p s)
    (lt : e < event_count p) (un : is_settled (fate_of s e) ≡ false) where
  abbrev g : State
  g = settle_as Done s e

  abbrev t : State
  t = do_alone s e

  r : Recorded p (rule_count p) s e g t
  r = alone_recorded sd k.shape e

  unpaid_recorded : (u : Rule) → unpaid t u ≡ unpaid g u
  unpaid_recorded = unpaid_same g t (λ j. ap is_done (r.fate j)) (λ j. ap is_gone (r.fate j))

  owes_recorded : (u : Rule) → owes t.plan (fate_of t) u ≡ owes s.plan (fate_of g) u
  owes_recorded u =
      ap₂ (λ q f. owes q f u) (r.shape.same_plan ∙ sym k.shape.same_plan) (fun_ext r.fate)

  pub listing_alone : HistoryListed p t
  listing_alone =
      listing_alike r.shape
      (record {
        settled = λ j. ap is_settled (r.fate j);
        fates = λ j. ap (λ x. fate_if (is_settled x) x) (r.fate j);
        len = r.len;
        same_lines = r.same_lines;
      })
      (listing_settle Done e refl k lt un)

  pub beyond_alone : BlankBeyond p s → BlankBeyond p t
  beyond_alone z =
      let y = beyond_settle Done e refl k lt un z in
      record {
        unused = λ j ge. r.fate j ∙ y.unused j ge;
        blank = λ i ge. ap (λ h. get_or h i blank_entry) r.history ∙ y.blank i (omega (arith, r.len));
      }

  -- the rule forbids doing e, or owes right after it
  abbrev strained : Rule → Bool
  strained u = forbids s.plan (fate_of s) u e || owes s.plan (fate_of g) u

  -- a rule that is not recorded after it neither forbade it nor owes
  unbroken : (i : ℕ) → broken_at t i ≡ false → broken_at s i ≡ false
  unbroken i b = elim (either (broken_at s i)) [
    | inr z ↦ z
    | inl z ↦ absurd (clash (r.kept i (broken_settle Done s e i ∙ z)) b)
  ]

  strain_of : (i : ℕ) → strains s e i ≡ (not (broken_at s i) && strained (rule_at p i))
  unfolding strains
  strain_of i = ap (λ v. not (broken_at s i) && strained (rule_at v i)) k.shape.same_plan

  calm : NoStanding p t strained
  calm i l b =
      let z : strains s e i ≡ false = elim (either (strains s e i)) [
        | inr y ↦ y
        | inl y ↦ absurd (clash (r.new i l y) b)
      ] in
      and_not (not (broken_at s i)) (strained (rule_at p i)) (sym (strain_of i) ∙ z) (ap not (unbroken i b))

  no_bar : NoStanding p t (λ r. bars s.plan (fate_of s) r e)
  unfolding forbids
  no_bar i l b =
      or_left (bars s.plan (fate_of s) (rule_at p i) e) (makes_wait s.plan (fate_of s) (rule_at p i) e)
      (or_left (forbids s.plan (fate_of s) (rule_at p i) e) (owes s.plan (fate_of g) (rule_at p i)) (calm i l b))

  pub obeyed_alone : RulesObeyed p t
  obeyed_alone = obeyed_done sd Done refl e k w lt un t r.same_lines unpaid_recorded unbroken no_bar

  pub quiet_alone : Quiet p t
  quiet_alone i l b =
      owes_recorded (rule_at p i)
      ∙ or_right (forbids s.plan (fate_of s) (rule_at p i) e) (owes s.plan (fate_of g) (rule_at p i)) (calm i l b)

  pub fates_alone : FatesLater s t
  fates_alone j = elim (ℕ_discrete j e) [
    | yes z ↦ inl (ap is_settled (r.fate j) ∙ rw (z, fate_then Done e refl k lt un))
    | no ne ↦ inr (r.fate j ∙ fate_settle_other Done s e j ne)
  ]

  -- it can be neither delayed nor refused, so that only a rule with such a trigger is recorded, and no conditional that
  -- made the other one wait
  module _ (nd : delayable p e ≡ false) (nr : rejectable p e ≡ false) (st : Strict p s) (cv : Covered p s e) where
    order_a : (i a b : ℕ) → i < rule_count p → rule_at p i ≡ Order a b → e ≡ a → is_done (fate_of s b) ≡ true → ⊥
    unfolding enforceable
    order_a i a b l o z d =
        let en : (delayable p b || rejectable p a) ≡ true = rw o at (rule_enforced sd i l) in
        let db : delayable p b ≡ true = sym (or-false (delayable p b)) ∙ rw (rw z at nr) at en in
        clash (st.first i a b l o db d) (rw z at un)

    unforbidden : (i a b : ℕ) → i < rule_count p → rule_at p i ≡ Order a b → (eqb e a && is_done (fate_of s b)) ≡ false
    unforbidden i a b l o = elim (either (eqb e a)) [
      | inr z ↦ rw z
      | inl z ↦ elim (either (is_done (fate_of s b))) [
        | inr y ↦ rw (z, y)
        | inl y ↦ absurd (order_a i a b l o (eqb-true e a z) y)
      ]
    ]

    no_wait : (a b : ℕ) → makes_wait s.plan (fate_of s) (Order a b) e ≡ false
    unfolding makes_wait
    no_wait a b = elim (either (eqb e b)) [
      | inr z ↦ rw z
      | inl z ↦ rw (z, delayable_same k.shape b, sym (ap (delayable p) (eqb-true e b z)) ∙ nd)
    ]

    done_else : (a : ℕ) → eqb e a ≡ false → is_done (fate_of g a) ≡ is_done (fate_of s a)
    done_else a z = done_then Done e refl k lt un a ∙ rw z

    need_else : (a b : ℕ) → eqb e a ≡ false → owes s.plan (fate_of s) (Need a b) ≡ false → strained (Need a b) ≡ false
    unfolding forbids bars owes makes_wait
    need_else a b z o =
        rw (z, done_else a z)
        (owed_less (is_done (fate_of s a)) (is_done (fate_of s a)) (is_settled (fate_of s b)) (is_settled (fate_of g b)) o (λ d. d)
        (settled_stays Done e refl k lt un b))

    reckoned_else : (a c : ℕ) → eqb e a ≡ false → reckoned s.plan (fate_of g) c a ≡ reckoned s.plan (fate_of s) c a
    reckoned_else a c z = reckoned_same s.plan (fate_of g) (fate_of s) c a (fate_settle_other Done s e a (λ y. eqb-false e a z (sym y)))

    conditional_else : (a b c : ℕ)
        → eqb e a ≡ false
        → eqb e b ≡ false
        → owes s.plan (fate_of s) (Conditional a b c) ≡ false
        → strained (Conditional a b c) ≡ false
    unfolding forbids bars owes triggered makes_wait
    conditional_else a b c z y o =
        rw (z, y, and-false (is_gone (fate_of s c)), done_else a z, done_else b y, reckoned_else a c z, reckoned_else b c y)
        (owed_less (triggered s.plan (fate_of s) c a b) (triggered s.plan (fate_of s) c a b) (is_settled (fate_of s c))
        (is_settled (fate_of g c)) o (λ d. d) (settled_stays Done e refl k lt un c))

    -- a conditional whose c cannot be forced, and e is its trigger that nothing can stop: the other can be refused, and is
    -- done only if c is
    module _ (o c : ℕ) (v : Awaits p o e c) where
      abbrev did : Bool
      did = is_done (fate_of s o)

      apart : eqb e o ≡ false
      apart = ne_eqb e o (λ z. clash (awaits_other v sd) (rw z at nr))

      refusable : rejectable s.plan o ≡ true
      refusable = ap (λ z. rejectable z o) k.shape.same_plan ∙ awaits_other v sd

      reckoned_now : reckoned s.plan (fate_of s) c o ≡ did
      reckoned_now = reckoned_refusable s.plan (fate_of s) c o refusable

      reckoned_then : reckoned s.plan (fate_of g) c o ≡ did
      reckoned_then = reckoned_refusable s.plan (fate_of g) c o refusable ∙ done_else o apart

      kept_c : did ≡ true → is_gone (fate_of s c) ≡ false
      kept_c d = not_done (fate_of s c) (cv o c v d)

      settled_c : did ≡ true → is_settled (fate_of g c) ≡ true
      settled_c d = settled_stays Done e refl k lt un c (done_settled (fate_of s c) (cv o c v d))

      calm_second : strained (Conditional o e c) ≡ false
      unfolding forbids bars owes triggered makes_wait
      calm_second =
          rw (apart, eq-eqb e e refl, reckoned_now, reckoned_then, done_else o apart)
          (calm_second_test (is_gone (fate_of s c)) did (reckoned s.plan (fate_of g) c e) (is_done (fate_of g e)) (is_settled (fate_of g c)) kept_c settled_c)

      calm_first : strained (Conditional e o c) ≡ false
      unfolding forbids bars owes triggered makes_wait
      calm_first =
          rw (apart, eq-eqb e e refl, reckoned_now, reckoned_then, done_else o apart)
          (calm_first_test (is_gone (fate_of s c)) did (reckoned s.plan (fate_of g) c e) (is_done (fate_of g e)) (is_settled (fate_of g c)) kept_c settled_c)

      calm_await : strained (rule_at p v.place) ≡ false
      calm_await = elim v.is [ inl z ↦ ap strained z ∙ calm_second | inr z ↦ ap strained z ∙ calm_first ]

    order_else : (i a b : ℕ) → i < rule_count p → rule_at p i ≡ Order a b → strained (Order a b) ≡ false
    unfolding forbids bars owes
    order_else i a b l o = rw (unforbidden i a b l o, no_wait a b)

    -- so where it is strained, c can be forced
    abbrev awaits_at : (i o c : ℕ)
        → i < rule_count p
        → (rule_at p i ≡ Conditional o e c) ⊎ (rule_at p i ≡ Conditional e o c)
        → forcible p c ≡ false
        → Awaits p o e c
    awaits_at i o c l is f = record {
      place = i;
      within = l;
      is = is;
      unrefusable = nr;
      undelayable = nd;
      unforcible = f;
    }

    first_forced : (i a b c : ℕ)
        → i < rule_count p
        → rule_at p i ≡ Conditional a b c
        → e ≡ a
        → strained (Conditional a b c) ≡ true
        → not (forcible p c) ≡ false
    first_forced i a b c l o y z = elim (either (forcible p c)) [
      | inl f ↦ ap not f
      | inr f ↦
          let is : rule_at p i ≡ Conditional e b c = o ∙ ap (λ x. Conditional x b c) (sym y) in
          absurd (clash (ap strained o ∙ z) (calm_await b c (awaits_at i b c l (inr is) f)))
    ]

    second_forced : (i a b c : ℕ)
        → i < rule_count p
        → rule_at p i ≡ Conditional a b c
        → e ≡ b
        → strained (Conditional a b c) ≡ true
        → not (forcible p c) ≡ false
    second_forced i a b c l o y z = elim (either (forcible p c)) [
      | inl f ↦ ap not f
      | inr f ↦
          let is : rule_at p i ≡ Conditional a e c = o ∙ ap (λ x. Conditional a x c) (sym y) in
          absurd (clash (ap strained o ∙ z) (calm_await a c (awaits_at i a c l (inl is) f)))
    ]

    weak_alone : (i : ℕ) (u : Rule)
        → i < rule_count p
        → rule_at p i ≡ u
        → owes s.plan (fate_of s) u ≡ false
        → strained u ≡ true
        → unbreakable p u ≡ false
    unfolding unbreakable
    weak_alone i (Order a b) l o v z = absurd (clash z (order_else i a b l o))
    weak_alone i (Need a b) l o v z = elim (either (eqb e a)) [
      | inl y ↦ rw (← eqb-true e a y) nr
      | inr y ↦ absurd (clash z (need_else a b y v))
    ]
    weak_alone i (Conditional a b c) l o v z = elim (either (eqb e a)) [
      | inl y ↦ or_both (rejectable p a && rejectable p b) (not (forcible p c)) (rw (← eqb-true e a y, nr))
          (first_forced i a b c l o (eqb-true e a y) z)
      | inr y ↦ elim (either (eqb e b)) [
        | inl x ↦ or_both (rejectable p a && rejectable p b) (not (forcible p c))
            (rw (← eqb-true e b x, nr) (and-false (rejectable p a))) (second_forced i a b c l o (eqb-true e b x) z)
        | inr x ↦ absurd (clash z (conditional_else a b c y x v))
      ]
    ]

    newly : (i : ℕ) → i < rule_count p → strains s e i ≡ true → unbreakable p (rule_at p i) ≡ false
    newly i l z =
        let y = sym (strain_of i) ∙ z in
        let n = not-true (broken_at s i) (and_left (not (broken_at s i)) (strained (rule_at p i)) y) in
        weak_alone i (rule_at p i) l refl (q i l n) (and_right (not (broken_at s i)) (strained (rule_at p i)) y)

    pub strict_alone : Strict p t
    strict_alone = record {
      first = λ i a b l o d z. ap is_settled (r.fate a)
          ∙ settled_stays Done e refl k lt un a (elim (ℕ_discrete b e) [
            | yes y ↦ absurd (clash (rw y at d) nd)
            | no ne ↦ st.first i a b l o d (sym (ap is_done (r.fate b ∙ fate_settle_other Done s e b ne)) ∙ z)
          ]);
      spared = λ o j c v h d.
          let ne : o ≢ e = λ z. clash (awaits_other v sd) (rw z nr) in
          ap is_gone (r.fate c)
          ∙ gone_then Done e refl k lt un c
          ∙ or_both (eqb e c && false) (is_gone (fate_of s c)) (and-false (eqb e c))
          (st.spared o j c v (open_then Done e refl k lt un j (sym (ap is_open (r.fate j)) ∙ h))
          (sym (ap is_done (r.fate o ∙ fate_settle_other Done s e o ne)) ∙ d));
      weak = λ i l b. elim (r.only i b) [
        | inl y ↦ st.weak i l (sym (broken_settle Done s e i) ∙ y)
        | inr y ↦ newly i l y.1
      ];
    }

-- settling adds lines of which the first does not say that e was done, if e has no viable order
pub record Adds (s t : State) (e : ℕ) : Type 0 where
  pub new : List Entry
  pub lines_new : lines t ≡ lines s ++ new
  pub starts : starts_done new e ≡ false

adds_first : {p : Plan} {s t u : State} (e : ℕ) (l : Entry)
    → lines t ≡ lines s ++ (l ∷ [])
    → (eqb l.event e && is_done l.fate) ≡ false
    → Later p t u
    → Adds s u e
unfolding starts_done
adds_first {s = s} e l q b f = record {
  new = l ∷ f.new;
  lines_new = f.lines_new ∙ ap (λ z. z ++ f.new) q ∙ append_assoc (lines s) (l ∷ []) f.new;
  starts = b;
}

-- an order does not begin with e, if e has none
run_adds : {p : Plan}
    → Sound p
    → (s : State)
    → HistoryListed p s
    → RulesObeyed p s
    → (e d : ℕ) (o : List ℕ)
    → Viable s d o
    → NoViable s e
    → (u : State)
    → Later p (do_all s o) u
    → Adds s u e
unfolding do_all
run_adds sd s k w e d [] v n u f = absurd (Memᴰ.not-nil v.contains)
run_adds {p} sd s k w e d (c ∷ o) v n u f =
    let lt : c < event_count p = omega (arith, v.runs.0, same_events k.shape) in
    let un = ready_unsettled s c v.runs.1 in
    let b = listing_settle (fate_at_turn s c) c (turn_settled s c) k lt un in
    let y = do_run sd (do_one s c) b (obeyed_do sd c k lt v.runs.1 w) o v.runs.2 in
    adds_first e (record { event = c; fate = fate_at_turn s c }) (lines_then (fate_at_turn s c) c (turn_settled s c) k lt un)
    (elim (either (eqb c e)) [
      | inr b ↦ rw b
      | inl b ↦
          let first = Memᴰ.head (sym (eqb-true c e b)) in
          absurd (n (c ∷ o) (record { contains = first; short = v.short; different = v.different; runs = v.runs }))
    ])
    (later_trans y.later f)

turn_adds : {p : Plan} {s t : State}
    → Sound p
    → Invariant p s
    → (e : ℕ)
    → NoViable s e
    → Turn s t
    → (u : State)
    → Later p t u
    → Adds s u e
turn_adds sd k e n (refuses d l) u f =
    adds_first e (record { event = d; fate = Refused })
    (lines_then Refused d refl k.listing (omega (arith, l.declared, same_events k.listing.shape))
    (held_unsettled l.is.0))
    (and-false (eqb d e)) f
turn_adds {p} {s} sd k e n (does d o nb l g) u f = run_adds sd s k.listing k.obeyed e d o g.viable n u f

turns_adds : {p : Plan} {s t : State} → Sound p → Invariant p s → (e : ℕ) → NoViable s e → Turns s t → Adds s t e
unfolding starts_done
turns_adds sd k e n (stay {s = s}) = record { new = []; lines_new = sym (append-nil (lines s)); starts = refl }
turns_adds sd k e n (turn {u = u} a b) = turn_adds sd k e n a u (turns_keeps sd (turn_keeps sd k a).invariant b).later

-- how an open event e fares; s is the state with e held, and `new` the lines added
pub data Manner (s t : State) (e : ℕ) (new : List Entry) : Type 0 where
  ordered : has_viable s e ≡ true → ((i : ℕ) → broken_at t i ≡ broken_at s i) → Manner s t e new
  waited : starts_done new e ≡ false → ((i : ℕ) → broken_at t i ≡ broken_at s i) → Manner s t e new
  alone : has_viable s e ≡ false
      → starts_done new e ≡ true
      → ((i : ℕ) → broken_at t i ≡ broken_at (do_alone s e) i)
      → Manner s t e new

pub record Submitted (p : Plan) (s t : State) (e : ℕ) : Type 0 where
  pub invariant : Invariant p t
  pub rest : Resting t
  pub fates : FatesLater s t
  pub same_closed : (k : ℕ) → closed_at t k ≡ closed_at s k
  pub new : List Entry
  pub lines_new : lines t ≡ lines s ++ new
  pub beyond : BlankBeyond p s → BlankBeyond p t
  pub strict : Strict p s → Covered p s e → Strict p t
  pub manner : Manner s t e new

module _ {p : Plan} {s : State} (sd : Sound p) (k : Invariant p s) (e : ℕ) (lt : e < event_count p)
    (op : fate_of s e ≡ Open) where
  abbrev s₁ : State
  s₁ = hold s e

  k₁ : HistoryListed p s₁
  k₁ = listing_hold e k.listing lt op

  w₁ : RulesObeyed p s₁
  w₁ = obeyed_same (rules_hold e k.listing lt op) k.obeyed

  q₁ : Quiet p s₁
  q₁ = quiet_same (rules_hold e k.listing lt op) p k.quiet

  hd₁ : fate_of s₁ e ≡ Held
  hd₁ = fate_held e k.listing lt op

  un₁ : is_settled (fate_of s₁ e) ≡ false
  un₁ = held_unsettled hd₁

  still_hold : OpenNotClosed p s₁
  still_hold j l o = elim (ℕ_discrete j e) [
    | yes z ↦ absurd (clash (ap is_held hd₁) (ap is_held (rw z at o)))
    | no ne ↦ closed_hold s e (step_of p j) ∙ k.still j l (sym (fate_hold_other s e j ne) ∙ o)
  ]

  held_hold : (j : ℕ) → j < event_count p → j ≢ e → fate_of s₁ j ≡ Held → delayable p j ≡ true
  held_hold j l ne h = k.held j l (sym (fate_hold_other s e j ne) ∙ h)

  pub submit_delayed_keeps : delayable p e ≡ true → Submitted p s₁ (settle s₁) e
  submit_delayed_keeps d =
      let g : Invariant p s₁ = record {
        listing = k₁;
        obeyed = w₁;
        quiet = q₁;
        held = λ j l h. elim (ℕ_discrete j e) [ yes z ↦ rw z d | no ne ↦ held_hold j l ne h ];
        still = still_hold;
      } in
      by g (settle_keeps sd g) (chosen s₁ e) refl
    where
      by : Invariant p s₁
          → Settled p s₁ (settle s₁)
          → (c : Option (List ℕ))
          → chosen s₁ e ≡ c
          → Submitted p s₁ (settle s₁) e
      by g y (some o) z = record {
        invariant = y.invariant;
        rest = y.rest;
        fates = y.later.fates;
        same_closed = y.later.same_closed;
        new = y.later.new;
        lines_new = y.later.lines_new;
        beyond = y.later.beyond;
        strict = λ w cv. y.later.strict w;
        manner = ordered (viable_has s₁ e o (chosen_first s₁ e k₁.shape.sized o z).viable)
            y.later.same_broken;
      }
      by g y none z =
          let a = turns_adds sd g e (chosen_none s₁ e z) (settle_turns s₁ k₁.shape.sized) in
          record {
            invariant = y.invariant;
            rest = y.rest;
            fates = y.later.fates;
            same_closed = y.later.same_closed;
            new = a.new;
            lines_new = a.lines_new;
            beyond = y.later.beyond;
            strict = λ w cv. y.later.strict w;
            manner = waited a.starts y.later.same_broken;
          }

  -- settled from a state t that comes after s₁ by doing or refusing e
  module _ (t : State) (b : HistoryListed p t) (w : RulesObeyed p t) (q : Quiet p t) (fates : FatesLater s₁ t)
      (cl : (i : ℕ) → closed_at t i ≡ closed_at s₁ i) (done : is_settled (fate_of t e) ≡ true) where
    invariant_then : Invariant p t
    invariant_then = record {
      listing = b;
      obeyed = w;
      quiet = q;
      held = λ j l h. elim (fates j) [
        | inl z ↦ absurd (clash z (held_unsettled h))
        | inr z ↦ elim (ℕ_discrete j e) [
          | yes y ↦ absurd (clash done (held_unsettled (rw y at h)))
          | no ne ↦ held_hold j l ne (sym z ∙ h)
        ]
      ];
      still = λ j l o. elim (fates j) [
        | inl z ↦ absurd (clash z (open_unsettled o))
        | inr z ↦ cl (step_of p j) ∙ still_hold j l (sym z ∙ o)
      ];
    }

    settled_then : Settled p t (settle t)
    settled_then = settle_keeps sd invariant_then

    submitted_then : (BlankBeyond p s₁ → BlankBeyond p t)
        → (Strict p s₁ → Covered p s₁ e → Strict p t)
        → (l : List Entry)
        → lines t ≡ lines s₁ ++ l
        → Manner s₁ (settle t) e (l ++ settled_then.later.new)
        → Submitted p s₁ (settle t) e
    submitted_then ti st l ln m = record {
      invariant = settled_then.invariant;
      rest = settled_then.rest;
      fates = fates_trans s₁ t (settle t) fates settled_then.later.fates;
      same_closed = λ i. settled_then.later.same_closed i ∙ cl i;
      new = l ++ settled_then.later.new;
      lines_new = settled_then.later.lines_new
          ∙ ap (λ h. h ++ settled_then.later.new) ln
          ∙ append_assoc (lines s₁) l settled_then.later.new;
      beyond = λ z. settled_then.later.beyond (ti z);
      strict = λ z cv. settled_then.later.strict (st z cv);
      manner = m;
    }

  submit_order_keeps : (o : List ℕ) → chosen s₁ e ≡ some o → Submitted p s₁ (settle (do_all s₁ o)) e
  submit_order_keeps o c =
      let v = (chosen_first s₁ e k₁.shape.sized o c).viable in
      let y = do_run sd s₁ k₁ w₁ o v.runs in
      let d = done_by_order o v in
      let f = y.later in
      let z = settled_then (do_all s₁ o) y.listing y.obeyed y.quiet f.fates f.same_closed d in
      submitted_then (do_all s₁ o) y.listing y.obeyed y.quiet f.fates f.same_closed d
      f.beyond (λ z cv. f.strict z) f.new f.lines_new
      (ordered (viable_has s₁ e o v) (λ i. z.later.same_broken i ∙ f.same_broken i))
    where
      done_by_order : (o : List ℕ) → Viable s₁ e o → is_settled (fate_of (do_all s₁ o) e) ≡ true
      done_by_order o v = member_settled s₁ k₁.shape.sized o v.runs e v.contains

  submit_refuse_keeps : chosen s₁ e ≡ none → Submitted p s₁ (settle (settle_as Refused s₁ e)) e
  unfolding starts_done
  submit_refuse_keeps n =
      let f = later_drop Refused refl e k₁ lt un₁ q₁ in
      let b = listing_settle Refused e refl k₁ lt un₁ in
      let w = obeyed_drop Refused refl e k₁ lt un₁ w₁ q₁ in
      let q = quiet_drop Refused refl e k₁ lt un₁ q₁ in
      let d = ap is_settled (fate_then Refused e refl k₁ lt un₁) in
      let z = settled_then (settle_as Refused s₁ e) b w q f.fates f.same_closed d in
      submitted_then (settle_as Refused s₁ e) b w q f.fates f.same_closed d f.beyond (λ z cv. f.strict z)
      (record { event = e; fate = Refused } ∷ []) (lines_then Refused e refl k₁ lt un₁)
      (waited (and-false (eqb e e)) (λ i. z.later.same_broken i ∙ f.same_broken i))

  submit_alone_keeps : chosen s₁ e ≡ none
      → delayable p e ≡ false
      → rejectable p e ≡ false
      → Submitted p s₁ (settle (do_alone s₁ e)) e
  unfolding starts_done
  submit_alone_keeps n nd nr =
      let r = alone_recorded sd k₁.shape e in
      let b = listing_alone sd e k₁ w₁ q₁ lt un₁ in
      let w = obeyed_alone sd e k₁ w₁ q₁ lt un₁ in
      let q = quiet_alone sd e k₁ w₁ q₁ lt un₁ in
      let f = fates_alone sd e k₁ w₁ q₁ lt un₁ in
      let cl : (i : ℕ) → closed_at (do_alone s₁ e) i ≡ closed_at s₁ i = λ i. r.closed i ∙ closed_settle Done s₁ e i in
      let d : is_settled (fate_of (do_alone s₁ e) e) ≡ true = ap is_settled (r.fate e ∙ fate_then Done e refl k₁ lt un₁) in
      let z = settled_then (do_alone s₁ e) b w q f cl d in
      submitted_then (do_alone s₁ e) b w q f cl d (beyond_alone sd e k₁ w₁ q₁ lt un₁)
      (strict_alone sd e k₁ w₁ q₁ lt un₁ nd nr) (record { event = e; fate = Done } ∷ [])
      (r.same_lines ∙ lines_then Done e refl k₁ lt un₁)
      (alone (chosen_none_has s₁ e k₁.shape.sized n) (and_both (eqb e e) true (eq-eqb e e refl) refl)
      z.later.same_broken)

pub submit_keeps : {p : Plan} {s : State}
    → Sound p
    → Invariant p s
    → (e : ℕ)
    → e < event_count p
    → is_open (fate_of s e) ≡ true
    → Submitted p (hold s e) (submit s e) e
submit_keeps {p} {s} sd k e lt o = by (delayable p e) refl (chosen (hold s e) e) refl (rejectable p e) refl
  where
    op : fate_of s e ≡ Open
    op = open_is (fate_of s e) o

    sp : s.plan ≡ p
    sp = k.listing.shape.same_plan

    rj : rejectable (hold s e).plan e ≡ rejectable p e
    rj = ap (λ q. rejectable q e) (plan_hold s e ∙ sp)

    to : {t : State} → submit s e ≡ t → Submitted p (hold s e) t e → Submitted p (hold s e) (submit s e) e
    to q h = subst (λ t. Submitted p (hold s e) t e) (sym q) h

    by : (d : Bool)
        → delayable p e ≡ d
        → (c : Option (List ℕ))
        → chosen (hold s e) e ≡ c
        → (r : Bool)
        → rejectable p e ≡ r
        → Submitted p (hold s e) (submit s e) e
    by true d c z r y = to (submit_delayed s e o (ap (λ q. delayable q e) sp ∙ d)) (submit_delayed_keeps sd k e lt op d)
    by false d (some c) z r y =
        to (submit_decided s e o (ap (λ q. delayable q e) sp ∙ d) ∙ ap settle (decide_order (hold s e) e c z))
        (submit_order_keeps sd k e lt op c z)
    by false d none z true y =
        to (submit_decided s e o (ap (λ q. delayable q e) sp ∙ d) ∙ ap settle (decide_refuse (hold s e) e z (rj ∙ y)))
        (submit_refuse_keeps sd k e lt op z)
    by false d none z false y =
        to (submit_decided s e o (ap (λ q. delayable q e) sp ∙ d) ∙ ap settle (decide_alone (hold s e) e z (rj ∙ y)))
        (submit_alone_keeps sd k e lt op z d y)

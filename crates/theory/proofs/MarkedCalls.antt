-- S-5: the mark decides nothing. A call on a state and one on the same state without marks are turned down alike or taken
-- alike, in lists too; number 12 asks only that the marks of fates and lines agree.
use Prim.Native.Nat.{ℕ, zero, suc, ◌<◌}
use native.Mathlib.Omega.{arith}
use mathlib.Core.Bool.{Bool, true, false, not, ◌&&◌, ◌||◌}
use mathlib.Core.List.{List, [], ◌∷◌, ◌++◌, map}
use Rattle.std.specs.declared.option.Option.{Option}
use Rattle.std.specs.declared.option.Option.TheVariants.{None as none, Some as some}
use mathlib.Core.Path.{◌≡◌, refl, sym, ◌∙◌, ap, ap₂, fun_ext}
use lib.Dec.{eqb, ltb, leb}
use lib.ListN.{take, replicate}
use Rattle.theory.proofs.Types.{Fate, Open, Held, Done, Refused, Lapsed, Forced, Rule, Order, Need, Conditional, Plan, Entry, State, CallFault, Incoherent, TurnedDown, Reply, Call, Submit, Close, Finish, Advance}
use Rattle.plan.specs.declared.answer.Answer.TheVariants.{Is, Made}
use Rattle.plan.specs.Base.{any_below, all_below, read_at}
use Rattle.plan.specs.Fates.{is_open, is_held, is_done, is_settled, blank_standing}
use Rattle.plan.specs.Plans.{empty_plan, event_count, rule_count, rule_at, step_of, delayable, has_event}
use Rattle.plan.specs.Rules.{sound_event, sound_rule, sound_window, sound_windows}
use Rattle.plan.specs.Histories.{blank_entry, fate_if, fates_in, any_done, done_in, done_in_turn, holds, declared_only, same_fates, listed_as}
use Rattle.plan.specs.Faults.{first_fault}
use Rattle.plan.specs.Records.{add_event}
use Rattle.scheduler.specs.State.{first_state, fate_of, broken_at, closed_at, line_count, lines, Sized}
use Rattle.scheduler.specs.Coherent.{coherent_event, coherent_rule, coherent}
use Rattle.scheduler.specs.Answers.{unclosed_at, call_rows, call_fault, accept, take_call, call}
use Rattle.scheduler.specs.Lists.{scheduler, after}
use Rattle.scheduler.specs.Sheet.{read_sheet, admitted}
use Rattle.scheduler.specs.Demand.{seen}
use Rattle.theory.specs.Marks.{forget_fate, forget_line, forget, forget_reply, MarksRight, Alike, forget_story, unmarked, ListAlike}
use Rattle.plan.proofs.Lines.{fates_same}
use Rattle.scheduler.proofs.Branches.{take_fault, take_accept, call_fault_lem, call_accept}
use Rattle.theory.proofs.SheetPlans.{sheet_first}
use Rattle.theory.proofs.InvariantCoherent.{same_fates_refl}
use Rattle.theory.proofs.Coherence.{event_passes, sized_call, call_coherent, after_coherent}
use Rattle.theory.proofs.Demands.{admitted_sized, admitted_coherent}
use Rattle.theory.proofs.Marks.{sees_none, Like, owes_kind, plan_like, closed_like, fate_like, kind_like, submit_like, minute_like, close_like, finish_like, move_like, forget_fate_lem}

-- forgetting twice forgets no more
map_twice : {A : Type 0} (f : A → A) → ((a : A) → f (f a) ≡ f a) → (l : List A) → map f (map f l) ≡ map f l
map_twice f h [] = refl
map_twice f h (a ∷ l) = ap₂ (λ b m. b ∷ m) (h a) (map_twice f h l)

pub forget_twice : (s : State) → forget (forget s) ≡ forget s
unfolding forget
forget_twice s =
    rw (
      map_twice _ (λ v. ap (λ (x : Fate). record { fate = x }) (sees_none forget_fate refl v.fate)) s.standings,
      map_twice forget_line (λ (l : Entry). ap (λ (x : Fate). record { event = l.event; fate = x }) (sees_none forget_fate refl l.fate)) s.history,
    )

-- the table's rows
module _ (s t : State) (k : Like s t) where
  closed_same : (j : ℕ) → closed_at s j ≡ closed_at t j
  closed_same j = ap (λ (l : List Bool). read_at 8 l j false) (closed_like s t k)

  rows_like : (c : Call) → call_rows s c ≡ call_rows t c
  rows_like (Submit e) = rw (ap event_count (plan_like s t k))
  rows_like (Close j) = rw (ap (λ (p : Plan). has_event p j) (plan_like s t k), closed_same j)
  rows_like Finish =
      rw (ap (any_below 8) (fun_ext {f = unclosed_at s} {g = unclosed_at t} (λ j. ap₂ (λ a b. a && not b) (ap (λ (p : Plan). has_event p j) (plan_like s t k)) (closed_same j))))
  rows_like (Advance m) = rw (minute_like s t k)

  -- a call that is taken
  accept_like : (c : Call) → forget_reply (accept s c) ≡ forget_reply (accept t c)
  unfolding accept
  accept_like (Submit e) =
      let later = submit_like s t k e in
      ap₂ (λ (x : Fate) (u : State). record { answer = Is x; state = u }) (fate_like _ _ later e) later
  accept_like (Close j) = ap (λ (u : State). record { answer = Made; state = u }) (close_like s t k j)
  accept_like Finish = ap (λ (u : State). record { answer = Made; state = u }) (finish_like s t k)
  accept_like (Advance m) = ap (λ (u : State). record { answer = Made; state = u }) (move_like s t k m)

  -- number 12 aside
  pub take_like : (c : Call) → forget_reply (take_call s c) ≡ forget_reply (take_call t c)
  take_like c = go (first_fault (call_rows t c)) refl
    where
      go : (q : Option CallFault) → first_fault (call_rows t c) ≡ q → forget_reply (take_call s c) ≡ forget_reply (take_call t c)
      go (some f) h = ap forget_reply (take_fault s c f (ap first_fault (rows_like c) ∙ h)) ∙ ap (λ (u : State). record { answer = TurnedDown f; state = u }) k ∙ sym (ap forget_reply (take_fault t c f h))
      go none h = ap forget_reply (take_accept s c (ap first_fault (rows_like c) ∙ h)) ∙ accept_like c ∙ sym (ap forget_reply (take_accept t c h))

  -- where number 12 says the same of both
  module _ (same : coherent s ≡ coherent t) (c : Call) where
    pub fault_like : call_fault s c ≡ call_fault t c
    unfolding call_fault
    fault_like = ap₂ (λ (b : Bool) r. first_fault ((not b, Incoherent) ∷ r)) same (rows_like c)

    pub call_like : forget_reply (call s c) ≡ forget_reply (call t c)
    call_like = go (call_fault t c) refl
      where
        go : (q : Option CallFault) → call_fault t c ≡ q → forget_reply (call s c) ≡ forget_reply (call t c)
        go (some f) h = ap forget_reply (call_fault_lem s c f (fault_like ∙ h)) ∙ ap (λ (u : State). record { answer = TurnedDown f; state = u }) k ∙ sym (ap forget_reply (call_fault_lem t c f h))
        go none h = ap forget_reply (call_accept s c (fault_like ∙ h)) ∙ accept_like c ∙ sym (ap forget_reply (call_accept t c h))

-- histories without marks
fates_forgotten : (h : List Entry) (e : ℕ) → fates_in (map forget_line h) e ≡ map forget_fate (fates_in h e)
unfolding fates_in
fates_forgotten [] e = refl
fates_forgotten (l ∷ h) e = go (eqb l.event e) (fates_forgotten h e)
  where
    go : (b : Bool) → fates_in (map forget_line h) e ≡ map forget_fate (fates_in h e) → (fate_if b (forget_fate l.fate) ++ fates_in (map forget_line h) e) ≡ map forget_fate (fate_if b l.fate ++ fates_in h e)
    go true q = ap (λ m. forget_fate l.fate ∷ m) q
    go false q = q

any_forgotten : (xs : List Fate) → any_done (map forget_fate xs) ≡ any_done xs
unfolding any_done
any_forgotten [] = refl
any_forgotten (x ∷ xs) = ap₂ (λ a b. a || b) (sees_none is_done refl x) (any_forgotten xs)

in_forgotten : (h : List Entry) (e : ℕ) → done_in (map forget_line h) e ≡ done_in h e
unfolding done_in
in_forgotten h e = ap any_done (fates_forgotten h e) ∙ any_forgotten (fates_in h e)

turn_forgotten : (h : List Entry) (a b : ℕ) → done_in_turn (map forget_line h) a b ≡ done_in_turn h a b
unfolding done_in_turn
turn_forgotten [] a b = refl
turn_forgotten (l ∷ h) a b =
    ap₂ (λ x y. x || y)
    (ap₂ (λ x y. eqb l.event a && x && y) (sees_none is_done refl l.fate) (in_forgotten h b))
    (turn_forgotten h a b)

holds_forgotten : (h : List Entry) (r : Rule) → holds (map forget_line h) r ≡ holds h r
unfolding holds
holds_forgotten h (Order a b) = ap not (turn_forgotten h b a)
holds_forgotten h (Need a b) = rw (in_forgotten h a, in_forgotten h b)
holds_forgotten h (Conditional a b c) = rw (in_forgotten h a, in_forgotten h b, in_forgotten h c)

declared_forgotten : (h : List Entry) (n : ℕ) → declared_only (map forget_line h) n ≡ declared_only h n
unfolding declared_only
declared_forgotten [] n = refl
declared_forgotten (l ∷ h) n = ap (λ b. ltb l.event n && b) (declared_forgotten h n)

settled_forgotten : (x : Fate) → map forget_fate (fate_if (is_settled x) x) ≡ fate_if (is_settled (forget_fate x)) (forget_fate x)
settled_forgotten Open = refl
settled_forgotten Held = refl
settled_forgotten Done = refl
settled_forgotten Refused = refl
settled_forgotten Lapsed = refl
settled_forgotten Forced = refl

listed_forgotten : (h : List Entry) (e : ℕ) (x : Fate) → listed_as h e x ≡ true → listed_as (map forget_line h) e (forget_fate x) ≡ true
unfolding listed_as
listed_forgotten h e x t =
    let same = fates_same (fates_in h e) (fate_if (is_settled x) x) t in
    let both : fates_in (map forget_line h) e ≡ fate_if (is_settled (forget_fate x)) (forget_fate x) = fates_forgotten h e ∙ ap (map forget_fate) same ∙ settled_forgotten x in
    ap (λ l. same_fates l (fate_if (is_settled (forget_fate x)) (forget_fate x))) both ∙ same_fates_refl _

take_forgotten : (n : ℕ) (h : List Entry) → take n (map forget_line h) ≡ map forget_line (take n h)
take_forgotten zero h = refl
take_forgotten (suc n) [] = refl
take_forgotten (suc n) (l ∷ h) = ap (λ m. forget_line l ∷ m) (take_forgotten n h)

-- tests that agree below a bound
all_same : (n : ℕ) (p q : ℕ → Bool) → ((i : ℕ) → i < n → p i ≡ q i) → all_below n p ≡ all_below n q
unfolding all_below
all_same zero p q h = refl
all_same (suc n) p q h = ap₂ (λ a b. a && b) (h n (omega arith)) (all_same n p q (λ i lt. h i (omega arith)))

-- number 12 says the same without marks, where they are right
module _ (s : State) where
  k : Like s (forget s)
  k = sym (forget_twice s)

  lines_forgotten : lines (forget s) ≡ map forget_line (lines s)
  unfolding forget
  lines_forgotten = take_forgotten (line_count s) s.history

  event_same : (e : ℕ)
      → listed_as (lines s) e (fate_of s e) ≡ listed_as (lines (forget s)) e (fate_of (forget s) e)
      → coherent_event s e ≡ coherent_event (forget s) e
  unfolding coherent_event forget
  event_same e same =
      let p = s.plan in
      let kind = kind_like s (forget s) k e in
      let waits = not (is_held (fate_of s e) && not (delayable p e)) in
      let unclosed = not (is_open (fate_of s e) && closed_at s (step_of p e)) in
      let listed = listed_as (lines (forget s)) e (fate_of (forget s) e) in
      ap (λ b. sound_event p e && b && waits && unclosed) same
      ∙ ap₂ (λ h o. sound_event p e && listed && not (h && not (delayable p e)) && not (o && closed_at s (step_of p e)))
      kind.is_held_lem kind.found_open

  rule_same : (i : ℕ) → coherent_rule s i ≡ coherent_rule (forget s) i
  unfolding coherent_rule forget
  rule_same i =
      let r = rule_at s.plan i in
      ap₂ (λ a b. sound_rule s.plan i && (broken_at s i || (not a && b)))
      (owes_kind s.plan (fate_of s) (fate_of (forget s)) (kind_like s (forget s) k) r)
      (sym (ap (λ l. holds l r) lines_forgotten ∙ holds_forgotten (lines s) r))

  pub coherent_same : MarksRight s → coherent s ≡ coherent (forget s)
  unfolding coherent forget
  coherent_same right =
      let p = s.plan in
      let counts = leb (event_count p) 16 && leb (rule_count p) 16 && leb (line_count s) 16 in
      let declared = sym (ap (λ l. declared_only l (event_count p)) lines_forgotten ∙ declared_forgotten (lines s) (event_count p)) in
      ap (λ b. counts && b && all_below (event_count p) (coherent_event s) && all_below (rule_count p) (coherent_rule s) && sound_windows p) declared
      ∙ ap₂ (λ a b. counts && declared_only (lines (forget s)) (event_count p) && a && b && sound_windows p)
      (all_same (event_count p) (coherent_event s) (coherent_event (forget s)) (λ e lt. event_same e (right e lt)))
      (all_same (rule_count p) (coherent_rule s) (coherent_rule (forget s)) (λ i lt. rule_same i))

  -- such as in every state that hangs together
  pub coherent_right : coherent s ≡ true → MarksRight s
  coherent_right h e lt =
      let listed = (event_passes s h e lt).1 in
      listed ∙ sym (ap₂ (λ l x. listed_as l e x) lines_forgotten (forget_fate_lem s e) ∙ listed_forgotten (lines s) e (fate_of s e) listed)

  -- every call, on every state of which number 12 says the same without its marks: where they are right, and where it applies
  -- for another reason
  pub alike : coherent s ≡ coherent (forget s) → (c : Call) → Alike s c
  alike same c = record { refusals = fault_like s (forget s) k same c; replies = call_like s (forget s) k same c }

  pub right_alike : MarksRight s → (c : Call) → Alike s c
  right_alike right c = alike (coherent_same right) c

  pub coherent_alike : coherent s ≡ true → (c : Call) → Alike s c
  coherent_alike h c = right_alike (coherent_right h) c

  -- number 12 aside, every state
  pub taken_alike : (c : Call) → forget_reply (take_call s c) ≡ forget_reply (take_call (forget s) c)
  taken_alike c = take_like s (forget s) k c

-- lists: the scheduler that rubs the marks out after every call sees the same
list_forgotten : (s : State) (cs : List Call)
    → Sized s
    → coherent s ≡ true
    → (forget_story (seen scheduler s cs) ≡ seen unmarked (forget s) cs) × (forget (after scheduler s cs) ≡ after unmarked (forget s) cs)
unfolding seen after
list_forgotten s [] z h = (refl, refl)
list_forgotten s (c ∷ cs) z h =
    let u = scheduler s c in
    let same : forget u ≡ unmarked (forget s) c = ap (λ (r : Reply). r.state) (coherent_alike s h c).replies in
    let later = list_forgotten u cs (sized_call s c z) (call_coherent s c z h) in (
      ap₂ (λ (l : List Entry) story. (c, l) ∷ story) (sym (lines_forgotten u) ∙ ap lines same) (later.0 ∙ ap (λ (v : State). seen unmarked v cs) same),
      later.1 ∙ ap (λ (v : State). after unmarked v cs) same,
    )

first_forgotten : (p : Plan) → forget (first_state p) ≡ first_state p
unfolding forget
first_forgotten p = refl

pub list_alike : (bytes : List ℕ) (s : State) (cs : List Call) → read_sheet bytes ≡ admitted s → ListAlike s cs
list_alike bytes s cs read =
    let first = sheet_first bytes s read in
    let plain : forget s ≡ s = ap forget first ∙ first_forgotten s.plan ∙ sym first in
    let z = admitted_sized bytes s read in
    let h = admitted_coherent bytes s read in
    let both = list_forgotten s cs z h in
    record {
      stories = both.0 ∙ ap (λ (v : State). seen unmarked v cs) plain;
      ends = both.1 ∙ ap (λ (v : State). after unmarked v cs) plain;
      next = coherent_alike (after scheduler s cs) (after_coherent s cs z h);
    }

-- the rest of what number 12 asks is asked alike, but that a line and its event have the same mark: of this state, in which
-- event 0 is forced and its line says done, it says so, and without marks it does not
abbrev misread : State
misread = record {
  plan = add_event empty_plan 0 1;
  standings = record { fate = Forced } ∷ replicate 15 blank_standing;
  broken = replicate 16 false;
  closed = replicate 8 false;
  history = record { event = 0; fate = Done } ∷ replicate 15 blank_entry;
  history_len = 1;
  minute = 0;
}

pub marks_wrong : (coherent misread ≡ false) × (coherent (forget misread) ≡ true)
unfolding coherent sound_windows sound_window forget coherent_event coherent_rule all_below declared_only sound_event listed_as fates_in same_fates add_event
marks_wrong = (refl, refl)

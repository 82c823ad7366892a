-- Settling in code: what the found order is, and what its loops say at each of their ends.
use Prim.Native.Nat.{ℕ, zero, suc, ◌+◌, ◌-◌, ◌≤◌, ◌<◌}
use native.Mathlib.Numerals.{sub-one}
use native.Mathlib.Omega.{arith}
use native.Mathlib.Decide.{dec_lt}
use borrow.Author.Tests.{lt-ltb, le-ltb}
use mathlib.Core.Bool.{Bool, true, false, ◌&&◌, ◌||◌, and-false, or-false, and_assoc}
use mathlib.Core.List.{List, [], ◌∷◌}
use mathlib.Core.Logic.{inl, inr}
use Rattle.std.specs.declared.option.Option.{Option}
use Rattle.std.specs.declared.option.Option.TheVariants.{None as none, Some as some}
use mathlib.Core.Path.{◌≡◌, refl, sym, ◌∙◌, ap, fun_ext}
use lib.Dec.{eqb, ltb}
use lib.ListN.{length, get_or, take, drop, drop_of_length-le}
use lib.Seq.{length-take-le, take_all}
use Rattle.std.proofs.lemmas.List.{drop_more}
use Rattle.scheduler.specs.declared.order.Found.{Found}
use Rattle.scheduler.specs.declared.order.Place.{Place}
use Rattle.scheduler.specs.Prelude.{Refused, Rule, Order, Need, Conditional, State}
use Rattle.plan.specs.Base.{any_below, when, lowest}
use Rattle.plan.specs.Plans.{event_count, rule_count, rule_at}
use Rattle.plan.specs.Rules.{bars, ready}
use Rattle.orders.specs.Stepwise.{follows, blocked}
use Rattle.members.specs.declared.view.View.{View}
use Rattle.members.specs.Sets.{in_set, Shows}
use Rattle.scheduler.specs.Orders.{do_one, do_all, chosen, places_of, blank_place, found_events, found_order}
use Rattle.scheduler.specs.State.{fate_of, too_late, settle_as}
use Rattle.plan.specs.Fates.{is_held, is_done, is_gone, done_as}
use Rattle.scheduler.specs.Rules.{stands, ruled_out, barred}
use Rattle.scheduler.specs.Calls.{to_refuse, to_do, settle_once, settle_up_to, settle, refuse_held, finish}
use Rattle.scheduler.specs.Internal.Hopeful.{Hopeful}
use Rattle.scheduler.specs.Internal.Marked.{settle_all}
use Rattle.plan.proofs.Tests.{and_not, either, any_false, any_none, first_some, when_some, some_none}
use Rattle.scheduler.proofs.Branches.{up_to-none, up_to-some, lowest_held, refuse_none, refuse_some}
use Rattle.plan.proofs.Windows.{unwindowed_past, unwindowed_over}
use Rattle.plan.proofs.Loops.{Rest, first_here, first_end}
use Rattle.scheduler.proofs.Searching.{chosen_short}
use Rattle.scheduler.proofs.SearchLoops.{fits, places_length}
use Rattle.scheduler.proofs.Laws.{fate_past}
use Rattle.orders.proofs.Lowest.{first_nowhere, lowest_bounds}
use Rattle.members.proofs.Bits.{in_zero}

-- an order settled by its places, which tell which of its events are open: it is done
settle_opens : (s : State) (o : List ℕ) → settle_all s (places_of s o) ≡ do_all s o
unfolding settle_all places_of do_all
settle_opens s [] = refl
settle_opens s (c ∷ o) = settle_opens (do_one s c) o

-- an order was found, and settling the events at the front of its places does it
pub record Front (s : State) (q : Option (List ℕ)) (r : Found) : Type 0 where
  pub order : List ℕ
  pub is : q ≡ some order
  pub does : settle_all s (take r.len r.places) ≡ do_all s order

-- where an order of at most six events was found, it stands at the front of the places
found_front : (s : State) (q : Option (List ℕ))
    → ((o : List ℕ) → q ≡ some o → length o ≤ 6)
    → (r : Found)
    → some r ≡ found_order s q
    → Front s q r
unfolding found_order
found_front s none short r same = absurd (some_none same)
found_front s (some o) short r same =
    let le = short o refl in
    let is : r ≡ found_events s o = cc same in
    let len = places_length s o in
    let front : take (length o) (found_events s o).places ≡ places_of s o =
    ap (λ (n : ℕ). take n (found_events s o).places) (sym len) ∙ (fits (places_of s o) (omega arith)).front_whole in
    record {
      order = o;
      is = refl;
      does = ap (λ (w : Found). settle_all s (take w.len w.places)) is ∙ ap (settle_all s) front ∙ settle_opens s o;
    }

-- the chosen one does
pub order_found : (s : State) (e : ℕ) (r : Found) → some r ≡ found_order s (chosen s e) → Front s (chosen s e) r
order_found s e = found_front s (chosen s e) (chosen_short s e)

-- where a search found none, there is no order
pub order_missing : (s : State) (q : Option (List ℕ)) → none ≡ found_order s q → q ≡ none
unfolding found_order
order_missing s none same = refl
order_missing s (some o) same = absurd (some_none (sym same))

-- how many the first n of an array of six are
pub front_some : {A : Type 0} (l : List A) (n : ℕ) → length l ≡ 6 → n < 6 → length (take n l) ≡ n
front_some l n six lt = length-take-le n l (omega arith)

pub front_whole : {A : Type 0} (l : List A) (n : ℕ) → length l ≡ 6 → 6 ≤ n → length (take n l) ≡ 6
front_whole l n six ge = ap length (take_all n l (omega arith)) ∙ six

-- a loop over an order's places: the next is settled by its mark, and at the end nothing is left
module _ (places : List Place) (i : ℕ) (s : State) where
  pub settle_next : i < length places
      → let p = get_or places i blank_place in
      settle_all s (drop i places) ≡ settle_all (settle_as (done_as p.opened) s p.event) (drop (i + 1) places)
  unfolding settle_all
  settle_next lt = rw (drop_more places i blank_place lt)

  pub settle_end : length places ≤ i → settle_all s (drop i places) ≡ s
  unfolding settle_all
  settle_end le = rw (drop_of_length-le places {i = i} le)

-- what a view says of a declared event's being held
pub held_seen : (s : State) (v : View)
    → Shows s.plan (fate_of s) v
    → (e : ℕ)
    → e < event_count s.plan
    → (b t : Bool)
    → b ≡ in_set v.held e
    → b ≡ t
    → is_held (fate_of s e) ≡ t
held_seen s v w e lt b t is h =
    sym (w.held e ∙ ap (λ (x : Bool). x && is_held (fate_of s e)) (lt-ltb e (event_count s.plan) lt)) ∙ sym is ∙ h

-- where nothing is held there is no turn to make
module _ (s : State) (unheld : (x : ℕ) → x < event_count s.plan → is_held (fate_of s x) ≡ false) where
  none_refused : to_refuse s ≡ none
  unfolding to_refuse lowest
  none_refused = first_nowhere (event_count s.plan) 0 _ (λ x lo hi. rw (unheld x (omega arith)))

  none_done : to_do s ≡ none
  unfolding to_do
  none_done = first_nowhere (event_count s.plan) 0 _ (λ x lo hi. rw (unheld x (omega arith)))

  pub unheld_turned : settle_once s ≡ none
  unfolding settle_once
  unheld_turned = rw (none_refused, none_done, settle_once)

-- the events that a view shows held and a pass over the rules barred: the lowest is the one to refuse
module _ (s : State) (v : View) (w : Shows s.plan (fate_of s) v) where
  no_follow : (r : Rule) (x : ℕ) → follows s.plan (in_set 0) r x ≡ false
  unfolding follows
  no_follow (Order a b) x = rw (in_zero a) (and-false (eqb x b))
  no_follow (Need a b) x = refl
  no_follow (Conditional a b c) x = refl

  none_left : (x : ℕ) → blocked s.plan (stands s) (fate_of s) (in_set 0) x ≡ ruled_out s x
  unfolding blocked ruled_out
  none_left x = ap (any_below (rule_count s.plan)) (fun_ext (λ i. ap (λ (t : Bool). stands s i && t) (rw (no_follow (rule_at s.plan i) x) (or-false (bars s.plan (fate_of s) (rule_at s.plan i) x)))))

  held_past : (x : ℕ) → 16 ≤ x → is_held (fate_of s x) ≡ false
  held_past x ge = ap is_held (fate_past s x ge)

  module _ (b d : ℕ) (is-barred : (x : ℕ) → x < 16 → in_set b x ≡ blocked s.plan (stands s) (fate_of s) (in_set 0) x) (late : ℕ) (is-late : (x : ℕ) → x < 16 → in_set late x ≡ too_late s x) (both : (x : ℕ) → in_set d x ≡ (in_set v.held x && (in_set b x || in_set late x))) where
    held_barred : (x : ℕ) → (ltb x (event_count s.plan) && (is_held (fate_of s x) && barred s x)) ≡ (ltb x 16 && in_set d x)
    unfolding barred
    held_barred x = elim (dec_lt x 16) [
      | yes lt ↦ sym (rw (lt-ltb x 16 lt, both x, w.held x, is-barred x lt, none_left x, is-late x lt) (and_assoc (ltb x (event_count s.plan)) (is_held (fate_of s x)) (barred s x)))
      | no ge ↦ rw (le-ltb x 16 (omega arith), held_past x (omega arith)) (and-false (ltb x (event_count s.plan)))
    ]

    pub refuse_same : to_refuse s ≡ lowest 16 (in_set d)
    unfolding to_refuse
    refuse_same = lowest_bounds (event_count s.plan) 16 (λ e. is_held (fate_of s e) && barred s e) (in_set d) held_barred

  -- where the view shows nothing done, refused or lapsed, no event is barred
  module _ (none-done-yet : v.done ≡ 0) (none-gone-yet : v.gone ≡ 0) where
    not_done : (x : ℕ) → is_done (fate_of s x) ≡ false
    not_done x = sym (w.done x) ∙ ap (λ (m : ℕ). in_set m x) none-done-yet ∙ in_zero x

    not_gone : (x : ℕ) → is_gone (fate_of s x) ≡ false
    not_gone x = sym (w.gone x) ∙ ap (λ (m : ℕ). in_set m x) none-gone-yet ∙ in_zero x

    bars_none : (r : Rule) (x : ℕ) → bars s.plan (fate_of s) r x ≡ false
    unfolding bars
    bars_none (Order a b) x = rw (not_done b) (and-false (eqb x a))
    bars_none (Need a b) x = rw (not_gone b) (and-false (eqb x a))
    bars_none (Conditional a b c) x = rw (not_gone c)

    unruled : (x : ℕ) → ruled_out s x ≡ false
    unfolding ruled_out
    unruled x = any_none (rule_count s.plan) _ (λ i lt. ap (λ (b : Bool). stands s i && b) (bars_none (rule_at s.plan i) x) ∙ and-false (stands s i))

    -- nor is one too late where none is past its window
    module _ (late : ℕ) (is-late : (x : ℕ) → x < 16 → in_set late x ≡ too_late s x) (none-late : late ≡ 0) where
      not_late : (x : ℕ) → too_late s x ≡ false
      not_late x = elim (dec_lt x 16) [
        | yes lt ↦ sym (is-late x lt) ∙ ap (λ (m : ℕ). in_set m x) none-late ∙ in_zero x
        | no ge ↦ unwindowed_over s.plan x (unwindowed_past s.plan x (omega arith)) s.minute
      ]

      unbarred : (x : ℕ) → barred s x ≡ false
      unfolding barred
      unbarred x = rw (unruled x, not_late x)

      pub none_barred : none ≡ to_refuse s
      unfolding to_refuse lowest
      none_barred =
          sym (first_nowhere (event_count s.plan) 0 _ (λ x lo hi. rw (unbarred x, and-false (is_held (fate_of s x)))))

  -- where the view shows nothing held there is no turn to make
  module _ (none-held : v.held ≡ 0) where
    unheld : (x : ℕ) → x < event_count s.plan → is_held (fate_of s x) ≡ false
    unheld x lt = held_seen s v w x lt (in_set v.held x) false refl (ap (λ (m : ℕ). in_set m x) none-held ∙ in_zero x)

    pub none_turned : settle_once s ≡ none
    none_turned = unheld_turned s unheld

-- an event whose chosen order is to be done: it is held and has one
module _ (s : State) (e : ℕ) where
  abbrev pub doing : Option (List ℕ)
  doing = when (is_held (fate_of s e)) (chosen s e)

  doing_some : (o : List ℕ) → is_held (fate_of s e) ≡ true → chosen s e ≡ some o → doing ≡ some o
  doing_some o h q = rw (h, q)

  pub doing_hopeless : is_held (fate_of s e) ≡ true → chosen s e ≡ none → doing ≡ none
  doing_hopeless h q = rw (h, q)

  doing_none : is_held (fate_of s e) ≡ false → doing ≡ none
  doing_none h = rw h

-- an event that is not held, or not worth a search, has none to be done
pub doing_passed : (s : State) (v : View) (able e : ℕ)
    → Shows s.plan (fate_of s) v
    → Hopeful s (in_set able)
    → e < event_count s.plan
    → (in_set v.held e && in_set able e) ≡ false
    → doing s e ≡ none
unfolding ready
doing_passed s v able e w k lt h = elim (either (in_set v.held e)) [
  | inl t ↦
      let held = held_seen s v w e lt (in_set v.held e) true refl t in
      doing_hopeless s e held (k.others e lt (rw held) (and_not (in_set v.held e) (in_set able e) h t))
  | inr t ↦ doing_none s e (held_seen s v w e lt (in_set v.held e) false refl t)
]

-- the loop over the held events, at its ends
module _ (s : State) (e : ℕ) (before : Rest (event_count s.plan) (doing s) e) where
  pub held_found : e < event_count s.plan
      → is_held (fate_of s e) ≡ true
      → (r : Found)
      → some r ≡ found_order s (chosen s e)
      → some r ≡ found_order s (to_do s)
  unfolding to_do
  held_found lt h r same =
      let f = order_found s e r same in
      same ∙ ap (found_order s) (f.is ∙ sym (before ∙ first_here (event_count s.plan) e (doing s) f.order lt (doing_some s e f.order h f.is)))

  pub held_none : event_count s.plan ≤ e → none ≡ found_order s (to_do s)
  unfolding to_do found_order
  held_none ge = ap (found_order s) (sym (before ∙ first_end (event_count s.plan) e (doing s) ge))

-- a turn of settling
module _ (s : State) where
  to_do_short : (o : List ℕ) → to_do s ≡ some o → length o ≤ 6
  unfolding to_do
  to_do_short o h =
      let f = first_some (event_count s.plan) 0 (doing s) o h in
      chosen_short s f.place o (when_some (is_held (fate_of s f.place)) (chosen s f.place) o f.gives).1

  pub turn_refuses : (e : ℕ) → to_refuse s ≡ some e → settle_once s ≡ some (settle_as Refused s e)
  unfolding settle_once
  turn_refuses e is = rw (is, settle_once)

  module _ (unrefused : to_refuse s ≡ none) where
    pub turn_does : (r : Found)
        → some r ≡ found_order s (to_do s)
        → settle_once s ≡ some (settle_all s (take r.len r.places))
    unfolding settle_once
    turn_does r found = let f = found_front s (to_do s) to_do_short r found in rw (unrefused, f.is, f.does, settle_once)

    pub turn_rests : none ≡ found_order s (to_do s) → settle_once s ≡ none
    unfolding settle_once
    turn_rests found = rw (unrefused, order_missing s (to_do s) found, settle_once)

-- a loop of turns: none is left to make, or one is made
module _ (s : State) where
  pub up_rest : (n : ℕ) → settle_once s ≡ none → settle_up_to n s ≡ s
  unfolding settle_up_to
  up_rest zero h = refl
  up_rest (suc n) h = up_to-none n s h

  pub up_next : (n : ℕ) → 0 < n → (t : State) → settle_once s ≡ some t → settle_up_to n s ≡ settle_up_to (n - 1) t
  up_next zero lt t h = absurd (omega arith)
  up_next (suc n) lt t h = up_to-some n s t h ∙ rw sub-one

-- no turn may be made any more
pub up_end : (n : ℕ) (s : State) → n ≤ 0 → settle_up_to n s ≡ s
unfolding settle_up_to
up_end zero s le = refl
up_end (suc n) s le = absurd (omega arith)

-- the lowest held event, by a view: a loop that refuses it and settles
module _ (s : State) (v : View) (w : Shows s.plan (fate_of s) v) where
  held_same : (x : ℕ) → (ltb x (event_count s.plan) && is_held (fate_of s x)) ≡ (ltb x 16 && in_set v.held x)
  held_same x = elim (dec_lt x 16) [
    | yes lt ↦ rw (lt-ltb x 16 lt) (sym (w.held x))
    | no ge ↦ rw (le-ltb x 16 (omega arith), ap is_held (fate_past s x (omega arith))) (and-false (ltb x (event_count s.plan)))
  ]

  low_held : lowest_held s ≡ lowest 16 (in_set v.held)
  low_held = lowest_bounds (event_count s.plan) 16 (λ e. is_held (fate_of s e)) (in_set v.held) held_same

  pub refuse_rest : (n : ℕ) → 0 < n → lowest 16 (in_set v.held) ≡ none → refuse_held n s ≡ s
  refuse_rest zero lt is = absurd (omega arith)
  refuse_rest (suc n) lt is = refuse_none n s (low_held ∙ is)

  pub refuse_more : (n : ℕ)
      → 0 < n
      → (e : ℕ)
      → lowest 16 (in_set v.held) ≡ some e
      → refuse_held n s ≡ refuse_held (n - 1) (settle (settle_as Refused s e))
  refuse_more zero lt e is = absurd (omega arith)
  refuse_more (suc n) lt e is = refuse_some n s e (low_held ∙ is) ∙ rw sub-one

-- no event may be refused any more
pub refuse_end : (n : ℕ) (s : State) → n ≤ 0 → refuse_held n s ≡ s
unfolding refuse_held
refuse_end zero s le = refl
refuse_end (suc n) s le = absurd (omega arith)

-- settling where nothing is held
pub settle_unheld : (s : State) → any_below (event_count s.plan) (λ e. is_held (fate_of s e)) ≡ false → settle s ≡ s
unfolding settle
settle_unheld s h = up_rest s 16 (unheld_turned s (any_false (event_count s.plan) (λ e. is_held (fate_of s e)) h))

-- winding up where nothing is held
pub finish_unheld : (s : State) → ((x : ℕ) → x < event_count s.plan → is_held (fate_of s x) ≡ false) → finish s ≡ s
unfolding finish settle lowest
finish_unheld s unheld =
    ap (refuse_held 16) (up_rest s 16 (unheld_turned s unheld))
    ∙ refuse_none 15 s (first_nowhere (event_count s.plan) 0 _ (λ x lo hi. rw (unheld x (omega arith))))

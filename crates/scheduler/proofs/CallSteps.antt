-- What the code of the calls says at each of its ends.
use Prim.Native.Nat.{ℕ, ◌≤◌, ◌<◌}
use borrow.Author.Tests.{not-true, lt-ltb, le-ltb, ltb-true, ltb-false, le-leb, lt-leb, leb-true, leb-false}
use mathlib.Core.Bool.{Bool, true, false, not, ◌||◌}
use mathlib.Core.List.{[], ◌∷◌}
use Rattle.std.specs.declared.option.Option.{Option}
use Rattle.std.specs.declared.option.Option.TheVariants.{None as none, Some as some}
use mathlib.Core.Path.{◌≡◌, refl, sym, ◌∙◌, ap}
use lib.Dec.{ltb, leb}
use lib.ListN.{take, get_or}
use Rattle.scheduler.specs.declared.order.Found.{Found}
use Rattle.scheduler.specs.Prelude.{Fate, Refused, Standing, State, Unknown, AlreadyClosed, NotClosed, Incoherent, Backward, CallFault, Call, Submit, Close, Finish, Advance, Is, Made, Reply}
use Rattle.plan.specs.Base.{any_below}
use Rattle.plan.specs.Plans.{event_count, rejectable, has_event}
use Rattle.scheduler.specs.State.{fate_of, closed_at, settle_as}
use Rattle.plan.specs.Fates.{is_open, is_held, blank_standing}
use Rattle.scheduler.specs.Orders.{chosen, found_order}
use Rattle.scheduler.specs.Calls.{do_alone, decide, submit, close_step, finish, advance_to}
use Rattle.plan.specs.Faults.{first_fault}
use Rattle.scheduler.specs.Coherent.{coherent}
use Rattle.scheduler.specs.Answers.{unclosed_at, call_rows, turns_down, call_fault, idle, accept, turned_down_by, take_call, call}
use Rattle.scheduler.specs.Internal.Marked.{settle_all}
use Rattle.plan.proofs.Arrays.{read_in}
use Rattle.plan.proofs.Tests.{clash, any_false}
use Rattle.plan.proofs.Tables.{row_hit, row_miss, rows_none}
use Rattle.scheduler.proofs.SettleLoops.{order_found, order_missing, finish_unheld}
use Rattle.scheduler.proofs.Branches.{decide_order, decide_refuse, decide_alone, submit_same, turns_some, turns_none, take_fault, take_accept, call_fault_lem, call_accept}

-- deciding an event, by what the search for an order gives
module _ (s : State) (e : ℕ) where
  -- an order is found, and done
  pub decide_found : (r : Found)
      → some r ≡ found_order s (chosen s e)
      → settle_all s (take r.len r.places) ≡ decide s e
  decide_found r same = let f = order_found s e r same in f.does ∙ sym (decide_order s e f.order f.is)

  -- none is found: the event is refused if it can be, else done alone
  module _ (missing : none ≡ found_order s (chosen s e)) where
    pub decide_refused : rejectable s.plan e ≡ true → settle_as Refused s e ≡ decide s e
    decide_refused can = sym (decide_refuse s e (order_missing s (chosen s e) missing) can)

    pub decide_done : rejectable s.plan e ≡ false → do_alone s e ≡ decide s e
    decide_done cannot = sym (decide_alone s e (order_missing s (chosen s e) missing) cannot)

-- whether an event is open, by what code reads in its place
module _ (s : State) (e : ℕ) where
  pub fate_in : (o : Bool) → e < 16 → o ≡ is_open (get_or s.standings e blank_standing).fate → o ≡ is_open (fate_of s e)
  fate_in o lt h = h ∙ ap (λ (v : Standing). is_open v.fate) (sym (read_in 16 s.standings e blank_standing lt))

-- a call that is idle leaves the state as it is
pub idle_same : (s : State) (c : Call) → idle s c ≡ true → (accept s c).state ≡ s
unfolding idle accept
idle_same s (Submit e) h = submit_same s e (not-true (is_open (fate_of s e)) h)
idle_same s (Close k) h = absurd (clash h refl)
idle_same s (Advance m) h = absurd (clash h refl)
idle_same s Finish h = finish_unheld s (any_false _ _ (not-true (any_below (event_count s.plan) (λ e. is_held (fate_of s e))) h))

-- what code answers for each call
module _ (s : State) (made : Call) where
  pub submit_idle : (e : ℕ) (o : Bool) → made ≡ Submit e → o ≡ is_open (fate_of s e) → not o ≡ idle s made
  unfolding idle
  submit_idle e o is h = rw (is, h)

  pub close_idle : (k : ℕ) → made ≡ Close k → false ≡ idle s made
  unfolding idle
  close_idle k is = rw is

  pub move_idle : (m : ℕ) → made ≡ Advance m → false ≡ idle s made
  unfolding idle
  move_idle m is = rw is

  pub finish_idle : (h : Bool)
      → made ≡ Finish
      → h ≡ any_below (event_count s.plan) (λ e. is_held (fate_of s e))
      → not h ≡ idle s made
  unfolding idle
  finish_idle h is same = rw (is, same)

-- the calls: the rows of the table that apply, or none, and what the call then gives
module _ (s : State) (c : Call) where
  -- number 12 goes first
  pub call_incoherent : coherent s ≡ false → turned_down_by Incoherent s ≡ call s c
  unfolding call_fault
  call_incoherent h = sym (call_fault_lem s c Incoherent (row_hit (not (coherent s)) Incoherent (call_rows s c) (ap not h)))

  -- its own rows: one applies, or none
  pub take_refused : (f : CallFault) → first_fault (call_rows s c) ≡ some f → turned_down_by f s ≡ take_call s c
  take_refused f r = sym (take_fault s c f r)

  pub take_accepted : (r : Reply) → first_fault (call_rows s c) ≡ none → r ≡ accept s c → r ≡ take_call s c
  take_accepted r none_is same = same ∙ sym (take_accept s c none_is)

  -- where number 12 does not apply
  module _ (h : coherent s ≡ true) where
    rows : call_fault s c ≡ first_fault (call_rows s c)
    unfolding call_fault
    rows = row_miss (not (coherent s)) Incoherent (call_rows s c) (ap not h)

    -- number 12 tested, the rest of it is the call
    pub take_call_lem : take_call s c ≡ call s c
    take_call_lem = go (first_fault (call_rows s c)) refl
      where
        go : (q : Option CallFault) → first_fault (call_rows s c) ≡ q → take_call s c ≡ call s c
        go (some f) r = take_fault s c f r ∙ sym (call_fault_lem s c f (rows ∙ r))
        go none r = take_accept s c r ∙ sym (call_accept s c (rows ∙ r))

    -- as `turns_down` tells it
    pub turned_down_lem : turns_down s c ≡ true → (f : CallFault) × (call_fault s c ≡ some f)
    turned_down_lem t = go (first_fault (call_rows s c)) refl
      where
        go : (q : Option CallFault) → first_fault (call_rows s c) ≡ q → (f : CallFault) × (call_fault s c ≡ some f)
        go (some f) r = (f, rows ∙ r)
        go none r = absurd (clash t (turns_none s c r))

    pub not_turned_down : turns_down s c ≡ false → call_fault s c ≡ none
    not_turned_down t = go (first_fault (call_rows s c)) refl
      where
        go : (q : Option CallFault) → first_fault (call_rows s c) ≡ q → call_fault s c ≡ none
        go (some f) r = absurd (clash (turns_some s c f r) t)
        go none r = rows ∙ r

-- the rows of each call
module _ (s : State) where
  module _ (e : ℕ) where
    pub submit_unknown : event_count s.plan ≤ e → first_fault (call_rows s (Submit e)) ≡ some Unknown
    submit_unknown u = row_hit (leb (event_count s.plan) e) Unknown [] (le-leb _ _ u)

    pub submit_known : e < event_count s.plan → first_fault (call_rows s (Submit e)) ≡ none
    submit_known u = row_miss (leb (event_count s.plan) e) Unknown [] (lt-leb _ _ u) ∙ rows_none

    pub submit_turns : leb (event_count s.plan) e ≡ turns_down s (Submit e)
    submit_turns = go (leb (event_count s.plan) e) refl
      where
        go : (b : Bool) → leb (event_count s.plan) e ≡ b → leb (event_count s.plan) e ≡ turns_down s (Submit e)
        go true t = t ∙ sym (turns_some s (Submit e) Unknown (submit_unknown (leb-true _ _ t)))
        go false t = t ∙ sym (turns_none s (Submit e) (submit_known (leb-false _ _ t)))

    -- what handing in gives
    pub submit_reply : (t : State) (x : Fate)
        → t ≡ submit s e
        → x ≡ fate_of t e
        → ◌≡◌ {A = Reply} (record { answer = Is x; state = t }) (accept s (Submit e))
    unfolding accept
    submit_reply t x same fate =
        ap {B = Reply} (λ (y : Fate). record { answer = Is y; state = t }) fate
        ∙ ap {B = Reply} (λ (w : State). record { answer = Is (fate_of w e); state = w }) same

  module _ (k : ℕ) where
    pub close_unknown : has_event s.plan k ≡ false → first_fault (call_rows s (Close k)) ≡ some Unknown
    close_unknown u = row_hit (not (has_event s.plan k)) Unknown ((closed_at s k, AlreadyClosed) ∷ []) (ap not u)

    known : has_event s.plan k ≡ true
        → first_fault (call_rows s (Close k)) ≡ first_fault ((closed_at s k, AlreadyClosed) ∷ [])
    known u = row_miss (not (has_event s.plan k)) Unknown ((closed_at s k, AlreadyClosed) ∷ []) (ap not u)

    pub close_again : has_event s.plan k ≡ true
        → closed_at s k ≡ true
        → first_fault (call_rows s (Close k)) ≡ some AlreadyClosed
    close_again u a = known u ∙ row_hit (closed_at s k) AlreadyClosed [] a

    pub close_known : has_event s.plan k ≡ true → closed_at s k ≡ false → first_fault (call_rows s (Close k)) ≡ none
    close_known u a = known u ∙ row_miss (closed_at s k) AlreadyClosed [] a ∙ rows_none

    pub close_turns : (not (has_event s.plan k) || closed_at s k) ≡ turns_down s (Close k)
    close_turns = go (has_event s.plan k) (closed_at s k) refl refl
      where
        go : (b d : Bool)
            → has_event s.plan k ≡ b
            → closed_at s k ≡ d
            → (not (has_event s.plan k) || closed_at s k) ≡ turns_down s (Close k)
        go false d t u = rw t (sym (turns_some s (Close k) Unknown (close_unknown t)))
        go true true t u = rw (t, u) (sym (turns_some s (Close k) AlreadyClosed (close_again t u)))
        go true false t u = rw (t, u) (sym (turns_none s (Close k) (close_known t u)))

    pub close_reply : (t : State)
        → t ≡ close_step s k
        → ◌≡◌ {A = Reply} (record { answer = Made; state = t }) (accept s (Close k))
    unfolding accept
    close_reply t same = ap {B = Reply} (λ (w : State). record { answer = Made; state = w }) same

  module _ (m : ℕ) where
    pub move_early : m < s.minute → first_fault (call_rows s (Advance m)) ≡ some Backward
    move_early u = row_hit (ltb m s.minute) Backward [] (lt-ltb _ _ u)

    pub move_taken : s.minute ≤ m → first_fault (call_rows s (Advance m)) ≡ none
    move_taken u = row_miss (ltb m s.minute) Backward [] (le-ltb _ _ u) ∙ rows_none

    pub move_turns : ltb m s.minute ≡ turns_down s (Advance m)
    move_turns = go (ltb m s.minute) refl
      where
        go : (b : Bool) → ltb m s.minute ≡ b → ltb m s.minute ≡ turns_down s (Advance m)
        go true t = t ∙ sym (turns_some s (Advance m) Backward (move_early (ltb-true _ _ t)))
        go false t = t ∙ sym (turns_none s (Advance m) (move_taken (ltb-false _ _ t)))

    pub move_reply : (t : State)
        → t ≡ advance_to s m
        → ◌≡◌ {A = Reply} (record { answer = Made; state = t }) (accept s (Advance m))
    unfolding accept
    move_reply t same = ap {B = Reply} (λ (w : State). record { answer = Made; state = w }) same

  pub finish_unclosed : any_below 8 (unclosed_at s) ≡ true → first_fault (call_rows s Finish) ≡ some NotClosed
  finish_unclosed u = row_hit (any_below 8 (unclosed_at s)) NotClosed [] u

  pub finish_closed : any_below 8 (unclosed_at s) ≡ false → first_fault (call_rows s Finish) ≡ none
  finish_closed u = row_miss (any_below 8 (unclosed_at s)) NotClosed [] u ∙ rows_none

  pub finish_turns : any_below 8 (unclosed_at s) ≡ turns_down s Finish
  finish_turns = go (any_below 8 (unclosed_at s)) refl
    where
      go : (b : Bool) → any_below 8 (unclosed_at s) ≡ b → any_below 8 (unclosed_at s) ≡ turns_down s Finish
      go true t = t ∙ sym (turns_some s Finish NotClosed (finish_unclosed t))
      go false t = t ∙ sym (turns_none s Finish (finish_closed t))

  pub finish_reply : (t : State)
      → t ≡ finish s
      → ◌≡◌ {A = Reply} (record { answer = Made; state = t }) (accept s Finish)
  unfolding accept
  finish_reply t same = ap {B = Reply} (λ (w : State). record { answer = Made; state = w }) same

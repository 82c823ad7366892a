-- S-7: no event is done or forced outside its window, none is held at or after its end, and what is over is so for
-- good.
use Prim.Native.Nat.{ℕ, ◌≤◌}
use native.Mathlib.Omega.{arith}
use native.Mathlib.Decide.{ℕ_discrete, dec_lt}
use mathlib.Core.Bool.{true, false}
use mathlib.Core.List.{List, [], ◌∷◌, ◌++◌, map, append-nil, append_assoc}
use mathlib.Core.Logic.{◌≢◌, inl, inr}
use Rattle.std.specs.declared.option.Option.{Option}
use Rattle.std.specs.declared.option.Option.TheVariants.{None as none, Some as some}
use mathlib.Core.Path.{◌≡◌, refl, sym, ◌∙◌, ap, ap₂, subst}
use lib.ListN.{length, drop}
use lib.Seq.{drop-append_seam}
use Rattle.theory.proofs.Types.{Fate, Open, Done, Refused, Lapsed, Plan, Entry, State, CallFault, Reply, Call, Submit, Close, Finish, Advance}
use Rattle.plan.specs.Fates.{is_open, is_held, is_done}
use Rattle.plan.specs.Plans.{event_count, delayable, over_at}
use Rattle.plan.specs.Rules.{sound_windows}
use Rattle.scheduler.specs.State.{first_state, fate_of, line_count, lines, in_time, too_late, hold, settle_as, shut, set_minute, Sized}
use Rattle.scheduler.specs.Rules.{ruled_out, barred}
use Rattle.scheduler.specs.Orders.{fate_at_turn, do_one, do_all, Runs}
use Rattle.scheduler.specs.Calls.{refuses, does, AtRest, do_alone, submit, close_step, finish, advance_to}
use Rattle.scheduler.specs.Answers.{call_fault, accept, call}
use Rattle.scheduler.specs.Lists.{scheduler, after}
use Rattle.scheduler.specs.Demand.{seen, Observed, minute_after, state_of, observe, observe_all}
use Rattle.scheduler.specs.Grounds.{Trail, end, held, ordered, alone, refused, shuts, lapsed, moves}
use Rattle.scheduler.specs.Doing.{Acts}
use Rattle.theory.specs.Windows.{InTime, minute_of, Punctual, at, timed_lines, AllInTime, KeepsTime, NoneOverdue, ForGood}
use Rattle.plan.proofs.Tests.{clash, either, or_right}
use Rattle.plan.proofs.Windows.{unwindowed_allowed, over_later, over_disallowed, undelayable_unwindowed, windows_sound}
use Rattle.scheduler.proofs.Laws.{plan_settle, plan_one, plan_hold, plan_shut, plan_minute, fate_settle_either, fate_settle_other, fate_past, fate_hold_same, fate_hold_other, fate_shut, fate_minute, lines_settle, lines_hold, lines_shut, lines_minute, sized_settle, sized_one, sized_hold, sized_shut, sized_minute, minute_settle, minute_hold, minute_shut, minute_moved}
use Rattle.scheduler.proofs.Branches.{submit_same, call_fault_lem, call_accept}
use Rattle.scheduler.proofs.Searching.{may_time, plan-do_all, sized-do_all}
use Rattle.scheduler.proofs.Grounds.{sized_alone, submit_low, settle_trail, submit_trail, close_trail, finish_trail, grounded}
use Rattle.scheduler.proofs.Doing.{lines_full, lines_alone, alone_plan, alone_fate, rest_held, doing}
use Rattle.theory.proofs.Coherence.{accepted_coherent, coherent_windows, sized_call}
use Rattle.theory.proofs.Minutes.{minute_alone}
use Rattle.theory.proofs.SheetPlans.{sheet_first, sheet_sound}
use Rattle.theory.proofs.SoundPlans.{Sound}
use Rattle.plan.proofs.Fates.{open_is}
use Rattle.theory.proofs.Demands.{all_open, ListInvariant, step, at_begin, at_list, admitted_sized, demand3}

-- lines that are in time, one after another
both_in_time : (p : Plan) (m : ℕ) (a b : List Entry) → InTime p m a → InTime p m b → InTime p m (a ++ b)
both_in_time p m [] b x y = y
both_in_time p m (l ∷ a) b x y = (x.0, both_in_time p m a b x.1 y)

-- what the writes from s to t add is in time at the minute of s, which stays, as the plan does
record Timed (s t : State) : Type 0 where
  new : List Entry
  lines_new : lines t ≡ lines s ++ new
  timely : InTime s.plan s.minute new
  same_plan : t.plan ≡ s.plan
  same_minute : t.minute ≡ s.minute

timed_then : {s t u : State} → Timed s t → Timed t u → Timed s u
timed_then {s} {t} {u} f g = record {
  new = f.new ++ g.new;
  lines_new = g.lines_new ∙ ap (λ h. h ++ g.new) f.lines_new ∙ append_assoc (lines s) f.new g.new;
  timely = both_in_time s.plan s.minute f.new g.new f.timely
      (subst (λ (m : ℕ). InTime s.plan m g.new) f.same_minute (subst (λ (p : Plan). InTime p t.minute g.new) f.same_plan g.timely));
  same_plan = g.same_plan ∙ f.same_plan;
  same_minute = g.same_minute ∙ f.same_minute;
}

timed_same : (s t : State) → lines t ≡ lines s → t.plan ≡ s.plan → t.minute ≡ s.minute → Timed s t
timed_same s t l p m = record { new = []; lines_new = l ∙ sym (append-nil (lines s)); timely = tt; same_plan = p; same_minute = m }

timed_settle : (x : Fate) (s : State) (e : ℕ) → Sized s → (is_done x ≡ true → in_time s e ≡ true) → Timed s (settle_as x s e)
timed_settle x s e z h = elim (dec_lt (line_count s) 16) [
  | yes lt ↦ record {
    new = record { event = e; fate = x } ∷ [];
    lines_new = lines_settle x s e z lt;
    timely = (h, tt);
    same_plan = plan_settle x s e;
    same_minute = minute_settle x s e;
  }
  | no ge ↦ timed_same s (settle_as x s e) (lines_full x s e (omega arith)) (plan_settle x s e) (minute_settle x s e)
]

timed_order : (s : State) (o : List ℕ) → Sized s → Runs s o → Timed s (do_all s o)
unfolding do_all
timed_order s [] z r = timed_same s s refl refl refl
timed_order s (c ∷ o) z r =
    timed_then (timed_settle (fate_at_turn s c) s c z (λ d. may_time s c r.1)) (timed_order (do_one s c) o (sized_one s c z) r.2)

-- an event that cannot wait has no window, and is done alone at any minute
timed_alone : (s : State) (e : ℕ) → Sized s → sound_windows s.plan ≡ true → delayable s.plan e ≡ false → Timed s (do_alone s e)
timed_alone s e z w d =
    let free = undelayable_unwindowed s.plan e (windows_sound s.plan w e) d in
    let one = timed_settle Done s e z (λ t. unwindowed_allowed s.plan e free s.minute) in
    record {
      new = one.new;
      lines_new = lines_alone s e ∙ one.lines_new;
      timely = one.timely;
      same_plan = alone_plan s e;
      same_minute = minute_alone s e;
    }

-- where the call moves the minute, it is moved already
abbrev Fixed : Call → State → Type 0
Fixed c s = (m : ℕ) → c ≡ Advance m → m ≡ s.minute

module _ {s u : State} (f : Timed s u) where
  windows_after : sound_windows s.plan ≡ true → sound_windows u.plan ≡ true
  windows_after w = ap sound_windows f.same_plan ∙ w

  fixed_after : (c : Call) → Fixed c s → Fixed c u
  fixed_after c k m p = k m p ∙ sym f.same_minute

trail_timed : {c : Call} {s t : State} → Trail c s t → Sized s → sound_windows s.plan ≡ true → Fixed c s → Timed s t
trail_timed {c} {s} end z w k = timed_same s s refl refl refl
trail_timed {c} (held {s} e p h r) z w k =
    let f = timed_same s (hold s e) (lines_hold s e) (plan_hold s e) (minute_hold s e) in
    timed_then f (trail_timed r (sized_hold s e z) (windows_after f w) (fixed_after f c k))
trail_timed {c} (ordered {s} e o h g r) z w k =
    let f = timed_order s o z g.viable.runs in
    timed_then f (trail_timed r (sized-do_all s o z) (windows_after f w) (fixed_after f c k))
trail_timed {c} (alone {s} e p u d j n r) z w k =
    let f = timed_alone s e z w d in
    timed_then f (trail_timed r (sized_alone s e z) (windows_after f w) (fixed_after f c k))
trail_timed {c} (refused {s} e g r) z w k =
    let f = timed_settle Refused s e z (λ t. absurd (clash t refl)) in
    timed_then f (trail_timed r (sized_settle Refused s e z) (windows_after f w) (fixed_after f c k))
trail_timed {c} (shuts {s} j p r) z w k =
    let f = timed_same s (shut s j) (lines_shut s j) (plan_shut s j) (minute_shut s j) in
    timed_then f (trail_timed r (sized_shut s j z) (windows_after f w) (fixed_after f c k))
trail_timed {c} (lapsed {s} e p h r) z w k =
    let f = timed_settle Lapsed s e z (λ t. absurd (clash t refl)) in
    timed_then f (trail_timed r (sized_settle Lapsed s e z) (windows_after f w) (fixed_after f c k))
trail_timed {c} (moves {s} m p h r) z w k =
    let f = timed_same s (set_minute s m) (lines_minute s m) (plan_minute s m) (minute_moved s m ∙ k m p) in
    timed_then f (trail_timed r (sized_minute s m z) (windows_after f w) (fixed_after f c k))

-- a call that is taken: its minute, and what it adds
record Added (s t : State) (c : Call) : Type 0 where
  new : List Entry
  lines_new : lines t ≡ lines s ++ new
  timely : InTime s.plan (minute_of s c) new
  minute : t.minute ≡ minute_of s c

added_of : (s t : State) (c : Call) → minute_of s c ≡ s.minute → Timed s t → Added s t c
added_of s t c q f = record {
  new = f.new;
  lines_new = f.lines_new;
  timely = subst (λ (m : ℕ). InTime s.plan m f.new) (sym q) f.timely;
  minute = f.same_minute ∙ sym q;
}

accept_added : (s : State) (c : Call) → Sized s → call_fault s c ≡ none → Added s (accept s c).state c
unfolding accept advance_to
accept_added s (Submit e) z h =
    let w = coherent_windows s (accepted_coherent s (Submit e) h) in
    added_of s (submit s e) (Submit e) refl (trail_timed (submit_trail s e z (submit_low s e h)) z w (λ m p. absurd (let v : ◌≡◌ {A = ℕ} 0 1 = cc in omega arith)))
accept_added s (Close k) z h =
    let w = coherent_windows s (accepted_coherent s (Close k) h) in
    added_of s (close_step s k) (Close k) refl (trail_timed (close_trail s k z) z w (λ m p. absurd (let v : ◌≡◌ {A = ℕ} 0 1 = cc in omega arith)))
accept_added s Finish z h =
    let w = coherent_windows s (accepted_coherent s Finish h) in
    added_of s (finish s) Finish refl (trail_timed (finish_trail s z) z w (λ m p. absurd (let v : ◌≡◌ {A = ℕ} 0 1 = cc in omega arith)))
accept_added s (Advance m) z h =
    let w = coherent_windows s (accepted_coherent s (Advance m) h) in
    let f = trail_timed (settle_trail (Advance m) (set_minute s m) (sized_minute s m z)) (sized_minute s m z) (ap sound_windows (plan_minute s m) ∙ w) (λ n p. let q : m ≡ n = cc in sym q ∙ sym (minute_moved s m)) in
    record {
      new = f.new;
      lines_new = f.lines_new ∙ ap (λ l. l ++ f.new) (lines_minute s m);
      timely = subst (λ (n : ℕ). InTime s.plan n f.new) (minute_moved s m) (subst (λ (p : Plan). InTime p (set_minute s m).minute f.new) (plan_minute s m) f.timely);
      minute = f.same_minute ∙ minute_moved s m;
    }

-- what is added is told by the histories
append_same : (g a b : List Entry) → (g ++ a) ≡ (g ++ b) → a ≡ b
append_same g a b h = sym (drop-append_seam g a) ∙ ap (drop (length g)) h ∙ drop-append_seam g b

nothing_added : (g a : List Entry) → g ≡ (g ++ a) → a ≡ []
nothing_added g a h = append_same g a [] (sym h ∙ sym (append-nil g))

pub punctual : Punctual scheduler
punctual s c new z h = go (call_fault s c) refl
  where
    go : (q : Option CallFault) → call_fault s c ≡ q → InTime s.plan (minute_of s c) new
    go (some f) q =
        let same : lines s ≡ lines s ++ new = ap (λ (r : Reply). lines r.state) (sym (call_fault_lem s c f q)) ∙ h in
        subst (InTime s.plan (minute_of s c)) (sym (nothing_added (lines s) new same)) tt
    go none q =
        let a = accept_added s c z q in
        let same : a.new ≡ new = append_same (lines s) a.new new (sym a.lines_new ∙ ap (λ (r : Reply). lines r.state) (sym (call_accept s c q)) ∙ h) in
        subst (InTime s.plan (minute_of s c)) same a.timely

-- the same with the minute after the call
abbrev Adds : State → State → Type 0
Adds s t = (new : List Entry) × (lines t ≡ lines s ++ new) × InTime s.plan t.minute new

call_added : (s : State) (c : Call) → Sized s → Adds s (call s c).state
call_added s c z = go (call_fault s c) refl
  where
    go : (q : Option CallFault) → call_fault s c ≡ q → Adds s (call s c).state
    go (some f) q = subst (λ (r : Reply). Adds s r.state) (sym (call_fault_lem s c f q)) ([], sym (append-nil (lines s)), tt)
    go none q =
        let a = accept_added s c z q in
        subst (λ (r : Reply). Adds s r.state) (sym (call_accept s c q)) (a.new, a.lines_new, subst (λ (m : ℕ). InTime s.plan m a.new) (sym a.minute) a.timely)

-- lists
at_append : (p : Plan) (m : ℕ) (ls : List Entry) (xs : List (ℕ × Entry)) → InTime p m ls → AllInTime p xs → AllInTime p (at m ls ++ xs)
at_append p m [] xs a b = b
at_append p m (l ∷ ls) xs a b = (a.0, at_append p m ls xs a.1 b)

abbrev untimed : List (ℕ × Entry) → List Entry
untimed xs = map (λ (x : ℕ × Entry). x.1) xs

at_untimed : (m : ℕ) (ls : List Entry) (xs : List (ℕ × Entry)) → untimed (at m ls ++ xs) ≡ ls ++ untimed xs
at_untimed m [] xs = refl
at_untimed m (l ∷ ls) xs = ap (λ r. l ∷ r) (at_untimed m ls xs)

module _ {p : Plan} (sd : Sound p) where
  timed_list : (cs : List Call) {o : Observed} {s : State}
      → ListInvariant p o s
      → AllInTime p (timed_lines p o (seen scheduler s cs))
      × ((o.history ++ untimed (timed_lines p o (seen scheduler s cs))) ≡ (observe_all p o (seen scheduler s cs)).history)
  unfolding timed_lines seen observe_all
  timed_list [] {o} k = (tt, append-nil o.history)
  timed_list (c ∷ cs) {o} {s} k =
      let t = (call s c).state in
      let n = observe p o c (lines t) in
      let next = (step sd k c).at in
      let later = timed_list cs next in
      let a = call_added s c k.invariant.listing.shape.sized in
      let new = a.0 in
      let told : drop (length o.history) (lines t) ≡ new = ap (λ h. drop (length h) (lines t)) k.agrees.history ∙ ap (drop (length (lines s))) a.1 ∙ drop-append_seam (lines s) new in
      let rest = timed_lines p n (seen scheduler t cs) in
      let here : InTime p (minute_after n.calls) new = subst (λ (m : ℕ). InTime p m new) next.agrees.minute (subst (λ (q : Plan). InTime q t.minute new) k.invariant.listing.shape.same_plan a.2) in
      let whole : (o.history ++ new) ≡ n.history = ap (λ h. h ++ new) k.agrees.history ∙ sym a.1 ∙ sym next.agrees.history in (
        subst (λ (l : List Entry). AllInTime p (at (minute_after n.calls) l ++ rest)) (sym told) (at_append p (minute_after n.calls) new rest here later.0),
        ap (λ (l : List Entry). o.history ++ untimed (at (minute_after n.calls) l ++ rest)) told
            ∙ ap (λ r. o.history ++ r) (at_untimed (minute_after n.calls) new rest)
            ∙ sym (append_assoc o.history new (untimed rest))
            ∙ ap (λ h. h ++ untimed rest) whole
            ∙ later.1,
      )

pub keeps_time : KeepsTime scheduler
keeps_time bytes s cs read =
    let k = at_begin bytes s read in
    let w = timed_list (sheet_sound bytes s read) cs k in
    record { timely = w.0; all = w.1 }

-- at rest after every list
pub rest_call : (s : State) (c : Call) → Sized s → AtRest s → AtRest (call s c).state
rest_call s c z r = go (call_fault s c) refl
  where
    to : call_fault s c ≡ none → Acts s c → AtRest (call s c).state
    to q a = (doing s c z).rests a

    stays : (e : ℕ) → c ≡ Submit e → call_fault s c ≡ none → is_open (fate_of s e) ≡ false → AtRest (call s c).state
    stays e p q f =
        let same : (call s c).state ≡ s = ap (λ (v : Reply). v.state) (call_accept s c q) ∙ ap (λ (d : Call). (accept s d).state) p ∙ unfold accept in submit_same s e f in
        subst AtRest (sym same) r

    by : (d : Call) → c ≡ d → call_fault s c ≡ none → AtRest (call s c).state
    by (Submit e) p q = elim (either (is_open (fate_of s e))) [
      | inl t ↦ to q (record { taken = q; fresh = λ i w. let v : e ≡ i = cc (sym p ∙ w) in subst (λ (j : ℕ). fate_of s j ≡ Open) v (open_is (fate_of s e) t) })
      | inr f ↦ stays e p q f
    ]
    by (Close k) p q = to q (record { taken = q; fresh = λ i w. absurd (let v : ◌≡◌ {A = ℕ} 0 1 = cc (sym p ∙ w) in omega arith) })
    by Finish p q = to q (record { taken = q; fresh = λ i w. absurd (let v : ◌≡◌ {A = ℕ} 0 1 = cc (sym p ∙ w) in omega arith) })
    by (Advance m) p q = to q (record { taken = q; fresh = λ i w. absurd (let v : ◌≡◌ {A = ℕ} 0 1 = cc (sym p ∙ w) in omega arith) })

    go : (q : Option CallFault) → call_fault s c ≡ q → AtRest (call s c).state
    go (some f) q = subst (λ (v : Reply). AtRest v.state) (sym (call_fault_lem s c f q)) r
    go none q = by c refl q

pub rest_after : (s : State) (cs : List Call) → Sized s → AtRest s → AtRest (after scheduler s cs)
unfolding after
rest_after s [] z r = r
rest_after s (c ∷ cs) z r = rest_after (call s c).state cs (sized_call s c z) (rest_call s c z r)

pub rest_first : (p : Plan) → AtRest (first_state p)
rest_first p u (refuses e l) = clash (ap is_held l.is.0) (ap is_held (all_open p e))
rest_first p u (does e o nb l f) = clash (ap is_held l.is.0) (ap is_held (all_open p e))

-- the minute of the state that a list shows is the one that its accepted calls tell
minute_shown : (p : Plan) (o : Observed) → (state_of p o).minute ≡ minute_after o.calls
unfolding state_of
minute_shown p o = refl

pub none_overdue : NoneOverdue scheduler
unfolding barred
none_overdue bytes s cs e read lt h =
    let k = at_list bytes s cs read in
    let t = after scheduler s cs in
    let same = k.invariant.listing.shape.same_plan in
    let r = rest_after s cs (admitted_sized bytes s read) (subst AtRest (sym (sheet_first bytes s read)) (rest_first s.plan)) in
    let free = (rest_held t k.invariant.listing.shape.sized r e (omega (arith, ap event_count same)) h).0 in
    let told = ap (λ (u : State). u.minute) (demand3 bytes s cs read).claim.shown in
    ap (λ m. over_at s.plan m e) (sym (told ∙ minute_shown s.plan _))
    ∙ ap (λ (p : Plan). over_at p t.minute e) (sym same)
    ∙ or_right (ruled_out t e) (too_late t e) free

-- an event that is not done when its window is over
record Expired (s : State) (e : ℕ) : Type 0 where
  undone : is_done (fate_of s e) ≡ false
  over : too_late s e ≡ true

over_same : (s t : State) (e : ℕ) → t.plan ≡ s.plan → t.minute ≡ s.minute → too_late s e ≡ true → too_late t e ≡ true
over_same s t e p m h = ap₂ (λ (q : Plan) (n : ℕ). over_at q n e) p m ∙ h

module _ (s : State) (e : ℕ) (z : Sized s) (x : Expired s e) where
  expired_settle : (y : Fate) (d : ℕ) → is_done y ≡ false → Expired (settle_as y s d) e
  expired_settle y d h = record {
    undone = elim (fate_settle_either y s d e z) [ inl q ↦ ap is_done q ∙ h | inr q ↦ ap is_done q ∙ x.undone ];
    over = over_same s (settle_as y s d) e (plan_settle y s d) (minute_settle y s d) x.over;
  }

  expired_hold : (d : ℕ) → Expired (hold s d) e
  expired_hold d = record {
    undone = elim (ℕ_discrete e d) [
      | no ne ↦ ap is_done (fate_hold_other s d e ne) ∙ x.undone
      | yes q ↦ elim (dec_lt d 16) [
        | yes lt ↦ ap (λ i. is_done (fate_of (hold s d) i)) q ∙ ap is_done (fate_hold_same s d z lt)
        | no ge ↦ ap is_done (fate_past (hold s d) e (omega arith))
      ]
    ];
    over = over_same s (hold s d) e (plan_hold s d) (minute_hold s d) x.over;
  }

  expired_shut : (k : ℕ) → Expired (shut s k) e
  expired_shut k = record { undone = ap is_done (fate_shut s k e) ∙ x.undone; over = over_same s (shut s k) e (plan_shut s k) (minute_shut s k) x.over }

  expired_minute : (m : ℕ) → s.minute ≤ m → Expired (set_minute s m) e
  expired_minute m le = record {
    undone = ap is_done (fate_minute s m e) ∙ x.undone;
    over = ap₂ (λ (q : Plan) (n : ℕ). over_at q n e) (plan_minute s m) (minute_moved s m) ∙ over_later s.plan e s.minute m le x.over;
  }

  -- what is in time is another event
  apart_time : (d : ℕ) → in_time s d ≡ true → e ≢ d
  apart_time d t q = clash (ap (in_time s) q ∙ t) (over_disallowed s.plan e s.minute x.over)

  expired_alone : (d : ℕ) → sound_windows s.plan ≡ true → delayable s.plan d ≡ false → Expired (do_alone s d) e
  expired_alone d w h =
      let free = undelayable_unwindowed s.plan d (windows_sound s.plan w d) h in
      let ne = apart_time d (unwindowed_allowed s.plan d free s.minute) in
      record {
        undone = ap is_done (alone_fate s d e ∙ fate_settle_other Done s d e ne) ∙ x.undone;
        over = over_same s (do_alone s d) e (alone_plan s d) (minute_alone s d) x.over;
      }

expired_one : (s : State) (e : ℕ) → Expired s e → (c : ℕ) → e ≢ c → Expired (do_one s c) e
expired_one s e x c ne = record {
  undone = ap is_done (fate_settle_other (fate_at_turn s c) s c e ne) ∙ x.undone;
  over = over_same s (do_one s c) e (plan_one s c) (minute_settle (fate_at_turn s c) s c) x.over;
}

expired_order : (s : State) (e : ℕ) → Sized s → Expired s e → (o : List ℕ) → Runs s o → Expired (do_all s o) e
unfolding do_all
expired_order s e z x [] r = x
expired_order s e z x (c ∷ o) r =
    expired_order (do_one s c) e (sized_one s c z) (expired_one s e x c (apart_time s e z x c (may_time s c r.1))) o r.2

trail_expired : {c : Call} {s t : State} → Trail c s t → Sized s → sound_windows s.plan ≡ true → (e : ℕ) → Expired s e → Expired t e
trail_expired end z w e x = x
trail_expired (held {s} d p h r) z w e x =
    trail_expired r (sized_hold s d z) (ap sound_windows (plan_hold s d) ∙ w) e (expired_hold s e z x d)
trail_expired (ordered {s} d o h f r) z w e x =
    trail_expired r (sized-do_all s o z) (ap sound_windows (plan-do_all s o) ∙ w) e (expired_order s e z x o f.viable.runs)
trail_expired (alone {s} d p u j i n r) z w e x =
    trail_expired r (sized_alone s d z) (ap sound_windows (alone_plan s d) ∙ w) e (expired_alone s e z x d w j)
trail_expired (refused {s} d g r) z w e x =
    trail_expired r (sized_settle Refused s d z) (ap sound_windows (plan_settle Refused s d) ∙ w) e (expired_settle s e z x Refused d refl)
trail_expired (shuts {s} k p r) z w e x =
    trail_expired r (sized_shut s k z) (ap sound_windows (plan_shut s k) ∙ w) e (expired_shut s e z x k)
trail_expired (lapsed {s} d p h r) z w e x =
    trail_expired r (sized_settle Lapsed s d z) (ap sound_windows (plan_settle Lapsed s d) ∙ w) e (expired_settle s e z x Lapsed d refl)
trail_expired (moves {s} m p h r) z w e x =
    trail_expired r (sized_minute s m z) (ap sound_windows (plan_minute s m) ∙ w) e (expired_minute s e z x m h)

pub for_good : ForGood scheduler
for_good s c e z over undone = go (call_fault s c) refl
  where
    go : (q : Option CallFault) → call_fault s c ≡ q → (is_done (fate_of (scheduler s c) e) ≡ false) × (too_late (scheduler s c) e ≡ true)
    go (some f) q = subst (λ (r : Reply). (is_done (fate_of r.state e) ≡ false) × (too_late r.state e ≡ true)) (sym (call_fault_lem s c f q)) (undone, over)
    go none q =
        let x = trail_expired (grounded s c z) z (coherent_windows s (accepted_coherent s c q)) e (record { undone = undone; over = over }) in
        (x.undone, x.over)

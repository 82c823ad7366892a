-- Viable orders and least closed sets: every viable order for an event has all of the least set, cut down to it an order
-- stays viable, and the chosen order takes always the lowest event of the set that is not blocked.
use Prim.Native.Nat.{ℕ, ◌≤◌, ◌<◌}
use native.Mathlib.Omega.{arith}
use native.Mathlib.Decide.{ℕ_discrete}
use mathlib.Core.Bool.{true, false}
use mathlib.Core.List.Memᴰ
use mathlib.Core.List.{List, [], ◌∷◌, Memᴰ}
use mathlib.Core.Logic.{inl, inr}
use Rattle.std.specs.declared.option.Option.{Option}
use Rattle.std.specs.declared.option.Option.TheVariants.{None as none, Some as some}
use mathlib.Core.Path.{◌≡◌, refl, sym, ◌∙◌, ap, subst, fun_ext}
use lib.ListN.{length}
use Rattle.scheduler.specs.Prelude.{State}
use Rattle.plan.specs.Base.{among}
use Rattle.plan.specs.Fates.{Fates}
use Rattle.plan.specs.Plans.{event_count}
use Rattle.plan.specs.Rules.{bars, makes_wait, forbids, owes}
use Rattle.orders.specs.Closed.{Events, Closed, Fit, Least}
use Rattle.orders.specs.Runs.{doing, May, Run}
use Rattle.orders.specs.Stepwise.{stepwise}
use Rattle.scheduler.specs.State.{fate_of, in_time, settle_as, Sized}
use Rattle.scheduler.specs.Rules.{stands, forbidden, owing}
use Rattle.scheduler.specs.Orders.{may_do, fate_at_turn, do_one, Runs, Viable, First, chosen}
use Rattle.scheduler.specs.Internal.Hopeful.{Hopeful}
use Rattle.plan.proofs.Tests.{or_left, or_right, or_both, clash, either}
use Rattle.orders.proofs.Grounds.{refuted, each_fails, all_fail, bars_grounds, grounds_bar, wait_grounds, grounds_wait, owes_grounds, grounds_owe}
use Rattle.orders.proofs.Doing.{doing_same, doing_other}
use Rattle.orders.proofs.Running.{inside, among_head, among_tail, among_cases, among_none, run_ready, run_closed, count_inside}
use Rattle.orders.proofs.Cutting.{keep, run_keep, keep_length, keep_member, keep_before, keep_all}
use Rattle.orders.proofs.Taking.{Ready, sound, Made, complete}
use Rattle.scheduler.proofs.Laws.{sized_one, fate_settle_same, fate_settle_other}
use Rattle.scheduler.proofs.Searching.{may_ready, may_free, may_of, hand_bound, ready_bound, runs_differ, run_time, ahead_both, chosen_none, chosen_first}

-- an event stands in an order, as a test
pub mem_among : {x : ℕ} (o : List ℕ) → Memᴰ x o → among x o ≡ true
mem_among [] m = absurd (Memᴰ.not-nil m)
mem_among {x} (c ∷ o) m = elim (Memᴰ.cases_cons m) [ inl q ↦ among_head x c o q | inr t ↦ among_tail x c o (mem_among o t) ]

pub among_mem : (x : ℕ) (o : List ℕ) → among x o ≡ true → Memᴰ x o
among_mem x [] h = absurd (among_none x h)
among_mem x (c ∷ o) h = elim (among_cases x c o h) [ inl q ↦ Memᴰ.head q | inr t ↦ Memᴰ.tail (among_mem x o t) ]

-- an event may be done, in the words of grounds
module _ (s : State) (c : ℕ) where
  may_grounds : c < event_count s.plan → may_do s c ≡ true → May s.plan (stands s) (fate_of s) c
  unfolding forbidden forbids
  may_grounds lt h =
      let free = each_fails s.plan (stands s) (λ r. forbids s.plan (fate_of s) r c) (may_free s c h) in
      record {
        declared = lt;
        at_hand = may_ready s c h;
        unbarred = λ r st b. clash (grounds_bar s.plan (fate_of s) c r b) (or_left (bars s.plan (fate_of s) r c) (makes_wait s.plan (fate_of s) r c) (free r st));
        unwaiting = λ r st w. clash (grounds_wait s.plan (fate_of s) c r w) (or_right (bars s.plan (fate_of s) r c) (makes_wait s.plan (fate_of s) r c) (free r st));
      }

  grounds_may : May s.plan (stands s) (fate_of s) c → in_time s c ≡ true → may_do s c ≡ true
  unfolding forbidden forbids
  grounds_may m t =
      let p = s.plan in
      let f = fate_of s in
      let free = all_fail p (stands s) (λ r. forbids p f r c) (λ r st.
      or_both
      (bars p f r c)
      (makes_wait p f r c)
      (refuted _ (λ t. m.unbarred r st (bars_grounds p f c r t)))
      (refuted _ (λ t. m.unwaiting r st (wait_grounds p f c r t)))) in
      may_of s c m.at_hand free t

-- the fates after an event is done
pub fates_one : (s : State) (c : ℕ) → Sized s → c < 16 → fate_of (do_one s c) ≡ doing (fate_of s) c
fates_one s c z lt = fun_ext (λ x. elim (ℕ_discrete x c) [
  | yes q ↦ subst (λ (v : ℕ). fate_of (do_one s c) v ≡ fate_at_turn s c) (sym q) (fate_settle_same (fate_at_turn s c) s c z lt) ∙ sym (doing_same (fate_of s) c x q)
  | no ne ↦ fate_settle_other (fate_at_turn s c) s c x ne ∙ sym (doing_other (fate_of s) c x ne)
])

module _ (s : State) (c : ℕ) (o : List ℕ) (z : Sized s) (lt : c < 16) where
  run_after : Run (do_one s c).plan (stands (do_one s c)) (fate_of (do_one s c)) o → Run s.plan (stands s) (doing (fate_of s) c) o
  unfolding settle_as
  run_after run = subst (λ (f : Fates). Run s.plan (stands s) f o) (fates_one s c z lt) run

  after_run : Run s.plan (stands s) (doing (fate_of s) c) o → Run (do_one s c).plan (stands (do_one s c)) (fate_of (do_one s c)) o
  unfolding settle_as
  after_run run = subst (λ (f : Fates). Run s.plan (stands s) f o) (sym (fates_one s c z lt)) run

-- orders of a state, in the words of its plan and fates
pub run_of : (s : State) → Sized s → (o : List ℕ) → Runs s o → Run s.plan (stands s) (fate_of s) o
unfolding owing
run_of s z [] h =
    λ r st w. clash (grounds_owe s.plan (fate_of s) r w) (each_fails s.plan (stands s) (λ u. owes s.plan (fate_of s) u) h r st)
run_of s z (c ∷ o) h =
    (may_grounds s c h.0 h.1, run_after s c o z (ready_bound s c h.1) (run_of (do_one s c) (sized_one s c z) o h.2))

-- the events of an order are in time
abbrev pub Timely : State → List ℕ → Type 0
Timely s o = (x : ℕ) → among x o ≡ true → in_time s x ≡ true

timely_rest : (s : State) (c : ℕ) (o : List ℕ) → Timely s (c ∷ o) → Timely (do_one s c) o
unfolding settle_as
timely_rest s c o t x h = t x (among_tail x c o h)

pub of_run : (s : State) → Sized s → (o : List ℕ) → Timely s o → Run s.plan (stands s) (fate_of s) o → Runs s o
unfolding owing
of_run s z [] t h =
    all_fail s.plan (stands s) (λ u. owes s.plan (fate_of s) u) (λ r st. refuted _ (λ t. h r st (owes_grounds s.plan (fate_of s) r t)))
of_run s z (c ∷ o) t h =
    let may = grounds_may s c h.0 (t c (among_head c c o refl)) in
    (h.0.declared, may, of_run (do_one s c) (sized_one s c z) o (timely_rest s c o t) (after_run s c o z (ready_bound s c may) h.1))

-- for any closed set with e
module _ (s : State) (z : Sized s) (e : ℕ) (m : Events) (cl : Closed s.plan (stands s) (fate_of s) m) (has : m e ≡ true) where
  -- an order cut down to it stays viable
  pub cut_viable : (o : List ℕ) → Viable s e o → Viable s e (keep m o)
  cut_viable o v =
      let r = of_run s z (keep m o) (λ x h. run_time s o v.runs x (among_mem x o (keep_before m o x h))) (run_keep s.plan (stands s) m (fate_of s) cl o (run_of s z o v.runs)) in
      record {
        contains = among_mem e (keep m o) (keep_member m o e has (mem_among o v.contains));
        short = omega (arith, v.short, keep_length m o);
        different = runs_differ s z (keep m o) r;
        runs = r;
      }

  -- so a shortest viable order lies in it
  pub shortest_within : (o : List ℕ)
      → Viable s e o
      → ((q : List ℕ) → Viable s e q → length o ≤ length q)
      → (x : ℕ)
      → among x o ≡ true
      → m x ≡ true
  shortest_within o v h = keep_all m o (h (keep m o) (cut_viable o v))

-- the events of a viable order are closed
pub viable_closed : (s : State) (e : ℕ) → Sized s → (o : List ℕ) → Viable s e o → Closed s.plan (stands s) (fate_of s) (inside o)
viable_closed s e z o v = run_closed s.plan (stands s) (fate_of s) o (run_of s z o v.runs)

-- an event of a viable order has that order
pub viable_for : {s : State} {e : ℕ} (o : List ℕ) → Viable s e o → (x : ℕ) → among x o ≡ true → Viable s x o
viable_for o v x h = record { contains = among_mem x o h; short = v.short; different = v.different; runs = v.runs }

pub first_shortest : (s : State) (e : ℕ) (o : List ℕ) → First s e o → (q : List ℕ) → Viable s e q → length o ≤ length q
first_shortest s e o f q v = elim (f.least q v) [ inl lt ↦ omega arith | inr w ↦ omega (arith, w.0) ]

-- an event that is not in time has no order
pub untimely_none : (s : State) → Sized s → (e : ℕ) → in_time s e ≡ false → chosen s e ≡ none
untimely_none s z e h = go (chosen s e) refl
  where
    go : (q : Option (List ℕ)) → chosen s e ≡ q → chosen s e ≡ none
    go none q = q
    go (some o) q = let v = (chosen_first s e z o q).viable in absurd (clash (run_time s o v.runs e v.contains) h)

-- every event of a viable order may have one
pub hopeful_every : (s : State) → Sized s → (able : Events) → Hopeful s able → (e : ℕ) (o : List ℕ) → Viable s e o → (x : ℕ) → among x o ≡ true → able x ≡ true
hopeful_every s z able k e o v x h = elim (either (able x)) [
  | inl t ↦ t
  | inr f ↦
      let w = run_ready s.plan (stands s) (fate_of s) o (run_of s z o v.runs) x h in
      absurd (chosen_none s x (k.others x w.0 w.1 f) o (viable_for o v x h))
]

module _ (s : State) (z : Sized s) (e : ℕ) (able : Events) (k : Hopeful s able) where
  low_able : (x : ℕ) → able x ≡ true → x < 16
  low_able x h = hand_bound s x (k.hand x h).1

  abbrev Fits : Events → Type 0
  Fits = Fit s.plan (stands s) (fate_of s) able e

  -- the events of a viable order are closed, able, and at most six
  pub viable_fit : (o : List ℕ) → Viable s e o → Fits (inside o)
  viable_fit o v = record {
    contains = mem_among o v.contains;
    closed = viable_closed s e z o v;
    ables = hopeful_every s z able k e o v;
    few = omega (arith, v.short, count_inside 16 o);
  }

  none_chosen : ((o : List ℕ) → Viable s e o → ⊥) → chosen s e ≡ none
  none_chosen n = go (chosen s e) refl
    where
      go : (x : Option (List ℕ)) → chosen s e ≡ x → chosen s e ≡ none
      go none q = q
      go (some o) q = absurd (n o (chosen_first s e z o q).viable)

  -- where no set would do, no order is viable
  pub no_fit_none : ((m : Events) → Fits m → ⊥) → chosen s e ≡ none
  no_fit_none h = none_chosen (λ o v. h (inside o) (viable_fit o v))

  module _ (m : Events) (least : Least s.plan (stands s) (fate_of s) able e m) where
    -- any viable order contains the least set
    pub least_inside : (o : List ℕ) → Viable s e o → (x : ℕ) → m x ≡ true → among x o ≡ true
    least_inside o v = least.least (inside o) (viable_fit o v)

    ready_set : Ready s.plan (stands s) (fate_of s) m
    ready_set = record { hand = λ x t. let w = k.hand x (least.fit.ables x t) in (w.0, w.1); low = λ x t. low_able x (least.fit.ables x t) }

    -- what is taken step by step is viable
    taken_viable : (o : List ℕ) → stepwise s.plan (stands s) 6 (fate_of s) m ≡ some o → Viable s e o
    taken_viable o h =
        let u = sound s.plan (stands s) 6 (fate_of s) m o h least.fit.closed ready_set in
        let r = of_run s z o (λ x h. (k.hand x (least.fit.ables x (u.within x h))).2) u.runs in
        record {
          contains = among_mem e o (u.whole e least.fit.contains);
          short = u.short;
          different = runs_differ s z o r;
          runs = r;
        }

    taken_first : (o : List ℕ) → First s e o → stepwise s.plan (stands s) 6 (fate_of s) m ≡ some o
    taken_first o f =
        let v = f.viable in
        let within = shortest_within s z e m least.fit.closed least.fit.contains o v (first_shortest s e o f) in
        let made : Made s.plan (stands s) (fate_of s) m o = record {
          runs = run_of s z o v.runs;
          within = within;
          whole = least_inside o v;
          low = λ x h. low_able x (least.fit.ables x h);
        } in
        let t = complete s.plan (stands s) 6 (fate_of s) m o made v.short in
        let same : t.order ≡ o = elim (f.least t.order (taken_viable t.order t.gives)) [
          | inl lt ↦ absurd (omega (arith, t.long))
          | inr w ↦ ahead_both t.order o t.long t.ahead w.1
        ] in
        t.gives ∙ ap {B = Option (List ℕ)} some same

    -- the chosen order is what is taken step by step
    pub chosen_taken : chosen s e ≡ stepwise s.plan (stands s) 6 (fate_of s) m
    chosen_taken = go (chosen s e) refl (stepwise s.plan (stands s) 6 (fate_of s) m) refl
      where
        go : (x : Option (List ℕ)) → chosen s e ≡ x → (y : Option (List ℕ)) → stepwise s.plan (stands s) 6 (fate_of s) m ≡ y → chosen s e ≡ stepwise s.plan (stands s) 6 (fate_of s) m
        go (some o) q y w = q ∙ sym (taken_first o (chosen_first s e z o q))
        go none q none w = q ∙ sym w
        go none q (some o) w = absurd (chosen_none s e q o (taken_viable o w))

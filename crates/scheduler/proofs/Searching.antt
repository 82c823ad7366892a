-- The search against the viable orders: it finds one where there is one, and finds the first of the shortest.
use Prim.Native.Nat.{ℕ, zero, suc, ◌≤◌, ◌<◌}
use native.Mathlib.Omega.{arith}
use native.Mathlib.Decide.{ℕ_discrete, dec_lt}
use borrow.Author.Tests.{not-true, le-ltb, eq-eqb, eqb-true}
use mathlib.Core.Bool.{Bool, true, false, not, ◌&&◌, ◌||◌}
use mathlib.Core.List.Memᴰ
use mathlib.Core.List.{List, [], ◌∷◌, Memᴰ}
use mathlib.Core.Logic.{◌⊎◌, inl, inr}
use Rattle.std.specs.declared.option.Option.{Option}
use Rattle.std.specs.declared.option.Option.TheVariants.{None as none, Some as some}
use Rattle.std.specs.Option.{option_map as map}
use mathlib.Core.Path.{◌≡◌, refl, sym, ◌∙◌, ap, subst}
use lib.Dec.{eqb}
use lib.ListN.{length}
use Rattle.scheduler.specs.Prelude.{Fate, Open, Held, Done, Refused, Lapsed, Forced, Event, Plan, State}
use Rattle.plan.specs.Plans.{event_count, event_at, blank_event, holds_bit, forcible}
use Rattle.scheduler.specs.State.{fate_of, in_time, settle_as, Sized}
use Rattle.plan.specs.Fates.{is_open, is_held, is_settled}
use Rattle.scheduler.specs.Rules.{forbidden, owing}
use Rattle.plan.specs.Rules.{ready}
use Rattle.scheduler.specs.Orders.{do_one, may_do, do_all, Runs, Different, Viable, First, order_of, chosen, some_order, has_viable}
use Rattle.orders.specs.Sequences.{Ahead}
use Rattle.plan.proofs.Tests.{or_right_true, or_either, and_left, and_right, and_both, either, clash, any_some, any_found, first_none, first_some, when_none, when_some, some_none}
use Rattle.scheduler.proofs.Laws.{plan_one, one_settled, settled_one, sized_one, fate_past}

-- an event that may be done is at hand, no rule is against it, and it is in time
module _ (s : State) (c : ℕ) (m : may_do s c ≡ true) where
  may_both : (ready s.plan (fate_of s) c && not (forbidden s c)) ≡ true
  unfolding may_do
  may_both = and_left (ready s.plan (fate_of s) c && not (forbidden s c)) (in_time s c) m

  pub may_ready : ready s.plan (fate_of s) c ≡ true
  may_ready = and_left (ready s.plan (fate_of s) c) (not (forbidden s c)) may_both

  pub may_free : forbidden s c ≡ false
  may_free = not-true (forbidden s c) (and_right (ready s.plan (fate_of s) c) (not (forbidden s c)) may_both)

  pub may_time : in_time s c ≡ true
  unfolding may_do
  may_time = and_right (ready s.plan (fate_of s) c && not (forbidden s c)) (in_time s c) m

pub may_of : (s : State) (c : ℕ) → ready s.plan (fate_of s) c ≡ true → forbidden s c ≡ false → in_time s c ≡ true → may_do s c ≡ true
unfolding may_do
may_of s c h f t = rw (h, f, t)

-- it is unsettled, and past the array there is none: the blank event is open and not forcible
pub ready_unsettled : (s : State) (c : ℕ) → may_do s c ≡ true → is_settled (fate_of s c) ≡ false
unfolding ready
ready_unsettled s c m = go (fate_of s c) (may_ready s c m)
  where
    go : (x : Fate) → (is_held x || (is_open x && forcible s.plan c)) ≡ true → is_settled x ≡ false
    go Open m = refl
    go Held m = refl
    go Done m = absurd (clash m refl)
    go Refused m = absurd (clash m refl)
    go Lapsed m = absurd (clash m refl)
    go Forced m = absurd (clash m refl)

event_past : (p : Plan) (e : ℕ) → 16 ≤ e → event_at p e ≡ blank_event
event_past p e ge = rw (le-ltb e 16 ge, event_at)

pub hand_bound : (s : State) (c : ℕ) → ready s.plan (fate_of s) c ≡ true → c < 16
unfolding ready
hand_bound s c m = elim (dec_lt c 16) [
  | yes lt ↦ lt
  | no ge ↦
      let found_open : fate_of s c ≡ Open = fate_past s c (omega arith) in
      let unforced : forcible s.plan c ≡ false = ap (λ (v : Event). holds_bit 1 v.attributes) (event_past s.plan c (omega arith)) in
      absurd (clash m (ap (λ (x : Fate). is_held x || (is_open x && forcible s.plan c)) found_open ∙ unforced))
]

pub ready_bound : (s : State) (c : ℕ) → may_do s c ≡ true → c < 16
ready_bound s c m = hand_bound s c (may_ready s c m)

-- doing an order keeps the plan and the lengths
pub plan-do_all : (s : State) (o : List ℕ) → (do_all s o).plan ≡ s.plan
unfolding do_all
plan-do_all s [] = refl
plan-do_all s (c ∷ o) = plan-do_all (do_one s c) o ∙ plan_one s c

pub sized-do_all : (s : State) (o : List ℕ) → Sized s → Sized (do_all s o)
unfolding do_all
sized-do_all s [] z = z
sized-do_all s (c ∷ o) z = sized-do_all (do_one s c) o (sized_one s c z)

-- what is settled stays so, and has no turn: the events of a run differ
no_turn : (s : State) (c : ℕ) → Sized s → is_settled (fate_of s c) ≡ true → (o : List ℕ) → Runs s o → Memᴰ c o → ⊥
no_turn s c z h [] r m = Memᴰ.not-nil m
no_turn s c z h (x ∷ o) r m = elim (Memᴰ.cases_cons m) [
  | inl q ↦ clash h (rw q (ready_unsettled s x r.1))
  | inr m' ↦ no_turn (do_one s x) c (sized_one s x z) (settled_one s x c z h) o r.2 m'
]

settled_run : (s : State) (e : ℕ)
    → Sized s
    → (o : List ℕ)
    → is_settled (fate_of s e) ≡ true
    → is_settled (fate_of (do_all s o) e) ≡ true
unfolding do_all
settled_run s e z [] h = h
settled_run s e z (c ∷ o) h = settled_run (do_one s c) e (sized_one s c z) o (settled_one s c e z h)

-- an event of a run is settled after it
pub member_settled : (s : State)
    → Sized s
    → (o : List ℕ)
    → Runs s o
    → (e : ℕ)
    → Memᴰ e o
    → is_settled (fate_of (do_all s o) e) ≡ true
unfolding do_all
member_settled s z [] r e m = absurd (Memᴰ.not-nil m)
member_settled s z (c ∷ o) r e m = elim (Memᴰ.cases_cons m) [
  | inl q ↦ settled_run (do_one s c) e (sized_one s c z) o (rw q (one_settled s c z (ready_bound s c r.1)))
  | inr m' ↦ member_settled (do_one s c) (sized_one s c z) o r.2 e m'
]

pub runs_differ : (s : State) → Sized s → (o : List ℕ) → Runs s o → Different o
runs_differ s z [] r = tt
runs_differ s z (c ∷ o) r =
    let z' = sized_one s c z in
    (no_turn (do_one s c) c z' (one_settled s c z (ready_bound s c r.1)) o r.2, runs_differ (do_one s c) z' o r.2)

-- the events of a run are declared, and stand in the array
pub run_declared : (s : State) (o : List ℕ) → Runs s o → (e : ℕ) → Memᴰ e o → (e < event_count s.plan) × (e < 16)
run_declared s [] r e m = absurd (Memᴰ.not-nil m)
run_declared s (c ∷ o) r e m = elim (Memᴰ.cases_cons m) [
  | inl q ↦ rw q (r.0, ready_bound s c r.1)
  | inr m' ↦ let d = run_declared (do_one s c) o r.2 e m' in (omega (arith, d.0, ap event_count (plan_one s c)), d.1)
]

-- and in time from the first: doing an event moves neither the minute nor a window
time_one : (s : State) (c e : ℕ) → in_time (do_one s c) e ≡ in_time s e
unfolding settle_as
time_one s c e = refl

pub run_time : (s : State) (o : List ℕ) → Runs s o → (e : ℕ) → Memᴰ e o → in_time s e ≡ true
run_time s [] r e m = absurd (Memᴰ.not-nil m)
run_time s (c ∷ o) r e m = elim (Memᴰ.cases_cons m) [
  | inl q ↦ subst (λ (d : ℕ). in_time s d ≡ true) (sym q) (may_time s c r.1)
  | inr m' ↦ sym (time_one s c e) ∙ run_time (do_one s c) o r.2 e m'
]

-- the order contains e, or it was had already: the search's flag at the order's end
abbrev pub has : ℕ → Bool → List ℕ → Bool
has e had [] = had
has e had (c ∷ o) = has e (had || eqb c e) o

had_has : (e : ℕ) (o : List ℕ) → has e true o ≡ true
had_has e [] = refl
had_has e (c ∷ o) = had_has e o

pub mem_has : (e : ℕ) (had : Bool) (o : List ℕ) → Memᴰ e o → has e had o ≡ true
mem_has e had [] m = absurd (Memᴰ.not-nil m)
mem_has e had (c ∷ o) m = elim (Memᴰ.cases_cons m) [
  | inl q ↦ rw (eq-eqb c e (sym q), or_right_true had) (had_has e o)
  | inr m' ↦ mem_has e (had || eqb c e) o m'
]

has_mem : (e : ℕ) (had : Bool) (o : List ℕ) → has e had o ≡ true → (had ≡ true) ⊎ Memᴰ e o
has_mem e had [] h = inl h
has_mem e had (c ∷ o) h = elim (has_mem e (had || eqb c e) o h) [
  | inl t ↦ elim (or_either had (eqb c e) t) [ inl u ↦ inl u | inr u ↦ inr (Memᴰ.head (sym (eqb-true c e u))) ]
  | inr m ↦ inr (Memᴰ.tail m)
]

pub has_contains : (e : ℕ) (o : List ℕ) → has e false o ≡ true → Memᴰ e o
has_contains e o h = elim (has_mem e false o h) [ inl t ↦ absurd (clash t refl) | inr m ↦ m ]

pub mem_long : {e : ℕ} (o : List ℕ) → Memᴰ e o → 1 ≤ length o
mem_long [] m = absurd (Memᴰ.not-nil m)
mem_long (c ∷ o) m = omega arith

map_none : (c : ℕ) (q : Option (List ℕ)) → map (λ (l : List ℕ). c ∷ l) q ≡ none → q ≡ none
map_none c none h = refl
map_none c (some l) h = absurd (some_none h)

map_some : (c : ℕ) (q : Option (List ℕ)) (o : List ℕ)
    → map (λ (l : List ℕ). c ∷ l) q ≡ some o
    → (l : List ℕ) × (q ≡ some l) × (o ≡ c ∷ l)
map_some c none o h = absurd (let z : ◌≡◌ {A = ℕ} 0 1 = cc in omega arith)
map_some c (some l) o h = (l, refl, cc)

not_of_false : (b : Bool) → b ≡ false → not b ≡ true
not_of_false b h = rw h

-- a run of k events that contains e, or after which it was had already
pub record Reaches (k : ℕ) (s : State) (e : ℕ) (had : Bool) (o : List ℕ) : Type 0 where
  pub long : length o ≡ k
  pub runs : Runs s o
  pub has_e : has e had o ≡ true

-- the search among the events that pass a test
module _ (candidate : ℕ → Bool) where
  abbrev pub Passes : List ℕ → Type 0
  Passes o = (c : ℕ) → Memᴰ c o → candidate c ≡ true

  -- nothing is found: no run of k candidates does
  pub order_none : (k : ℕ) (s : State) (e : ℕ) (had : Bool)
      → order_of candidate k s e had ≡ none
      → (o : List ℕ)
      → Reaches k s e had o
      → Passes o
      → ⊥
  unfolding order_of
  order_none zero s e had h [] r p =
      some_none (when_none (had && not (owing s)) (some []) h (and_both had (not (owing s)) r.has_e (not_of_false (owing s) r.runs)))
  order_none zero s e had h (c ∷ o) r p = omega (arith, r.long)
  order_none (suc k) s e had h [] r p = omega (arith, r.long)
  order_none (suc k) s e had h (c ∷ o) r p =
      let at = first_none (event_count s.plan) 0 _ h c (omega arith) (omega (arith, r.runs.0)) in
      let later = when_none (candidate c && may_do s c) _ at (and_both (candidate c) (may_do s c) (p c (Memᴰ.head refl)) r.runs.1) in
      order_none k (do_one s c) e (had || eqb c e) (map_none c _ later) o (record { long = omega (arith, r.long); runs = r.runs.2; has_e = r.has_e }) (λ x m. p x (Memᴰ.tail m))

  -- what is found is such a run
  pub order_some : (k : ℕ) (s : State) (e : ℕ) (had : Bool) (o : List ℕ)
      → order_of candidate k s e had ≡ some o
      → Reaches k s e had o × Passes o
  unfolding order_of
  order_some zero s e had o h =
      let w = when_some (had && not (owing s)) (some []) o h in
      let q : [] ≡ o = cc in
      let ends : Reaches zero s e had [] = record { long = refl; runs = not-true (owing s) (and_right had (not (owing s)) w.0); has_e = and_left had (not (owing s)) w.0 } in
      subst (λ l. Reaches zero s e had l × Passes l) q (ends, λ c m. absurd (Memᴰ.not-nil m))
  order_some (suc k) s e had o h =
      let f = first_some (event_count s.plan) 0 _ o h in
      let c = f.place in
      let w = when_some (candidate c && may_do s c) _ o f.gives in
      let m = map_some c (order_of candidate k (do_one s c) e (had || eqb c e)) o w.1 in
      let r = order_some k (do_one s c) e (had || eqb c e) m.0 m.1 in
      let reached : Reaches (suc k) s e had (c ∷ m.0) = record { long = ap suc r.0.long; runs = (omega (arith, f.upto), and_right (candidate c) (may_do s c) w.0, r.0.runs); has_e = r.0.has_e } in
      let passed : Passes (c ∷ m.0) = λ x i. elim (Memᴰ.cases_cons i) [ inl q ↦ rw q (and_left (candidate c) (may_do s c) w.0) | inr i' ↦ r.1 x i' ] in
      subst (λ l. Reaches (suc k) s e had l × Passes l) (sym m.2) (reached, passed)

  -- no such run is ahead of the one found
  pub order_ahead : (k : ℕ) (s : State) (e : ℕ) (had : Bool) (o : List ℕ)
      → order_of candidate k s e had ≡ some o
      → (q : List ℕ)
      → Reaches k s e had q
      → Passes q
      → Ahead o q
  unfolding order_of
  order_ahead zero s e had [] h q r p = tt
  order_ahead zero s e had (c ∷ o) h q r p = absurd (omega (arith, (order_some zero s e had (c ∷ o) h).0.long))
  order_ahead (suc k) s e had o h [] r p = absurd (omega (arith, r.long))
  order_ahead (suc k) s e had o h (x ∷ q) r p =
      let f = first_some (event_count s.plan) 0 _ o h in
      let c = f.place in
      let w = when_some (candidate c && may_do s c) _ o f.gives in
      let m = map_some c (order_of candidate k (do_one s c) e (had || eqb c e)) o w.1 in
      let tail : Reaches k (do_one s x) e (had || eqb x e) q = record { long = omega (arith, r.long); runs = r.runs.2; has_e = r.has_e } in
      let passes : Passes q = λ y i. p y (Memᴰ.tail i) in
      subst (λ l. Ahead l (x ∷ q)) (sym m.2) (elim (dec_lt c x) [
        | yes lt ↦ inl lt
        | no ge ↦ elim (ℕ_discrete c x) [
          | yes z ↦ inr (z, order_ahead k (do_one s c) e (had || eqb c e) m.0 m.1 q (rw z tail) passes)
          | no ne ↦
              let missing = when_none (candidate x && may_do s x) _ (f.before x (omega arith) (omega arith)) (and_both (candidate x) (may_do s x) (p x (Memᴰ.head refl)) r.runs.1) in
              absurd {A = Ahead (c ∷ m.0) (x ∷ q)} (order_none k (do_one s x) e (had || eqb x e) (map_none x _ missing) q tail passes)
        ]
      ])

-- a viable order as a run that the search could find
pub reaches : {s : State} {e : ℕ} {o : List ℕ} → Viable s e o → Reaches (length o) s e false o
reaches {s} {e} {o} v = record { long = refl; runs = v.runs; has_e = mem_has e false o v.contains }

abbrev pub every : ℕ → Bool
every c = true

-- complete: where no order is chosen, none is viable
pub chosen_none : (s : State) (e : ℕ) → chosen s e ≡ none → (o : List ℕ) → Viable s e o → ⊥
unfolding chosen
chosen_none s e h o v =
    order_none every
    (length o) s e false
    (first_none 6 1 _ h (length o) (mem_long o v.contains) (omega (arith, v.short))) o
    (reaches v)
    (λ c m. refl)

-- the chosen order is the first of the shortest
pub chosen_first : (s : State) (e : ℕ) → Sized s → (o : List ℕ) → chosen s e ≡ some o → First s e o
unfolding chosen
chosen_first s e z o h =
    let f = first_some 6 1 _ o h in
    let r = (order_some every f.place s e false o f.gives).0 in
    record {
      viable = record { contains = has_contains e o r.has_e; short = omega (arith, r.long, f.upto); different = runs_differ s z o r.runs; runs = r.runs };
      least = λ q v. elim (dec_lt (length o) (length q)) [
        | yes lt ↦ inl lt
        | no ge ↦ elim (ℕ_discrete (length o) (length q)) [
          | yes n ↦ inr (n, order_ahead every f.place s e false o f.gives q (subst (λ k. Reaches k s e false q) (sym n ∙ r.long) (reaches v)) (λ c m. refl))
          | no ne ↦ absurd (order_none every (length q) s e false (f.before (length q) (mem_long q v.contains) (omega (arith, r.long))) q (reaches v) (λ c m. refl))
        ]
      ];
    }

-- it has at most six events
pub chosen_short : (s : State) (e : ℕ) (o : List ℕ) → chosen s e ≡ some o → length o ≤ 6
unfolding chosen
chosen_short s e o h =
    let f = first_some 6 1 _ o h in
    omega (arith, (order_some every f.place s e false o f.gives).0.long, f.upto)

-- two orders of one length, neither ahead of the other, are one
pub ahead_both : (o q : List ℕ) → length o ≡ length q → Ahead o q → Ahead q o → o ≡ q
ahead_both [] [] n a b = refl
ahead_both [] (d ∷ q) n a b = absurd b
ahead_both (c ∷ o) [] n a b = absurd a
ahead_both (c ∷ o) (d ∷ q) n a b = elim a [
  | inl lt ↦ elim b [ inl gt ↦ absurd (omega arith) | inr p ↦ absurd (omega arith) ]
  | inr p ↦ elim b [ inl gt ↦ absurd (omega arith) | inr p' ↦ let t : o ≡ q = ahead_both o q (omega arith) p.1 p'.1 in rw (p.0, t) ]
]

pub first_one : (s : State) (e : ℕ) (o q : List ℕ) → First s e o → First s e q → o ≡ q
first_one s e o q f g = elim (f.least q g.viable) [
  | inl lt ↦ elim (g.least o f.viable) [ inl gt ↦ absurd (omega arith) | inr p ↦ absurd (omega arith) ]
  | inr p ↦ elim (g.least o f.viable) [ inl gt ↦ absurd (omega arith) | inr p' ↦ ahead_both o q p.0 p.1 p'.1 ]
]

pub first_chosen : (s : State) (e : ℕ) → Sized s → (o : List ℕ) → First s e o → chosen s e ≡ some o
first_chosen s e z o f = go (chosen s e) refl
  where
    go : (c : Option (List ℕ)) → chosen s e ≡ c → chosen s e ≡ some o
    go none h = absurd (chosen_none s e h o f.viable)
    go (some q) h = h ∙ ap {B = Option (List ℕ)} some (first_one s e q o (chosen_first s e z q h) f)

-- the test that tries all orders passes just where a viable one exists
run_some : (k : ℕ) (s : State) (e : ℕ) (had : Bool) (o : List ℕ) → Reaches k s e had o → some_order k s e had ≡ true
unfolding some_order
run_some zero s e had [] r = and_both had (not (owing s)) r.has_e (not_of_false (owing s) r.runs)
run_some zero s e had (c ∷ o) r = absurd (omega (arith, r.long))
run_some (suc k) s e had [] r = absurd (omega (arith, r.long))
run_some (suc k) s e had (c ∷ o) r =
    any_some
    (event_count s.plan) _ c
    r.runs.0
    (and_both (may_do s c) (some_order k (do_one s c) e (had || eqb c e)) r.runs.1 (run_some k (do_one s c) e (had || eqb c e) o (record { long = omega (arith, r.long); runs = r.runs.2; has_e = r.has_e })))

some_run : (k : ℕ) (s : State) (e : ℕ) (had : Bool) → some_order k s e had ≡ true → (o : List ℕ) × Reaches k s e had o
unfolding some_order
some_run zero s e had h =
    ([], record { long = refl; runs = not-true (owing s) (and_right had (not (owing s)) h); has_e = and_left had (not (owing s)) h })
some_run (suc k) s e had h =
    let f = any_found (event_count s.plan) _ h in
    let c = f.0 in
    let r = some_run k (do_one s c) e (had || eqb c e) (and_right (may_do s c) (some_order k (do_one s c) e (had || eqb c e)) f.2) in
    (c ∷ r.0, record { long = ap suc r.1.long; runs = (f.1, and_left (may_do s c) (some_order k (do_one s c) e (had || eqb c e)) f.2, r.1.runs); has_e = r.1.has_e })

pub viable_has : (s : State) (e : ℕ) (o : List ℕ) → Viable s e o → has_viable s e ≡ true
unfolding has_viable
viable_has s e [] v = absurd (Memᴰ.not-nil v.contains)
viable_has s e (c ∷ o) v =
    any_some 6
    (λ k. some_order (suc k) s e false)
    (length o)
    (omega (arith, v.short))
    (run_some (suc (length o)) s e false (c ∷ o) (reaches v))

pub has_viable_lem : (s : State) (e : ℕ) → Sized s → has_viable s e ≡ true → (o : List ℕ) × Viable s e o
unfolding has_viable
has_viable_lem s e z h =
    let f = any_found 6 (λ k. some_order (suc k) s e false) h in
    let r = some_run (suc f.0) s e false f.2 in
    (r.0, record { contains = has_contains e r.0 r.1.has_e; short = omega (arith, r.1.long, f.1); different = runs_differ s z r.0 r.1.runs; runs = r.1.runs })

pub chosen_none_has : (s : State) (e : ℕ) → Sized s → chosen s e ≡ none → has_viable s e ≡ false
chosen_none_has s e z h = elim (either (has_viable s e)) [
  | inl t ↦ let v = has_viable_lem s e z t in absurd (chosen_none s e h v.0 v.1)
  | inr f ↦ f
]

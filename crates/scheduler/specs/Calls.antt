-- Settling, and the four calls: submit (hand in), close a step, finish (wind up), advance (move the minute).
use Rattle.std.specs.Prelude.{◌<◌, ◌&&◌, ◌≡◌}
use Rattle.scheduler.specs.Prelude.{ℕ, zero, suc, Bool, true, false, List, Option, none, some, map_option, eqb, Held, Done, Refused, Lapsed, State}
use Rattle.plan.specs.Base.{first_of, when, lowest}
use Rattle.plan.specs.Fates.{is_open, is_held}
use Rattle.plan.specs.Plans.{event_count, rule_count, step_of, rejectable, delayable}
use Rattle.scheduler.specs.State.{fate_of, hold, settle_as, shut, break_rule, set_minute}
use Rattle.scheduler.specs.Rules.{barred, strains}
use Rattle.scheduler.specs.Orders.{Viable, First, chosen, do_all}

-- e is the lowest declared event for which P holds (1.4)
pub record Lowest (s : State) (P : ℕ → Type 0) (e : ℕ) : Type 0 where
  pub declared : e < event_count s.plan
  pub is : P e
  pub none_below : (d : ℕ) → d < e → P d → ⊥

abbrev pub IsHeld : State → ℕ → Type 0
IsHeld s e = fate_of s e ≡ Held

abbrev pub HeldBarred : State → ℕ → Type 0
HeldBarred s e = (fate_of s e ≡ Held) × (barred s e ≡ true)

abbrev pub HeldViable : State → ℕ → Type 0
HeldViable s e = (fate_of s e ≡ Held) × (o : List ℕ) × Viable s e o

-- one turn of settling. If a held event is barred, the lowest such event is refused. Otherwise the chosen order of the
-- lowest held event that has one is run (8.1)
pub data Turn (s : State) : State → Type 0 where
  refuses : (e : ℕ) → Lowest s (HeldBarred s) e → Turn s (settle_as Refused s e)
  does : (e : ℕ) (o : List ℕ)
      → ((d : ℕ) → d < event_count s.plan → HeldBarred s d → ⊥)
      → Lowest s (HeldViable s) e
      → First s e o
      → Turn s (do_all s o)

-- no turn is possible (8.2)
abbrev pub AtRest : State → Type 0
AtRest s = (u : State) → Turn s u → ⊥

-- turns one after another (8.2)
pub data Turns : State → State → Type 0 where
  stay : {s : State} → Turns s s
  turn : {s t u : State} → Turn s t → Turns t u → Turns s u

-- turns, until none is possible (8.2)
pub record Settles (s t : State) : Type 0 where
  pub turns : Turns s t
  pub rests : AtRest t

-- Settling as a function, proved to give what `Settles` says. The event to refuse: the lowest held event that is barred
-- (8.1)
unfoldable pub to_refuse : State → Option ℕ
to_refuse s = lowest (event_count s.plan) (λ e. is_held (fate_of s e) && barred s e)

-- the order to run: the chosen order of the lowest held event that has one (8.1)
unfoldable pub to_do : State → Option (List ℕ)
to_do s = first_of (event_count s.plan) 0 (λ e. let order = chosen s e in when (is_held (fate_of s e)) order)

-- one turn, if one is possible (8.1)
unfoldable pub settle_once : State → Option State
settle_once s = elim (to_refuse s) [
  | some e ↦ some (settle_as Refused s e)
  | none ↦ map_option (do_all s) (to_do s)
]

-- at most n turns (8.2)
unfoldable pub settle_up_to : ℕ → State → State
settle_up_to zero s = s
settle_up_to (suc n) s = elim (settle_once s) [ none ↦ s | some t ↦ settle_up_to n t ]

-- 16 turns are enough: each settles an event, and there are at most 16 events (8.2, 8.3)
unfoldable pub settle : State → State
settle s = settle_up_to 16 s

abbrev pub break_if : Bool → State → ℕ → State
break_if true s i = break_rule s i
break_if false s i = s

-- t, with those of the first n rules recorded as broken that doing e in s breaks (9.5)
unfoldable pub record_broken : ℕ → State → ℕ → State → State
record_broken zero s e t = t
record_broken (suc n) s e t = break_if (strains s e n) (record_broken n s e t) n

-- e is done by itself, and every rule that this breaks is recorded as broken (9.5)
unfoldable pub do_alone : State → ℕ → State
do_alone s e = record_broken (rule_count s.plan) s e (settle_as Done s e)

-- decides e, which is held in s and cannot wait: its chosen order is run if it has one; otherwise e is refused if it is
-- rejectable, and done alone if it is not (9.4)
unfoldable pub decide : State → ℕ → State
decide s e = elim (chosen s e) [
  | some o ↦ do_all s o
  | none ↦ elim (rejectable s.plan e) [ true ↦ settle_as Refused s e | false ↦ do_alone s e ]
]

-- submit e. If e is not open, nothing changes. Otherwise it becomes held; if it cannot wait, it is decided at once;
-- then the state is settled (9.2 to 9.4)
unfoldable pub submit : State → ℕ → State
submit s e = elim (is_open (fate_of s e)) [
  | false ↦ s
  | true ↦ elim (delayable s.plan e) [ true ↦ settle (hold s e) | false ↦ settle (decide (hold s e) e) ]
]

-- the open events of step k lapse, the lowest first; only the n events from e on are looked at (9.7)
unfoldable pub lapse : ℕ → ℕ → State → ℕ → State
lapse zero e s k = s
lapse (suc n) e s k = elim (is_open (fate_of s e) && eqb (step_of s.plan e) k) [
  | true ↦ lapse n (suc e) (settle_as Lapsed s e) k
  | false ↦ lapse n (suc e) s k
]

-- close step k: it becomes closed, its open events lapse, and then the state is settled (9.7)
unfoldable pub close_step : State → ℕ → State
close_step s k = settle (lapse (event_count s.plan) 0 (shut s k) k)

-- advance to minute m: the minute is moved, and then the state is settled (9.9)
unfoldable pub advance_to : State → ℕ → State
advance_to s m = settle (set_minute s m)

-- the lowest held event is refused and the state settled, again and again while an event is held, at most n times (9.8)
unfoldable pub refuse_held : ℕ → State → State
refuse_held zero s = s
refuse_held (suc n) s = elim (lowest (event_count s.plan) (λ e. is_held (fate_of s e))) [
  | none ↦ s
  | some e ↦ refuse_held n (settle (settle_as Refused s e))
]

-- finish: settle, then refuse what is still held. 16 times are enough: each settles an event, and there are at most 16
-- events (9.8)
unfoldable pub finish : State → State
finish s = refuse_held 16 (settle s)

-- the refusals of a finish, as a relation (9.8)
pub data Refusing : State → State → Type 0 where
  nothing_held : {s : State} → ((e : ℕ) → e < event_count s.plan → IsHeld s e → ⊥) → Refusing s s
  refuse_next : {s t u : State} (e : ℕ)
      → Lowest s (IsHeld s) e
      → Settles (settle_as Refused s e) t
      → Refusing t u
      → Refusing s u

-- a finish, as a relation (9.8)
pub record Finishes (s t : State) : Type 0 where
  pub between : State
  pub settles : Settles s between
  pub refusing : Refusing between t

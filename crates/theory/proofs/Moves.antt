-- S-7: a move of the minute only adds lines that settling at that minute gives, each with its reason.
use Prim.Native.Nat.{ℕ, ◌≤◌}
use native.Mathlib.Omega.{arith}
use native.Mathlib.Decide.{dec_lt}
use borrow.Author.Tests.{le-ltb}
use mathlib.Core.Bool.{true}
use mathlib.Core.List.{List, [], ◌∷◌, ◌++◌, append-nil, append_assoc, Memᴰ}
use Rattle.std.specs.declared.option.Option.TheVariants.{None as none}
use mathlib.Core.Path.{◌≡◌, refl, sym, ◌∙◌, ap, subst}
use Rattle.theory.proofs.Types.{Fate, Held, Refused, Entry, State, Reply, Advance}
use Rattle.plan.specs.Faults.{first_fault}
use Rattle.scheduler.specs.State.{fate_of, line_count, lines, settle_as, set_minute, Sized}
use Rattle.scheduler.specs.Orders.{First, fate_at_turn, do_one, do_all}
use Rattle.scheduler.specs.Calls.{Turn, refuses, does, Turns, stay, turn, settle, advance_to}
use Rattle.scheduler.specs.Coherent.{coherent}
use Rattle.scheduler.specs.Answers.{call_fault, accept}
use Rattle.scheduler.specs.Lists.{scheduler}
use Rattle.scheduler.proofs.Laws.{turn_done, lines_settle, lines_minute, sized_one, sized_minute}
use Rattle.scheduler.proofs.Settling.{sized_turn, settle_settles}
use Rattle.scheduler.proofs.Branches.{call_accept}
use Rattle.scheduler.proofs.Doing.{lines_full}
use Rattle.theory.specs.Windows.{Reason, bar, order, Reasoned, Moved, OnlySettles}

-- one turn more at the end
turns_then : {a s t : State} → Turns a s → Turn s t → Turns a t
turns_then stay r = turn r stay
turns_then (turn q ts) r = turn q (turns_then ts r)

-- lines with their reasons, one after another
both_reasoned : (a : State) (xs ys : List Entry) → Reasoned a xs → Reasoned a ys → Reasoned a (xs ++ ys)
both_reasoned a [] ys f g = g
both_reasoned a (l ∷ xs) ys f g = (f.0, both_reasoned a xs ys f.1 g)

-- from s to t lines are added that have their reasons on the way from a, and only standings and the history change
record Grown (a s t : State) : Type 0 where
  new : List Entry
  added : lines t ≡ lines s ++ new
  reasoned : Reasoned a new
  minute : t.minute ≡ s.minute
  plan : t.plan ≡ s.plan
  broken : t.broken ≡ s.broken
  closed : t.closed ≡ s.closed

grown_stay : (a s : State) → Grown a s s
grown_stay a s = record {
  new = [];
  added = sym (append-nil (lines s));
  reasoned = tt;
  minute = refl;
  plan = refl;
  broken = refl;
  closed = refl;
}

grown_then : {a s t u : State} → Grown a s t → Grown a t u → Grown a s u
grown_then {a} {s} {t} {u} f g = record {
  new = f.new ++ g.new;
  added = g.added ∙ ap (λ h. h ++ g.new) f.added ∙ append_assoc (lines s) f.new g.new;
  reasoned = both_reasoned a f.new g.new f.reasoned g.reasoned;
  minute = g.minute ∙ f.minute;
  plan = g.plan ∙ f.plan;
  broken = g.broken ∙ f.broken;
  closed = g.closed ∙ f.closed;
}

-- an event settled; where the history is full, no line is added
grown_settle : (a : State) (x : Fate) (s : State) (e : ℕ)
    → Sized s
    → (u : State) × Turns a u × Reason u (record { event = e; fate = x })
    → Grown a s (settle_as x s e)
unfolding settle_as
grown_settle a x s e z why = elim (dec_lt (line_count s) 16) [
  | yes lt ↦ record {
    new = record { event = e; fate = x } ∷ [];
    added = lines_settle x s e z lt;
    reasoned = (why, tt);
    minute = refl;
    plan = refl;
    broken = refl;
    closed = refl;
  }
  | no ge ↦ record {
    new = [];
    added = lines_full x s e (omega arith) ∙ sym (append-nil (lines s));
    reasoned = tt;
    minute = refl;
    plan = refl;
    broken = refl;
    closed = refl;
  }
]

-- the events of an order, done one after the other: the reason of each is the order, in the state where it begins
grown_order : (a u : State) (e : ℕ) (whole : List ℕ)
    → Turns a u
    → fate_of u e ≡ Held
    → First u e whole
    → (s : State) (o : List ℕ)
    → Sized s
    → ((d : ℕ) → Memᴰ d o → Memᴰ d whole)
    → Grown a s (do_all s o)
unfolding do_all
grown_order a u e whole ts h f s [] z sub = grown_stay a s
grown_order a u e whole ts h f s (c ∷ o) z sub =
    let line : Entry = record { event = c; fate = fate_at_turn s c } in
    let why : Reason u line = order e whole line h f (sub c (Memᴰ.head refl)) (turn_done s c) in
    grown_then (grown_settle a (fate_at_turn s c) s c z (u, ts, why))
    (grown_order a u e whole ts h f (do_one s c) o (sized_one s c z) (λ d i. sub d (Memᴰ.tail i)))

grown_turn : {a s t : State} → Turns a s → Turn s t → Sized s → Grown a s t
grown_turn {a} {s} ts (refuses e l) z = grown_settle a Refused s e z (s, ts, bar e l.is)
grown_turn {a} {s} ts (does e o nb l f) z = grown_order a s e o ts l.is.0 f s o z (λ d i. i)

grown_turns : {a s t : State} → Turns a s → Turns s t → Sized s → Grown a s t
grown_turns {a} {s} ts stay z = grown_stay a s
grown_turns ts (turn r rs) z = grown_then (grown_turn ts r z) (grown_turns (turns_then ts r) rs (sized_turn r z))

-- a move to a minute that is not below is taken
move_taken : (s : State) (m : ℕ) → coherent s ≡ true → s.minute ≤ m → call_fault s (Advance m) ≡ none
unfolding call_fault first_fault
move_taken s m h le = rw (h, le-ltb m s.minute le)

moved_settle : (s : State) (m : ℕ) → Sized s → Moved s m (settle (set_minute s m))
unfolding set_minute
moved_settle s m z =
    let start = set_minute s m in
    let done = settle_settles start (sized_minute s m z) in
    let g = grown_turns {a = start} stay done.turns (sized_minute s m z) in
    record {
      new = g.new;
      added = g.added ∙ ap (λ h. h ++ g.new) (lines_minute s m);
      reasoned = g.reasoned;
      settled = done;
      minute = g.minute;
      plan = g.plan;
      broken = g.broken;
      closed = g.closed;
    }

pub only_settles : OnlySettles scheduler
unfolding accept advance_to
only_settles s m z h le =
    let taken = call_accept s (Advance m) (move_taken s m h le) in
    subst (λ (r : Reply). Moved s m r.state) (sym taken) (moved_settle s m z)

-- What a hand-in adds to the history: lines that say done, forced or refused, and none where the event isn't open.
use Prim.Native.Nat.{ℕ, ◌+◌, ◌-◌, ◌≤◌}
use native.Mathlib.Omega.{arith}
use native.Mathlib.Decide.{dec_lt}
use mathlib.Core.Bool.{Bool, true, false, cond}
use mathlib.Core.List.{List, [], ◌∷◌, ◌++◌, append-nil, append_assoc}
use Rattle.std.specs.declared.option.Option.{Option}
use Rattle.std.specs.declared.option.Option.TheVariants.{None as none, Some as some}
use mathlib.Core.Path.{◌≡◌, refl, sym, ◌∙◌, ap, subst}
use lib.ListN.{length, drop, take, length-take, length-append, drop_of_length-le}
use lib.Seq.{length-take-le, drop_at}
use Rattle.std.proofs.lemmas.List.{drop-take}
use Rattle.std.proofs.lemmas.List.Sums.{sum_by-append, sum_by-cons}
use Rattle.preview.specs.Types.{Fate, Open, Held, Done, Refused, Lapsed, Forced, Entry, Call, Submit, Close, Finish, Advance, CallFault, TurnedDown, State, Reply}
use Rattle.plan.specs.Base.{one_if}
use Rattle.plan.specs.Fates.{is_open, done_as, same_fate}
use Rattle.plan.specs.Plans.{rule_count}
use Rattle.scheduler.specs.State.{fate_of, line_count, lines, hold, settle_as, Sized}
use Rattle.scheduler.specs.Orders.{fate_at_turn, do_one, do_all}
use Rattle.scheduler.specs.Calls.{record_broken, do_alone}
use Rattle.scheduler.specs.Coherent.{coherent}
use Rattle.scheduler.specs.Answers.{call_fault, accept, call}
use Rattle.scheduler.specs.Grounds.{Trail, end, held, ordered, alone, refused, shuts, lapsed, moves}
use Rattle.plan.proofs.Tests.{clash}
use Rattle.scheduler.proofs.Laws.{lines_hold, sized_hold, lines_settle, sized_settle, sized_one}
use Rattle.scheduler.proofs.Branches.{submit_same, call_fault_lem, call_accept}
use Rattle.scheduler.proofs.Searching.{sized-do_all}
use Rattle.scheduler.proofs.Grounds.{sized_alone, grounded}
use Rattle.scheduler.proofs.Doing.{lines_full, recorded_lines}
use Rattle.theory.proofs.HistoryInvariant.{len_le}
use Rattle.theory.proofs.Coherence.{coherent_invariant, accepted_coherent, call_coherent, sized_call}
use Rattle.preview.specs.Preview.{added_by, count_of, Foretold}
use Rattle.preview.proofs.Replies.{counts_given}

-- counts of two lists, one after the other
count_append : (x : Fate) (a b : List Entry) → count_of x (a ++ b) ≡ count_of x a + count_of x b
count_append x a b = sum_by-append (λ (l : Entry). cond (same_fate l.fate x) 1 0) a b

-- the first of a list of lines
count_first : (x : Fate) (l : Entry) (ls : List Entry)
    → count_of x (l ∷ ls) ≡ one_if (same_fate l.fate x) + count_of x ls
count_first x l ls =
    sum_by-cons (λ (k : Entry). cond (same_fate k.fate x) 1 0) l ls
    ∙ ap (λ n. n + count_of x ls) (as_number (same_fate l.fate x))
  where
    as_number : (b : Bool) → cond b 1 0 ≡ one_if b
    as_number true = refl
    as_number false = refl

-- a line is counted once at most
once : (x : Fate) → one_if (same_fate x Done) + one_if (same_fate x Refused) + one_if (same_fate x Lapsed) + one_if (same_fate x Forced) ≤ 1
once Open = omega arith
once Held = omega arith
once Done = omega arith
once Refused = omega arith
once Lapsed = omega arith
once Forced = omega arith

at_most : (ls : List Entry) → count_of Done ls + count_of Refused ls + count_of Lapsed ls + count_of Forced ls ≤ length ls
at_most [] = omega arith
at_most (l ∷ ls) =
    omega (
      arith,
      once l.fate,
      at_most ls,
      count_first Done l ls,
      count_first Refused l ls,
      count_first Lapsed l ls,
      count_first Forced l ls,
    )

-- every line says done, forced or refused
abbrev pub NoneLapsed : List Entry → Type 0
NoneLapsed ls = count_of Done ls + count_of Refused ls + count_of Forced ls ≡ length ls

said_append : (a b : List Entry) → NoneLapsed a → NoneLapsed b → NoneLapsed (a ++ b)
said_append a b p q = omega (arith, count_append Done a b, count_append Refused a b, count_append Forced a b, length-append a b, p, q)

said_none : NoneLapsed []
said_none = refl

-- t's history is that of s and lines that say done, forced or refused
pub record Grown (s t : State) : Type 0 where
  pub new : List Entry
  pub lines_new : lines t ≡ lines s ++ new
  pub said : NoneLapsed new

grown_same : (s t : State) → lines t ≡ lines s → Grown s t
grown_same s t q = record { new = []; lines_new = q ∙ sym (append-nil (lines s)); said = said_none }

grown_then : (s t u : State) → Grown s t → Grown t u → Grown s u
grown_then s t u p q = record {
  new = p.new ++ q.new;
  lines_new = q.lines_new ∙ ap (λ (l : List Entry). l ++ q.new) p.lines_new ∙ append_assoc (lines s) p.new q.new;
  said = said_append p.new q.new p.said q.said;
}

-- an event is settled: a line more, or none where all places are taken
module _ (x : Fate) (one : (e : ℕ) → NoneLapsed (record { event = e; fate = x } ∷ [])) where
  grown_settle : (s : State) (e : ℕ) → Sized s → Grown s (settle_as x s e)
  grown_settle s e z = elim (dec_lt (line_count s) 16) [
    | yes lt ↦ record { new = record { event = e; fate = x } ∷ []; lines_new = lines_settle x s e z lt; said = one e }
    | no ge ↦ grown_same s (settle_as x s e) (lines_full x s e (omega arith))
  ]

one_done_lem : (e : ℕ) → NoneLapsed (record { event = e; fate = Done } ∷ [])
one_done_lem e = refl

one_forced : (e : ℕ) → NoneLapsed (record { event = e; fate = Forced } ∷ [])
one_forced e = refl

-- one event of an order
one_turn : (opened : Bool) (e : ℕ) → NoneLapsed (record { event = e; fate = done_as opened } ∷ [])
one_turn true = one_forced
one_turn false = one_done_lem

one_refused : (e : ℕ) → NoneLapsed (record { event = e; fate = Refused } ∷ [])
one_refused e = refl

grown_order : (s : State) (o : List ℕ) → Sized s → Grown s (do_all s o)
unfolding do_all
grown_order s [] z = grown_same s s refl
grown_order s (c ∷ o) z =
    grown_then s (do_one s c) (do_all (do_one s c) o) (grown_settle (fate_at_turn s c) (one_turn (is_open (fate_of s c))) s c z) (grown_order (do_one s c) o (sized_one s c z))

grown_alone : (s : State) (e : ℕ) → Sized s → Grown s (do_alone s e)
unfolding do_alone
grown_alone s e z =
    let t = settle_as Done s e in
    let n = rule_count s.plan in
    grown_then s t (record_broken n s e t) (grown_settle Done one_done_lem s e z) (grown_same t (record_broken n s e t) (recorded_lines s e t n))

-- a hand-in closes no step and moves no minute
abbrev other : Call → Bool
other (Submit e) = false
other (Close k) = true
other Finish = false
other (Advance m) = true

-- what a hand-in writes, write by write
trail_grown : {d : ℕ} {s t : State} → Trail (Submit d) s t → Sized s → Grown s t
trail_grown {s = s} end z = grown_same s s refl
trail_grown (held {s} {t} e p h r) z =
    grown_then s (hold s e) t (grown_same s (hold s e) (lines_hold s e)) (trail_grown r (sized_hold s e z))
trail_grown (ordered {s} {t} e o h f r) z =
    grown_then s (do_all s o) t (grown_order s o z) (trail_grown r (sized-do_all s o z))
trail_grown (alone {s} {t} e p u d j n r) z =
    grown_then s (do_alone s e) t (grown_alone s e z) (trail_grown r (sized_alone s e z))
trail_grown (refused {s} {t} e g r) z =
    grown_then s (settle_as Refused s e) t (grown_settle Refused one_refused s e z) (trail_grown r (sized_settle Refused s e z))
trail_grown (shuts k p r) z = absurd (clash refl (ap other (sym p)))
trail_grown (lapsed e p h r) z = absurd (clash refl (ap other (sym p)))
trail_grown (moves m p h r) z = absurd (clash refl (ap other (sym p)))

-- a history has nothing beyond its lines
nothing_beyond : (s : State) → drop (line_count s) (lines s) ≡ []
nothing_beyond s = drop_of_length-le (lines s) {i = line_count s} (omega (arith, length-take (line_count s) s.history))

-- how many lines there are
lines_long : (s : State) → Sized s → coherent s ≡ true → length (lines s) ≡ line_count s
lines_long s z h =
    length-take-le (line_count s) s.history (omega (arith, len_le (coherent_invariant s z h).listing, z.history_len))

module _ (s : State) (e : ℕ) (z : Sized s) where
  abbrev t : State
  t = (call s (Submit e)).state

  -- a hand-in that leaves the state as it is
  same_adds : t ≡ s → added_by s (Submit e) ≡ []
  same_adds q = ap (λ (u : State). drop (line_count s) (lines u)) q ∙ nothing_beyond s

  grows : Grown s t
  grows = trail_grown (grounded s (Submit e) z) z

  -- what is added is what is new
  new_added : coherent s ≡ true → added_by s (Submit e) ≡ grows.new
  new_added h =
      ap (drop (line_count s)) grows.lines_new
      ∙ drop_at (lines s) grows.new (line_count s) (lines_long s z h)

  foretold_same : t ≡ s → Foretold s e
  foretold_same q =
      let none-added = same_adds q in
      record {
        history = ap lines q ∙ sym (append-nil (lines s)) ∙ ap (λ (l : List Entry). lines s ++ l) (sym none-added);
        counts = counts_given s e;
        growth = rw none-added (ap line_count q ∙ omega arith);
        unlapsed = rw none-added;
        idle = λ o. none-added;
      }

  accept_same : is_open (fate_of s e) ≡ false → (accept s (Submit e)).state ≡ s
  unfolding accept
  accept_same o = submit_same s e o

  foretold_taken : call_fault s (Submit e) ≡ none → Foretold s e
  foretold_taken h =
      let c = accepted_coherent s (Submit e) h in
      let added = new_added c in
      let all : NoneLapsed (added_by s (Submit e)) = subst NoneLapsed (sym added) grows.said in
      let most = at_most (added_by s (Submit e)) in
      let history : lines t ≡ lines s ++ added_by s (Submit e) = grows.lines_new ∙ ap (λ (l : List Entry). lines s ++ l) (sym added) in
      let before = lines_long s z c in
      let after = lines_long t (sized_call s (Submit e) z) (call_coherent s (Submit e) z c) in
      record {
        history = history;
        counts = counts_given s e;
        growth = omega (arith, before, after, all, most, ap length history ∙ length-append (lines s) (added_by s (Submit e)));
        unlapsed = omega (arith, all, most);
        idle = λ o. same_adds (ap (λ (r : Reply). r.state) (call_accept s (Submit e) h) ∙ accept_same o);
      }

  -- a hand-in that is taken: what it adds stands in the history after it, from one length up to the other
  module _ (taken : (f : CallFault) → (call s (Submit e)).answer ≡ TurnedDown f → ⊥) where
    pub within : (line_count s ≤ line_count t) × (line_count t ≤ 16)
    within = go (call_fault s (Submit e)) refl
      where
        go : (q : Option CallFault) → call_fault s (Submit e) ≡ q → (line_count s ≤ line_count t) × (line_count t ≤ 16)
        go (some f) h = absurd (taken f (ap (λ (r : Reply). r.answer) (call_fault_lem s (Submit e) f h)))
        go none h =
            let c = call_coherent s (Submit e) z (accepted_coherent s (Submit e) h) in
            let y = sized_call s (Submit e) z in
            (omega (arith, (foretold_taken h).growth), len_le (coherent_invariant t y c).listing)

    pub part : (from to : ℕ) → from ≡ line_count s → to ≡ line_count t
        → (from ≤ to) × (to ≤ 16) × (take (to - from) (drop from t.history) ≡ added_by s (Submit e))
    part from to f g = (
      omega (arith, within.0),
      omega (arith, within.1),
      sym (drop-take from (to - from) t.history) ∙ (λ i. drop (f i) (take (sum i) t.history)),
    )
      where
        sum : from + (to - from) ≡ line_count t
        sum = omega (arith, within.0)

  -- every state that code can hold, every event
  pub foretold : Foretold s e
  foretold = go (call_fault s (Submit e)) refl
    where
      go : (q : Option CallFault) → call_fault s (Submit e) ≡ q → Foretold s e
      go (some f) h = foretold_same (ap (λ (r : Reply). r.state) (call_fault_lem s (Submit e) f h))
      go none h = foretold_taken h

-- The invariant between calls; settling, closing a step and winding up keep it.
use Prim.Native.Nat.{ℕ, zero, suc, ◌+◌, ◌≤◌, ◌<◌}
use native.Mathlib.Omega.{arith}
use native.Mathlib.Decide.{ℕ_discrete}
use borrow.Author.Tests.{eq-eqb}
use mathlib.Core.Bool.{true, false, ◌&&◌}
use mathlib.Core.List.{List, [], ◌∷◌, ◌++◌, append_assoc, append-nil}
use mathlib.Core.Logic.{◌⊎◌, inl, inr}
use Rattle.std.specs.declared.option.Option.{Option}
use Rattle.std.specs.declared.option.Option.TheVariants.{None as none, Some as some}
use mathlib.Core.Path.{◌≡◌, refl, sym, ◌∙◌, ap, subst}
use lib.Dec.{eqb}
use lib.ListN.{get_or}
use Rattle.theory.proofs.Types.{Fate, Open, Held, Refused, Lapsed, Plan, Entry, State}
use Rattle.plan.specs.Plans.{event_count, step_of, delayable}
use Rattle.scheduler.specs.State.{fate_of, broken_at, closed_at, lines, settle_as, shut, set_minute, Sized}
use Rattle.plan.specs.Histories.{blank_entry, fate_if}
use Rattle.plan.specs.Fates.{is_open, is_done, is_gone, is_settled}
use Rattle.scheduler.specs.Orders.{fate_at_turn, do_one, Runs, Viable, do_all}
use Rattle.scheduler.specs.Calls.{Turn, refuses, does, Turns, stay, turn, Settles, settle_once, settle, lapse, close_step, Refusing, nothing_held, refuse_next, finish, advance_to}
use Rattle.plan.proofs.Tests.{clash, either, and_left, and_both}
use Rattle.plan.proofs.Fates.{open_is}
use Rattle.orders.proofs.Doing.{gone_settled}
use Rattle.scheduler.proofs.Laws.{turn_settled, fate_settle_other, closed_settle, broken_settle, plan_shut, fate_shut, broken_shut, history_shut, len_shut, lines_shut, closed_shut_other, sized_shut, plan_minute, fate_minute, broken_minute, closed_minute, history_minute, len_minute, lines_minute, sized_minute}
use Rattle.scheduler.proofs.Branches.{lapse_yes, lapse_no}
use Rattle.scheduler.proofs.Searching.{ready_unsettled}
use Rattle.scheduler.proofs.Settling.{once_some, rest_none, settle_turns, settle_rest, finish_finishes}
use Rattle.theory.proofs.SoundPlans.{Sound}
use Rattle.theory.proofs.HistoryInvariant.{Shape, HistoryListed, BlankBeyond, listing_alike, same_events, fate_then, lines_then, listing_settle, beyond_settle}
use Rattle.theory.proofs.RuleInvariant.{RulesObeyed, Strict, Quiet, SameToRules, obeyed_same, quiet_same, quiet_of, obeyed_do, strict_do, obeyed_drop, strict_drop, quiet_drop}

pub held_unsettled : {x : Fate} → x ≡ Held → is_settled x ≡ false
held_unsettled h = ap is_settled h

pub open_unsettled : {x : Fate} → x ≡ Open → is_settled x ≡ false
open_unsettled h = ap is_settled h

-- each event is settled in t, or stands as it did in s
abbrev pub FatesLater : State → State → Type 0
FatesLater s t = (e : ℕ) → (is_settled (fate_of t e) ≡ true) ⊎ (fate_of t e ≡ fate_of s e)

-- t comes after s: events settled are settled for good, the others stand as they did, the history only grows
pub record Later (p : Plan) (s t : State) : Type 0 where
  pub fates : FatesLater s t
  pub same_closed : (k : ℕ) → closed_at t k ≡ closed_at s k
  pub same_broken : (i : ℕ) → broken_at t i ≡ broken_at s i
  pub new : List Entry
  pub lines_new : lines t ≡ lines s ++ new
  pub beyond : BlankBeyond p s → BlankBeyond p t
  pub strict : Strict p s → Strict p t

pub later_refl : (p : Plan) (s : State) → Later p s s
later_refl p s = record {
  fates = λ e. inr refl;
  same_closed = λ k. refl;
  same_broken = λ i. refl;
  new = [];
  lines_new = sym (append-nil (lines s));
  beyond = λ t. t;
  strict = λ w. w;
}

pub fates_trans : (s t u : State) → FatesLater s t → FatesLater t u → FatesLater s u
fates_trans s t u f g e = elim (g e) [
  | inl z ↦ inl z
  | inr r ↦ elim (f e) [ inl z ↦ inl (ap is_settled r ∙ z) | inr q ↦ inr (r ∙ q) ]
]

pub later_trans : {p : Plan} {s t u : State} → Later p s t → Later p t u → Later p s u
later_trans {p} {s} {t} {u} f g = record {
  fates = fates_trans s t u f.fates g.fates;
  same_closed = λ k. g.same_closed k ∙ f.same_closed k;
  same_broken = λ i. g.same_broken i ∙ f.same_broken i;
  new = f.new ++ g.new;
  lines_new = g.lines_new ∙ ap (λ h. h ++ g.new) f.lines_new ∙ append_assoc (lines s) f.new g.new;
  beyond = λ z. g.beyond (f.beyond z);
  strict = λ w. g.strict (f.strict w);
}

pub later_settle : {p : Plan} {s : State} (x : Fate) (e : ℕ) (fin : is_settled x ≡ true) (k : HistoryListed p s)
    → e < event_count p
    → is_settled (fate_of s e) ≡ false
    → (Strict p s → Strict p (settle_as x s e))
    → Later p s (settle_as x s e)
later_settle {p} {s} x e fin k lt un st = record {
  fates = λ j. elim (ℕ_discrete j e) [
    | yes r ↦ inl (rw (r, fate_then x e fin k lt un) fin)
    | no ne ↦ inr (fate_settle_other x s e j ne)
  ];
  same_closed = closed_settle x s e;
  same_broken = broken_settle x s e;
  new = record { event = e; fate = x } ∷ [];
  lines_new = lines_then x e fin k lt un;
  beyond = beyond_settle x e fin k lt un;
  strict = st;
}

-- a held event can wait; an open event's step is not closed
abbrev pub HeldCanWait : Plan → State → Type 0
HeldCanWait p s = (e : ℕ) → e < event_count p → fate_of s e ≡ Held → delayable p e ≡ true

abbrev pub OpenNotClosed : Plan → State → Type 0
OpenNotClosed p s = (e : ℕ) → e < event_count p → fate_of s e ≡ Open → closed_at s (step_of p e) ≡ false

-- the invariant between calls: what number 12 asks
pub record Invariant (p : Plan) (s : State) : Type 0 where
  pub listing : HistoryListed p s
  pub obeyed : RulesObeyed p s
  pub quiet : Quiet p s
  pub held : HeldCanWait p s
  pub still : OpenNotClosed p s

pub held_later : {p : Plan} {s t : State} → Later p s t → HeldCanWait p s → HeldCanWait p t
held_later f h e lt q = elim (f.fates e) [ inl z ↦ absurd (clash z (held_unsettled q)) | inr r ↦ h e lt (sym r ∙ q) ]

pub still_later : {p : Plan} {s t : State} → Later p s t → OpenNotClosed p s → OpenNotClosed p t
still_later {p} f h e lt q = elim (f.fates e) [
  | inl z ↦ absurd (clash z (open_unsettled q))
  | inr r ↦ f.same_closed (step_of p e) ∙ h e lt (sym r ∙ q)
]

-- an order that runs
pub record Ran (p : Plan) (s t : State) : Type 0 where
  pub listing : HistoryListed p t
  pub obeyed : RulesObeyed p t
  pub quiet : Quiet p t
  pub later : Later p s t

pub do_run : {p : Plan}
    → Sound p
    → (s : State)
    → HistoryListed p s
    → RulesObeyed p s
    → (o : List ℕ)
    → Runs s o
    → Ran p s (do_all s o)
unfolding do_all
do_run {p} sd s k w [] r = record { listing = k; obeyed = w; quiet = quiet_of k.shape r; later = later_refl p s }
do_run {p} sd s k w (c ∷ o) r =
    let lt : c < event_count p = omega (arith, r.0, same_events k.shape) in
    let un = ready_unsettled s c r.1 in
    let b = listing_settle (fate_at_turn s c) c (turn_settled s c) k lt un in
    let z = do_run sd (do_one s c) b (obeyed_do sd c k lt r.1 w) o r.2 in
    record {
      listing = z.listing;
      obeyed = z.obeyed;
      quiet = z.quiet;
      later = later_trans (later_settle (fate_at_turn s c) c (turn_settled s c) k lt un (strict_do sd c k lt r.1)) z.later;
    }

-- a held event is refused, or an open one lapses
pub record InvariantKept (p : Plan) (s t : State) : Type 0 where
  pub invariant : Invariant p t
  pub later : Later p s t

pub later_drop : {p : Plan} {s : State} (x : Fate) (gx : is_gone x ≡ true) (e : ℕ)
    → HistoryListed p s
    → e < event_count p
    → is_settled (fate_of s e) ≡ false
    → Quiet p s
    → Later p s (settle_as x s e)
later_drop x gx e k lt un qt = later_settle x e (gone_settled x gx) k lt un (strict_drop x gx e k lt un qt)

pub refused_keeps : {p : Plan} {s : State}
    → Invariant p s
    → (e : ℕ)
    → e < event_count p
    → fate_of s e ≡ Held
    → InvariantKept p s (settle_as Refused s e)
refused_keeps {p} {s} k e lt h =
    let un = held_unsettled h in
    let l = later_drop Refused refl e k.listing lt un k.quiet in
    record {
      invariant = record {
        listing = listing_settle Refused e refl k.listing lt un;
        obeyed = obeyed_drop Refused refl e k.listing lt un k.obeyed k.quiet;
        quiet = quiet_drop Refused refl e k.listing lt un k.quiet;
        held = held_later l k.held;
        still = still_later l k.still;
      };
      later = l;
    }

order_keeps : {p : Plan} {s : State} → Sound p → Invariant p s → (o : List ℕ) → Runs s o → InvariantKept p s (do_all s o)
order_keeps {p} {s} sd k o r =
    let z = do_run sd s k.listing k.obeyed o r in
    record {
      invariant = record {
        listing = z.listing;
        obeyed = z.obeyed;
        quiet = z.quiet;
        held = held_later z.later k.held;
        still = still_later z.later k.still;
      };
      later = z.later;
    }

-- a turn of settling, and turns
pub turn_keeps : {p : Plan} {s t : State} → Sound p → Invariant p s → Turn s t → InvariantKept p s t
turn_keeps sd k (refuses e l) =
    refused_keeps k e (omega (arith, l.declared, same_events k.listing.shape)) l.is.0
turn_keeps sd k (does e o nb l f) = order_keeps sd k o f.viable.runs

pub turns_keeps : {p : Plan} {s t : State} → Sound p → Invariant p s → Turns s t → InvariantKept p s t
turns_keeps {p} sd k (stay {s = s}) = record { invariant = k; later = later_refl p s }
turns_keeps sd k (turn a b) =
    let y = turn_keeps sd k a in
    let z = turns_keeps sd y.invariant b in
    record { invariant = z.invariant; later = later_trans y.later z.later }

-- no held event has a viable order
abbrev pub Resting : State → Type 0
Resting s = (e : ℕ) (o : List ℕ) → fate_of s e ≡ Held → Viable s e o → ⊥

pub record Settled (p : Plan) (s t : State) : Type 0 where
  pub invariant : Invariant p t
  pub later : Later p s t
  pub rest : Resting t

pub settle_keeps : {p : Plan} {s : State} → Sound p → Invariant p s → Settled p s (settle s)
settle_keeps {p} {s} sd k =
    let z = k.listing.shape.sized in
    let y = turns_keeps sd k (settle_turns s z) in
    record { invariant = y.invariant; later = y.later; rest = rest_none (settle s) (settle_rest s z) }

pub settles_keeps : {p : Plan} {s t : State} → Sound p → Invariant p s → Settles s t → Settled p s t
settles_keeps {p} {s} {t} sd k f =
    let y = turns_keeps sd k f.turns in
    record {
      invariant = y.invariant;
      later = y.later;
      rest = rest_none t (go y.invariant.listing.shape.sized (settle_once t) refl);
    }
  where
    go : Sized t → (q : Option State) → settle_once t ≡ q → settle_once t ≡ none
    go z none e = e
    go z (some u) e = absurd (f.rests u (once_some t u z e))

-- lapses
pub record Lapses (p : Plan) (s t : State) (k i j : ℕ) : Type 0 where
  pub listing : HistoryListed p t
  pub obeyed : RulesObeyed p t
  pub quiet : Quiet p t
  pub later : Later p s t
  pub gone : (e : ℕ) → i ≤ e → e < j → step_of p e ≡ k → fate_of t e ≡ Open → ⊥

-- an event that is not open does not become so
not_open : {p : Plan} {s t : State} → Later p s t → (e : ℕ) → (fate_of s e ≡ Open → ⊥) → fate_of t e ≡ Open → ⊥
not_open f e h q = elim (f.fates e) [ inl z ↦ clash z (open_unsettled q) | inr r ↦ h (sym r ∙ q) ]

lapse_keeps : {p : Plan} (n e : ℕ) (s : State) (k : ℕ)
    → HistoryListed p s
    → RulesObeyed p s
    → Quiet p s
    → e + n ≤ event_count p
    → Lapses p s (lapse n e s k) k e (e + n)
unfolding lapse
lapse_keeps {p} zero e s k b w q le = record {
  listing = b;
  obeyed = w;
  quiet = q;
  later = later_refl p s;
  gone = λ j lo hi. absurd (omega arith);
}
lapse_keeps {p} (suc n) e s k b w q le = elim (either (is_open (fate_of s e) && eqb (step_of s.plan e) k)) [
  | inl t ↦
      let un = open_unsettled (open_is (fate_of s e) (and_left (is_open (fate_of s e)) (eqb (step_of s.plan e) k) t)) in
      let lt : e < event_count p = omega arith in
      let b₁ = listing_settle Lapsed e refl b lt un in
      let w₁ = obeyed_drop Lapsed refl e b lt un w q in
      let q₁ = quiet_drop Lapsed refl e b lt un q in
      let z = lapse_keeps n (suc e) (settle_as Lapsed s e) k b₁ w₁ q₁ (omega arith) in
      subst (λ g. Lapses p s g k e (e + suc n)) (sym (lapse_yes n e s k t)) (record {
        listing = z.listing;
        obeyed = z.obeyed;
        quiet = z.quiet;
        later = later_trans (later_drop Lapsed refl e b lt un q) z.later;
        gone = λ j lo hi st o. elim (ℕ_discrete j e) [
          | yes r ↦
              not_open z.later e (λ v. clash (ap is_settled (fate_then Lapsed e refl b lt un)) (open_unsettled v))
              (rw r at o)
          | no ne ↦ z.gone j (omega arith) (omega arith) st o
        ];
      })
  | inr t ↦
      let z = lapse_keeps n (suc e) s k b w q (omega arith) in
      subst (λ g. Lapses p s g k e (e + suc n)) (sym (lapse_no n e s k t)) (record {
        listing = z.listing;
        obeyed = z.obeyed;
        quiet = z.quiet;
        later = z.later;
        gone = λ j lo hi st o. elim (ℕ_discrete j e) [
          | yes r ↦
              let here : step_of s.plan e ≡ k = ap (λ g. step_of g e) b.shape.same_plan ∙ rw r at st in
              let step = eq-eqb (step_of s.plan e) k here in
              not_open z.later e (λ v. clash (and_both (is_open (fate_of s e)) _ (ap is_open v) step) t) (rw r at o)
          | no ne ↦ z.gone j (omega arith) (omega arith) st o
        ];
      })
]

-- closing a step changes nothing that the history and the rules read
pub rules_shut : (s : State) (k : ℕ) → SameToRules s (shut s k)
rules_shut s k = record {
  same_plan = plan_shut s k;
  opens = λ j h. sym (ap is_open (fate_shut s k j)) ∙ h;
  done = λ j. ap is_done (fate_shut s k j);
  gone = λ j. ap is_gone (fate_shut s k j);
  recorded = broken_shut s k;
  same_lines = lines_shut s k;
}

listing_shut : {p : Plan} {s : State} (k : ℕ) → HistoryListed p s → HistoryListed p (shut s k)
listing_shut {p} {s} k b =
    let shape : Shape p (shut s k) = record {
      same_plan = plan_shut s k ∙ b.shape.same_plan;
      sized = sized_shut s k b.shape.sized;
    } in
    listing_alike shape (record {
      settled = λ e. ap is_settled (fate_shut s k e);
      fates = λ e. ap (λ x. fate_if (is_settled x) x) (fate_shut s k e);
      len = len_shut s k;
      same_lines = lines_shut s k;
    }) b

pub beyond_shut : {p : Plan} {s : State} (k : ℕ) → BlankBeyond p s → BlankBeyond p (shut s k)
beyond_shut {p} {s} k t = record {
  unused = λ e ge. fate_shut s k e ∙ t.unused e ge;
  blank = λ i ge. ap (λ h. get_or h i blank_entry) (history_shut s k) ∙ t.blank i (omega (arith, len_shut s k));
}

-- a closing
pub close_keeps : {p : Plan} {s : State} → Sound p → Invariant p s → (k : ℕ) → Settled p (shut s k) (close_step s k)
unfolding close_step
close_keeps {p} {s} sd g k =
    let n : event_count s.plan ≡ event_count p = same_events g.listing.shape in
    let w = obeyed_same (rules_shut s k) g.obeyed in
    let q = quiet_same (rules_shut s k) p g.quiet in
    let z = lapse_keeps (event_count s.plan) 0 (shut s k) k (listing_shut k g.listing) w q (omega arith) in
    let h : Invariant p (lapse (event_count s.plan) 0 (shut s k) k) = record {
      listing = z.listing;
      obeyed = z.obeyed;
      quiet = z.quiet;
      held = held_later z.later (λ e lt q. g.held e lt (sym (fate_shut s k e) ∙ q));
      still = λ e lt o. elim (ℕ_discrete (step_of p e) k) [
        | yes r ↦ absurd (z.gone e (omega arith) (omega arith) r o)
        | no ne ↦ elim (z.later.fates e) [
          | inl t ↦ absurd (clash t (open_unsettled o))
          | inr v ↦
              z.later.same_closed (step_of p e)
              ∙ closed_shut_other s k (step_of p e) ne
              ∙ g.still e lt (sym (fate_shut s k e) ∙ sym v ∙ o)
        ]
      ];
    } in
    let y = settle_keeps sd h in
    record { invariant = y.invariant; later = later_trans z.later y.later; rest = y.rest }

-- moving the minute changes nothing that the history and the rules read
pub rules_minute : (s : State) (m : ℕ) → SameToRules s (set_minute s m)
rules_minute s m = record {
  same_plan = plan_minute s m;
  opens = λ j h. sym (ap is_open (fate_minute s m j)) ∙ h;
  done = λ j. ap is_done (fate_minute s m j);
  gone = λ j. ap is_gone (fate_minute s m j);
  recorded = broken_minute s m;
  same_lines = lines_minute s m;
}

listing_minute : {p : Plan} {s : State} (m : ℕ) → HistoryListed p s → HistoryListed p (set_minute s m)
listing_minute {p} {s} m b =
    let shape : Shape p (set_minute s m) = record {
      same_plan = plan_minute s m ∙ b.shape.same_plan;
      sized = sized_minute s m b.shape.sized;
    } in
    listing_alike shape (record {
      settled = λ e. ap is_settled (fate_minute s m e);
      fates = λ e. ap (λ x. fate_if (is_settled x) x) (fate_minute s m e);
      len = len_minute s m;
      same_lines = lines_minute s m;
    }) b

pub beyond_minute : {p : Plan} {s : State} (m : ℕ) → BlankBeyond p s → BlankBeyond p (set_minute s m)
beyond_minute {p} {s} m t = record {
  unused = λ e ge. fate_minute s m e ∙ t.unused e ge;
  blank = λ i ge. ap (λ h. get_or h i blank_entry) (history_minute s m) ∙ t.blank i (omega (arith, len_minute s m));
}

-- a move of the minute
pub move_keeps : {p : Plan} {s : State} → Sound p → Invariant p s → (m : ℕ) → Settled p (set_minute s m) (advance_to s m)
unfolding advance_to
move_keeps {p} {s} sd g m = settle_keeps sd (record {
  listing = listing_minute m g.listing;
  obeyed = obeyed_same (rules_minute s m) g.obeyed;
  quiet = quiet_same (rules_minute s m) p g.quiet;
  held = λ e lt q. g.held e lt (sym (fate_minute s m e) ∙ q);
  still = λ e lt o. closed_minute s m (step_of p e) ∙ g.still e lt (sym (fate_minute s m e) ∙ o);
})

-- winding up
pub record Finished (p : Plan) (s t : State) : Type 0 where
  pub settled : Settled p s t
  pub none_held : (e : ℕ) → e < event_count p → fate_of t e ≡ Held → ⊥

refusing_keeps : {p : Plan} {s t : State} → Sound p → Invariant p s → Resting s → Refusing s t → Finished p s t
refusing_keeps {p} sd k r (nothing_held {s = s} h) = record {
  settled = record { invariant = k; later = later_refl p s; rest = r };
  none_held = λ e lt. h e (omega (arith, same_events k.listing.shape));
}
refusing_keeps sd k r (refuse_next e l f b) =
    let x = refused_keeps k e (omega (arith, l.declared, same_events k.listing.shape)) l.is in
    let y = settles_keeps sd x.invariant f in
    let z = refusing_keeps sd y.invariant y.rest b in
    record {
      settled = record {
        invariant = z.settled.invariant;
        later = later_trans x.later (later_trans y.later z.settled.later);
        rest = z.settled.rest;
      };
      none_held = z.none_held;
    }

pub finish_keeps : {p : Plan} {s : State} → Sound p → Invariant p s → Finished p s (finish s)
finish_keeps {p} {s} sd k =
    let f = finish_finishes s k.listing.shape.sized in
    let y = settles_keeps sd k f.settles in
    let z = refusing_keeps sd y.invariant y.rest f.refusing in
    record {
      settled = record {
        invariant = z.settled.invariant;
        later = later_trans y.later z.settled.later;
        rest = z.settled.rest;
      };
      none_held = z.none_held;
    }

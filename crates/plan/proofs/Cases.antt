-- What the definitions say of rules, fates and histories in single cases, by computation: an edit that changes it is
-- refused here.
use Prim.Native.Nat.{ℕ, suc}
use mathlib.Core.Bool.{Bool, true, false}
use mathlib.Core.List.{List, [], ◌∷◌, ◌++◌, map}
use Rattle.std.specs.declared.option.Option.TheVariants.{None as none, Some as some}
use mathlib.Core.Path.{◌≡◌, refl}
use lib.Dec.{eqb, ltb}
use lib.ListN.{get_or}
use Rattle.plan.specs.Prelude.{Fate, Open, Held, Done, Refused, Lapsed, Forced, Entry}
use Rattle.plan.specs.Prelude.{Rule, Order, Need, Conditional, Plan}
use Rattle.plan.specs.Base.{any_below, all_below, count_below, those_below, among, when, first_of, tabulate, lowest}
use Rattle.plan.specs.Base.{read_at, store_at}
use Rattle.plan.specs.Fates.{Fates, is_open, is_held, is_done, is_gone, is_settled, done_as, fate_number}
use Rattle.plan.specs.Plans.{empty_plan, has_event, allowed_at, over_at, allowed_in, over_in}
use Rattle.plan.specs.Rules.{named, enforceable, bad_window, sound_window, sound_windows, sound_event, sound_rule, unstoppable, reckoned, triggered, bars, makes_wait, forbids, owes, ready}
use Rattle.plan.specs.Histories.{fates_in, any_done, done_in, done_in_turn, holds, declared_only, same_fates, listed_as}
use Rattle.plan.specs.Records.{add_event, add_rule, add_window}

-- the numbers below 8, and the fates
abbrev below8 : List ℕ
below8 = 0 ∷ 1 ∷ 2 ∷ 3 ∷ 4 ∷ 5 ∷ 6 ∷ 7 ∷ []

abbrev fates : List Fate
fates = Open ∷ Held ∷ Done ∷ Refused ∷ Lapsed ∷ Forced ∷ []

-- those of a list that pass a test
abbrev those : {A : Type 0} → (A → Bool) → List A → List A
those t [] = []
those t (x ∷ xs) = elim (t x) [ true ↦ x ∷ those t xs | false ↦ those t xs ]

-- tests over the numbers below a bound, arrays, fates
pub basic :
    (map (λ n. any_below n (eqb 2)) (0 ∷ 2 ∷ 3 ∷ 4 ∷ []) ≡ false ∷ false ∷ true ∷ true ∷ [])
    × (map (λ n. all_below n (λ i. ltb i 2)) (0 ∷ 2 ∷ 3 ∷ 4 ∷ []) ≡ true ∷ true ∷ false ∷ false ∷ [])
    × (count_below 8 (ltb 4) ≡ 3)
    × (those_below 8 (ltb 4) ≡ 7 ∷ 6 ∷ 5 ∷ [])
    × (those (λ n. among n (2 ∷ 5 ∷ [])) below8 ≡ 2 ∷ 5 ∷ [])
    × (map (λ n. lowest n (ltb 4)) (5 ∷ 6 ∷ 8 ∷ []) ≡ none ∷ some 5 ∷ some 5 ∷ [])
    × (first_of 4 3 (λ i. when (ltb 4 i) (some (eqb i 5))) ≡ some true)
    × (tabulate 3 4 (λ i. i) ≡ 4 ∷ 5 ∷ 6 ∷ [])
    × (map (λ i. read_at 2 below8 (suc i) 9) (0 ∷ 1 ∷ []) ≡ 1 ∷ 9 ∷ [])
    × (map (λ i. store_at {A = ℕ} 2 (0 ∷ 0 ∷ 0 ∷ []) i 9) (1 ∷ 2 ∷ []) ≡ (0 ∷ 9 ∷ 0 ∷ []) ∷ (0 ∷ 0 ∷ 0 ∷ []) ∷ [])
    × (those is_open fates ++ those is_held fates ++ those is_done fates ≡ Open ∷ Held ∷ Done ∷ Forced ∷ [])
    × (those is_gone fates ++ those is_settled fates ≡ Refused ∷ Lapsed ∷ Done ∷ Refused ∷ Lapsed ∷ Forced ∷ [])
    × (map done_as (true ∷ false ∷ []) ≡ Forced ∷ Done ∷ [])
    × (map fate_number fates ≡ 0 ∷ 1 ∷ 2 ∷ 3 ∷ 4 ∷ 5 ∷ [])
unfolding any_below all_below count_below those_below among first_of tabulate lowest
basic = (refl, refl, refl, refl, refl, refl, refl, refl, refl, refl, refl, refl, refl, refl)

-- a plan in which event e has the step e and the attributes e, for each e below 8
abbrev eight : Plan
eight = record {
  events = map (λ e. record { step = e; attributes = e }) below8;
  event_count = 8;
  rules = empty_plan.rules;
  rule_count = 0;
  windows = empty_plan.windows;
}

-- these fates, and Open for the other events
abbrev having : List Fate → Fates
having l e = get_or l e Open

-- an order bars its first event once the second is done, a need once the second is refused or lapsed; a conditional
-- bars one of its first two events once the other is done and the third refused or lapsed
pub barring :
    (those (λ x. bars eight (having (Open ∷ x ∷ [])) (Order 0 1) 0) fates ≡ Done ∷ Forced ∷ [])
    × (those (bars eight (λ e. Done) (Order 2 1)) below8 ≡ 2 ∷ [])
    × (those (λ x. bars eight (having (Open ∷ x ∷ [])) (Need 0 1) 0) fates ≡ Refused ∷ Lapsed ∷ [])
    × (those (bars eight (λ e. Lapsed) (Need 2 1)) below8 ≡ 2 ∷ [])
    × (those (λ x. bars eight (having (x ∷ Open ∷ Open ∷ Done ∷ [])) (Conditional 2 3 0) 2) fates ≡ Refused ∷ Lapsed ∷ [])
    × (those (λ x. bars eight (having (x ∷ Open ∷ Done ∷ Held ∷ [])) (Conditional 2 3 0) 3) fates ≡ Refused ∷ Lapsed ∷ [])
    × (those (λ x. bars eight (having (Lapsed ∷ Open ∷ Open ∷ x ∷ [])) (Conditional 2 3 0) 2) fates ≡ Done ∷ Forced ∷ [])
    × (those (λ x. bars eight (having (Refused ∷ Open ∷ x ∷ [])) (Conditional 2 3 0) 3) fates ≡ Done ∷ Forced ∷ [])
    × (those (bars eight (having (Refused ∷ Open ∷ Done ∷ Done ∷ [])) (Conditional 2 3 0)) below8 ≡ 2 ∷ 3 ∷ [])
unfolding bars reckoned unstoppable
barring = (refl, refl, refl, refl, refl, refl, refl, refl, refl)

-- S-6. An event can't be stopped while it is open and has neither the attribute 2 nor 4. While such a trigger is open a
-- conditional bars the other one too, once its third event is refused or lapsed, if that can't be forced; which of the
-- first two it is makes no difference
pub stopping :
    (those (unstoppable eight (λ e. Open)) below8 ≡ 0 ∷ 1 ∷ [])
    × (those (λ x. unstoppable eight (λ e. x) 1) fates ≡ Open ∷ [])
    × (those (reckoned eight (λ e. Open) 6) below8 ≡ 0 ∷ 1 ∷ [])
    × (those (λ c. reckoned eight (λ e. Open) c 0) below8 ≡ 0 ∷ 2 ∷ 4 ∷ 6 ∷ [])
    × (those (λ x. reckoned eight (λ e. x) 7 0) fates ≡ Done ∷ Forced ∷ [])
    × (those (λ x. bars eight (having (x ∷ Open ∷ Lapsed ∷ [])) (Conditional 6 0 2) 6) fates ≡ Open ∷ Done ∷ Forced ∷ [])
    × (those (λ x. bars eight (having (x ∷ Open ∷ Lapsed ∷ [])) (Conditional 0 6 2) 6) fates ≡ Open ∷ Done ∷ Forced ∷ [])
    × (those (λ x. bars eight (having (Open ∷ Open ∷ x ∷ [])) (Conditional 6 0 2) 6) fates ≡ Refused ∷ Lapsed ∷ [])
    × (those (λ t. bars eight (having (Open ∷ Open ∷ Lapsed ∷ [])) (Conditional 6 t 2) 6) below8 ≡ 0 ∷ 1 ∷ [])
    × (those (λ c. bars eight (having (Open ∷ Open ∷ Lapsed ∷ Lapsed ∷ [])) (Conditional 6 0 c) 6) below8 ≡ 2 ∷ [])
    × (those (bars eight (having (Open ∷ Open ∷ Lapsed ∷ [])) (Conditional 6 0 2)) below8 ≡ 6 ∷ [])
unfolding bars reckoned unstoppable
stopping = (refl, refl, refl, refl, refl, refl, refl, refl, refl, refl, refl)

-- an order's second event waits if it is delayable, while the first is open or held; nothing else waits
pub waiting :
    (those (λ x. makes_wait eight (having (x ∷ [])) (Order 0 6) 6) fates ≡ Open ∷ Held ∷ [])
    × (those (λ b. makes_wait eight (λ e. Held) (Order 7 b) b) below8 ≡ 4 ∷ 5 ∷ 6 ∷ 7 ∷ [])
    × (those (makes_wait eight (λ e. Open) (Order 7 6)) below8 ≡ 6 ∷ [])
    × (those (makes_wait eight (λ e. Open) (Need 7 6)) below8 ≡ [])
    × (those (makes_wait eight (λ e. Open) (Conditional 7 6 5)) below8 ≡ [])
    × (those (forbids eight (λ e. Open) (Order 7 6)) below8 ≡ 6 ∷ [])
    × (those (forbids eight (λ e. Done) (Order 7 6)) below8 ≡ 7 ∷ [])
unfolding bars makes_wait forbids
waiting = (refl, refl, refl, refl, refl, refl, refl)

-- an order owes nothing; the others owe while the events before their last are done, and that is open or held
pub owing :
    (those (λ x. owes eight (having (Done ∷ x ∷ [])) (Order 0 1)) fates ≡ [])
    × (those (λ x. owes eight (having (Done ∷ x ∷ [])) (Need 0 1)) fates ≡ Open ∷ Held ∷ [])
    × (those (λ x. owes eight (having (x ∷ [])) (Need 0 1)) fates ≡ Done ∷ Forced ∷ [])
    × (those (λ x. owes eight (having (x ∷ Open ∷ Done ∷ Done ∷ [])) (Conditional 2 3 0)) fates ≡ Open ∷ Held ∷ [])
    × (those (λ x. owes eight (having (Open ∷ Open ∷ x ∷ Done ∷ [])) (Conditional 2 3 0)) fates ≡ Done ∷ Forced ∷ [])
    × (those (λ x. owes eight (having (Open ∷ Open ∷ Done ∷ x ∷ [])) (Conditional 2 3 0)) fates ≡ Done ∷ Forced ∷ [])
unfolding owes triggered reckoned unstoppable
owing = (refl, refl, refl, refl, refl, refl)

-- S-6. A conditional owes also while one of its first two events is done and the other open, if nothing can stop that
-- one, the third is open or held, and can't be forced
pub awaiting :
    (those (λ x. owes eight (having (x ∷ Open ∷ Done ∷ [])) (Conditional 2 0 4)) fates ≡ Open ∷ Done ∷ Forced ∷ [])
    × (those (λ x. owes eight (having (x ∷ Open ∷ Done ∷ [])) (Conditional 0 2 4)) fates ≡ Open ∷ Done ∷ Forced ∷ [])
    × (those (λ x. owes eight (having (Open ∷ Open ∷ x ∷ [])) (Conditional 2 0 4)) fates ≡ Done ∷ Forced ∷ [])
    × (those (λ x. owes eight (having (Open ∷ Open ∷ Done ∷ Open ∷ x ∷ [])) (Conditional 2 0 4)) fates ≡ Open ∷ Held ∷ [])
    × (those (λ t. owes eight (having (Open ∷ Open ∷ Done ∷ [])) (Conditional 2 t 4)) below8 ≡ 0 ∷ 1 ∷ 2 ∷ [])
    × (those (λ c. owes eight (having (Open ∷ Open ∷ Done ∷ [])) (Conditional 2 1 c)) below8 ≡ 0 ∷ 4 ∷ 6 ∷ [])
    × (owes eight (λ e. Open) (Conditional 0 1 4) ≡ false)
unfolding owes triggered reckoned unstoppable
awaiting = (refl, refl, refl, refl, refl, refl, refl)

-- an event is ready if it is held, or open and forcible, as those of odd attributes are; settled ones are not
pub readied :
    (those (ready eight (λ e. Open)) below8 ≡ 1 ∷ 3 ∷ 5 ∷ 7 ∷ [])
    × (those (λ x. ready eight (having (Lapsed ∷ x ∷ [])) 1) fates ≡ Open ∷ Held ∷ [])
    × (those (λ x. ready eight (having (x ∷ [])) 0) fates ≡ Held ∷ [])
unfolding ready
readied = (refl, refl, refl)

-- by the attributes of one of the rule's events, where the others have none
pub enforced :
    (those (λ a. enforceable eight (Order a 0)) below8 ≡ 2 ∷ 3 ∷ 6 ∷ 7 ∷ [])
    × (those (λ b. enforceable eight (Order 0 b)) below8 ≡ 4 ∷ 5 ∷ 6 ∷ 7 ∷ [])
    × (those (λ a. enforceable eight (Need a 0)) below8 ≡ 2 ∷ 3 ∷ 6 ∷ 7 ∷ [])
    × (those (λ b. enforceable eight (Need 0 b)) below8 ≡ 1 ∷ 3 ∷ 5 ∷ 7 ∷ [])
    × (those (λ a. enforceable eight (Conditional a 0 0)) below8 ≡ 2 ∷ 3 ∷ 6 ∷ 7 ∷ [])
    × (those (λ b. enforceable eight (Conditional 0 b 0)) below8 ≡ 2 ∷ 3 ∷ 6 ∷ 7 ∷ [])
    × (those (λ c. enforceable eight (Conditional 0 0 c)) below8 ≡ 1 ∷ 3 ∷ 5 ∷ 7 ∷ [])
unfolding enforceable
enforced = (refl, refl, refl, refl, refl, refl, refl)

-- of four declared events: the numbers that may stand in a rule's place beside the others
pub naming :
    (those (λ a. named 4 (Order a 2)) below8 ≡ 0 ∷ 1 ∷ 3 ∷ [])
    × (those (λ b. named 4 (Order 2 b)) below8 ≡ 0 ∷ 1 ∷ 3 ∷ [])
    × (those (λ a. named 4 (Need a 2)) below8 ≡ 0 ∷ 1 ∷ 3 ∷ [])
    × (those (λ b. named 4 (Need 2 b)) below8 ≡ 0 ∷ 1 ∷ 3 ∷ [])
    × (those (λ a. named 4 (Conditional a 1 2)) below8 ≡ 0 ∷ 3 ∷ [])
    × (those (λ b. named 4 (Conditional 0 b 2)) below8 ≡ 1 ∷ 3 ∷ [])
    × (those (λ c. named 4 (Conditional 0 1 c)) below8 ≡ 2 ∷ 3 ∷ [])
    × (those (λ b. named 4 (Conditional 1 b 1)) below8 ≡ [])
unfolding named
naming = (refl, refl, refl, refl, refl, refl, refl, refl)

-- steps that have an event; events and rules that a sheet would be admitted with
pub sound :
    (those (has_event eight) (0 ∷ 7 ∷ 8 ∷ []) ++ those (has_event empty_plan) (0 ∷ []) ≡ 0 ∷ 7 ∷ [])
    × (those (sound_event eight) below8 ≡ 0 ∷ 1 ∷ 2 ∷ 3 ∷ 6 ∷ 7 ∷ [])
    × (sound_event (add_event empty_plan 8 0) 0 ≡ false)
    × (map (λ r. sound_rule (add_rule eight r) 0) (Need 2 7 ∷ Need 2 8 ∷ Need 0 6 ∷ []) ≡ true ∷ false ∷ false ∷ [])
unfolding any_below has_event sound_event sound_rule named enforceable add_event add_rule
sound = (refl, refl, refl, refl)

-- S-7. Event 6 with a window from 2 until 5: the minutes at which it may be done, at which its window is over; the
-- same of an event without one; windows that a sheet may not give, and plans whose windows pass
abbrev clock : Plan
clock = add_window eight 6 2 5

pub windowed :
    (those (λ m. allowed_at clock m 6) below8 ≡ 2 ∷ 3 ∷ 4 ∷ [])
    × (those (λ m. over_at clock m 6) below8 ≡ 5 ∷ 6 ∷ 7 ∷ [])
    × (those (λ m. allowed_at clock m 7) below8 ++ those (λ m. over_at clock m 7) below8 ≡ below8)
    × (those (λ e. bad_window clock e 2 5) below8 ≡ 0 ∷ 1 ∷ 2 ∷ 3 ∷ 6 ∷ [])
    × (map (λ e. bad_window eight e 0 1) (6 ∷ 8 ∷ 16 ∷ []) ≡ false ∷ true ∷ true ∷ [])
    × (those (λ m. bad_window eight 6 4 m) below8 ≡ 0 ∷ 1 ∷ 2 ∷ 3 ∷ 4 ∷ [])
    × (map sound_windows (eight ∷ clock ∷ add_window eight 3 2 5 ∷ add_window eight 6 5 5 ∷ add_window eight 6 1 0 ∷ add_window eight 8 2 5 ∷ []) ≡ true ∷ true ∷ false ∷ false ∷ false ∷ false ∷ [])
unfolding all_below add_window allowed_at allowed_in over_at over_in bad_window sound_window sound_windows
windowed = (refl, refl, refl, refl, refl, refl, refl)

-- a line of a history, and one of events that are done
abbrev line : ℕ → Fate → Entry
line e x = record { event = e; fate = x }

abbrev done : ℕ → Entry
done e = line e Done

abbrev forced : ℕ → Entry
forced e = line e Forced

-- a row: a history, a rule, and whether the rule holds
abbrev Holding : Type 0
Holding = List Entry × Rule × Bool

abbrev histories : List Holding
histories =
    -- an order: unless both are done and the second came first
    (done 0 ∷ done 1 ∷ [], Order 0 1, true)
    ∷ (done 1 ∷ done 0 ∷ [], Order 0 1, false)
    ∷ (done 2 ∷ done 1 ∷ done 2 ∷ done 0 ∷ done 2 ∷ [], Order 0 1, false)
    ∷ (done 1 ∷ [], Order 0 1, true)
    ∷ (done 2 ∷ done 0 ∷ [], Order 0 1, true)
    ∷ (done 1 ∷ line 0 Refused ∷ [], Order 0 1, true)
    ∷ (line 1 Lapsed ∷ done 0 ∷ [], Order 0 1, true)
    ∷ (forced 1 ∷ done 0 ∷ [], Order 0 1, false)
    ∷ (forced 0 ∷ forced 1 ∷ [], Order 0 1, true)
    -- a need: unless the first is done and the second is not
    ∷ (done 0 ∷ [], Need 0 1, false)
    ∷ (done 1 ∷ done 0 ∷ [], Need 0 1, true)
    ∷ (done 0 ∷ done 1 ∷ [], Need 0 1, true)
    ∷ (done 0 ∷ line 1 Refused ∷ [], Need 0 1, false)
    ∷ (line 0 Refused ∷ line 1 Lapsed ∷ [], Need 0 1, true)
    ∷ ([], Need 0 1, true)
    ∷ (line 0 Refused ∷ done 0 ∷ [], Need 0 1, false)
    ∷ (done 0 ∷ forced 1 ∷ [], Need 0 1, true)
    ∷ (forced 0 ∷ line 1 Refused ∷ [], Need 0 1, false)
    -- a conditional: unless the first two are done and the third is not
    ∷ (done 1 ∷ done 0 ∷ [], Conditional 0 1 2, false)
    ∷ (done 0 ∷ done 1 ∷ line 2 Lapsed ∷ [], Conditional 0 1 2, false)
    ∷ (done 2 ∷ done 1 ∷ done 0 ∷ [], Conditional 0 1 2, true)
    ∷ (done 0 ∷ line 1 Refused ∷ [], Conditional 0 1 2, true)
    ∷ (line 0 Refused ∷ done 1 ∷ [], Conditional 0 1 2, true)
    ∷ (done 1 ∷ done 0 ∷ forced 2 ∷ [], Conditional 0 1 2, true)
    ∷ (done 1 ∷ forced 0 ∷ line 2 Lapsed ∷ [], Conditional 0 1 2, false)
    ∷ []

pub holding : map (λ (c : Holding). holds c.0 c.1) histories ≡ map (λ (c : Holding). c.2) histories
unfolding fates_in any_done done_in done_in_turn holds
holding = refl

-- the lines name declared events only; they list a settled event once, with its fate, and another event not
pub listing :
    (those (declared_only (done 1 ∷ done 3 ∷ done 0 ∷ [])) below8 ≡ 4 ∷ 5 ∷ 6 ∷ 7 ∷ [])
    × (those (listed_as (done 0 ∷ line 1 Refused ∷ []) 1) fates ≡ Refused ∷ [])
    × (those (listed_as (done 0 ∷ []) 0) fates ++ those (listed_as (forced 0 ∷ []) 0) fates ≡ Done ∷ Forced ∷ [])
    × (those (listed_as (done 0 ∷ []) 1) fates ≡ Open ∷ Held ∷ [])
    × (those (listed_as (done 1 ∷ done 1 ∷ []) 1) fates ≡ [])
unfolding declared_only fates_in same_fates listed_as
listing = (refl, refl, refl, refl, refl)

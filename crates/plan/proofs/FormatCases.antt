-- What the definitions say of the formats in single cases, by computation: sheets with their faults, calls, and the
-- numbers of faults. An edit that changes it is refused here. Bytes are written in decimal.
use Prim.Native.Nat.{ℕ, zero, suc}
use mathlib.Core.Bool.{Bool, true, false}
use mathlib.Core.List.{List, [], ◌∷◌, ◌++◌, map}
use mathlib.Core.Path.{◌≡◌, refl}
use lib.ListN.{take}
use Rattle.plan.specs.Prelude.{some, none, Held, Rule, Order, Need, Conditional, Call, Submit, Close, Finish, Advance}
use Rattle.plan.specs.Prelude.{Cut, BadKind, Full, BadStep, BadAttributes, BadNames, Unenforceable, Extra, BadWindow}
use Rattle.plan.specs.Prelude.{Unknown, AlreadyClosed, NotClosed, Incoherent, TooLong, NoRoom, Backward, Answer, Is, Made, TurnedDown}
use Rattle.plan.specs.Plans.{event_count, rule_count}
use Rattle.plan.specs.Rules.{named, enforceable, bad_window}
use Rattle.plan.specs.Faults.{sheet_fault_number, call_fault_number, first_fault}
use Rattle.plan.specs.Faults.{answer_number, answer_fate, is_turned_down}
use Rattle.plan.specs.Records.{rule_of, add_event, add_rule, add_window, add_events, declare, record_fault}
use Rattle.plan.specs.Sheets.{PlanReading, whole, faulty, read_from, read_plan, ending, sheet_plan}
use Rattle.plan.specs.Calls.{first_call, advance_in, any_call_first, Decoded, decode_up_to, decode, decode_all, encode}

-- what a sheet comes to: how many events and rules it declares and where it ends, or its fault's number and offset
pub data Outcome : Type 0 where
  declaring : ℕ → ℕ → ℕ → Outcome
  rejected : ℕ → ℕ → Outcome

abbrev outcome : PlanReading → Outcome
outcome (whole p at) = declaring (event_count p) (rule_count p) at
outcome (faulty f at) = rejected (sheet_fault_number f) at

-- b, n times
abbrev pub times : ℕ → List ℕ → List ℕ
times zero b = []
times (suc n) b = b ++ times n b

-- 16 events, and no end; 2 events and 16 rules, and no end
abbrev pub sixteen_events : List ℕ
sixteen_events = 6 ∷ 0 ∷ 6 ∷ 1 ∷ 6 ∷ 2 ∷ 6 ∷ 3 ∷ []

abbrev sixteen_rules : List ℕ
sixteen_rules = (1 ∷ 0 ∷ 6 ∷ 1 ∷ 0 ∷ 6 ∷ []) ++ times 16 (2 ∷ 0 ∷ 1 ∷ [])

-- a row: a sheet, and what it comes to
abbrev Case : Type 0
Case = List ℕ × Outcome

abbrev sheets : List Case
sheets =
    (5 ∷ [], declaring 0 0 1)
    -- 1: bytes end inside a record, and before kind 5 (at the sheet's length)
    ∷ ([], rejected 1 0)
    ∷ (6 ∷ [], rejected 1 0)
    ∷ (1 ∷ 0 ∷ 6 ∷ 4 ∷ 0 ∷ 1 ∷ [], rejected 1 3)
    ∷ (6 ∷ 0 ∷ [], rejected 1 2)
    -- 2: kind 0 and above 7, also as the last byte
    ∷ (0 ∷ 5 ∷ [], rejected 2 0)
    ∷ (6 ∷ 0 ∷ 8 ∷ [], rejected 2 2)
    -- 3: the 17th event, by kinds 1 and 6, and the 17th rule; before its step or names are looked at, not where it is
    -- cut
    ∷ (sixteen_events ++ (5 ∷ []), declaring 16 0 9)
    ∷ (sixteen_events ++ (1 ∷ 9 ∷ 9 ∷ []), rejected 3 8)
    ∷ (sixteen_events ++ (1 ∷ 9 ∷ []), rejected 1 8)
    ∷ (1 ∷ 0 ∷ 0 ∷ sixteen_events, rejected 3 9)
    ∷ (sixteen_rules ++ (5 ∷ []), declaring 2 16 55)
    ∷ (sixteen_rules ++ (3 ∷ 9 ∷ 9 ∷ []), rejected 3 54)
    ∷ (sixteen_rules ++ (4 ∷ 9 ∷ 9 ∷ 9 ∷ []), rejected 3 54)
    -- 4: a step above 7, before the attributes
    ∷ (6 ∷ 8 ∷ [], rejected 4 0)
    ∷ (1 ∷ 8 ∷ 255 ∷ [], rejected 4 0)
    -- 5: attributes of 8 or more, or 4 without 2
    ∷ (1 ∷ 0 ∷ 0 ∷ 1 ∷ 1 ∷ 1 ∷ 1 ∷ 2 ∷ 2 ∷ 1 ∷ 3 ∷ 3 ∷ 1 ∷ 6 ∷ 6 ∷ 1 ∷ 7 ∷ 7 ∷ 5 ∷ [], declaring 6 0 19)
    ∷ (1 ∷ 0 ∷ 4 ∷ 5 ∷ [], rejected 5 0)
    ∷ (1 ∷ 0 ∷ 5 ∷ [], rejected 5 0)
    ∷ (6 ∷ 0 ∷ 1 ∷ 0 ∷ 8 ∷ [], rejected 5 2)
    -- 6: an event declared only below or not at all, and one event twice; before 7
    ∷ (1 ∷ 0 ∷ 6 ∷ 2 ∷ 0 ∷ 1 ∷ 1 ∷ 0 ∷ 6 ∷ 5 ∷ [], rejected 6 3)
    ∷ (1 ∷ 0 ∷ 6 ∷ 2 ∷ 1 ∷ 0 ∷ 5 ∷ [], rejected 6 3)
    ∷ (1 ∷ 0 ∷ 7 ∷ 3 ∷ 1 ∷ 0 ∷ 5 ∷ [], rejected 6 3)
    ∷ (6 ∷ 0 ∷ 4 ∷ 4 ∷ 0 ∷ 2 ∷ 5 ∷ [], rejected 6 2)
    ∷ (6 ∷ 0 ∷ 4 ∷ 0 ∷ 4 ∷ 2 ∷ 5 ∷ [], rejected 6 2)
    ∷ (6 ∷ 0 ∷ 4 ∷ 0 ∷ 2 ∷ 4 ∷ 5 ∷ [], rejected 6 2)
    ∷ (1 ∷ 0 ∷ 6 ∷ 2 ∷ 0 ∷ 0 ∷ 5 ∷ [], rejected 6 3)
    ∷ (1 ∷ 0 ∷ 7 ∷ 3 ∷ 0 ∷ 0 ∷ 5 ∷ [], rejected 6 3)
    ∷ (6 ∷ 0 ∷ 4 ∷ 0 ∷ 0 ∷ 2 ∷ 5 ∷ [], rejected 6 2)
    ∷ (6 ∷ 0 ∷ 4 ∷ 0 ∷ 2 ∷ 0 ∷ 5 ∷ [], rejected 6 2)
    ∷ (6 ∷ 0 ∷ 4 ∷ 0 ∷ 2 ∷ 2 ∷ 5 ∷ [], rejected 6 2)
    ∷ (1 ∷ 0 ∷ 1 ∷ 3 ∷ 0 ∷ 1 ∷ 5 ∷ [], rejected 6 3)
    -- 7: a need (case F); an order with b delayable, with a rejectable, with b rejectable alone
    ∷ (1 ∷ 0 ∷ 1 ∷ 1 ∷ 1 ∷ 6 ∷ 3 ∷ 0 ∷ 1 ∷ 5 ∷ [], rejected 7 6)
    ∷ (1 ∷ 0 ∷ 0 ∷ 1 ∷ 0 ∷ 6 ∷ 2 ∷ 0 ∷ 1 ∷ 5 ∷ [], declaring 2 1 10)
    ∷ (1 ∷ 0 ∷ 2 ∷ 1 ∷ 0 ∷ 0 ∷ 2 ∷ 0 ∷ 1 ∷ 5 ∷ [], declaring 2 1 10)
    ∷ (1 ∷ 0 ∷ 1 ∷ 1 ∷ 0 ∷ 2 ∷ 2 ∷ 0 ∷ 1 ∷ 5 ∷ [], rejected 7 6)
    -- 7: a conditional with a or b rejectable, with c forcible, with none of these
    ∷ (1 ∷ 0 ∷ 2 ∷ 1 ∷ 0 ∷ 0 ∷ 1 ∷ 0 ∷ 0 ∷ 4 ∷ 0 ∷ 1 ∷ 2 ∷ 4 ∷ 1 ∷ 0 ∷ 2 ∷ 5 ∷ [], declaring 3 2 18)
    ∷ (1 ∷ 0 ∷ 1 ∷ 1 ∷ 0 ∷ 0 ∷ 1 ∷ 0 ∷ 0 ∷ 4 ∷ 1 ∷ 2 ∷ 0 ∷ 5 ∷ [], declaring 3 1 14)
    ∷ (1 ∷ 0 ∷ 1 ∷ 1 ∷ 0 ∷ 0 ∷ 1 ∷ 0 ∷ 6 ∷ 4 ∷ 0 ∷ 1 ∷ 2 ∷ 5 ∷ [], rejected 7 9)
    -- 8: the first extra byte, whatever it is
    ∷ (5 ∷ 5 ∷ [], rejected 8 1)
    ∷ (6 ∷ 0 ∷ 5 ∷ 9 ∷ 9 ∷ [], rejected 8 3)
    -- 15: taken; on an event undeclared or declared below, not delayable, with a window; until not above from, also as
    -- numbers of four bytes, lowest first; after length
    ∷ (1 ∷ 0 ∷ 6 ∷ 7 ∷ 0 ∷ 0 ∷ 0 ∷ 0 ∷ 0 ∷ 1 ∷ 0 ∷ 0 ∷ 0 ∷ 5 ∷ [], declaring 1 0 14)
    ∷ (1 ∷ 0 ∷ 6 ∷ 7 ∷ 0 ∷ 255 ∷ 0 ∷ 0 ∷ 0 ∷ 0 ∷ 1 ∷ 0 ∷ 0 ∷ 5 ∷ [], declaring 1 0 14)
    ∷ (1 ∷ 0 ∷ 6 ∷ 7 ∷ 0 ∷ 0 ∷ 0 ∷ 0 ∷ 1 ∷ 255 ∷ 255 ∷ 255 ∷ 0 ∷ 5 ∷ [], rejected 15 3)
    ∷ (1 ∷ 0 ∷ 6 ∷ 7 ∷ 1 ∷ 0 ∷ 0 ∷ 0 ∷ 0 ∷ 1 ∷ 0 ∷ 0 ∷ 0 ∷ 1 ∷ 0 ∷ 6 ∷ 5 ∷ [], rejected 15 3)
    ∷ (1 ∷ 0 ∷ 3 ∷ 7 ∷ 0 ∷ 0 ∷ 0 ∷ 0 ∷ 0 ∷ 1 ∷ 0 ∷ 0 ∷ 0 ∷ 5 ∷ [], rejected 15 3)
    ∷ (1 ∷ 0 ∷ 6 ∷ 7 ∷ 0 ∷ 0 ∷ 0 ∷ 0 ∷ 0 ∷ 1 ∷ 0 ∷ 0 ∷ 0 ∷ 7 ∷ 0 ∷ 0 ∷ 0 ∷ 0 ∷ 0 ∷ 1 ∷ 0 ∷ 0 ∷ 0 ∷ 5 ∷ [], rejected 15 13)
    ∷ (1 ∷ 0 ∷ 6 ∷ 7 ∷ 0 ∷ 0 ∷ 0 ∷ 0 ∷ 0 ∷ 0 ∷ 0 ∷ 0 ∷ 0 ∷ 5 ∷ [], rejected 15 3)
    ∷ (1 ∷ 0 ∷ 6 ∷ 7 ∷ 0 ∷ 3 ∷ 0 ∷ 0 ∷ 0 ∷ 3 ∷ 0 ∷ 0 ∷ 0 ∷ 5 ∷ [], rejected 15 3)
    ∷ (7 ∷ 9 ∷ 0 ∷ 0 ∷ 0 ∷ 0 ∷ 1 ∷ 0 ∷ 0 ∷ [], rejected 1 0)
    ∷ []

pub judged : map (λ (c : Case). outcome (sheet_plan c.0)) sheets ≡ map (λ (c : Case). c.1) sheets
unfolding named enforceable bad_window first_fault rule_of add_event add_rule add_window add_events declare record_fault read_from read_plan ending sheet_plan
judged = refl

-- the first fault counts, and a plan may be followed by other bytes where no sheet has to end with it
pub first_fault_lem :
    map (λ b. outcome (read_plan b)) ((6 ∷ 8 ∷ 8 ∷ []) ∷ (8 ∷ 6 ∷ 8 ∷ []) ∷ (6 ∷ 0 ∷ 5 ∷ 9 ∷ []) ∷ [])
    ≡ rejected 4 0 ∷ rejected 2 0 ∷ declaring 4 0 3 ∷ []
unfolding first_fault add_event add_events declare record_fault read_from read_plan
first_fault_lem = refl

-- what a plan declares: steps and attributes of its events, and its rules
abbrev declares : PlanReading → List (ℕ × ℕ) × List Rule
declares (faulty f at) = ([], [])
declares (whole p at) = (
  map (λ e. (e.step, e.attributes)) (take (event_count p) p.events),
  map (λ r. r.rule) (take (rule_count p) p.rules),
)

-- kind 6 has its attributes from table 1; rules keep their events' places
pub declared :
    declares (sheet_plan (6 ∷ 3 ∷ 1 ∷ 7 ∷ 2 ∷ 2 ∷ 2 ∷ 0 ∷ 3 ∷ 0 ∷ 1 ∷ 4 ∷ 1 ∷ 4 ∷ 3 ∷ 5 ∷ []))
    ≡ ((3, 7) ∷ (3, 0) ∷ (3, 6) ∷ (3, 1) ∷ (7, 2) ∷ [], Order 2 0 ∷ Need 0 1 ∷ Conditional 1 4 3 ∷ [])
unfolding named enforceable bad_window first_fault rule_of add_event add_rule add_window add_events declare record_fault read_from read_plan ending sheet_plan
declared = refl

abbrev read : List Call → Bool → Decoded
read calls cut = record { calls = calls; cut = cut }

-- calls: whole; cut at kinds 16 and 17; another kind ends the reading; 18 alone; none
pub listed_calls :
    map decode (
    (16 ∷ 3 ∷ 17 ∷ 16 ∷ 18 ∷ 16 ∷ 255 ∷ [])
    ∷ (18 ∷ 16 ∷ [])
    ∷ (18 ∷ 17 ∷ [])
    ∷ (18 ∷ 19 ∷ 18 ∷ [])
    ∷ (18 ∷ [])
    ∷ []
    ∷ [])
    ≡ read (Submit 3 ∷ Close 16 ∷ Finish ∷ Submit 255 ∷ []) false
    ∷ read (Finish ∷ []) true
    ∷ read (Finish ∷ []) true
    ∷ read (Finish ∷ []) true
    ∷ read (Finish ∷ []) false
    ∷ read [] false
    ∷ []
unfolding first_call decode_up_to decode
listed_calls = refl

-- of every kind: a minute's bytes, lowest first; 19 as a number, and the greatest minute; cut at kind 19 and at kind
-- 17; kind 20
pub listed_any_calls :
    map decode_all (
    (19 ∷ 1 ∷ 2 ∷ 3 ∷ 4 ∷ 18 ∷ [])
    ∷ (16 ∷ 19 ∷ 19 ∷ 255 ∷ 255 ∷ 255 ∷ 255 ∷ [])
    ∷ (18 ∷ 19 ∷ 0 ∷ 0 ∷ 0 ∷ [])
    ∷ (19 ∷ 0 ∷ 0 ∷ 0 ∷ 0 ∷ 17 ∷ [])
    ∷ (18 ∷ 20 ∷ 18 ∷ [])
    ∷ []
    ∷ [])
    ≡ read (Advance 67305985 ∷ Finish ∷ []) false
    ∷ read (Submit 19 ∷ Advance 4294967295 ∷ []) false
    ∷ read (Finish ∷ []) true
    ∷ read (Advance 0 ∷ []) true
    ∷ read (Finish ∷ []) true
    ∷ read [] false
    ∷ []
unfolding first_call advance_in any_call_first decode_up_to decode_all
listed_any_calls = refl

pub encoded : encode (Finish ∷ Submit 3 ∷ Close 7 ∷ Advance 513 ∷ []) ≡ 18 ∷ 16 ∷ 3 ∷ 17 ∷ 7 ∷ 19 ∷ 1 ∷ 2 ∷ 0 ∷ 0 ∷ []
unfolding encode
encoded = refl

-- the faults' numbers
pub sheet_numbers :
    map sheet_fault_number (Cut ∷ BadKind ∷ Full ∷ BadStep ∷ BadAttributes ∷ BadNames ∷ Unenforceable ∷ Extra ∷ BadWindow ∷ [])
    ≡ 1 ∷ 2 ∷ 3 ∷ 4 ∷ 5 ∷ 6 ∷ 7 ∷ 8 ∷ 15 ∷ []
sheet_numbers = refl

pub call_numbers :
    map call_fault_number (Unknown ∷ AlreadyClosed ∷ NotClosed ∷ Incoherent ∷ TooLong ∷ NoRoom ∷ Backward ∷ [])
    ≡ 9 ∷ 10 ∷ 11 ∷ 12 ∷ 13 ∷ 14 ∷ 16 ∷ []
call_numbers = refl

abbrev answers : List Answer
answers = Is Held ∷ Made ∷ TurnedDown Unknown ∷ TurnedDown Incoherent ∷ []

-- an answer's number, its fate, and whether the call is turned down
pub answered :
    (map answer_number answers ≡ 0 ∷ 0 ∷ 9 ∷ 12 ∷ [])
    × (map answer_fate answers ≡ some Held ∷ none ∷ none ∷ none ∷ [])
    × (map is_turned_down answers ≡ false ∷ false ∷ true ∷ true ∷ [])
answered = (refl, refl, refl)

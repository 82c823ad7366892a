-- The marked cases (section 14) and further rows, in one joint proof over a list, by computation. Bytes are written
-- in decimal.
use Prim.Native.Nat.{ℕ, zero, suc}
use mathlib.Core.Bool.{Bool, true, false}
use mathlib.Core.List.{List, [], ◌∷◌, ◌++◌, map}
use mathlib.Core.Path.{◌≡◌, refl}
use Rattle.plan.proofs.FormatCases.{times, sixteen_events}
use lib.ListN.{take, replicate}
use Rattle.scheduler.specs.Prelude.{Fate, Held, Done, Refused, Lapsed, Forced, Need, Plan, State, Call, Submit, Close, Finish, Advance}
use Rattle.scheduler.specs.Prelude.{Answer, Is, Made, TurnedDown, Unknown, AlreadyClosed, NotClosed, Incoherent, Backward, Ok, Err}
use Rattle.plan.specs.Base.{any_below, all_below, count_below, first_of, tabulate, lowest}
use Rattle.plan.specs.Plans.{rule_count, empty_plan, has_event, allowed_at, over_at, allowed_in, over_in}
use Rattle.scheduler.specs.State.{first_state, empty_state, lines, hold, settle_as, shut, break_rule, set_minute}
use Rattle.plan.specs.Rules.{named, enforceable, sound_event, sound_rule, unstoppable, reckoned, triggered, bars, makes_wait, forbids, owes, bad_window, sound_window, sound_windows, ready}
use Rattle.scheduler.specs.Rules.{ruled_out, barred, forbidden, owing, strains}
use Rattle.plan.specs.Histories.{listed_as, fates_in, any_done, done_in, done_in_turn, holds, declared_only, same_fates}
use Rattle.scheduler.specs.Orders.{may_do, do_all, order_of, chosen}
use Rattle.scheduler.specs.Calls.{to_refuse, to_do, settle_once, settle_up_to, settle, record_broken, do_alone, decide, submit, lapse, close_step, advance_to, refuse_held, finish}
use Rattle.plan.specs.Faults.{sheet_fault_number, first_fault}
use Rattle.scheduler.specs.Coherent.{coherent_event, coherent_rule, coherent}
use Rattle.scheduler.specs.Answers.{call_fault, accept, call}
use Rattle.plan.specs.Records.{rule_of, add_event, add_rule, add_window, add_events, declare, record_fault}
use Rattle.plan.specs.Sheets.{sheet_plan, ending, read_from, read_plan}
use Rattle.scheduler.specs.Sheet.{read_sheet}
use Rattle.plan.specs.Calls.{decode_up_to, first_call, decode}
use Rattle.scheduler.specs.Runner.{run_on, run_of, held_count, broken_count, digits, decimal, history_lines, report}
use Rattle.scheduler.specs.Lists.{scheduler, after, turned_down}

-- what a sheet and a list of calls come to: the sheet's fault and its offset, or the answers, the history, and for
-- each rule whether it is recorded as broken
pub data Given : Type 0 where
  rejected : ℕ → ℕ → Given
  ran : List Answer → List (ℕ × Fate) → List Bool → Given

unfoldable pub answers_of : State → List Call → List Answer
answers_of s [] = []
answers_of s (c ∷ cs) = (call s c).answer ∷ answers_of (call s c).state cs

abbrev pub given_by : State → List Answer → Given
given_by s answers = ran answers (map (λ l. (l.event, l.fate)) (lines s)) (take (rule_count s.plan) s.broken)

unfoldable pub given : List ℕ → List Call → Given
given b cs =
    let r = read_sheet b in
    elim r.verdict [
      | Err e ↦ rejected (sheet_fault_number e.fault) e.at
      | Ok u ↦ given_by (after scheduler r.state cs) (answers_of r.state cs)
    ]

-- a row: the sheet, the calls, what they give
abbrev pub Case : Type 0
Case = List ℕ × List Call × Given

abbrev pub sheet_a : List ℕ
sheet_a = 1 ∷ 0 ∷ 6 ∷ 1 ∷ 1 ∷ 6 ∷ 2 ∷ 0 ∷ 1 ∷ 3 ∷ 0 ∷ 1 ∷ 5 ∷ []

abbrev pub sheet_c : List ℕ
sheet_c = 1 ∷ 0 ∷ 6 ∷ 1 ∷ 1 ∷ 6 ∷ 2 ∷ 0 ∷ 1 ∷ 5 ∷ []

abbrev pub sheet_d : List ℕ
sheet_d = 1 ∷ 0 ∷ 1 ∷ 1 ∷ 1 ∷ 1 ∷ 3 ∷ 0 ∷ 1 ∷ 5 ∷ []

abbrev pub sheet_f : List ℕ
sheet_f = 1 ∷ 0 ∷ 1 ∷ 1 ∷ 1 ∷ 6 ∷ 3 ∷ 0 ∷ 1 ∷ 5 ∷ []

abbrev pub sheet_g : List ℕ
sheet_g = 1 ∷ 0 ∷ 6 ∷ 1 ∷ 1 ∷ 0 ∷ 2 ∷ 0 ∷ 1 ∷ 5 ∷ []

abbrev pub sheet_l : List ℕ
sheet_l = 1 ∷ 0 ∷ 6 ∷ 1 ∷ 1 ∷ 6 ∷ 1 ∷ 2 ∷ 6 ∷ 4 ∷ 0 ∷ 1 ∷ 2 ∷ 5 ∷ []

-- L's, where 1 is rejectable and cannot wait; and 0 that needs 1, which can be forced
abbrev pub sheet_m : List ℕ
sheet_m = 1 ∷ 0 ∷ 6 ∷ 1 ∷ 1 ∷ 2 ∷ 1 ∷ 2 ∷ 6 ∷ 4 ∷ 0 ∷ 1 ∷ 2 ∷ 5 ∷ []

abbrev pub sheet_n : List ℕ
sheet_n = 1 ∷ 0 ∷ 6 ∷ 1 ∷ 1 ∷ 7 ∷ 3 ∷ 0 ∷ 1 ∷ 5 ∷ []

-- S-6: a trigger that nothing can stop is 1, the other 0, and what they call for 2; and the same with 1 named first
abbrev pub sheet_w : List ℕ
sheet_w = 1 ∷ 0 ∷ 6 ∷ 1 ∷ 1 ∷ 0 ∷ 1 ∷ 2 ∷ 6 ∷ 4 ∷ 0 ∷ 1 ∷ 2 ∷ 5 ∷ []

abbrev pub sheet_v : List ℕ
sheet_v = 1 ∷ 0 ∷ 6 ∷ 1 ∷ 1 ∷ 0 ∷ 1 ∷ 2 ∷ 6 ∷ 4 ∷ 1 ∷ 0 ∷ 2 ∷ 5 ∷ []

-- S-7: a window of event e, from and until below 256
abbrev pub window : ℕ → ℕ → ℕ → List ℕ
window e from until = 7 ∷ e ∷ from ∷ 0 ∷ 0 ∷ 0 ∷ until ∷ 0 ∷ 0 ∷ 0 ∷ []

-- one event in a window from 1 until 3; and 0 that needs 1, which can be forced and has that window
abbrev pub sheet_t : List ℕ
sheet_t = (1 ∷ 0 ∷ 6 ∷ []) ++ window 0 1 3 ++ (5 ∷ [])

abbrev pub sheet_u : List ℕ
sheet_u = (1 ∷ 0 ∷ 6 ∷ 1 ∷ 1 ∷ 7 ∷ 3 ∷ 0 ∷ 1 ∷ []) ++ window 1 1 3 ++ (5 ∷ [])

-- 0 and 1, which nothing can stop, call for 2, which can be forced and has a window from 1 until 3
abbrev pub sheet_x : List ℕ
sheet_x = (1 ∷ 0 ∷ 6 ∷ 1 ∷ 1 ∷ 0 ∷ 1 ∷ 2 ∷ 7 ∷ 4 ∷ 0 ∷ 1 ∷ 2 ∷ []) ++ window 2 1 3 ++ (5 ∷ [])

-- orders 0, 1 up to n - 1, n
abbrev pub links : ℕ → List ℕ
links zero = []
links (suc n) = links n ++ (2 ∷ n ∷ suc n ∷ [])

-- events 0 up to n of attributes 7 in a chain of orders; 0 needs n
abbrev pub chain : ℕ → List ℕ
chain n = times (suc n) (1 ∷ 0 ∷ 7 ∷ []) ++ (links n ++ (3 ∷ 0 ∷ n ∷ 5 ∷ []))

abbrev pub cases : List Case
cases =
    -- A: 01 00 06 01 01 06 02 00 01 03 00 01 05
    (sheet_a, Submit 0 ∷ Submit 1 ∷ [], ran (Is Held ∷ Is Done ∷ []) ((0, Done) ∷ (1, Done) ∷ []) (false ∷ false ∷ []))
    -- B
    ∷ (sheet_a, Submit 0 ∷ Close 1 ∷ [], ran (Is Held ∷ Made ∷ []) ((1, Lapsed) ∷ (0, Refused) ∷ []) (false ∷ false ∷ []))
    -- C
    ∷ (sheet_c, Submit 1 ∷ Close 0 ∷ [], ran (Is Held ∷ Made ∷ []) ((0, Lapsed) ∷ (1, Done) ∷ []) (false ∷ []))
    -- D: 1 is done by force, and handed in afterwards it is forced still
    ∷ (sheet_d, Submit 0 ∷ [], ran (Is Done ∷ []) ((0, Done) ∷ (1, Forced) ∷ []) (false ∷ []))
    ∷ (
      sheet_d,
      Submit 0 ∷ Submit 1 ∷ Close 1 ∷ Close 0 ∷ Finish ∷ Submit 1 ∷ [],
      ran (Is Done ∷ Is Forced ∷ Made ∷ Made ∷ Made ∷ Is Forced ∷ []) ((0, Done) ∷ (1, Forced) ∷ []) (false ∷ []),
    )
    -- 1 handed in first is done, though it is forcible; so is a forcible event that waits when its turn comes
    ∷ (sheet_d, Submit 1 ∷ Submit 0 ∷ [], ran (Is Done ∷ Is Done ∷ []) ((1, Done) ∷ (0, Done) ∷ []) (false ∷ []))
    ∷ (
      1 ∷ 0 ∷ 7 ∷ 1 ∷ 1 ∷ 6 ∷ 3 ∷ 0 ∷ 1 ∷ 5 ∷ [],
      Submit 0 ∷ Submit 1 ∷ [],
      ran (Is Held ∷ Is Done ∷ []) ((0, Done) ∷ (1, Done) ∷ []) (false ∷ []),
    )
    -- E
    ∷ (sheet_d, Close 1 ∷ Submit 0 ∷ [], ran (Made ∷ Is Done ∷ []) ((1, Lapsed) ∷ (0, Done) ∷ []) (true ∷ []))
    -- F: 01 00 01 01 01 06 03 00 01 05
    ∷ (sheet_f, [], rejected 7 6)
    -- G
    ∷ (sheet_g, Submit 1 ∷ Submit 0 ∷ [], ran (Is Done ∷ Is Refused ∷ []) ((1, Done) ∷ (0, Refused) ∷ []) (false ∷ []))
    -- H
    ∷ (
      1 ∷ 0 ∷ 6 ∷ 1 ∷ 1 ∷ 6 ∷ 2 ∷ 0 ∷ 1 ∷ 2 ∷ 1 ∷ 0 ∷ 5 ∷ [],
      Submit 0 ∷ Submit 1 ∷ Close 0 ∷ Close 1 ∷ Finish ∷ [],
      ran (Is Held ∷ Is Held ∷ Made ∷ Made ∷ Made ∷ []) ((0, Refused) ∷ (1, Done) ∷ []) (false ∷ false ∷ []),
    )
    -- I
    ∷ ([], [], rejected 1 0)
    ∷ (5 ∷ [], [], ran [] [] [])
    ∷ (5 ∷ 5 ∷ [], [], rejected 8 1)
    ∷ (1 ∷ 0 ∷ 4 ∷ 5 ∷ [], [], rejected 5 0)
    -- L
    ∷ (
      sheet_l,
      Submit 0 ∷ Submit 1 ∷ Close 2 ∷ [],
      ran (Is Done ∷ Is Held ∷ Made ∷ []) ((0, Done) ∷ (2, Lapsed) ∷ (1, Refused) ∷ []) (false ∷ []),
    )
    -- open events lapse lowest first
    ∷ (1 ∷ 0 ∷ 6 ∷ 1 ∷ 0 ∷ 6 ∷ 5 ∷ [], Close 0 ∷ [], ran (Made ∷ []) ((0, Lapsed) ∷ (1, Lapsed) ∷ []) [])
    -- orders 2, 0 and 2, 1: the lowest held event with a viable order is 0, by the order 2, 0
    ∷ (
      1 ∷ 0 ∷ 6 ∷ 1 ∷ 0 ∷ 6 ∷ 1 ∷ 0 ∷ 6 ∷ 2 ∷ 2 ∷ 0 ∷ 2 ∷ 2 ∷ 1 ∷ 5 ∷ [],
      Submit 0 ∷ Submit 1 ∷ Submit 2 ∷ [],
      ran (Is Held ∷ Is Held ∷ Is Done ∷ []) ((2, Done) ∷ (0, Done) ∷ (1, Done) ∷ []) (false ∷ false ∷ []),
    )
    -- a forcible event that nobody needs is left open
    ∷ (1 ∷ 0 ∷ 1 ∷ 1 ∷ 0 ∷ 6 ∷ 5 ∷ [], Submit 1 ∷ [], ran (Is Done ∷ []) ((1, Done) ∷ []) [])
    -- the lowest held event goes first, by an order of two (0, 3), and not 1, which could go alone
    ∷ (
      1 ∷ 0 ∷ 6 ∷ 1 ∷ 0 ∷ 6 ∷ 1 ∷ 1 ∷ 6 ∷ 1 ∷ 0 ∷ 1 ∷ 2 ∷ 2 ∷ 0 ∷ 2 ∷ 2 ∷ 1 ∷ 3 ∷ 0 ∷ 3 ∷ 5 ∷ [],
      Submit 0 ∷ Submit 1 ∷ Close 1 ∷ [],
      ran (Is Held ∷ Is Held ∷ Made ∷ []) ((2, Lapsed) ∷ (0, Done) ∷ (3, Forced) ∷ (1, Done) ∷ []) (false ∷ false ∷ false ∷ []),
    )
    -- a barred event (1, by need 1, 3) is refused before 0 is done
    ∷ (
      1 ∷ 0 ∷ 6 ∷ 1 ∷ 0 ∷ 6 ∷ 1 ∷ 1 ∷ 6 ∷ 1 ∷ 1 ∷ 6 ∷ 2 ∷ 2 ∷ 0 ∷ 3 ∷ 1 ∷ 3 ∷ 5 ∷ [],
      Submit 0 ∷ Submit 1 ∷ Close 1 ∷ [],
      ran (Is Held ∷ Is Held ∷ Made ∷ []) ((2, Lapsed) ∷ (3, Lapsed) ∷ (1, Refused) ∷ (0, Done) ∷ []) (false ∷ false ∷ []),
    )
    -- two held triggers are not barred: order 3 before both, conditional 0, 1, 2
    ∷ (
      1 ∷ 0 ∷ 6 ∷ 1 ∷ 0 ∷ 6 ∷ 1 ∷ 1 ∷ 6 ∷ 1 ∷ 0 ∷ 6 ∷ 2 ∷ 3 ∷ 0 ∷ 2 ∷ 3 ∷ 1 ∷ 4 ∷ 0 ∷ 1 ∷ 2 ∷ 5 ∷ [],
      Submit 0 ∷ Submit 1 ∷ Close 1 ∷ Submit 3 ∷ [],
      ran (Is Held ∷ Is Held ∷ Made ∷ Is Done ∷ []) ((2, Lapsed) ∷ (3, Done) ∷ (0, Done) ∷ (1, Refused) ∷ []) (false ∷ false ∷ false ∷ []),
    )
    -- nor is a trigger barred by one that lapsed; and c done bars nothing
    ∷ (
      1 ∷ 0 ∷ 6 ∷ 1 ∷ 1 ∷ 6 ∷ 1 ∷ 1 ∷ 6 ∷ 4 ∷ 0 ∷ 1 ∷ 2 ∷ 4 ∷ 1 ∷ 0 ∷ 2 ∷ 5 ∷ [],
      Close 1 ∷ Submit 0 ∷ [],
      ran (Made ∷ Is Done ∷ []) ((1, Lapsed) ∷ (2, Lapsed) ∷ (0, Done) ∷ []) (false ∷ false ∷ []),
    )
    ∷ (
      sheet_l,
      Submit 2 ∷ Submit 0 ∷ Submit 1 ∷ [],
      ran (Is Done ∷ Is Done ∷ Is Done ∷ []) ((2, Done) ∷ (0, Done) ∷ (1, Done) ∷ []) (false ∷ []),
    )
    -- settling goes on: four events waited for 4
    ∷ (
      times 4 (1 ∷ 0 ∷ 6 ∷ []) ++ (1 ∷ 1 ∷ 6 ∷ 2 ∷ 4 ∷ 0 ∷ 2 ∷ 4 ∷ 1 ∷ 2 ∷ 4 ∷ 2 ∷ 2 ∷ 4 ∷ 3 ∷ 5 ∷ []),
      Submit 3 ∷ Submit 2 ∷ Submit 1 ∷ Submit 0 ∷ Close 1 ∷ [],
      ran (Is Held ∷ Is Held ∷ Is Held ∷ Is Held ∷ Made ∷ []) ((4, Lapsed) ∷ (0, Done) ∷ (1, Done) ∷ (2, Done) ∷ (3, Done) ∷ []) (replicate 4 false),
    )
    -- winding up goes on: two pairs as in H
    ∷ (
      times 4 (1 ∷ 7 ∷ 6 ∷ []) ++ (2 ∷ 0 ∷ 1 ∷ 2 ∷ 1 ∷ 0 ∷ 2 ∷ 2 ∷ 3 ∷ 2 ∷ 3 ∷ 2 ∷ 5 ∷ []),
      Submit 0 ∷ Submit 1 ∷ Submit 2 ∷ Submit 3 ∷ Finish ∷ Close 7 ∷ Close 7 ∷ Finish ∷ [],
      ran
          (Is Held ∷ Is Held ∷ Is Held ∷ Is Held ∷ TurnedDown NotClosed ∷ Made ∷ TurnedDown AlreadyClosed ∷ Made ∷ [])
          ((0, Refused) ∷ (1, Done) ∷ (2, Refused) ∷ (3, Done) ∷ []) (replicate 4 false),
    )
    -- an event that is not delayable goes by its own order before anything is settled: 1, 0, where A has 0, 1
    ∷ (
      1 ∷ 0 ∷ 6 ∷ 1 ∷ 0 ∷ 0 ∷ 3 ∷ 0 ∷ 1 ∷ 5 ∷ [],
      Submit 0 ∷ Submit 1 ∷ [],
      ran (Is Held ∷ Is Done ∷ []) ((1, Done) ∷ (0, Done) ∷ []) (false ∷ []),
    )
    -- a forced b that is delayable waits too (need 0, 1, order 2, 1): 0 is done alone. Its recorded rule owes no
    -- more: 3 is done
    ∷ (
      1 ∷ 0 ∷ 0 ∷ 1 ∷ 0 ∷ 7 ∷ 1 ∷ 0 ∷ 6 ∷ 1 ∷ 0 ∷ 6 ∷ 3 ∷ 0 ∷ 1 ∷ 2 ∷ 2 ∷ 1 ∷ 5 ∷ [],
      Submit 0 ∷ Submit 3 ∷ [],
      ran (Is Done ∷ Is Done ∷ []) ((0, Done) ∷ (3, Done) ∷ []) (true ∷ false ∷ []),
    )
    -- the same: recorded still, though 1 is done at last and the rule holds again
    ∷ (
      1 ∷ 0 ∷ 0 ∷ 1 ∷ 0 ∷ 7 ∷ 1 ∷ 0 ∷ 6 ∷ 1 ∷ 0 ∷ 6 ∷ 3 ∷ 0 ∷ 1 ∷ 2 ∷ 2 ∷ 1 ∷ 5 ∷ [],
      Submit 0 ∷ Submit 2 ∷ Submit 1 ∷ [],
      ran (Is Done ∷ Is Done ∷ Is Done ∷ []) ((0, Done) ∷ (2, Done) ∷ (1, Done) ∷ []) (true ∷ false ∷ []),
    )
    -- a b that is not delayable never waits (order 0, 1), also where it is forced (need 2, 1)
    ∷ (
      1 ∷ 0 ∷ 6 ∷ 1 ∷ 0 ∷ 3 ∷ 1 ∷ 0 ∷ 6 ∷ 2 ∷ 0 ∷ 1 ∷ 3 ∷ 2 ∷ 1 ∷ 5 ∷ [],
      Submit 2 ∷ Submit 0 ∷ [],
      ran (Is Done ∷ Is Refused ∷ []) ((1, Forced) ∷ (2, Done) ∷ (0, Refused) ∷ []) (false ∷ false ∷ []),
    )
    -- S-6, the consent form: 0 waits for it while 1 may come. It lapses: 0 is refused, and 1 breaks no rule
    ∷ (
      sheet_w,
      Submit 0 ∷ Close 2 ∷ Submit 1 ∷ [],
      ran (Is Held ∷ Made ∷ Is Done ∷ []) ((2, Lapsed) ∷ (0, Refused) ∷ (1, Done) ∷ []) (false ∷ []),
    )
    ∷ (
      sheet_v,
      Submit 0 ∷ Close 2 ∷ Submit 1 ∷ [],
      ran (Is Held ∷ Made ∷ Is Done ∷ []) ((2, Lapsed) ∷ (0, Refused) ∷ (1, Done) ∷ []) (false ∷ []),
    )
    -- it is handed in: 0 is done with it
    ∷ (
      sheet_w,
      Submit 0 ∷ Submit 2 ∷ Submit 1 ∷ [],
      ran (Is Held ∷ Is Done ∷ Is Done ∷ []) ((0, Done) ∷ (2, Done) ∷ (1, Done) ∷ []) (false ∷ []),
    )
    ∷ (
      sheet_v,
      Submit 0 ∷ Submit 2 ∷ Submit 1 ∷ [],
      ran (Is Held ∷ Is Done ∷ Is Done ∷ []) ((0, Done) ∷ (2, Done) ∷ (1, Done) ∷ []) (false ∷ []),
    )
    -- it is forcible: nothing waits
    ∷ (
      1 ∷ 0 ∷ 6 ∷ 1 ∷ 1 ∷ 0 ∷ 1 ∷ 2 ∷ 7 ∷ 4 ∷ 0 ∷ 1 ∷ 2 ∷ 5 ∷ [],
      Submit 0 ∷ Submit 1 ∷ [],
      ran (Is Done ∷ Is Done ∷ []) ((0, Done) ∷ (1, Done) ∷ (2, Forced) ∷ []) (false ∷ []),
    )
    -- 1 is rejectable: nothing waits, and 1 is refused
    ∷ (
      1 ∷ 0 ∷ 6 ∷ 1 ∷ 1 ∷ 2 ∷ 1 ∷ 2 ∷ 6 ∷ 4 ∷ 0 ∷ 1 ∷ 2 ∷ 5 ∷ [],
      Submit 0 ∷ Close 2 ∷ Submit 1 ∷ [],
      ran (Is Done ∷ Made ∷ Is Refused ∷ []) ((0, Done) ∷ (2, Lapsed) ∷ (1, Refused) ∷ []) (false ∷ []),
    )
    -- 1 lapsed first: nothing waits
    ∷ (
      sheet_w,
      Close 1 ∷ Submit 0 ∷ Close 2 ∷ [],
      ran (Made ∷ Is Done ∷ Made ∷ []) ((1, Lapsed) ∷ (0, Done) ∷ (2, Lapsed) ∷ []) (false ∷ []),
    )
    -- 1 was done first: 0 is the second of the two
    ∷ (
      sheet_w,
      Submit 1 ∷ Submit 0 ∷ Close 2 ∷ [],
      ran (Is Done ∷ Is Held ∷ Made ∷ []) ((1, Done) ∷ (2, Lapsed) ∷ (0, Refused) ∷ []) (false ∷ []),
    )
    -- the steps of both are closed: nothing waits
    ∷ (
      sheet_w,
      Close 2 ∷ Close 1 ∷ Submit 0 ∷ [],
      ran (Made ∷ Made ∷ Is Done ∷ []) ((2, Lapsed) ∷ (1, Lapsed) ∷ (0, Done) ∷ []) (false ∷ []),
    )
    -- the wait ends when 1 lapses; but where the consent form went first, 0 is refused before that
    ∷ (
      sheet_v,
      Submit 0 ∷ Close 1 ∷ [],
      ran (Is Held ∷ Made ∷ []) ((1, Lapsed) ∷ (0, Done) ∷ []) (false ∷ []),
    )
    ∷ (
      sheet_w,
      Submit 0 ∷ Close 2 ∷ Close 1 ∷ [],
      ran (Is Held ∷ Made ∷ Made ∷ []) ((2, Lapsed) ∷ (0, Refused) ∷ (1, Lapsed) ∷ []) (false ∷ []),
    )
    -- with the consent form done 0 need not wait: it goes before 1, which is forced for 3 (needs 3, 1 and 0, 3)
    ∷ (
      1 ∷ 0 ∷ 6 ∷ 1 ∷ 1 ∷ 1 ∷ 1 ∷ 2 ∷ 6 ∷ 1 ∷ 3 ∷ 6 ∷ 4 ∷ 0 ∷ 1 ∷ 2 ∷ 3 ∷ 3 ∷ 1 ∷ 3 ∷ 0 ∷ 3 ∷ 5 ∷ [],
      Submit 2 ∷ Submit 0 ∷ Submit 3 ∷ [],
      ran (Is Done ∷ Is Held ∷ Is Done ∷ []) ((2, Done) ∷ (0, Done) ∷ (1, Forced) ∷ (3, Done) ∷ []) (replicate 3 false),
    )
    -- a conditional of which a alone is rejectable: a is refused and not done alone, after b or before it
    ∷ (
      1 ∷ 0 ∷ 2 ∷ 1 ∷ 0 ∷ 0 ∷ 1 ∷ 1 ∷ 6 ∷ 4 ∷ 0 ∷ 1 ∷ 2 ∷ 5 ∷ [],
      Submit 1 ∷ Close 1 ∷ Submit 0 ∷ [],
      ran (Is Done ∷ Made ∷ Is Refused ∷ []) ((1, Done) ∷ (2, Lapsed) ∷ (0, Refused) ∷ []) (false ∷ []),
    )
    ∷ (
      1 ∷ 0 ∷ 2 ∷ 1 ∷ 0 ∷ 0 ∷ 1 ∷ 1 ∷ 6 ∷ 4 ∷ 0 ∷ 1 ∷ 2 ∷ 5 ∷ [],
      Submit 0 ∷ Close 1 ∷ Submit 1 ∷ [],
      ran (Is Refused ∷ Made ∷ Is Done ∷ []) ((0, Refused) ∷ (2, Lapsed) ∷ (1, Done) ∷ []) (false ∷ []),
    )
    -- settling after a refused hand-in: 1 waited for 0
    ∷ (
      1 ∷ 0 ∷ 2 ∷ 1 ∷ 0 ∷ 6 ∷ 1 ∷ 0 ∷ 6 ∷ 3 ∷ 0 ∷ 2 ∷ 2 ∷ 0 ∷ 1 ∷ 5 ∷ [],
      Submit 1 ∷ Submit 0 ∷ [],
      ran (Is Held ∷ Is Refused ∷ []) ((0, Refused) ∷ (1, Done) ∷ []) (false ∷ false ∷ []),
    )
    -- a rule that neither forbade nor owed is not recorded
    ∷ (
      1 ∷ 0 ∷ 0 ∷ 1 ∷ 1 ∷ 1 ∷ 1 ∷ 0 ∷ 6 ∷ 3 ∷ 0 ∷ 1 ∷ 4 ∷ 0 ∷ 2 ∷ 1 ∷ 5 ∷ [],
      Close 1 ∷ Submit 0 ∷ [],
      ran (Made ∷ Is Done ∷ []) ((1, Lapsed) ∷ (0, Done) ∷ []) (true ∷ false ∷ []),
    )
    -- a need's b that is held is still owed: 1 waits for 2 (order 2, 1), so 0 (need 0, 1) is held, and goes by the
    -- order 0, 2, 1
    ∷ (
      1 ∷ 0 ∷ 6 ∷ 1 ∷ 0 ∷ 6 ∷ 1 ∷ 0 ∷ 6 ∷ 2 ∷ 2 ∷ 1 ∷ 3 ∷ 0 ∷ 1 ∷ 5 ∷ [],
      Submit 1 ∷ Submit 0 ∷ Submit 2 ∷ [],
      ran (Is Held ∷ Is Held ∷ Is Done ∷ []) ((0, Done) ∷ (2, Done) ∷ (1, Done) ∷ []) (false ∷ false ∷ []),
    )
    -- so is a conditional's c: 2 waits for 3 (order 3, 2), so 1 (conditional 0, 1, 2) is held
    ∷ (
      1 ∷ 0 ∷ 6 ∷ 1 ∷ 0 ∷ 6 ∷ 1 ∷ 0 ∷ 6 ∷ 1 ∷ 0 ∷ 6 ∷ 2 ∷ 3 ∷ 2 ∷ 4 ∷ 0 ∷ 1 ∷ 2 ∷ 5 ∷ [],
      Submit 2 ∷ Submit 0 ∷ Submit 1 ∷ Submit 3 ∷ [],
      ran (Is Held ∷ Is Done ∷ Is Held ∷ Is Done ∷ []) ((0, Done) ∷ (1, Done) ∷ (3, Done) ∷ (2, Done) ∷ []) (false ∷ false ∷ []),
    )
    -- an order waits for an a that is held: 0 (need 0, 2) is held, so 1 (order 0, 1) is held too
    ∷ (
      1 ∷ 0 ∷ 6 ∷ 1 ∷ 0 ∷ 6 ∷ 1 ∷ 0 ∷ 6 ∷ 2 ∷ 0 ∷ 1 ∷ 3 ∷ 0 ∷ 2 ∷ 5 ∷ [],
      Submit 0 ∷ Submit 1 ∷ Submit 2 ∷ [],
      ran (Is Held ∷ Is Held ∷ Is Done ∷ []) ((0, Done) ∷ (2, Done) ∷ (1, Done) ∷ []) (false ∷ false ∷ []),
    )
    -- two held triggers with c lapsed: neither is barred until one is done
    ∷ (
      6 ∷ 0 ∷ 1 ∷ 1 ∷ 6 ∷ 2 ∷ 1 ∷ 0 ∷ 2 ∷ 1 ∷ 2 ∷ 4 ∷ 0 ∷ 2 ∷ 4 ∷ 5 ∷ [],
      Submit 0 ∷ Submit 2 ∷ Close 1 ∷ Submit 1 ∷ [],
      ran (Is Held ∷ Is Held ∷ Made ∷ Is Done ∷ []) ((4, Lapsed) ∷ (1, Done) ∷ (0, Done) ∷ (2, Refused) ∷ []) (replicate 3 false),
    )
    -- an open forcible event is forced so that the one that waits for it can be done
    ∷ (1 ∷ 0 ∷ 1 ∷ 1 ∷ 1 ∷ 6 ∷ 2 ∷ 0 ∷ 1 ∷ 5 ∷ [], Submit 1 ∷ [], ran (Is Done ∷ []) ((0, Forced) ∷ (1, Done) ∷ []) (false ∷ []))
    -- an order of six is the longest: a chain of six is done by force, and of a chain of seven nothing is done
    ∷ (
      chain 5,
      Submit 0 ∷ [],
      ran (Is Done ∷ []) ((0, Done) ∷ (1, Forced) ∷ (2, Forced) ∷ (3, Forced) ∷ (4, Forced) ∷ (5, Forced) ∷ []) (replicate 6 false),
    )
    ∷ (chain 6, Submit 0 ∷ [], ran (Is Held ∷ []) [] (replicate 7 false))
    -- handed in again: answered with its fate, in the same state
    ∷ (
      sheet_a,
      Submit 0 ∷ Submit 0 ∷ Submit 1 ∷ Submit 0 ∷ [],
      ran (Is Held ∷ Is Held ∷ Is Done ∷ Is Done ∷ []) ((0, Done) ∷ (1, Done) ∷ []) (false ∷ false ∷ []),
    )
    ∷ (
      sheet_g,
      Submit 1 ∷ Submit 0 ∷ Submit 0 ∷ [],
      ran (Is Done ∷ Is Refused ∷ Is Refused ∷ []) ((1, Done) ∷ (0, Refused) ∷ []) (false ∷ []),
    )
    -- numbers 9, 10 and 11, and an event of a closed step
    ∷ (
      sheet_a,
      Close 8 ∷ Close 2 ∷ Close 0 ∷ Close 0 ∷ Finish ∷ Submit 2 ∷ Submit 0 ∷ [],
      ran (TurnedDown Unknown ∷ TurnedDown Unknown ∷ Made ∷ TurnedDown AlreadyClosed ∷ TurnedDown NotClosed ∷ TurnedDown Unknown ∷ Is Lapsed ∷ []) ((0, Lapsed) ∷ []) (false ∷ false ∷ []),
    )
    -- S-7 and S-6: whether c can be forced goes by its attributes alone. So 0 need not wait for it; and 1 breaks the
    -- rule
    ∷ (sheet_x, Submit 0 ∷ Submit 1 ∷ [], ran (Is Done ∷ Is Done ∷ []) ((0, Done) ∷ (1, Done) ∷ []) (true ∷ []))
    -- S-7. Before its window an event is held; in its first and in its last minute it is done
    ∷ (sheet_t, Submit 0 ∷ Submit 0 ∷ [], ran (Is Held ∷ Is Held ∷ []) [] [])
    ∷ (sheet_t, Submit 0 ∷ Advance 1 ∷ [], ran (Is Held ∷ Made ∷ []) ((0, Done) ∷ []) [])
    ∷ (sheet_t, Submit 0 ∷ Advance 0 ∷ Advance 2 ∷ [], ran (Is Held ∷ Made ∷ Made ∷ []) ((0, Done) ∷ []) [])
    ∷ (sheet_t, Advance 2 ∷ Submit 0 ∷ [], ran (Made ∷ Is Done ∷ []) ((0, Done) ∷ []) [])
    -- at its end a held one is refused, and minutes jumped over do nothing; an open one stays open, and is refused
    -- when it is handed in, or lapses
    ∷ (sheet_t, Submit 0 ∷ Advance 3 ∷ [], ran (Is Held ∷ Made ∷ []) ((0, Refused) ∷ []) [])
    ∷ (sheet_t, Submit 0 ∷ Advance 9 ∷ [], ran (Is Held ∷ Made ∷ []) ((0, Refused) ∷ []) [])
    ∷ (sheet_t, Advance 3 ∷ Submit 0 ∷ [], ran (Made ∷ Is Refused ∷ []) ((0, Refused) ∷ []) [])
    ∷ (sheet_t, Advance 4 ∷ Close 0 ∷ [], ran (Made ∷ Made ∷ []) ((0, Lapsed) ∷ []) [])
    -- a closing settles no event before its window, and winding up refuses it
    ∷ (sheet_t, Submit 0 ∷ Close 0 ∷ Finish ∷ [], ran (Is Held ∷ Made ∷ Made ∷ []) ((0, Refused) ∷ []) [])
    -- 16: a minute below the current one; the same one is taken
    ∷ (sheet_t, Advance 2 ∷ Advance 1 ∷ Advance 2 ∷ Submit 0 ∷ [], ran (Made ∷ TurnedDown Backward ∷ Made ∷ Is Done ∷ []) ((0, Done) ∷ []) [])
    -- an order waits while the window of its second event is not open
    ∷ (sheet_u, Submit 1 ∷ Submit 0 ∷ Advance 0 ∷ Advance 1 ∷ [], ran (Is Held ∷ Is Held ∷ Made ∷ Made ∷ []) ((0, Done) ∷ (1, Done) ∷ []) (false ∷ []))
    -- nothing is forced outside its window, and what needs it waits; the rule sees it only when it is settled
    ∷ (sheet_u, Submit 0 ∷ Advance 1 ∷ [], ran (Is Held ∷ Made ∷ []) ((0, Done) ∷ (1, Forced) ∷ []) (false ∷ []))
    ∷ (sheet_u, Submit 0 ∷ Advance 3 ∷ Submit 0 ∷ Submit 1 ∷ [], ran (Is Held ∷ Made ∷ Is Held ∷ Is Refused ∷ []) ((1, Refused) ∷ (0, Refused) ∷ []) (false ∷ []))
    -- a plan without events winds up, and again
    ∷ (5 ∷ [], Submit 0 ∷ Close 0 ∷ Finish ∷ Finish ∷ [], ran (TurnedDown Unknown ∷ TurnedDown Unknown ∷ Made ∷ Made ∷ []) [] [])
    ∷ []

-- a plan with these counts, otherwise empty, and s with n lines
abbrev pub counting : ℕ → ℕ → Plan
counting events rules =
    record { events = empty_plan.events; event_count = events; rules = empty_plan.rules; rule_count = rules; windows = empty_plan.windows }

abbrev pub with_lines : ℕ → State → State
with_lines n s = record {
  plan = s.plan;
  standings = s.standings;
  broken = s.broken;
  closed = s.closed;
  history = s.history;
  history_len = n;
  minute = s.minute;
}

abbrev pub first_on : List ℕ → State
first_on b = (read_sheet b).state

-- calls on a state that a caller brings: the state, the calls, their answers
abbrev pub Brought : Type 0
Brought = State × List Call × List Answer

abbrev pub brought : List Brought
brought =
    -- a rule recorded as broken forbids nothing: in G a may be done after b, in C b need not wait for a
    (break_rule (settle_as Done (first_on sheet_g) 1) 0, Submit 0 ∷ [], Is Done ∷ [])
    ∷ (break_rule (first_on sheet_c) 0, Submit 1 ∷ [], Is Done ∷ [])
    -- an event that isn't open: nothing changes, though 0 could be done; winding up settles first
    ∷ (hold (first_on sheet_g) 0, Submit 0 ∷ [], Is Held ∷ [])
    ∷ (shut (hold (first_on (1 ∷ 0 ∷ 6 ∷ 5 ∷ [])) 0) 0, Finish ∷ Submit 0 ∷ [], Made ∷ Is Done ∷ [])
    -- 12: too many events, rules or lines
    ∷ (first_state (counting 16 0), Finish ∷ [], TurnedDown NotClosed ∷ [])
    ∷ (first_state (counting 17 0), Finish ∷ [], TurnedDown Incoherent ∷ [])
    ∷ (first_state (counting 0 17), Finish ∷ [], TurnedDown Incoherent ∷ [])
    ∷ (do_all (first_state (counting 16 0)) (tabulate 16 0 (λ e. e)), Finish ∷ [], TurnedDown NotClosed ∷ [])
    ∷ (with_lines 17 (do_all (first_state (counting 16 0)) (tabulate 16 0 (λ e. e))), Finish ∷ [], TurnedDown Incoherent ∷ [])
    -- 12: an event or a rule that no sheet can declare
    ∷ (first_state (add_event empty_plan 8 0), Submit 0 ∷ [], TurnedDown Incoherent ∷ [])
    ∷ (first_state (add_event empty_plan 0 4), Submit 0 ∷ [], TurnedDown Incoherent ∷ [])
    ∷ (first_state (add_rule (add_event empty_plan 0 7) (Need 0 0)), Submit 0 ∷ [], TurnedDown Incoherent ∷ [])
    ∷ (first_state (add_rule (add_event (add_event empty_plan 0 1) 0 6) (Need 0 1)), Submit 0 ∷ [], TurnedDown Incoherent ∷ [])
    -- the history names an undeclared event, leaves a settled one out, has one twice, has one that is not settled,
    -- has another fate
    ∷ (settle_as Done empty_state 0, Finish ∷ [], TurnedDown Incoherent ∷ [])
    ∷ (with_lines 0 (settle_as Done (first_on sheet_g) 1), Submit 0 ∷ [], TurnedDown Incoherent ∷ [])
    ∷ (settle_as Done (settle_as Done (first_on sheet_g) 1) 1, Submit 0 ∷ [], TurnedDown Incoherent ∷ [])
    ∷ (hold (settle_as Done (first_on sheet_g) 0) 0, Submit 1 ∷ [], TurnedDown Incoherent ∷ [])
    ∷ (with_lines 1 (settle_as Refused (settle_as Done (first_on sheet_g) 0) 0), Submit 1 ∷ [], TurnedDown Incoherent ∷ [])
    -- among them a line that says done of a forced event, and the other way round
    ∷ (with_lines 1 (settle_as Forced (settle_as Done (first_on sheet_g) 1) 1), Submit 0 ∷ [], TurnedDown Incoherent ∷ [])
    ∷ (with_lines 1 (settle_as Done (settle_as Forced (first_on sheet_g) 1) 1), Submit 0 ∷ [], TurnedDown Incoherent ∷ [])
    -- an event that is not forcible may be forced all the same; it counts as done: it bars 0, and owes 1
    ∷ (settle_as Forced (first_on sheet_g) 1, Submit 1 ∷ Submit 0 ∷ [], Is Forced ∷ Is Refused ∷ [])
    ∷ (settle_as Forced (first_on sheet_d) 0, Submit 1 ∷ [], TurnedDown Incoherent ∷ [])
    ∷ (settle_as Forced (settle_as Forced (first_on sheet_d) 0) 1, Submit 1 ∷ [], Is Forced ∷ [])
    -- 12, S-7: a window on an event that is not declared or not delayable, one with no minute in it, a from
    -- without an until; number 12 goes before number 16. A held event past its window is no fault: the next settling
    -- refuses it
    ∷ (first_state (add_window (add_event empty_plan 0 6) 0 1 2), Submit 0 ∷ [], Is Held ∷ [])
    ∷ (first_state (add_window (add_event empty_plan 0 6) 1 1 2), Submit 0 ∷ [], TurnedDown Incoherent ∷ [])
    ∷ (first_state (add_window (add_event empty_plan 0 6) 15 1 2), Submit 0 ∷ [], TurnedDown Incoherent ∷ [])
    ∷ (first_state (add_window (add_event empty_plan 0 3) 0 1 2), Submit 0 ∷ [], TurnedDown Incoherent ∷ [])
    ∷ (first_state (add_window (add_event empty_plan 0 6) 0 2 2), Submit 0 ∷ [], TurnedDown Incoherent ∷ [])
    ∷ (first_state (add_window (add_event empty_plan 0 6) 0 2 0), Submit 0 ∷ [], TurnedDown Incoherent ∷ [])
    ∷ (set_minute (first_state (add_window (add_event empty_plan 0 6) 0 2 2)) 5, Advance 4 ∷ [], TurnedDown Incoherent ∷ [])
    ∷ (set_minute (hold (first_on sheet_t) 0) 7, Advance 6 ∷ Submit 0 ∷ Advance 7 ∷ Submit 0 ∷ [], TurnedDown Backward ∷ Is Held ∷ Made ∷ Is Refused ∷ [])
    -- 12: held without being delayable; open in a closed step
    ∷ (hold (first_on sheet_d) 0, Submit 1 ∷ [], TurnedDown Incoherent ∷ [])
    ∷ (shut (first_on sheet_d) 0, Submit 1 ∷ [], TurnedDown Incoherent ∷ [])
    -- 12: a rule owes, or is violated, and is not recorded
    ∷ (settle_as Done (first_on sheet_d) 0, Submit 1 ∷ [], TurnedDown Incoherent ∷ [])
    ∷ (break_rule (settle_as Done (first_on sheet_d) 0) 0, Submit 1 ∷ [], Is Done ∷ [])
    ∷ (settle_as Done (settle_as Done (first_on sheet_g) 1) 0, Submit 1 ∷ [], TurnedDown Incoherent ∷ [])
    ∷ (break_rule (settle_as Done (settle_as Done (first_on sheet_g) 1) 0) 0, Submit 1 ∷ [], Is Done ∷ [])
    ∷ (settle_as Refused (settle_as Done (first_on sheet_d) 0) 1, Finish ∷ [], TurnedDown Incoherent ∷ [])
    ∷ (do_all (settle_as Refused (first_on sheet_l) 2) (0 ∷ 1 ∷ []), Finish ∷ [], TurnedDown Incoherent ∷ [])
    ∷ (break_rule (do_all (settle_as Refused (first_on sheet_l) 2) (0 ∷ 1 ∷ [])) 0, Finish ∷ [], TurnedDown NotClosed ∷ [])
    -- S-6: 0 is done while 1 may come. 12 where 2 is open or held, unless the rule is recorded or 1 has lapsed; where 2
    -- is done nothing is owed, and where it is refused the rule is broken when 1 comes
    ∷ (settle_as Done (first_on sheet_w) 0, Submit 1 ∷ [], TurnedDown Incoherent ∷ [])
    ∷ (hold (settle_as Done (first_on sheet_v) 0) 2, Submit 1 ∷ [], TurnedDown Incoherent ∷ [])
    ∷ (break_rule (settle_as Done (first_on sheet_w) 0) 0, Submit 1 ∷ [], Is Done ∷ [])
    ∷ (settle_as Lapsed (settle_as Done (first_on sheet_w) 0) 1, Submit 2 ∷ [], Is Done ∷ [])
    ∷ (do_all (first_on sheet_w) (2 ∷ 0 ∷ []), Submit 1 ∷ [], Is Done ∷ [])
    ∷ (settle_as Refused (settle_as Done (first_on sheet_w) 0) 2, Submit 1 ∷ Finish ∷ [], Is Done ∷ TurnedDown NotClosed ∷ [])
    -- a closed step without events, and a mark past the rules, are not looked at
    ∷ (break_rule (shut (first_on sheet_d) 7) 15, Submit 0 ∷ [], Is Done ∷ [])
    -- 9 goes before 10: a closed step without events
    ∷ (shut (first_on sheet_d) 7, Close 7 ∷ [], TurnedDown Unknown ∷ [])
    -- 12: held and rejectable, but not delayable
    ∷ (hold (first_state (add_event empty_plan 0 2)) 0, Submit 0 ∷ [], TurnedDown Incoherent ∷ [])
    -- a closing lets events lapse before it settles: 0 is held and needs 1, which could be forced before the closing
    ∷ (hold (first_on sheet_n) 0, Close 1 ∷ Submit 0 ∷ [], Made ∷ Is Refused ∷ [])
    -- a hand-in holds its event before anything is settled. 2 has lapsed, so that only one of 0 and 1 can be done. The one
    -- handed in cannot wait and has its own order first; it can wait, and is the lower
    ∷ (hold (settle_as Lapsed (first_on sheet_m) 2) 0, Submit 1 ∷ Submit 0 ∷ [], Is Done ∷ Is Refused ∷ [])
    ∷ (hold (settle_as Lapsed (first_on sheet_l) 2) 1, Submit 0 ∷ Submit 1 ∷ [], Is Done ∷ Is Refused ∷ [])
    -- 12 goes before 9, 10 and 11
    ∷ (hold (first_on sheet_d) 0, Submit 2 ∷ [], TurnedDown Incoherent ∷ [])
    ∷ (hold (first_on sheet_d) 0, Close 2 ∷ [], TurnedDown Incoherent ∷ [])
    ∷ (shut (first_on sheet_d) 0, Close 0 ∷ [], TurnedDown Incoherent ∷ [])
    ∷ (hold (first_on sheet_d) 0, Finish ∷ [], TurnedDown Incoherent ∷ [])
    ∷ []

-- case A's report, byte by byte (14.2)
abbrev pub report_a : List ℕ
report_a =
    (101 ∷ 118 ∷ 101 ∷ 110 ∷ 116 ∷ 115 ∷ 32 ∷ 50 ∷ 32 ∷ 114 ∷ 117 ∷ 108 ∷ 101 ∷ 115 ∷ 32 ∷ 50 ∷ 10 ∷ [])  -- events 2 rules 2
    ++ (48 ∷ 32 ∷ 100 ∷ 111 ∷ 110 ∷ 101 ∷ 10 ∷ [])  -- 0 done
    ++ (49 ∷ 32 ∷ 100 ∷ 111 ∷ 110 ∷ 101 ∷ 10 ∷ [])  -- 1 done
    ++ (104 ∷ 101 ∷ 108 ∷ 100 ∷ 32 ∷ 48 ∷ 10 ∷ [])  -- held 0
    ++ (98 ∷ 114 ∷ 111 ∷ 107 ∷ 101 ∷ 110 ∷ 32 ∷ 48 ∷ 10 ∷ [])  -- broken 0
    ++ (114 ∷ 101 ∷ 102 ∷ 117 ∷ 115 ∷ 101 ∷ 100 ∷ 32 ∷ 99 ∷ 97 ∷ 108 ∷ 108 ∷ 115 ∷ 32 ∷ 48 ∷ 10 ∷ [])  -- refused calls 0

-- case D's report
abbrev pub report_d : List ℕ
report_d =
    (101 ∷ 118 ∷ 101 ∷ 110 ∷ 116 ∷ 115 ∷ 32 ∷ 50 ∷ 32 ∷ 114 ∷ 117 ∷ 108 ∷ 101 ∷ 115 ∷ 32 ∷ 49 ∷ 10 ∷ [])  -- events 2 rules 1
    ++ (48 ∷ 32 ∷ 100 ∷ 111 ∷ 110 ∷ 101 ∷ 10 ∷ [])  -- 0 done
    ++ (49 ∷ 32 ∷ 102 ∷ 111 ∷ 114 ∷ 99 ∷ 101 ∷ 100 ∷ 10 ∷ [])  -- 1 forced
    ++ (104 ∷ 101 ∷ 108 ∷ 100 ∷ 32 ∷ 48 ∷ 10 ∷ [])  -- held 0
    ++ (98 ∷ 114 ∷ 111 ∷ 107 ∷ 101 ∷ 110 ∷ 32 ∷ 48 ∷ 10 ∷ [])  -- broken 0
    ++ (114 ∷ 101 ∷ 102 ∷ 117 ∷ 115 ∷ 101 ∷ 100 ∷ 32 ∷ 99 ∷ 97 ∷ 108 ∷ 108 ∷ 115 ∷ 32 ∷ 48 ∷ 10 ∷ [])  -- refused calls 0

-- case E's report
abbrev pub report_e : List ℕ
report_e =
    (101 ∷ 118 ∷ 101 ∷ 110 ∷ 116 ∷ 115 ∷ 32 ∷ 50 ∷ 32 ∷ 114 ∷ 117 ∷ 108 ∷ 101 ∷ 115 ∷ 32 ∷ 49 ∷ 10 ∷ [])  -- events 2 rules 1
    ++ (49 ∷ 32 ∷ 108 ∷ 97 ∷ 112 ∷ 115 ∷ 101 ∷ 100 ∷ 10 ∷ [])  -- 1 lapsed
    ++ (48 ∷ 32 ∷ 100 ∷ 111 ∷ 110 ∷ 101 ∷ 10 ∷ [])  -- 0 done
    ++ (104 ∷ 101 ∷ 108 ∷ 100 ∷ 32 ∷ 48 ∷ 10 ∷ [])  -- held 0
    ++ (98 ∷ 114 ∷ 111 ∷ 107 ∷ 101 ∷ 110 ∷ 32 ∷ 49 ∷ 10 ∷ [])  -- broken 1
    ++ (114 ∷ 101 ∷ 102 ∷ 117 ∷ 115 ∷ 101 ∷ 100 ∷ 32 ∷ 99 ∷ 97 ∷ 108 ∷ 108 ∷ 115 ∷ 32 ∷ 48 ∷ 10 ∷ [])  -- refused calls 0

-- case F's
abbrev pub report_f : List ℕ
report_f =
    (114 ∷ 101 ∷ 102 ∷ 117 ∷ 115 ∷ 101 ∷ 100 ∷ 32 ∷ 55 ∷ 32 ∷ 97 ∷ 116 ∷ 32 ∷ 54 ∷ 10 ∷ [])  -- refused 7 at 6

-- A's sheet with 0 handed in and step 0 closed twice
abbrev pub report_held : List ℕ
report_held =
    (101 ∷ 118 ∷ 101 ∷ 110 ∷ 116 ∷ 115 ∷ 32 ∷ 50 ∷ 32 ∷ 114 ∷ 117 ∷ 108 ∷ 101 ∷ 115 ∷ 32 ∷ 50 ∷ 10 ∷ [])  -- events 2 rules 2
    ++ (104 ∷ 101 ∷ 108 ∷ 100 ∷ 32 ∷ 49 ∷ 10 ∷ [])  -- held 1
    ++ (98 ∷ 114 ∷ 111 ∷ 107 ∷ 101 ∷ 110 ∷ 32 ∷ 48 ∷ 10 ∷ [])  -- broken 0
    ++ (114 ∷ 101 ∷ 102 ∷ 117 ∷ 115 ∷ 101 ∷ 100 ∷ 32 ∷ 99 ∷ 97 ∷ 108 ∷ 108 ∷ 115 ∷ 32 ∷ 49 ∷ 10 ∷ [])  -- refused calls 1

-- a report with numbers of two digits
abbrev pub report_wide : List ℕ
report_wide =
    (101 ∷ 118 ∷ 101 ∷ 110 ∷ 116 ∷ 115 ∷ 32 ∷ 49 ∷ 54 ∷ 32 ∷ 114 ∷ 117 ∷ 108 ∷ 101 ∷ 115 ∷ 32 ∷ 48 ∷ 10 ∷ [])  -- events 16 rules 0
    ++ (49 ∷ 50 ∷ 32 ∷ 100 ∷ 111 ∷ 110 ∷ 101 ∷ 10 ∷ [])  -- 12 done
    ++ (104 ∷ 101 ∷ 108 ∷ 100 ∷ 32 ∷ 48 ∷ 10 ∷ [])  -- held 0
    ++ (98 ∷ 114 ∷ 111 ∷ 107 ∷ 101 ∷ 110 ∷ 32 ∷ 48 ∷ 10 ∷ [])  -- broken 0
    ++ (114 ∷ 101 ∷ 102 ∷ 117 ∷ 115 ∷ 101 ∷ 100 ∷ 32 ∷ 99 ∷ 97 ∷ 108 ∷ 108 ∷ 115 ∷ 32 ∷ 49 ∷ 48 ∷ 10 ∷ [])  -- refused calls 10

-- the sheet, the call file, the report
abbrev pub Report : Type 0
Report = List ℕ × List ℕ × List ℕ

abbrev pub reports : List Report
reports =
    (sheet_a, 16 ∷ 0 ∷ 16 ∷ 1 ∷ [], report_a)
    ∷ (sheet_a, 16 ∷ 0 ∷ 17 ∷ 0 ∷ 17 ∷ 0 ∷ [], report_held)
    ∷ (sheet_d, 16 ∷ 0 ∷ [], report_d)
    ∷ (sheet_d, 17 ∷ 1 ∷ 16 ∷ 0 ∷ [], report_e)
    ∷ (sheet_f, 16 ∷ 0 ∷ [], report_f)
    -- nine undeclared events and a cut record
    ∷ (sixteen_events ++ (5 ∷ []), times 9 (16 ∷ 16 ∷ []) ++ (16 ∷ 12 ∷ 16 ∷ []), report_wide)
    ∷ []

-- a state that a caller brings, and the counts of its report: events held, rules recorded as broken. What stands past the
-- events and past the rules is not counted
abbrev pub Counted : Type 0
Counted = State × ℕ × ℕ

abbrev pub counts : List Counted
counts =
    (break_rule (first_on sheet_d) 0, 0, 1)
    ∷ (break_rule (first_on sheet_d) 1, 0, 0)
    ∷ (break_rule (first_on sheet_d) 15, 0, 0)
    ∷ (hold (hold (first_on sheet_a) 1) 2, 1, 0)
    ∷ (hold (first_on sheet_a) 15, 0, 0)
    ∷ []

-- the joint proof: every row of the four lists
pub marked :
    (map (λ (c : Case). given c.0 c.1) cases ≡ map (λ (c : Case). c.2) cases)
    × (map (λ (c : Brought). answers_of c.0 c.1) brought ≡ map (λ (c : Brought). c.2) brought)
    × (map (λ (c : Report). report (run_of c.0 c.1)) reports ≡ map (λ (c : Report). c.2) reports)
    × (map (λ (c : Counted). held_count c.0) counts ≡ map (λ (c : Counted). c.1) counts)
    × (map (λ (c : Counted). broken_count c.0) counts ≡ map (λ (c : Counted). c.2) counts)
unfolding given answers_of tabulate any_below all_below first_of lowest hold settle_as shut break_rule named enforceable
    sound_event sound_rule unstoppable reckoned triggered bars makes_wait forbids owes bad_window sound_window sound_windows allowed_at allowed_in over_at over_in ruled_out barred forbidden owing fates_in any_done done_in done_in_turn holds
    ready may_do do_all order_of chosen to_refuse to_do settle_once settle_up_to settle strains record_broken do_alone decide
    submit lapse close_step set_minute advance_to refuse_held finish first_fault declared_only same_fates listed_as coherent_event coherent_rule
    coherent has_event call_fault accept call rule_of add_event add_rule add_window add_events declare record_fault ending read_from
    read_plan sheet_plan read_sheet after count_below first_call decode_up_to decode turned_down run_on run_of digits decimal
    history_lines report
marked = (refl, refl, refl, refl, refl)

-- 0, 7, 10, 65536
pub decimals :
    map decimal (0 ∷ 7 ∷ 10 ∷ 65536 ∷ [])
    ≡ (48 ∷ []) ∷ (55 ∷ []) ∷ (49 ∷ 48 ∷ []) ∷ (54 ∷ 53 ∷ 53 ∷ 51 ∷ 54 ∷ []) ∷ []
unfolding digits decimal
decimals = refl

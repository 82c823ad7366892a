-- Lists with moves of the minute, through `replay_of`, by computation. Bytes are written in decimal.
use Prim.Native.Nat.{ℕ}
use mathlib.Core.List.{List, [], ◌∷◌, map}
use mathlib.Core.Path.{◌≡◌, refl}
use Rattle.plan.specs.declared.fate.Fate.{Fate}
use Rattle.plan.specs.declared.fate.Fate.TheVariants.{Done, Refused}
use Rattle.plan.specs.Base.{any_below, all_below, first_of, lowest}
use Rattle.plan.specs.Plans.{has_event, allowed_at, over_at, allowed_in, over_in}
use Rattle.plan.specs.Rules.{sound_event, bars, makes_wait, forbids, bad_window, sound_window, sound_windows, ready}
use Rattle.plan.specs.Histories.{listed_as, fates_in, declared_only, same_fates}
use Rattle.plan.specs.Faults.{first_fault}
use Rattle.plan.specs.Records.{add_event, add_window, declare, record_fault}
use Rattle.plan.specs.Sheets.{sheet_plan, ending, read_from, read_plan}
use Rattle.plan.specs.Calls.{first_call, advance_in, any_call_first, decode_up_to, decode, decode_all}
use Rattle.scheduler.specs.State.{lines, hold, settle_as, shut, set_minute}
use Rattle.scheduler.specs.Rules.{ruled_out, barred, forbidden, owing}
use Rattle.scheduler.specs.Orders.{may_do, do_all, order_of, chosen}
use Rattle.scheduler.specs.Calls.{to_refuse, to_do, settle_once, settle_up_to, settle, submit, lapse, close_step, advance_to}
use Rattle.scheduler.specs.Coherent.{coherent_event, coherent}
use Rattle.scheduler.specs.Answers.{call_fault, accept, call}
use Rattle.scheduler.specs.Sheet.{read_sheet}
use Rattle.scheduler.specs.Lists.{after, turned_down}
use Rattle.scheduler.specs.Runner.{run_on, run_of, replay_of}
use Rattle.lists.specs.Types.{Outcome}

-- what a list comes to: the history, the minute, how many calls are turned down
abbrev Shown : Type 0
Shown = List (ℕ × Fate) × ℕ × ℕ

abbrev shown : Outcome → Shown
shown o = (map (λ l. (l.event, l.fate)) (lines o.state), o.state.minute, o.refused)

-- one event that can wait, in a window from 1 until 3, and in one from 513 until 514
abbrev early : List ℕ
early = 1 ∷ 0 ∷ 6 ∷ 7 ∷ 0 ∷ 1 ∷ 0 ∷ 0 ∷ 0 ∷ 3 ∷ 0 ∷ 0 ∷ 0 ∷ 5 ∷ []

abbrev late : List ℕ
late = 1 ∷ 0 ∷ 6 ∷ 7 ∷ 0 ∷ 1 ∷ 2 ∷ 0 ∷ 0 ∷ 2 ∷ 2 ∷ 0 ∷ 0 ∷ 5 ∷ []

-- a row: the sheet, the call records, what they come to
abbrev Row : Type 0
Row = List ℕ × List ℕ × Shown

abbrev rows : List Row
rows =
    -- held, and done when the minute comes; and at exactly that minute, its lowest byte first
    (early, 16 ∷ 0 ∷ 19 ∷ 1 ∷ 0 ∷ 0 ∷ 0 ∷ [], ((0, Done) ∷ [], 1, 0))
    ∷ (late, 16 ∷ 0 ∷ 19 ∷ 1 ∷ 2 ∷ 0 ∷ 0 ∷ [], ((0, Done) ∷ [], 513, 0))
    -- the window is over: refused
    ∷ (early, 16 ∷ 0 ∷ 19 ∷ 3 ∷ 0 ∷ 0 ∷ 0 ∷ [], ((0, Refused) ∷ [], 3, 0))
    -- four of five bytes: one call turned down, and the list ends
    ∷ (early, 16 ∷ 0 ∷ 19 ∷ 1 ∷ 0 ∷ 0 ∷ [], ([], 0, 1))
    -- a backward move is turned down and changes nothing; one to the minute itself is taken; the list goes on
    ∷ (early, 19 ∷ 2 ∷ 0 ∷ 0 ∷ 0 ∷ 19 ∷ 1 ∷ 0 ∷ 0 ∷ 0 ∷ 19 ∷ 2 ∷ 0 ∷ 0 ∷ 0 ∷ 16 ∷ 0 ∷ [], ((0, Done) ∷ [], 2, 1))
    -- kind 20 ends the list
    ∷ (early, 19 ∷ 1 ∷ 0 ∷ 0 ∷ 0 ∷ 20 ∷ 16 ∷ 0 ∷ [], ([], 1, 1))
    -- on a sheet turned down no call is made
    ∷ (8 ∷ [], 19 ∷ 1 ∷ 0 ∷ 0 ∷ 0 ∷ 20 ∷ [], ([], 0, 0))
    ∷ []

-- and the runner's reading ends at kind 19
pub replayed_rows :
    (map (λ (c : Row). shown (replay_of c.0 c.1)) rows ≡ map (λ (c : Row). c.2) rows)
    × (shown (run_of early (16 ∷ 0 ∷ 19 ∷ 1 ∷ 0 ∷ 0 ∷ 0 ∷ [])) ≡ ([], 0, 1))
unfolding any_below all_below first_of lowest has_event allowed_at over_at allowed_in over_in sound_event bars makes_wait forbids
    bad_window sound_window sound_windows ready listed_as fates_in declared_only same_fates first_fault add_event add_window declare
    record_fault sheet_plan ending read_from read_plan first_call advance_in any_call_first decode_up_to decode decode_all hold
    settle_as shut set_minute ruled_out barred forbidden owing may_do do_all order_of chosen to_refuse to_do settle_once settle_up_to
    settle submit lapse close_step advance_to coherent_event coherent call_fault accept call read_sheet after turned_down run_on
    run_of replay_of
replayed_rows = (refl, refl)

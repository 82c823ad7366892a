-- Journals by computation: opening, each number, every boundary; appending, and the order of its tests; what a host
-- asks for. Bytes are decimal.
use Prim.Native.Nat.{ℕ}
use native.Mathlib.Omega.{arith}
use mathlib.Core.List.{List, [], ◌∷◌, ◌++◌, map}
use mathlib.Core.Path.{◌≡◌, refl}
use lib.ListN.{length, take}
use Rattle.plan.specs.Base.{any_below, all_below, count_below, first_of, tabulate, lowest}
use Rattle.plan.specs.Plans.{has_event, allowed_at, over_at, allowed_in, over_in}
use Rattle.plan.specs.Rules.{named, enforceable, sound_event, sound_rule, bad_window, sound_window, sound_windows, bars, makes_wait, forbids, owes, ready}
use Rattle.plan.specs.Histories.{listed_as, fates_in, any_done, done_in, done_in_turn, holds, declared_only, same_fates}
use Rattle.plan.specs.Faults.{first_fault}
use Rattle.plan.specs.Records.{rule_of, add_event, add_rule, add_events, add_window, declare, record_fault}
use Rattle.plan.specs.Sheets.{read_from, read_plan, ending, sheet_plan}
use Rattle.plan.specs.Calls.{first_call, advance_in, any_call_first}
use Rattle.scheduler.specs.State.{hold, settle_as, shut, break_rule, set_minute, lines}
use Rattle.scheduler.specs.Rules.{ruled_out, barred, forbidden, owing, strains}
use Rattle.scheduler.specs.Orders.{may_do, do_all, order_of, chosen}
use Rattle.scheduler.specs.Calls.{to_refuse, to_do, settle_once, settle_up_to, settle, record_broken, do_alone, decide, submit, lapse, close_step, refuse_held, finish, advance_to}
use Rattle.scheduler.specs.Coherent.{coherent_event, coherent_rule, coherent}
use Rattle.scheduler.specs.Sheet.{read_sheet}
use Rattle.scheduler.specs.Answers.{call_fault, accept, call}
use Rattle.scheduler.specs.Lists.{scheduler, turned_down}
use Rattle.scheduler.specs.Demand.{Demand3, seen}
use Rattle.scheduler.specs.Runner.{held_count}
use Rattle.journal.specs.Types.{Submit, Close, State}
use Rattle.journal.specs.Records.{front, run_up_to, run, whole_within}
use Rattle.journal.specs.Journals.{Opens, opened_at, open_journal, room_for, append_to, append, written_by}
use Rattle.journal.specs.Claims.{opens_after, SurvivesCut, AppendsCall, Kept, fresh, appended as store, lost, cut_back}
use Rattle.journal.specs.Calls.{calls, asked_call, record_in, record_size}
use Rattle.journal.specs.Scheduled.{StoresRecord, HoldsCalls}
use Rattle.journal.specs.Answers.{journal_read, journal_number, journal_offset, journal_left, asked_reply, buffer_asked}
use Rattle.journal.proofs.Appends.{open_again}
use Rattle.journal.proofs.CallLaws.{lawful}
use Rattle.journal.proofs.Scheduled.{state_of, cut, keeps, keeps_demand3, appending, stores_record, broken_holds}

-- case A's sheet: 13 bytes
abbrev sheet_a : List ℕ
sheet_a = 1 ∷ 0 ∷ 6 ∷ 1 ∷ 1 ∷ 6 ∷ 2 ∷ 0 ∷ 1 ∷ 3 ∷ 0 ∷ 1 ∷ 5 ∷ []

-- one event that can wait, in a window from minute 1 until 3: 14 bytes
abbrev sheet_t : List ℕ
sheet_t = 1 ∷ 0 ∷ 6 ∷ 7 ∷ 0 ∷ 1 ∷ 0 ∷ 0 ∷ 0 ∷ 3 ∷ 0 ∷ 0 ∷ 0 ∷ 5 ∷ []

-- what opening comes to: the number, the offset, the bytes left over; of the state the lines of its history, the
-- events held and the minute
abbrev Shown : Type 0
Shown = ℕ × ℕ × ℕ × ℕ × ℕ × ℕ

unfoldable pub shown : List ℕ → Shown
shown b =
    let j = journal_read (open_journal calls b) in
    (journal_number j.verdict, journal_offset j.verdict, journal_left j.verdict, length (lines j.state), held_count j.state, j.state.minute)

abbrev Case : Type 0
Case = List ℕ × ℕ × ℕ × ℕ × ℕ × ℕ × ℕ

abbrev cases : List Case
cases =
    -- the sheet alone; a call's record; both calls'
    (sheet_a, 0, 13, 0, 0, 0, 0)
    ∷ (sheet_a ++ (16 ∷ 0 ∷ []), 0, 15, 0, 0, 1, 0)
    ∷ (sheet_a ++ (16 ∷ 0 ∷ 16 ∷ 1 ∷ []), 0, 17, 0, 2, 0, 0)
    -- a cut record is left over; of an advance also where its bytes say a call
    ∷ (sheet_a ++ (16 ∷ []), 0, 13, 1, 0, 0, 0)
    ∷ (sheet_a ++ (16 ∷ 0 ∷ 17 ∷ []), 0, 15, 1, 0, 1, 0)
    ∷ (sheet_a ++ (19 ∷ 16 ∷ 0 ∷ 18 ∷ []), 0, 13, 4, 0, 0, 0)
    -- why a host cuts back before it stores: over two leftover bytes of an advance, the first byte of a submit of event
    -- 1 makes a submit of event 0, which nobody made; cut back first, that byte is left over
    ∷ (sheet_a ++ (19 ∷ 0 ∷ []), 0, 13, 2, 0, 0, 0)
    ∷ (sheet_a ++ (16 ∷ []) ++ (0 ∷ []), 0, 15, 0, 0, 1, 0)
    -- a cut inside the sheet: before kind 5, inside a record, at once
    ∷ (take 12 sheet_a, 1, 12, 0, 0, 0, 0)
    ∷ (take 10 sheet_a, 1, 9, 0, 0, 0, 0)
    ∷ ([], 1, 0, 0, 0, 0, 0)
    -- the sheet's own fault; number 8 is not given
    ∷ (1 ∷ 0 ∷ 4 ∷ 5 ∷ 16 ∷ 0 ∷ [], 5, 0, 0, 0, 0, 0)
    ∷ (7 ∷ 0 ∷ 0 ∷ 0 ∷ 0 ∷ 0 ∷ 1 ∷ 0 ∷ 0 ∷ 0 ∷ 5 ∷ 18 ∷ [], 15, 0, 0, 0, 0, 0)
    ∷ (5 ∷ 5 ∷ [], 17, 1, 0, 0, 0, 0)
    ∷ (5 ∷ 18 ∷ [], 0, 2, 0, 0, 0, 0)
    -- a kind byte that is no call's, also as the last byte
    ∷ (sheet_a ++ (16 ∷ 0 ∷ 5 ∷ []), 17, 15, 0, 0, 1, 0)
    ∷ (sheet_a ++ (20 ∷ 0 ∷ 0 ∷ []), 17, 13, 0, 0, 0, 0)
    -- a whole record that is turned down: 11, 9, 9, 10; what follows it is not looked at
    ∷ (sheet_a ++ (16 ∷ 0 ∷ 18 ∷ []), 17, 15, 0, 0, 1, 0)
    ∷ (sheet_a ++ (16 ∷ 2 ∷ 16 ∷ 0 ∷ []), 17, 13, 0, 0, 0, 0)
    ∷ (sheet_a ++ (17 ∷ 7 ∷ []), 17, 13, 0, 0, 0, 0)
    ∷ (sheet_a ++ (17 ∷ 1 ∷ 17 ∷ 1 ∷ []), 17, 15, 0, 1, 0, 0)
    -- a submit that only answers a fate is a record too
    ∷ (sheet_a ++ (16 ∷ 0 ∷ 16 ∷ 0 ∷ []), 0, 17, 0, 0, 1, 0)
    -- minutes, the lowest byte first: held, done when its minute comes; the same minute; one below it is 16
    ∷ (sheet_t ++ (16 ∷ 0 ∷ 19 ∷ 1 ∷ 0 ∷ 0 ∷ 0 ∷ []), 0, 21, 0, 1, 0, 1)
    ∷ (sheet_t ++ (16 ∷ 0 ∷ 19 ∷ 0 ∷ 0 ∷ 0 ∷ 0 ∷ []), 0, 21, 0, 0, 1, 0)
    ∷ (sheet_t ++ (19 ∷ 2 ∷ 1 ∷ 0 ∷ 0 ∷ 19 ∷ 1 ∷ 1 ∷ 0 ∷ 0 ∷ []), 17, 19, 0, 0, 0, 258)
    ∷ []

-- appending what a host asks for: the buffer, the stated length, the kind, the number; the number, the new length, the
-- offset, the buffer after it
abbrev Append : Type 0
Append = List ℕ × ℕ × ℕ × ℕ × ℕ × ℕ × ℕ × List ℕ

unfoldable pub appended : List ℕ → ℕ → ℕ → ℕ → ℕ × ℕ × ℕ × List ℕ
appended b n k x =
    let r = asked_reply b n (asked_call k x) in
    (r.number, r.len, r.at, buffer_asked b n (asked_call k x))

abbrev appends : List Append
appends =
    -- behind the sheet, over leftover bytes, behind a record; what stands beyond the new length stays
    (sheet_a ++ (255 ∷ 255 ∷ 255 ∷ []), 13, 16, 0, 0, 15, 13, sheet_a ++ (16 ∷ 0 ∷ 255 ∷ []))
    ∷ (sheet_a ++ (17 ∷ 7 ∷ 238 ∷ []), 14, 16, 0, 0, 15, 13, sheet_a ++ (16 ∷ 0 ∷ 238 ∷ []))
    ∷ (sheet_a ++ (16 ∷ 0 ∷ 9 ∷ 9 ∷ []), 15, 16, 0, 0, 17, 15, sheet_a ++ (16 ∷ 0 ∷ 16 ∷ 0 ∷ []))
    ∷ (5 ∷ 0 ∷ [], 1, 18, 777, 0, 2, 1, 5 ∷ 18 ∷ [])
    ∷ (5 ∷ 19 ∷ 9 ∷ 9 ∷ 9 ∷ 9 ∷ [], 5, 19, 66051, 0, 6, 1, 5 ∷ 19 ∷ 3 ∷ 2 ∷ 1 ∷ 0 ∷ [])
    -- 14: a stated length above the buffer's, before all else; no room, after all else, with leftover bytes too
    ∷ (sheet_a, 14, 16, 9, 14, 14, 0, sheet_a)
    ∷ (1 ∷ [], 2, 20, 0, 14, 2, 0, 1 ∷ [])
    ∷ (sheet_a ++ (16 ∷ []), 14, 16, 0, 14, 14, 13, sheet_a ++ (16 ∷ []))
    ∷ (sheet_a, 13, 16, 0, 14, 13, 13, sheet_a)
    -- a journal that does not open, before the call: the sheet's number, 17
    ∷ (1 ∷ [], 1, 16, 9, 1, 1, 0, 1 ∷ [])
    ∷ (sheet_a ++ (5 ∷ []), 14, 16, 9, 17, 14, 13, sheet_a ++ (5 ∷ []))
    ∷ (sheet_a ++ (5 ∷ []), 14, 20, 0, 17, 14, 13, sheet_a ++ (5 ∷ []))
    -- the call's own number, before the room: 9, 11, 10, 16; no call's kind is 2, a number that does not fit 9
    ∷ (sheet_a, 13, 16, 9, 9, 13, 13, sheet_a)
    ∷ (sheet_a, 13, 18, 0, 11, 13, 13, sheet_a)
    ∷ (sheet_a ++ (17 ∷ 1 ∷ []), 15, 17, 1, 10, 15, 15, sheet_a ++ (17 ∷ 1 ∷ []))
    ∷ (5 ∷ 19 ∷ 1 ∷ 0 ∷ 0 ∷ 0 ∷ [], 6, 19, 0, 16, 6, 6, 5 ∷ 19 ∷ 1 ∷ 0 ∷ 0 ∷ 0 ∷ [])
    ∷ (sheet_a, 13, 15, 0, 2, 13, 13, sheet_a)
    ∷ (sheet_a, 13, 20, 256, 2, 13, 13, sheet_a)
    ∷ (sheet_a, 13, 16, 256, 9, 13, 13, sheet_a)
    ∷ (sheet_a, 13, 17, 256, 9, 13, 13, sheet_a)
    ∷ []

-- a record in eight lent bytes: the kind, the number; how many bytes it has, and the eight bytes after it
abbrev Lent : Type 0
Lent = ℕ × ℕ × ℕ × List ℕ

abbrev nines : List ℕ
nines = 9 ∷ 9 ∷ 9 ∷ 9 ∷ 9 ∷ 9 ∷ 9 ∷ 9 ∷ []

unfoldable pub lent : ℕ → ℕ → ℕ × List ℕ
lent k x = (record_size (asked_call k x), record_in (asked_call k x) nines)

abbrev lents : List Lent
lents =
    (16, 255, 2, 16 ∷ 255 ∷ 9 ∷ 9 ∷ 9 ∷ 9 ∷ 9 ∷ 9 ∷ [])
    ∷ (17, 7, 2, 17 ∷ 7 ∷ 9 ∷ 9 ∷ 9 ∷ 9 ∷ 9 ∷ 9 ∷ [])
    ∷ (18, 1, 1, 18 ∷ 9 ∷ 9 ∷ 9 ∷ 9 ∷ 9 ∷ 9 ∷ 9 ∷ [])
    ∷ (19, 67305985, 5, 19 ∷ 1 ∷ 2 ∷ 3 ∷ 4 ∷ 9 ∷ 9 ∷ 9 ∷ [])
    ∷ (16, 256, 0, nines)
    ∷ (17, 256, 0, nines)
    ∷ (15, 0, 0, nines)
    ∷ (20, 0, 0, nines)
    ∷ []

-- all rows together
pub journal_rows :
    (map (λ (c : Case). shown c.0) cases ≡ map (λ (c : Case). (c.1, c.2, c.3, c.4, c.5, c.6)) cases)
    × (map (λ (a : Append). appended a.0 a.1 a.2 a.3) appends ≡ map (λ (a : Append). (a.4, a.5, a.6, a.7)) appends)
    × (map (λ (l : Lent). lent l.0 l.1) lents ≡ map (λ (l : Lent). (l.2, l.3)) lents)
unfolding open_journal opened_at run run_up_to front read_plan read_from record_fault first_fault declare add_event add_rule
    add_events add_window rule_of tabulate any_below all_below count_below first_of lowest hold settle_as shut break_rule set_minute named
    enforceable has_event allowed_at over_at allowed_in over_in sound_event sound_rule bad_window sound_window sound_windows bars
    makes_wait forbids owes ready listed_as fates_in any_done done_in done_in_turn holds declared_only same_fates ruled_out barred
    forbidden owing strains may_do do_all order_of chosen to_refuse to_do settle_once settle_up_to settle record_broken do_alone
    decide submit lapse close_step refuse_held finish advance_to coherent_event coherent_rule coherent call_fault accept call
    first_call advance_in any_call_first append append_to room_for written_by asked_call asked_reply buffer_asked record_in record_size shown
    appended lent
journal_rows = (refl, refl, refl)

-- a host's morning, by the definition of what is kept: a submit is appended to the sheet alone, its last byte is lost,
-- what is left is cut back, and a closing is appended in a buffer that holds other bytes behind it
pub kept_morning : Kept calls sheet_a (sheet_a ++ (17 ∷ 1 ∷ [])) (Close 1 ∷ [])
unfolding open_journal opened_at run run_up_to front read_plan read_from record_fault first_fault declare add_event add_rule
    add_events add_window rule_of tabulate any_below all_below count_below first_of lowest hold settle_as shut break_rule set_minute named
    enforceable has_event allowed_at over_at allowed_in over_in sound_event sound_rule bad_window sound_window sound_windows bars
    makes_wait forbids owes ready listed_as fates_in any_done done_in done_in_turn holds declared_only same_fates ruled_out barred
    forbidden owing strains may_do do_all order_of chosen to_refuse to_do settle_once settle_up_to settle record_broken do_alone
    decide submit lapse close_step refuse_held finish advance_to coherent_event coherent_rule coherent call_fault accept call
    whole_within first_call advance_in any_call_first append append_to room_for written_by
kept_morning =
    store {b = sheet_a} {cs = []}
    (cut_back {b = sheet_a ++ (16 ∷ [])} {cs = []}
    (lost {b = sheet_a ++ (16 ∷ 0 ∷ [])} {cs = Submit 0 ∷ []}
    (store {b = sheet_a} {cs = []} fresh (0 ∷ 0 ∷ []) (Submit 0) 13 15 refl refl)
    14 (omega arith))
    (journal_read (open_journal calls (sheet_a ++ (16 ∷ [])))).state 13 1 refl)
    (9 ∷ 9 ∷ 9 ∷ []) (Close 1) 13 15 refl refl

-- the theorems, applied to case A's sheet and to this morning: their premises can be met
abbrev first_a : State
first_a = (read_sheet sheet_a).state

pub instances :
    SurvivesCut calls sheet_a first_a.plan (Submit 0 ∷ Close 1 ∷ [])
    × AppendsCall calls (sheet_a ++ (17 ∷ 7 ∷ 238 ∷ [])) 14 (Submit 0) 13 15
    × StoresRecord (sheet_a ++ (17 ∷ [])) first_a 13 (Submit 0)
    × HoldsCalls (sheet_a ++ (16 ∷ 0 ∷ 5 ∷ [])) (call first_a (Submit 0)).state 15
    × Demand3 first_a.plan (seen scheduler first_a (Close 1 ∷ [])) (state_of (open_journal calls (sheet_a ++ (17 ∷ 1 ∷ []))))
    × (open_journal calls (sheet_a ++ (17 ∷ 1 ∷ [])) ≡ opens_after calls (sheet_a ++ (17 ∷ 1 ∷ [])) sheet_a first_a (Close 1 ∷ []))
    × (open_journal calls (take 13 (sheet_a ++ (16 ∷ []))) ≡ Opens first_a 13 0)
unfolding turned_down read_sheet sheet_plan ending open_journal opened_at run run_up_to front read_plan read_from record_fault first_fault declare add_event add_rule
    add_events add_window rule_of tabulate any_below all_below count_below first_of lowest hold settle_as shut break_rule set_minute named
    enforceable has_event allowed_at over_at allowed_in over_in sound_event sound_rule bad_window sound_window sound_windows bars
    makes_wait forbids owes ready listed_as fates_in any_done done_in done_in_turn holds declared_only same_fates ruled_out barred
    forbidden owing strains may_do do_all order_of chosen to_refuse to_do settle_once settle_up_to settle record_broken do_alone
    decide submit lapse close_step refuse_held finish advance_to coherent_event coherent_rule coherent call_fault accept call
    whole_within first_call advance_in any_call_first append append_to room_for written_by
instances = (
  cut sheet_a first_a refl (Submit 0 ∷ Close 1 ∷ []) refl,
  appending (sheet_a ++ (17 ∷ 7 ∷ 238 ∷ [])) 14 (Submit 0) 13 15 refl,
  stores_record (sheet_a ++ (17 ∷ [])) first_a 13 1 refl (Submit 0) refl,
  broken_holds (sheet_a ++ (16 ∷ 0 ∷ 5 ∷ [])) (call first_a (Submit 0)).state 15 refl,
  keeps_demand3 sheet_a first_a refl (sheet_a ++ (17 ∷ 1 ∷ [])) (Close 1 ∷ []) kept_morning,
  keeps sheet_a first_a refl (sheet_a ++ (17 ∷ 1 ∷ [])) (Close 1 ∷ []) kept_morning,
  open_again calls lawful (sheet_a ++ (16 ∷ [])) first_a 13 1 refl,
)

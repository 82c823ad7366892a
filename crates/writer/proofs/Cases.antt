-- Sheets written out, by computation: the form, mixed records, what stands past the counts, each number and the order of the
-- tests (14.18). Bytes are written in decimal.
use Prim.Native.Nat.{ℕ}
use mathlib.Core.List.{List, [], ◌∷◌, ◌++◌, map}
use mathlib.Core.Path.{◌≡◌, refl}
use lib.ListN.{length, set}
use Rattle.writer.specs.Types.{Submit, Close, State}
use Rattle.plan.specs.Base.{any_below, all_below, first_of, tabulate, lowest}
use Rattle.plan.specs.Plans.{has_event, allowed_in, over_in, allowed_at, over_at}
use Rattle.plan.specs.Rules.{named, enforceable, sound_event, sound_rule, unstoppable, reckoned, triggered, bars, makes_wait, forbids, owes, ready, bad_window, sound_window, sound_windows}
use Rattle.plan.specs.Histories.{listed_as, fates_in, any_done, done_in, done_in_turn, holds, declared_only, same_fates}
use Rattle.plan.specs.Faults.{first_fault}
use Rattle.plan.specs.Records.{rule_of, add_event, add_rule, add_events, declare, record_fault, add_window}
use Rattle.plan.specs.Sheets.{sheet_plan, ending, read_from, read_plan}
use Rattle.plan.proofs.FormatCases.{times}
use Rattle.scheduler.specs.State.{first_state, empty_state, hold, settle_as, shut, break_rule}
use Rattle.scheduler.specs.Rules.{barred, forbidden, owing, strains, ruled_out}
use Rattle.scheduler.specs.Orders.{may_do, do_all, order_of, chosen}
use Rattle.scheduler.specs.Calls.{to_refuse, to_do, settle_once, settle_up_to, settle, record_broken, do_alone, decide, submit, lapse, close_step, refuse_held, finish}
use Rattle.scheduler.specs.Coherent.{coherent_event, coherent_rule, coherent}
use Rattle.scheduler.specs.Answers.{call_fault, accept, call}
use Rattle.scheduler.specs.Lists.{scheduler, after}
use Rattle.scheduler.specs.Sheet.{read_sheet}
use Rattle.scheduler.proofs.Cases.{sheet_a, sheet_d, sheet_l, first_on}
use Rattle.pages.specs.Filled.{filled}
use Rattle.image.specs.Layout.{image_of, place_ok, is_image}
use Rattle.writer.specs.Writing.{joined, sheet_bytes, reply_number, reply_length, write_fault, write_reply, buffer_after, window_record, window_bytes}
use Rattle.writer.specs.Kept.{write_number_on, need_on, buffer_on}

-- what writing into a lent buffer comes to: the number, the length that is given, and the buffer
abbrev pub Outcome : Type 0
Outcome = ℕ × ℕ × List ℕ

unfoldable pub outcome : State → List ℕ → Outcome
outcome s out = let reply = write_reply s (length out) in (reply_number reply, reply_length reply, buffer_after s out)

-- a row: the state, the lent buffer, what writing comes to
abbrev pub Case : Type 0
Case = State × List ℕ × ℕ × ℕ × List ℕ

-- as many bytes of the buffer's own
abbrev pub own : ℕ → List ℕ
own n = times n (99 ∷ [])

-- four events of kind 6 between two of kind 1, and rules between them
abbrev pub mixed : List ℕ
mixed =
    1 ∷ 1 ∷ 6 ∷ 6 ∷ 0 ∷ 2 ∷ 1 ∷ 0 ∷ 4 ∷ 0 ∷ 3 ∷ 4 ∷ 1 ∷ 2 ∷ 6 ∷ 3 ∷ 5 ∷ 0 ∷ 5 ∷ []

abbrev pub unmixed : List ℕ
unmixed =
    1 ∷ 1 ∷ 6 ∷ 1 ∷ 0 ∷ 7 ∷ 1 ∷ 0 ∷ 0 ∷ 1 ∷ 0 ∷ 6 ∷ 1 ∷ 0 ∷ 1 ∷ 1 ∷ 2 ∷ 6
    ∷ 2 ∷ 1 ∷ 0 ∷ 4 ∷ 0 ∷ 3 ∷ 4 ∷ 3 ∷ 5 ∷ 0 ∷ 5 ∷ []

-- case A's plan of which one event is declared: a second one and two rules still stand in their places
abbrev pub leftover : State
leftover = first_state (record {
  events = (first_on sheet_a).plan.events;
  event_count = 1;
  rules = (first_on sheet_a).plan.rules;
  rule_count = 0;
  windows = (first_on sheet_a).plan.windows;
})

-- windows on events 2 and 0, the latter before a rule; they are written after the rules, by event
abbrev pub early : List ℕ
early = 1 ∷ 0 ∷ 6 ∷ 7 ∷ 0 ∷ 2 ∷ 1 ∷ 0 ∷ 0 ∷ 1 ∷ 2 ∷ 3 ∷ 4 ∷ 1 ∷ 1 ∷ 6 ∷ 1 ∷ 1 ∷ 6 ∷ 7 ∷ 2 ∷ 0 ∷ 0 ∷ 0 ∷ 0 ∷ 1 ∷ 0 ∷ 0 ∷ 255 ∷ 2 ∷ 0 ∷ 1 ∷ 5 ∷ []

abbrev pub sorted : List ℕ
sorted = 1 ∷ 0 ∷ 6 ∷ 1 ∷ 1 ∷ 6 ∷ 1 ∷ 1 ∷ 6 ∷ 2 ∷ 0 ∷ 1 ∷ 7 ∷ 0 ∷ 2 ∷ 1 ∷ 0 ∷ 0 ∷ 1 ∷ 2 ∷ 3 ∷ 4 ∷ 7 ∷ 2 ∷ 0 ∷ 0 ∷ 0 ∷ 0 ∷ 1 ∷ 0 ∷ 0 ∷ 255 ∷ 5 ∷ []

-- the longest sheet: 16 events, 16 conditionals and 16 windows
abbrev pub longest : List ℕ
longest =
    times 16 (1 ∷ 0 ∷ 7 ∷ [])
    ++ times 16 (4 ∷ 0 ∷ 1 ∷ 2 ∷ [])
    ++ joined (λ (e : ℕ). 7 ∷ e ∷ 0 ∷ 0 ∷ 0 ∷ 0 ∷ 1 ∷ 0 ∷ 0 ∷ 0 ∷ []) (tabulate 16 0 (λ e. e))
    ++ (5 ∷ [])

abbrev pub cases : List Case
cases =
    -- the empty state is the end record alone; the bytes beyond it stay
    (empty_state, own 3, 0, 1, 5 ∷ own 2)
    ∷ (empty_state, own 1, 0, 1, 5 ∷ [])
    ∷ (empty_state, [], 14, 1, [])
    -- case A: as it was; in a buffer that is exactly as long, longer, one byte short
    ∷ (first_on sheet_a, own 13, 0, 13, sheet_a)
    ∷ (first_on sheet_a, own 15, 0, 13, sheet_a ++ own 2)
    ∷ (first_on sheet_a, own 12, 14, 13, own 12)
    ∷ (first_on sheet_a, [], 14, 13, [])
    -- whatever has become of its events
    ∷ (after scheduler (first_on sheet_a) (Submit 0 ∷ []), own 13, 0, 13, sheet_a)
    ∷ (after scheduler (first_on sheet_a) (Submit 0 ∷ Close 1 ∷ []), own 13, 0, 13, sheet_a)
    -- case L: a conditional has four bytes
    ∷ (first_on sheet_l, own 15, 0, 14, sheet_l ++ own 1)
    -- events before rules, and four events for kind 6
    ∷ (first_on mixed, own 30, 0, 29, unmixed ++ own 1)
    ∷ (first_on unmixed, own 30, 0, 29, unmixed ++ own 1)
    ∷ (first_on (6 ∷ 3 ∷ 5 ∷ []), own 13, 0, 13, 1 ∷ 3 ∷ 7 ∷ 1 ∷ 3 ∷ 0 ∷ 1 ∷ 3 ∷ 6 ∷ 1 ∷ 3 ∷ 1 ∷ 5 ∷ [])
    -- what stands past the counts is not written
    ∷ (leftover, own 5, 0, 4, 1 ∷ 0 ∷ 6 ∷ 5 ∷ 99 ∷ [])
    -- windows after the rules, by event
    ∷ (first_on early, own 34, 0, 33, sorted ++ own 1)
    ∷ (first_on sorted, own 32, 14, 33, own 32)
    -- 273 bytes are the most
    ∷ (first_on longest, own 273, 0, 273, longest)
    -- 12, and 12 before 14: event 0 is held and cannot wait
    ∷ (hold (first_on sheet_d) 0, own 10, 12, 0, own 10)
    ∷ (hold (first_on sheet_d) 0, own 9, 12, 0, own 9)
    ∷ (hold (first_on sheet_d) 0, [], 12, 0, [])
    ∷ []

-- the joint proof
pub written : map (λ (c : Case). outcome c.0 c.1) cases ≡ map (λ (c : Case). (c.2, c.3, c.4)) cases
unfolding outcome allowed_at allowed_in over_at over_in ruled_out sound_window sound_windows bad_window add_window window_record window_bytes tabulate any_below all_below first_of lowest hold settle_as shut break_rule named enforceable sound_event
    sound_rule unstoppable reckoned triggered bars makes_wait forbids owes barred forbidden owing fates_in any_done done_in done_in_turn holds ready may_do
    do_all order_of chosen to_refuse to_do settle_once settle_up_to settle strains record_broken do_alone decide submit lapse
    close_step refuse_held finish first_fault declared_only same_fates listed_as coherent_event coherent_rule coherent has_event
    call_fault accept call rule_of add_event add_rule add_events declare record_fault ending read_from read_plan sheet_plan
    read_sheet after filled joined sheet_bytes write_fault write_reply buffer_after
written = refl

-- case A's image with the last spare byte set is no image: 12, no length, and nothing is written, whatever the buffer
abbrev pub damaged_a : List ℕ
damaged_a = set (image_of (first_on sheet_a)) 383 1

pub damaged :
    (map (write_number_on damaged_a) (0 ∷ 13 ∷ []) ≡ 12 ∷ 12 ∷ [])
    × (need_on damaged_a ≡ 0)
    × (map (buffer_on damaged_a) (own 0 ∷ own 13 ∷ []) ≡ own 0 ∷ own 13 ∷ [])
unfolding write_number_on need_on buffer_on image_of is_image place_ok all_below tabulate named enforceable rule_of add_event add_rule
    add_events declare record_fault ending read_from read_plan sheet_plan read_sheet first_fault
damaged = (refl, refl, refl)

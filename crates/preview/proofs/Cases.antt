-- Previews by computation: cases of section 14, each fate, each number and the order of the tests (14.17). Bytes are written
-- in decimal.
use Prim.Native.Nat.{ℕ}
use mathlib.Core.List.{List, [], ◌∷◌, map}
use mathlib.Core.Path.{◌≡◌, refl}
use lib.ListN.{set}
use Rattle.preview.specs.Types.{Submit, Close, State}
use Rattle.plan.specs.Base.{any_below, all_below, first_of, tabulate, lowest}
use Rattle.plan.specs.Plans.{has_event, allowed_in, over_in, allowed_at, over_at}
use Rattle.plan.specs.Rules.{named, enforceable, sound_event, sound_rule, bars, makes_wait, forbids, owes, ready, bad_window, sound_window, sound_windows}
use Rattle.plan.specs.Histories.{listed_as, fates_in, any_done, done_in, done_in_turn, holds, declared_only, same_fates}
use Rattle.plan.specs.Faults.{first_fault}
use Rattle.plan.specs.Records.{rule_of, add_event, add_rule, add_events, declare, record_fault, add_window}
use Rattle.plan.specs.Sheets.{sheet_plan, ending, read_from, read_plan}
use Rattle.scheduler.specs.State.{hold, settle_as, shut, break_rule}
use Rattle.scheduler.specs.Rules.{barred, forbidden, owing, strains, ruled_out}
use Rattle.scheduler.specs.Orders.{may_do, do_all, order_of, chosen}
use Rattle.scheduler.specs.Calls.{to_refuse, to_do, settle_once, settle_up_to, settle, record_broken, do_alone, decide, submit, lapse, close_step, refuse_held, finish}
use Rattle.scheduler.specs.Coherent.{coherent_event, coherent_rule, coherent}
use Rattle.scheduler.specs.Answers.{call_fault, accept, call}
use Rattle.scheduler.specs.Lists.{scheduler, after}
use Rattle.scheduler.specs.Sheet.{read_sheet}
use Rattle.scheduler.proofs.Cases.{sheet_a, sheet_d, sheet_g, first_on}
use Rattle.image.specs.Layout.{image_of, place_ok, is_image}
use Rattle.preview.specs.Preview.{preview_of}
use Rattle.preview.specs.Kept.{preview_number, written_by, preview_number_on, counts_on}

-- what a preview comes to: its number, and the four bytes that held 61 to 64 before
abbrev pub Outcome : Type 0
Outcome = ℕ × List ℕ

abbrev pub lent : List ℕ
lent = 61 ∷ 62 ∷ 63 ∷ 64 ∷ []

unfoldable pub outcome : State → ℕ → Outcome
outcome s e = (preview_number (preview_of s e), written_by (preview_of s e) lent)

-- a row: the state, the event, what its preview comes to
abbrev pub Case : Type 0
Case = State × ℕ × ℕ × List ℕ

-- event 0 needs 1 and has to come before 2, which cannot wait
abbrev pub sheet_both : List ℕ
sheet_both = 1 ∷ 0 ∷ 6 ∷ 1 ∷ 1 ∷ 6 ∷ 1 ∷ 2 ∷ 2 ∷ 3 ∷ 0 ∷ 1 ∷ 2 ∷ 0 ∷ 2 ∷ 5 ∷ []

abbrev pub cases : List Case
cases =
    -- case A: event 0 would wait; once it does, event 1 would settle both
    (first_on sheet_a, 0, 0, 0 ∷ 0 ∷ 0 ∷ 0 ∷ [])
    ∷ (after scheduler (first_on sheet_a) (Submit 0 ∷ []), 1, 0, 2 ∷ 0 ∷ 0 ∷ 0 ∷ [])
    -- case D: event 0 would be done and event 1 forced, which is not counted as done; case E: one done alone
    ∷ (first_on sheet_d, 0, 0, 1 ∷ 0 ∷ 0 ∷ 1 ∷ [])
    -- event 1 handed in first is not forced by its own hand-in, though it is forcible; once forced it would settle nothing
    ∷ (first_on sheet_d, 1, 0, 1 ∷ 0 ∷ 0 ∷ 0 ∷ [])
    ∷ (after scheduler (first_on sheet_d) (Submit 0 ∷ []), 1, 0, 0 ∷ 0 ∷ 0 ∷ 0 ∷ [])
    ∷ (after scheduler (first_on sheet_d) (Close 1 ∷ []), 0, 0, 1 ∷ 0 ∷ 0 ∷ 0 ∷ [])
    -- case G: an event that would be refused
    ∷ (after scheduler (first_on sheet_g) (Submit 1 ∷ []), 0, 0, 0 ∷ 1 ∷ 0 ∷ 0 ∷ [])
    -- event 2 would be done, and event 0, which is held, refused with it
    ∷ (after scheduler (first_on sheet_both) (Submit 0 ∷ []), 2, 0, 1 ∷ 1 ∷ 0 ∷ 0 ∷ [])
    -- what the history has already is not counted: case B's lapsed and refused lines, and those of case A
    ∷ (after scheduler (first_on sheet_a) (Submit 0 ∷ Close 1 ∷ []), 0, 0, 0 ∷ 0 ∷ 0 ∷ 0 ∷ [])
    ∷ (after scheduler (first_on sheet_both) (Close 1 ∷ []), 0, 0, 0 ∷ 1 ∷ 0 ∷ 0 ∷ [])
    -- an event that is held, done or lapsed would settle nothing, also where event 0 could be done
    ∷ (after scheduler (first_on sheet_a) (Submit 0 ∷ []), 0, 0, 0 ∷ 0 ∷ 0 ∷ 0 ∷ [])
    ∷ (after scheduler (first_on sheet_g) (Submit 1 ∷ []), 1, 0, 0 ∷ 0 ∷ 0 ∷ 0 ∷ [])
    ∷ (after scheduler (first_on sheet_d) (Close 1 ∷ []), 1, 0, 0 ∷ 0 ∷ 0 ∷ 0 ∷ [])
    ∷ (hold (first_on sheet_g) 0, 0, 0, 0 ∷ 0 ∷ 0 ∷ 0 ∷ [])
    -- no such event: 9, and nothing is written
    ∷ (first_on sheet_a, 2, 9, lent)
    ∷ (first_on sheet_a, 255, 9, lent)
    ∷ ((read_sheet []).state, 0, 9, lent)
    -- 12, and 12 before 9: event 0 is held and cannot wait
    ∷ (hold (first_on sheet_d) 0, 1, 12, lent)
    ∷ (hold (first_on sheet_d) 0, 2, 12, lent)
    ∷ []

-- the joint proof
pub previewed : map (λ (c : Case). outcome c.0 c.1) cases ≡ map (λ (c : Case). (c.2, c.3)) cases
unfolding outcome allowed_at allowed_in over_at over_in ruled_out sound_window sound_windows bad_window add_window tabulate any_below all_below first_of lowest hold settle_as shut break_rule named enforceable sound_event
    sound_rule bars makes_wait forbids owes barred forbidden owing fates_in any_done done_in done_in_turn holds ready may_do
    do_all order_of chosen to_refuse to_do settle_once settle_up_to settle strains record_broken do_alone decide submit lapse
    close_step refuse_held finish first_fault declared_only same_fates listed_as coherent_event coherent_rule coherent has_event
    call_fault accept call rule_of add_event add_rule add_events declare record_fault ending read_from read_plan sheet_plan
    read_sheet after preview_of
previewed = refl

-- case A's image with the last spare byte set is no image: 12, and nothing is written, whatever the event
abbrev pub damaged_a : List ℕ
damaged_a = set (image_of (first_on sheet_a)) 383 1

pub damaged :
    (map (preview_number_on damaged_a) (0 ∷ 1 ∷ 2 ∷ []) ≡ 12 ∷ 12 ∷ 12 ∷ [])
    × (map (λ (e : ℕ). counts_on damaged_a e lent) (0 ∷ 1 ∷ 2 ∷ []) ≡ lent ∷ lent ∷ lent ∷ [])
unfolding preview_number_on counts_on image_of is_image place_ok all_below tabulate named enforceable rule_of add_event add_rule
    add_events declare record_fault ending read_from read_plan sheet_plan read_sheet first_fault
damaged = (refl, refl)

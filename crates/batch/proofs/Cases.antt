-- Batches by computation: cases of section 14 handed in together, each number, each bound, and the order of the tests
-- (14.16). Bytes are written in decimal.
use Prim.Native.Nat.{ℕ}
use mathlib.Core.List.{List, [], ◌∷◌, map}
use mathlib.Core.Path.{◌≡◌, refl}
use lib.ListN.{set, replicate}
use Rattle.batch.specs.Types.{Fate, Done, Refused, Lapsed, Forced, Submit, Close, State, BatchEntry}
use Rattle.plan.specs.Base.{any_below, all_below, first_of, tabulate, lowest}
use Rattle.plan.specs.Plans.{has_event, allowed_in, over_in, allowed_at, over_at}
use Rattle.plan.specs.Rules.{named, enforceable, sound_event, sound_rule, bars, makes_wait, forbids, owes, ready, bad_window, sound_window, sound_windows}
use Rattle.plan.specs.Histories.{listed_as, fates_in, any_done, done_in, done_in_turn, holds, declared_only, same_fates}
use Rattle.plan.specs.Faults.{answer_number, first_fault}
use Rattle.plan.specs.Records.{rule_of, add_event, add_rule, add_events, declare, record_fault, add_window}
use Rattle.plan.specs.Sheets.{sheet_plan, ending, read_from, read_plan}
use Rattle.scheduler.specs.State.{lines, hold, settle_as, shut, break_rule}
use Rattle.scheduler.specs.Rules.{barred, forbidden, owing, strains, ruled_out}
use Rattle.scheduler.specs.Orders.{may_do, do_all, order_of, chosen}
use Rattle.scheduler.specs.Calls.{to_refuse, to_do, settle_once, settle_up_to, settle, record_broken, do_alone, decide, submit, lapse, close_step, refuse_held, finish}
use Rattle.scheduler.specs.Coherent.{coherent_event, coherent_rule, coherent}
use Rattle.scheduler.specs.Answers.{call_fault, accept, call}
use Rattle.scheduler.specs.Lists.{scheduler, after}
use Rattle.scheduler.specs.Sheet.{read_sheet}
use Rattle.scheduler.proofs.Cases.{sheet_a, sheet_d, sheet_g, first_on}
use Rattle.image.specs.Layout.{image_of, place_ok, is_image}
use Rattle.batch.specs.Batch.{asked_by, calls_of, answered, after_entry, answers, batch_fault, batch_reply, batch_entries}
use Rattle.batch.specs.Kept.{batch_number_on, image_after_batch, entries_on}

-- an entry, by its kind and number; what its answer held before does not matter
abbrev pub entry : ℕ × ℕ → BatchEntry
entry x = record { kind = x.0; number = x.1; refused = 77; fate = 66 }

-- what a batch comes to: its number, each entry's number and fate, and the history
abbrev pub Outcome : Type 0
Outcome = ℕ × List (ℕ × ℕ) × List (ℕ × Fate)

unfoldable pub outcome : State → List (ℕ × ℕ) → Outcome
outcome s es =
    let r = batch_reply s (map entry es) in (
      answer_number r.answer,
      map (λ (e : BatchEntry). (e.refused, e.fate)) (batch_entries s (map entry es)),
      map (λ l. (l.event, l.fate)) (lines r.state),
    )

-- a row: the state, the entries, what they come to
abbrev pub Case : Type 0
Case = State × List (ℕ × ℕ) × ℕ × List (ℕ × ℕ) × List (ℕ × Fate)

-- one event, delayable
abbrev pub sheet_one : List ℕ
sheet_one = 1 ∷ 0 ∷ 6 ∷ 5 ∷ []

abbrev pub cases : List Case
cases =
    -- case A: event 0 carries the fate that it had after its own turn, though the next entry does it
    (first_on sheet_a, (16, 0) ∷ (16, 1) ∷ [], 0, (0, 1) ∷ (0, 2) ∷ [], (0, Done) ∷ (1, Done) ∷ [])
    -- case B: a closing that is taken carries 0 and 0
    ∷ (first_on sheet_a, (16, 0) ∷ (17, 1) ∷ [], 0, (0, 1) ∷ (0, 0) ∷ [], (1, Lapsed) ∷ (0, Refused) ∷ [])
    -- case D: event 1, which is forced with event 0, carries 5; handed in first it is done
    ∷ (first_on sheet_d, (16, 0) ∷ (16, 1) ∷ [], 0, (0, 2) ∷ (0, 5) ∷ [], (0, Done) ∷ (1, Forced) ∷ [])
    ∷ (first_on sheet_d, (16, 1) ∷ (16, 0) ∷ [], 0, (0, 2) ∷ (0, 2) ∷ [], (1, Done) ∷ (0, Done) ∷ [])
    -- cases E and G: a lapsed event, one done alone, one refused
    ∷ (first_on sheet_d, (17, 1) ∷ (16, 0) ∷ (16, 1) ∷ [], 0, (0, 0) ∷ (0, 2) ∷ (0, 4) ∷ [], (1, Lapsed) ∷ (0, Done) ∷ [])
    ∷ (first_on sheet_g, (16, 1) ∷ (16, 0) ∷ [], 0, (0, 2) ∷ (0, 3) ∷ [], (1, Done) ∷ (0, Refused) ∷ [])
    -- entries turned down by 9 and by 10: the later ones go ahead
    ∷ (first_on sheet_a, (16, 0) ∷ (16, 7) ∷ (17, 5) ∷ (16, 1) ∷ [], 0, (0, 1) ∷ (9, 0) ∷ (9, 0) ∷ (0, 2) ∷ [], (0, Done) ∷ (1, Done) ∷ [])
    ∷ (first_on sheet_a, (17, 0) ∷ (17, 0) ∷ (17, 8) ∷ (16, 0) ∷ [], 0, (0, 0) ∷ (10, 0) ∷ (9, 0) ∷ (0, 4) ∷ [], (0, Lapsed) ∷ [])
    -- another kind is turned down by 2, winding up too
    ∷ (first_on sheet_a, (18, 0) ∷ (0, 0) ∷ (15, 0) ∷ (255, 1) ∷ (16, 0) ∷ [], 0, (2, 0) ∷ (2, 0) ∷ (2, 0) ∷ (2, 0) ∷ (0, 1) ∷ [], [])
    -- an entry that repeats an earlier one
    ∷ (first_on sheet_a, (16, 0) ∷ (16, 0) ∷ (16, 1) ∷ (16, 0) ∷ [], 0, (0, 1) ∷ (0, 1) ∷ (0, 2) ∷ (0, 2) ∷ [], (0, Done) ∷ (1, Done) ∷ [])
    -- on a state after calls
    ∷ (after scheduler (first_on sheet_a) (Submit 0 ∷ Close 0 ∷ []), (17, 0) ∷ (16, 1) ∷ [], 0, (10, 0) ∷ (0, 2) ∷ [], (0, Done) ∷ (1, Done) ∷ [])
    -- an empty list is taken and settles nothing, though event 0 could be done
    ∷ (hold (first_on sheet_g) 0, [], 0, [], [])
    ∷ (hold (first_on sheet_g) 0, (16, 0) ∷ (16, 2) ∷ [], 0, (0, 1) ∷ (9, 0) ∷ [], [])
    -- 64 entries, and one more
    ∷ (first_on sheet_one, replicate 64 (16, 0), 0, replicate 64 (0, 2), (0, Done) ∷ [])
    ∷ (first_on sheet_one, replicate 65 (16, 0), 13, replicate 65 (77, 66), [])
    -- 12, and 12 before 13: event 0 is held and cannot wait
    ∷ (hold (first_on sheet_d) 0, (16, 1) ∷ [], 12, (77, 66) ∷ [], [])
    ∷ (hold (first_on sheet_d) 0, [], 12, [], [])
    ∷ (hold (first_on sheet_d) 0, replicate 65 (16, 1), 12, replicate 65 (77, 66), [])
    ∷ []

-- the joint proof
pub batched : map (λ (c : Case). outcome c.0 c.1) cases ≡ map (λ (c : Case). (c.2, c.3, c.4)) cases
unfolding outcome allowed_at allowed_in over_at over_in ruled_out sound_window sound_windows bad_window add_window tabulate any_below all_below first_of lowest hold settle_as shut break_rule named enforceable sound_event
    sound_rule bars makes_wait forbids owes barred forbidden owing fates_in any_done done_in done_in_turn holds ready may_do
    do_all order_of chosen to_refuse to_do settle_once settle_up_to settle strains record_broken do_alone decide submit lapse
    close_step refuse_held finish first_fault declared_only same_fates listed_as coherent_event coherent_rule coherent has_event
    call_fault accept call rule_of add_event add_rule add_events declare record_fault ending read_from read_plan sheet_plan
    read_sheet after asked_by calls_of answered after_entry answers batch_fault batch_reply batch_entries
batched = refl

-- case A's image with the last spare byte set is no image: 12, and nothing is written, however many entries there are
abbrev pub damaged_a : List ℕ
damaged_a = set (image_of (first_on sheet_a)) 383 1

pub damaged :
    (map (λ (n : ℕ). batch_number_on damaged_a (replicate n (entry (16, 0)))) (0 ∷ 1 ∷ 65 ∷ []) ≡ 12 ∷ 12 ∷ 12 ∷ [])
    × (image_after_batch damaged_a (entry (16, 0) ∷ []) ≡ damaged_a)
    × (entries_on damaged_a (entry (16, 0) ∷ []) ≡ entry (16, 0) ∷ [])
unfolding batch_number_on image_after_batch entries_on image_of is_image place_ok all_below tabulate named enforceable rule_of add_event
    add_rule add_events declare record_fault ending read_from read_plan sheet_plan read_sheet first_fault
damaged = (refl, refl, refl)

-- Images by computation: case A byte by byte, first, with one event held, and with both done; case D's forced event;
-- numbers of calls; and damaged images.
use Prim.Native.Nat.{ℕ}
use mathlib.Core.List.{List, [], ◌∷◌, ◌++◌, map}
use mathlib.Core.Path.{◌≡◌, refl}
use lib.ListN.{get_or, set, replicate}
use Rattle.image.specs.Types.{Submit, Close, Finish, Advance}
use Rattle.plan.specs.Base.{any_below, all_below, first_of, tabulate, lowest}
use Rattle.plan.specs.Plans.{has_event, allowed_in, over_in, allowed_at, over_at}
use Rattle.plan.specs.Rules.{named, enforceable, sound_event, sound_rule, bars, makes_wait, forbids, owes, ready, bad_window, sound_window, sound_windows}
use Rattle.plan.specs.Histories.{listed_as, fates_in, any_done, done_in, done_in_turn, holds, declared_only, same_fates}
use Rattle.plan.specs.Faults.{first_fault}
use Rattle.plan.specs.Records.{rule_of, add_event, add_rule, add_events, add_window, declare, record_fault}
use Rattle.plan.specs.Sheets.{sheet_plan, ending, read_from, read_plan}
use Rattle.scheduler.specs.State.{hold, settle_as, shut, break_rule, set_minute}
use Rattle.scheduler.specs.Rules.{ruled_out, barred, forbidden, owing, strains}
use Rattle.scheduler.specs.Orders.{may_do, do_all, order_of, chosen}
use Rattle.scheduler.specs.Calls.{to_refuse, to_do, settle_once, settle_up_to, settle, record_broken, do_alone, decide, submit, lapse, close_step, refuse_held, finish, advance_to}
use Rattle.scheduler.specs.Coherent.{coherent_event, coherent_rule, coherent}
use Rattle.scheduler.specs.Answers.{call_fault, accept, call}
use Rattle.scheduler.specs.Sheet.{read_sheet}
use Rattle.image.specs.Layout.{image_of, plan_in, state_in, place_ok, word_ok, is_image}
use Rattle.image.specs.Calls.{number_on, image_after, numbers_on, images_after, is_sound, check_on}

abbrev zeros : ℕ → List ℕ
zeros n = replicate n 0

-- case A: two delayable events, 0 before 1, and 0 only if 1
abbrev sheet_a : List ℕ
sheet_a = 1 ∷ 0 ∷ 6 ∷ 1 ∷ 1 ∷ 6 ∷ 2 ∷ 0 ∷ 1 ∷ 3 ∷ 0 ∷ 1 ∷ 5 ∷ []

-- its image with some lines, fates, events of lines and fates of lines
abbrev image_a : ℕ → List ℕ → List ℕ → List ℕ → List ℕ
image_a lines fates events line-fates =
    (1 ∷ 2 ∷ 2 ∷ lines ∷ [])
    ++ (0 ∷ 1 ∷ zeros 14)  -- steps
    ++ (6 ∷ 6 ∷ zeros 14)  -- attributes
    ++ (2 ∷ 3 ∷ replicate 14 2)  -- kinds of rules
    ++ (0 ∷ 0 ∷ zeros 14)  -- a
    ++ (1 ∷ 1 ∷ zeros 14)  -- b
    ++ zeros 16  -- c
    ++ fates
    ++ zeros 16  -- broken
    ++ zeros 8  -- closed
    ++ events
    ++ line-fates
    ++ zeros 132  -- the minute and the windows
    ++ zeros 80

abbrev first_a : List ℕ
first_a = image_a 0 (zeros 16) (zeros 16) (zeros 16)

abbrev held_a : List ℕ
held_a = image_a 0 (1 ∷ zeros 15) (zeros 16) (zeros 16)

abbrev done_a : List ℕ
done_a = image_a 2 (2 ∷ 2 ∷ zeros 14) (0 ∷ 1 ∷ zeros 14) (2 ∷ 2 ∷ zeros 14)

-- case D after its one call: event 0 is done, and event 1 forced
abbrev after_d : List ℕ
after_d = images_after (image_of (read_sheet (1 ∷ 0 ∷ 1 ∷ 1 ∷ 1 ∷ 1 ∷ 3 ∷ 0 ∷ 1 ∷ 5 ∷ [])).state) (Submit 0 ∷ [])

-- one delayable event with the window from minute 258 up to minute 67305985
abbrev windowed : List ℕ
windowed = image_of (read_sheet (1 ∷ 0 ∷ 6 ∷ 7 ∷ 0 ∷ 2 ∷ 1 ∷ 0 ∷ 0 ∷ 1 ∷ 2 ∷ 3 ∷ 4 ∷ 5 ∷ [])).state

-- some bytes of an image
abbrev pick : List ℕ → List ℕ → List ℕ
pick ks b = map (λ (k : ℕ). get_or b k 0) ks

-- a byte of the image with event 0 held, changed, and what the check says
abbrev Damage : Type 0
Damage = ℕ × ℕ × ℕ

abbrev damages : List Damage
damages =
    (0, 1, 0)  -- as it is
    ∷ (0, 0, 12)  -- no version
    ∷ (0, 2, 12)  -- another version
    ∷ (19, 9, 0)  -- the step of an event that is not declared
    ∷ (36, 1, 12)  -- the kinds of rules are 2 to 4
    ∷ (51, 5, 12)
    ∷ (84, 1, 12)  -- an order has no third event
    ∷ (115, 5, 0)  -- fates are 0 to 5, also of an event that is not declared
    ∷ (115, 6, 12)
    ∷ (131, 2, 12)  -- marks are 0 and 1
    ∷ (139, 2, 12)
    ∷ (171, 5, 0)
    ∷ (171, 6, 12)
    ∷ (172, 1, 0)  -- any bytes are a minute
    ∷ (175, 255, 0)
    ∷ (240, 1, 0)  -- a window of event 0 up to minute 1; without an end, and of an event that is not declared
    ∷ (176, 1, 12)
    ∷ (300, 1, 12)
    ∷ (304, 1, 12)  -- the first spare byte, and the last
    ∷ (383, 1, 12)
    ∷ (100, 2, 12)  -- an image, but done without a line
    ∷ []

pub images :
    (image_of (read_sheet sheet_a).state ≡ first_a)
    × (images_after first_a (Submit 0 ∷ []) ≡ held_a)
    × (images_after first_a (Submit 0 ∷ Submit 1 ∷ []) ≡ done_a)
    × (map (λ (k : ℕ). get_or after_d k 0) (3 ∷ 100 ∷ 101 ∷ 140 ∷ 141 ∷ 156 ∷ 157 ∷ []) ≡ 2 ∷ 2 ∷ 5 ∷ 0 ∷ 1 ∷ 2 ∷ 5 ∷ [])
    × (numbers_on first_a (Submit 0 ∷ Submit 2 ∷ Close 0 ∷ Close 0 ∷ Close 2 ∷ Finish ∷ []) ≡ 0 ∷ 9 ∷ 0 ∷ 10 ∷ 9 ∷ 11 ∷ [])
    × (numbers_on first_a (Advance 5 ∷ Advance 4 ∷ Advance 5 ∷ []) ≡ 0 ∷ 16 ∷ 0 ∷ [])
    × (pick (171 ∷ 172 ∷ 173 ∷ 174 ∷ 175 ∷ 176 ∷ []) (images_after first_a (Advance 16909060 ∷ Advance 4 ∷ [])) ≡ 0 ∷ 4 ∷ 3 ∷ 2 ∷ 1 ∷ 0 ∷ [])
    × (pick (175 ∷ 176 ∷ 177 ∷ 178 ∷ 179 ∷ 180 ∷ 239 ∷ 240 ∷ 241 ∷ 242 ∷ 243 ∷ 244 ∷ []) windowed ≡ 0 ∷ 2 ∷ 1 ∷ 0 ∷ 0 ∷ 0 ∷ 0 ∷ 1 ∷ 2 ∷ 3 ∷ 4 ∷ 0 ∷ [])
    × (pick (100 ∷ 172 ∷ 173 ∷ []) (images_after windowed (Submit 0 ∷ Advance 257 ∷ [])) ≡ 1 ∷ 1 ∷ 1 ∷ [])
    × (pick (100 ∷ 172 ∷ 173 ∷ []) (images_after windowed (Submit 0 ∷ Advance 258 ∷ [])) ≡ 2 ∷ 2 ∷ 1 ∷ [])
    × (images_after held_a (Submit 2 ∷ Close 2 ∷ Finish ∷ []) ≡ held_a)
    × (map (λ (d : Damage). check_on (set held_a d.0 d.1)) damages ≡ map (λ (d : Damage). d.2) damages)
    × (numbers_on (set held_a 383 1) (Submit 1 ∷ Close 0 ∷ Finish ∷ []) ≡ 12 ∷ 12 ∷ 12 ∷ [])
    × (images_after (set held_a 383 1) (Submit 1 ∷ Close 0 ∷ Finish ∷ []) ≡ set held_a 383 1)
unfolding image_of plan_in state_in place_ok word_ok is_image number_on image_after numbers_on images_after is_sound check_on tabulate
    any_below all_below first_of lowest hold settle_as shut break_rule named enforceable sound_event sound_rule bars makes_wait
    forbids owes barred forbidden owing fates_in any_done done_in done_in_turn holds ready may_do do_all order_of chosen
    to_refuse to_do settle_once settle_up_to settle strains record_broken do_alone decide submit lapse close_step refuse_held
    finish first_fault declared_only same_fates listed_as coherent_event coherent_rule coherent has_event call_fault accept call
    allowed_at allowed_in over_at over_in ruled_out sound_window sound_windows bad_window add_window set_minute advance_to
    rule_of add_event add_rule add_events declare record_fault ending read_from read_plan sheet_plan read_sheet
images = (refl, refl, refl, refl, refl, refl, refl, refl, refl, refl, refl, refl, refl, refl)

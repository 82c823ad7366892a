-- Calls on an image: their numbers, the bytes after them, and the check and the report of a kept state. Bytes that are
-- no image are answered with 12 and stay as they are.
use Rattle.std.specs.Prelude.{ℕ, Bool, ◌&&◌, cond, List, [], ◌∷◌, ◌≡◌}
use Rattle.image.specs.Types.{State, Call, Verdict, Ok, Err, Outcome}
use Rattle.plan.specs.Faults.{sheet_fault_number, answer_number}
use Rattle.scheduler.specs.Coherent.{coherent}
use Rattle.scheduler.specs.Answers.{call}
use Rattle.scheduler.specs.Lists.{scheduler, after}
use Rattle.scheduler.specs.Demand.{seen, Demand3}
use Rattle.scheduler.specs.Runner.{report}
use Rattle.image.specs.Layout.{image_of, state_in, is_image}

-- the number of a call on bytes: 0 if it is accepted (5.15)
unfoldable pub number_on : List ℕ → Call → ℕ
number_on b c = cond (is_image b) (answer_number (call (state_in b) c).answer) 12

-- the bytes after a call (5.15)
unfoldable pub image_after : List ℕ → Call → List ℕ
image_after b c = cond (is_image b) (image_of (call (state_in b) c).state) b

-- the numbers of calls that are made one after another
unfoldable pub numbers_on : List ℕ → List Call → List ℕ
numbers_on b [] = []
numbers_on b (c ∷ cs) = number_on b c ∷ numbers_on (image_after b c) cs

-- the bytes after the last of them
unfoldable pub images_after : List ℕ → List Call → List ℕ
images_after b [] = b
images_after b (c ∷ cs) = images_after (image_after b c) cs

-- the bytes are the image of a coherent state (5.17)
unfoldable pub is_sound : List ℕ → Bool
is_sound b = is_image b && coherent (state_in b)

-- the check of bytes: 0 if they are, else 12 (5.17)
unfoldable pub check_on : List ℕ → ℕ
check_on b = cond (is_sound b) 0 12

-- the number that opening a sheet gives: 0 if it is admitted, else that of its fault (5.14)
abbrev pub verdict_number : Verdict → ℕ
verdict_number v = elim v [ Ok u ↦ 0 | Err e ↦ sheet_fault_number e.fault ]

-- the offset of the fault; 0 if the sheet is admitted (5.14)
abbrev pub verdict_offset : Verdict → ℕ
verdict_offset v = elim v [ Ok u ↦ 0 | Err e ↦ e.at ]

-- a kept state as the result of a run, with n calls turned down (5.18)
abbrev pub kept_outcome : List ℕ → ℕ → Outcome
kept_outcome b n = record { verdict = Ok tt; state = state_in b; refused = n }

-- the report on a kept state, after n calls turned down; nothing if `check_on` gives 12 (5.18)
unfoldable pub report_on : List ℕ → ℕ → List ℕ
report_on b n = cond (is_sound b) (report (kept_outcome b n)) []

-- the numbers of a list's calls, made on states
unfoldable pub numbers_of : State → List Call → List ℕ
numbers_of s [] = []
numbers_of s (c ∷ cs) = answer_number (call s c).answer ∷ numbers_of (call s c).state cs

-- a host opens a sheet with first state s and makes the calls one after another on the bytes that it keeps. The bytes
-- are the image of the state after the list, each call has its own number, and the guarantee (demand 3) is true of the
-- kept state (5.20)
pub record Hosted (s : State) (cs : List Call) : Type 0 where
  pub bytes : images_after (image_of s) cs ≡ image_of (after scheduler s cs)
  pub numbers : numbers_on (image_of s) cs ≡ numbers_of s cs
  pub demand : Demand3 s.plan (seen scheduler s cs) (state_in (images_after (image_of s) cs))

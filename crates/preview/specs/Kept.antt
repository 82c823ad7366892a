-- A preview on a kept state, 384 bytes. Bytes that are no image are answered with 12.
use Rattle.std.specs.Prelude.{ℕ, cond, List, [], ◌∷◌, ◌≡◌}
use Rattle.preview.specs.Types.{Call, Submit, State, CallFault, Counts, Result, Ok, Err}
use Rattle.plan.specs.Faults.{call_fault_number, answer_number}
use Rattle.scheduler.specs.Answers.{call}
use Rattle.scheduler.specs.Lists.{scheduler, after}
use Rattle.image.specs.Layout.{image_of, state_in, is_image}
use Rattle.image.specs.Calls.{images_after}
use Rattle.preview.specs.Preview.{preview_of, Foretold}

-- a preview's number: 0 if it has counts (5.24)
abbrev pub preview_number : Result Counts CallFault → ℕ
preview_number x = elim x [ Ok c ↦ 0 | Err f ↦ call_fault_number f ]

-- the four bytes of counts: done, refused, lapsed, forced (5.24)
abbrev pub count_bytes : Counts → List ℕ
count_bytes c = c.done ∷ c.refused ∷ c.lapsed ∷ c.forced ∷ []

-- the four bytes after a preview; if it is turned down, they stay (5.24)
abbrev pub written_by : Result Counts CallFault → List ℕ → List ℕ
written_by x a = elim x [ Ok c ↦ count_bytes c | Err f ↦ a ]

-- the number of a preview on the bytes of a kept state (5.24)
unfoldable pub preview_number_on : List ℕ → ℕ → ℕ
preview_number_on b e = cond (is_image b) (preview_number (preview_of (state_in b) e)) 12

-- the four bytes after it (5.24)
unfoldable pub counts_on : List ℕ → ℕ → List ℕ → List ℕ
counts_on b e a = cond (is_image b) (written_by (preview_of (state_in b) e) a) a

-- a host opened a sheet with first state s and made the calls cs on the bytes that it keeps. A preview on them has the
-- number of the submit (hand in) itself. Its four bytes are those of the preview on the state after the list, and that
-- preview tells what the submit would do (5.26)
pub record HostedPreview (s : State) (cs : List Call) (e : ℕ) : Type 0 where
  pub number : preview_number_on (images_after (image_of s) cs) e ≡ answer_number (call (after scheduler s cs) (Submit e)).answer
  pub counts : (a : List ℕ) → counts_on (images_after (image_of s) cs) e a ≡ written_by (preview_of (after scheduler s cs) e) a
  pub foretold : Foretold (after scheduler s cs) e

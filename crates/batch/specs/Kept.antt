-- A batch on a kept state, 384 bytes. Bytes that are no image are answered with 12; then the bytes and the entries stay
-- as they are.
use Rattle.std.specs.Prelude.{ℕ, cond, List, ◌++◌, ◌≡◌}
use Rattle.batch.specs.Types.{Call, State, BatchEntry}
use Rattle.plan.specs.Faults.{answer_number}
use Rattle.scheduler.specs.Lists.{scheduler, after}
use Rattle.image.specs.Layout.{image_of, state_in, is_image}
use Rattle.image.specs.Calls.{images_after, Hosted}
use Rattle.batch.specs.Batch.{calls_of, answers, batch_reply, batch_entries}

-- the number of a batch: 0 if it is accepted (5.21)
unfoldable pub batch_number_on : List ℕ → List BatchEntry → ℕ
batch_number_on b es = cond (is_image b) (answer_number (batch_reply (state_in b) es).answer) 12

-- the bytes after a batch (5.21)
unfoldable pub image_after_batch : List ℕ → List BatchEntry → List ℕ
image_after_batch b es = cond (is_image b) (image_of (batch_reply (state_in b) es).state) b

-- the entries after a batch (5.21)
unfoldable pub entries_on : List ℕ → List BatchEntry → List BatchEntry
entries_on b es = cond (is_image b) (batch_entries (state_in b) es) es

-- a host opened a sheet with first state s and made the calls cs on the bytes that it keeps. A batch on them is
-- accepted, the bytes become those after the list with the entries' calls added, and the entries have their answers
-- (5.23)
pub record HostedBatch (s : State) (cs : List Call) (es : List BatchEntry) : Type 0 where
  pub number : batch_number_on (images_after (image_of s) cs) es ≡ 0
  pub bytes : image_after_batch (images_after (image_of s) cs) es ≡ images_after (image_of s) (cs ++ calls_of es)
  pub entries : entries_on (images_after (image_of s) cs) es ≡ answers (after scheduler s cs) es
  pub hosted : Hosted s (cs ++ calls_of es)

-- The sheet of a kept state, 384 bytes. Bytes that are no image are answered with 12.
use Rattle.std.specs.Prelude.{ℕ, cond, List, ◌≡◌, ltb}
use Rattle.writer.specs.Types.{Call, State}
use Rattle.pages.specs.Filled.{filled}
use Rattle.image.specs.Layout.{image_of, state_in, is_image}
use Rattle.image.specs.Calls.{images_after}
use Rattle.writer.specs.Writing.{sheet_bytes, sheet_length, length_given, reply_number, write_reply, buffer_after}

-- the number of a writing on the bytes of a kept state, with a lent buffer of `room` bytes (5.27)
unfoldable pub write_number_on : List ℕ → ℕ → ℕ
write_number_on b room = cond (is_image b) (reply_number (write_reply (state_in b) room)) 12

-- the length that it gives (5.27)
unfoldable pub need_on : List ℕ → ℕ
need_on b = cond (is_image b) (length_given (state_in b)) 0

-- the buffer after it (5.27)
unfoldable pub buffer_on : List ℕ → List ℕ → List ℕ
buffer_on b out = cond (is_image b) (buffer_after (state_in b) out) out

-- a host opened a sheet with first state s and made the calls cs on the bytes that it keeps. The sheet of these bytes
-- is the sheet of s: its length is given, and it is written unless the buffer is shorter (5.28)
pub record HostedSheet (s : State) (cs : List Call) : Type 0 where
  pub number : (room : ℕ) → write_number_on (images_after (image_of s) cs) room ≡ cond (ltb room (sheet_length s.plan)) 14 0
  pub need : need_on (images_after (image_of s) cs) ≡ sheet_length s.plan
  pub bytes : (out : List ℕ) → buffer_on (images_after (image_of s) cs) out ≡ filled (sheet_bytes s.plan) out

-- The sheet of a kept state: its branches, what the code comes to, and the theorems for hosts.
use Prim.Native.Nat.{ℕ}
use mathlib.Core.Bool.{true, false, cond}
use mathlib.Core.List.{List, [], ◌∷◌}
use mathlib.Core.Logic.{◌≢◌, inl, inr}
use Rattle.std.specs.declared.option.Option.{Option}
use Rattle.std.specs.declared.option.Option.TheVariants.{None as none, Some as some}
use mathlib.Core.Path.{◌≡◌, refl, sym, ◌∙◌, ap}
use lib.Dec.{ltb}
use lib.ListN.{length}
use Rattle.plan.proofs.Tests.{either}
use Rattle.scheduler.specs.State.{Sized}
use Rattle.scheduler.specs.Answers.{call}
use Rattle.scheduler.specs.Lists.{scheduler, after}
use Rattle.scheduler.specs.Sheet.{read_sheet, admitted}
use Rattle.theory.proofs.Coherence.{sized_call, after_coherent}
use Rattle.theory.proofs.Demands.{admitted_coherent}
use Rattle.pages.specs.Filled.{filled}
use Rattle.image.specs.Layout.{image_of, state_in, is_image}
use Rattle.image.specs.Calls.{images_after}
use Rattle.image.proofs.Images.{image_is, read_back}
use Rattle.image.proofs.ImageCalls.{call_plan, images_after_lem, after_whole, admitted_whole}
use Rattle.writer.specs.Types.{Call, Result, WriteFault, Plan, State}
use Rattle.writer.specs.Writing.{sheet_bytes, sheet_length, length_given, reply_number, reply_length, write_fault, write_reply, buffer_after, SameDeclared}
use Rattle.writer.specs.Kept.{write_number_on, need_on, buffer_on, HostedSheet}
use Rattle.writer.proofs.Replies.{reply_gives, number_none, sound_number, sound_length, sound_buffer, buffer_fault}
use Rattle.writer.proofs.Sheets.{written_alike}

-- by whether the bytes are an image
module _ (b : List ℕ) where
  pub number_other : (room : ℕ) → is_image b ≡ false → write_number_on b room ≡ 12
  unfolding write_number_on
  number_other room h = rw h

  pub need_other : is_image b ≡ false → need_on b ≡ 0
  unfolding need_on
  need_other h = rw h

  pub buffer_other : (out : List ℕ) → is_image b ≡ false → buffer_on b out ≡ out
  unfolding buffer_on
  buffer_other out h = rw h

  pub number_image : (room : ℕ) → is_image b ≡ true → write_number_on b room ≡ reply_number (write_reply (state_in b) room)
  unfolding write_number_on
  number_image room h = rw h

  pub need_image : is_image b ≡ true → need_on b ≡ length_given (state_in b)
  unfolding need_on
  need_image h = rw h

  pub buffer_image : (out : List ℕ) → is_image b ≡ true → buffer_on b out ≡ buffer_after (state_in b) out
  unfolding buffer_on
  buffer_image out h = rw h

  -- what the code comes to at an image, by the reply of the writing
  module _ (out : List ℕ) (h : is_image b ≡ true) (s : State) (said : s ≡ state_in b) where
    module _ (r : Result ℕ WriteFault) (reply : r ≡ write_reply s (length out)) where
      same : r ≡ write_reply (state_in b) (length out)
      same = reply ∙ ap (λ (t : State). write_reply t (length out)) said

      pub number_said : reply_number r ≡ write_number_on b (length out)
      number_said = ap reply_number same ∙ sym (number_image (length out) h)

      pub need_said : reply_length r ≡ need_on b
      need_said = ap reply_length same ∙ reply_gives (state_in b) (length out) ∙ sym (need_image h)

    pub buffer_said : (after : List ℕ) → after ≡ buffer_after s out → after ≡ buffer_on b out
    buffer_said after wrote =
        wrote ∙ ap (λ (t : State). buffer_after t out) said ∙ sym (buffer_image out h)

-- a writing that is turned down leaves the buffer
pub write_leaves : (b out : List ℕ) → write_number_on b (length out) ≢ 0 → buffer_on b out ≡ out
write_leaves b out n = elim (either (is_image b)) [
  | inl h ↦ buffer_image b out h ∙ go (write_fault (state_in b) (length out)) refl h
  | inr h ↦ buffer_other b out h
]
  where
    go : (f : Option WriteFault)
        → write_fault (state_in b) (length out) ≡ f
        → is_image b ≡ true
        → buffer_after (state_in b) out ≡ out
    go (some f) e h = buffer_fault (state_in b) out f e
    go none e h = absurd (n (number_image b (length out) h ∙ number_none (state_in b) (length out) e))

-- calls keep the plan
after_plan : (s : State) (cs : List Call) → Sized s → (after scheduler s cs).plan ≡ s.plan
unfolding after
after_plan s [] z = refl
after_plan s (c ∷ cs) z = after_plan (call s c).state cs (sized_call s c z) ∙ call_plan s c z

-- a host that opens an admitted sheet and makes any calls on the bytes gets that sheet's own form written
pub hosts_sheet : (sheet : List ℕ) (s : State) (cs : List Call) → read_sheet sheet ≡ admitted s → HostedSheet s cs
hosts_sheet sheet s cs h =
    let w = admitted_whole sheet s h in
    let t = after scheduler s cs in
    let b = images_after_lem s cs w in
    let said = read_back t (after_whole s cs w) in
    let yes = after_coherent s cs w.sized (admitted_coherent sheet s h) in
    let same = after_plan s cs w.sized in
    record {
      number = λ room.
          ap (λ (l : List ℕ). write_number_on l room) b
          ∙ number_image (image_of t) room (image_is t)
          ∙ ap (λ (u : State). reply_number (write_reply u room)) said
          ∙ sound_number t room yes
          ∙ ap (λ (p : Plan). cond (ltb room (sheet_length p)) 14 0) same;
      need =
          ap need_on b
          ∙ need_image (image_of t) (image_is t)
          ∙ ap length_given said
          ∙ sound_length t yes
          ∙ ap sheet_length same;
      bytes = λ out.
          ap (λ (l : List ℕ). buffer_on l out) b
          ∙ buffer_image (image_of t) out (image_is t)
          ∙ ap (λ (u : State). buffer_after u out) said
          ∙ sound_buffer t out yes
          ∙ ap (λ (p : Plan). filled (sheet_bytes p) out) same;
    }

-- two admitted sheets that declare the same, numbered alike, are written alike, whatever lists follow: number, length, bytes
pub sheets_alike : (a b : List ℕ) (s t : State) (cs ds : List Call) (out : List ℕ)
    → read_sheet a ≡ admitted s
    → read_sheet b ≡ admitted t
    → SameDeclared s.plan t.plan
    → (write_number_on (images_after (image_of s) cs) (length out) ≡ write_number_on (images_after (image_of t) ds) (length out))
    × (need_on (images_after (image_of s) cs) ≡ need_on (images_after (image_of t) ds))
    × (buffer_on (images_after (image_of s) cs) out ≡ buffer_on (images_after (image_of t) ds) out)
sheets_alike a b s t cs ds out h k same =
    let one = hosts_sheet a s cs h in
    let other = hosts_sheet b t ds k in
    let bytes = written_alike s.plan t.plan same in (
      one.number (length out)
          ∙ ap (λ (l : List ℕ). cond (ltb (length out) (length l)) 14 0) bytes
          ∙ sym (other.number (length out)),
      one.need ∙ ap length bytes ∙ sym other.need,
      one.bytes out ∙ ap (λ (l : List ℕ). filled l out) bytes ∙ sym (other.bytes out),
    )

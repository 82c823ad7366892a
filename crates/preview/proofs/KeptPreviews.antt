-- A preview on a kept state: its branches, what the code comes to, and the theorems for hosts.
use Prim.Native.Nat.{ℕ}
use mathlib.Core.Bool.{true, false}
use mathlib.Core.List.{List}
use mathlib.Core.Logic.{◌≢◌, inl, inr}
use mathlib.Core.Path.{◌≡◌, refl, sym, ◌∙◌, ap}
use Rattle.preview.specs.Types.{Call, Submit, Answer, Is, Made, TurnedDown, CallFault, State, Counts, Result, Ok, Err}
use Rattle.plan.specs.Faults.{answer_number}
use Rattle.plan.proofs.Tests.{either}
use Rattle.scheduler.specs.Answers.{call}
use Rattle.scheduler.specs.Lists.{scheduler, after}
use Rattle.scheduler.specs.Sheet.{read_sheet, admitted}
use Rattle.image.specs.Layout.{image_of, state_in, is_image}
use Rattle.image.specs.Calls.{number_on}
use Rattle.image.proofs.Images.{image_is, read_back}
use Rattle.image.proofs.ImageCalls.{number_none, images_after_lem, after_whole, admitted_whole}
use Rattle.image.proofs.ImageCalls.{number_image as call-number-image}
use Rattle.preview.specs.Preview.{preview_of}
use Rattle.preview.specs.Kept.{preview_number, written_by, preview_number_on, counts_on, HostedPreview}
use Rattle.preview.proofs.Growth.{foretold}

-- the branches of a preview on bytes
module _ (b : List ℕ) (e : ℕ) where
  pub number_other : is_image b ≡ false → preview_number_on b e ≡ 12
  unfolding preview_number_on
  number_other h = rw h

  pub counts_other : (a : List ℕ) → is_image b ≡ false → counts_on b e a ≡ a
  unfolding counts_on
  counts_other a h = rw h

  pub number_image : is_image b ≡ true → preview_number_on b e ≡ preview_number (preview_of (state_in b) e)
  unfolding preview_number_on
  number_image h = rw h

  pub counts_image : (a : List ℕ) → is_image b ≡ true → counts_on b e a ≡ written_by (preview_of (state_in b) e) a
  unfolding counts_on
  counts_image a h = rw h

  -- what the code comes to: a number, and the four bytes
  abbrev pub OnBytes : List ℕ → ℕ → List ℕ → Type 0
  OnBytes a n x = (n ≡ preview_number_on b e) × (x ≡ counts_on b e a)

  pub no_image : (a : List ℕ) → false ≡ is_image b → OnBytes a 12 a
  no_image a h = (sym (number_other (sym h)), sym (counts_other a (sym h)))

  pub on_image : (a : List ℕ) → true ≡ is_image b
      → (s : State) → s ≡ state_in b
      → (r : Result Counts CallFault) → r ≡ preview_of s e
      → OnBytes a (preview_number r) (written_by r a)
  on_image a h s said r gives =
      let same = gives ∙ ap (λ (t : State). preview_of t e) said in (
        ap preview_number same ∙ sym (number_image (sym h)),
        ap (λ (y : Result Counts CallFault). written_by y a) same ∙ sym (counts_image a (sym h)),
      )

-- a preview's number is the hand-in's own
reply_number : (s : State) (e : ℕ) → preview_number (preview_of s e) ≡ answer_number (call s (Submit e)).answer
unfolding preview_of
reply_number s e = go (call s (Submit e)).answer refl
  where
    go : (a : Answer) → (call s (Submit e)).answer ≡ a → preview_number (preview_of s e) ≡ answer_number (call s (Submit e)).answer
    go (Is x) h = rw (h, preview_of)
    go Made h = rw (h, preview_of)
    go (TurnedDown f) h = rw (h, preview_of)

-- on any bytes
pub preview_number_lem : (b : List ℕ) (e : ℕ) → preview_number_on b e ≡ number_on b (Submit e)
preview_number_lem b e = elim (either (is_image b)) [
  | inl h ↦ number_image b e h ∙ reply_number (state_in b) e ∙ sym (call-number-image b (Submit e) h)
  | inr h ↦ number_other b e h ∙ sym (number_none b (Submit e) h)
]

-- a preview that is turned down leaves the four bytes
reply_leaves : (r : Result Counts CallFault) (a : List ℕ) → preview_number r ≢ 0 → written_by r a ≡ a
reply_leaves (Ok c) a n = absurd (n refl)
reply_leaves (Err f) a n = refl

pub preview_leaves : (b : List ℕ) (e : ℕ) (a : List ℕ) → preview_number_on b e ≢ 0 → counts_on b e a ≡ a
preview_leaves b e a n = elim (either (is_image b)) [
  | inl h ↦ counts_image b e a h ∙ reply_leaves (preview_of (state_in b) e) a (λ z. n (number_image b e h ∙ z))
  | inr h ↦ counts_other b e a h
]

-- a host that opens an admitted sheet and makes any calls on the bytes has previews of the state after the list
pub hosts_preview : (sheet : List ℕ) (s : State) (cs : List Call) (e : ℕ) → read_sheet sheet ≡ admitted s → HostedPreview s cs e
hosts_preview sheet s cs e h =
    let w = admitted_whole sheet s h in
    let t = after scheduler s cs in
    let v = after_whole s cs w in
    let b = images_after_lem s cs w in
    let said = read_back t v in
    record {
      number =
          ap (λ (l : List ℕ). preview_number_on l e) b
          ∙ number_image (image_of t) e (image_is t)
          ∙ ap (λ (u : State). preview_number (preview_of u e)) said
          ∙ reply_number t e;
      counts = λ a.
          ap (λ (l : List ℕ). counts_on l e a) b
          ∙ counts_image (image_of t) e a (image_is t)
          ∙ ap (λ (u : State). written_by (preview_of u e) a) said;
      foretold = foretold t e v.sized;
    }

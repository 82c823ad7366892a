-- The theorems on calls made on an image, one and many.
use Prim.Native.Nat.{ℕ}
use mathlib.Core.Bool.{true, false}
use mathlib.Core.List.{List, [], ◌∷◌}
use mathlib.Core.Logic.{◌≢◌, inl, inr}
use Rattle.std.specs.declared.option.Option.{Option}
use Rattle.std.specs.declared.option.Option.TheVariants.{None as none, Some as some}
use mathlib.Core.Path.{◌≡◌, refl, sym, ◌∙◌, ap, subst}
use lib.ListN.{length}
use Rattle.image.specs.Types.{State, Plan, Call, CallFault, Answer, Is, Made, TurnedDown, Reply}
use Rattle.plan.specs.Faults.{answer_number, is_turned_down}
use Rattle.plan.proofs.Tests.{either}
use Rattle.scheduler.specs.Answers.{call_fault, call}
use Rattle.scheduler.specs.Lists.{scheduler, after}
use Rattle.scheduler.specs.Demand.{seen, Demand3}
use Rattle.scheduler.specs.Sheet.{read_sheet, admitted}
use Rattle.scheduler.specs.State.{Sized}
use Rattle.scheduler.proofs.Branches.{call_fault_lem}
use Rattle.theory.proofs.Coherence.{coherent_sound, coherent_invariant, accepted_coherent, call_keeps, sized_call, call_turned_down}
use Rattle.theory.proofs.Demands.{demand3, admitted_sized}
use Rattle.theory.proofs.SheetPlans.{sheet_read}
use Rattle.image.specs.Layout.{image_of, state_in, is_image, Whole}
use Rattle.image.specs.Calls.{number_on, image_after, numbers_on, images_after, is_sound, check_on, numbers_of, Hosted}
use Rattle.image.proofs.Images.{image_is, read_back, write_back}

-- a call keeps the plan, and the arrays' lengths
pub call_plan : (s : State) (c : Call) → Sized s → (call s c).state.plan ≡ s.plan
call_plan s c z = go (call_fault s c) refl
  where
    go : (q : Option CallFault) → call_fault s c ≡ q → (call s c).state.plan ≡ s.plan
    go (some f) h = ap (λ (r : Reply). r.state.plan) (call_fault_lem s c f h)
    go none h =
        let k = accepted_coherent s c h in
        (call_keeps (coherent_sound s k) (coherent_invariant s z k) c).listing.shape.same_plan

pub call_whole : (s : State) (c : Call) → Whole s → Whole (call s c).state
call_whole s c w =
    let p = call_plan s c w.sized in
    record {
      sized = sized_call s c w.sized;
      events_len = ap (λ (x : Plan). length x.events) p ∙ w.events_len;
      rules_len = ap (λ (x : Plan). length x.rules) p ∙ w.rules_len;
      windows_len = ap (λ (x : Plan). length x.windows) p ∙ w.windows_len;
    }

-- bytes that are no image, and bytes that are one
module _ (b : List ℕ) (c : Call) where
  pub number_none : is_image b ≡ false → number_on b c ≡ 12
  unfolding number_on
  number_none h = rw h

  pub after_none : is_image b ≡ false → image_after b c ≡ b
  unfolding image_after
  after_none h = rw h

  pub number_image : is_image b ≡ true → number_on b c ≡ answer_number (call (state_in b) c).answer
  unfolding number_on
  number_image h = rw h

  pub after_image : is_image b ≡ true → image_after b c ≡ image_of (call (state_in b) c).state
  unfolding image_after
  after_image h = rw h

  -- an image stays one, and other bytes do not become one
  pub call_image : is_image (image_after b c) ≡ is_image b
  call_image = elim (either (is_image b)) [
    | inl h ↦ ap is_image (after_image h) ∙ image_is (call (state_in b) c).state ∙ sym h
    | inr h ↦ ap is_image (after_none h)
  ]

  -- a call turned down leaves the bytes
  pub turned_down_image : length b ≡ 384
      → is_turned_down (call (state_in b) c).answer ≡ true
      → image_after b c ≡ b
  turned_down_image z t = elim (either (is_image b)) [
    | inl h ↦ after_image h ∙ ap image_of (call_turned_down (state_in b) c t) ∙ write_back b z h
    | inr h ↦ after_none h
  ]

-- a number other than 0 is a refusal
pub turned_down_lem : (a : Answer) → answer_number a ≢ 0 → is_turned_down a ≡ true
turned_down_lem (Is x) n = absurd (n refl)
turned_down_lem Made n = absurd (n refl)
turned_down_lem (TurnedDown f) n = refl

-- in a host's words: a call that answers another number than 0 leaves the bytes
pub number_leaves : (b : List ℕ) (c : Call) → length b ≡ 384 → number_on b c ≢ 0 → image_after b c ≡ b
number_leaves b c z n = elim (either (is_image b)) [
  | inl h ↦ turned_down_image b c z (turned_down_lem (call (state_in b) c).answer (λ e. n (number_image b c h ∙ e)))
  | inr h ↦ after_none b c h
]

-- a call on the image of a state
module _ (s : State) (c : Call) (w : Whole s) where
  pub image_number : number_on (image_of s) c ≡ answer_number (call s c).answer
  image_number = number_image (image_of s) c (image_is s) ∙ ap (λ (x : State). answer_number (call x c).answer) (read_back s w)

  pub image_after_lem : image_after (image_of s) c ≡ image_of (call s c).state
  image_after_lem = after_image (image_of s) c (image_is s) ∙ ap (λ (x : State). image_of (call x c).state) (read_back s w)

-- a list of calls on it
module _ where
  pub images_after_lem : (s : State) (cs : List Call) → Whole s → images_after (image_of s) cs ≡ image_of (after scheduler s cs)
  unfolding images_after after
  images_after_lem s [] w = refl
  images_after_lem s (c ∷ cs) w =
      ap (λ (x : List ℕ). images_after x cs) (image_after_lem s c w)
      ∙ images_after_lem (call s c).state cs (call_whole s c w)

  pub images_numbers : (s : State) (cs : List Call) → Whole s → numbers_on (image_of s) cs ≡ numbers_of s cs
  unfolding numbers_on numbers_of
  images_numbers s [] w = refl
  images_numbers s (c ∷ cs) w = λ i.
      image_number s c w i
      ∷ (ap (λ (x : List ℕ). numbers_on x cs) (image_after_lem s c w) ∙ images_numbers (call s c).state cs (call_whole s c w)) i

  pub after_whole : (s : State) (cs : List Call) → Whole s → Whole (after scheduler s cs)
  unfolding after
  after_whole s [] w = w
  after_whole s (c ∷ cs) w = after_whole (call s c).state cs (call_whole s c w)

-- an admitted sheet's first state
pub admitted_whole : (sheet : List ℕ) (s : State) → read_sheet sheet ≡ admitted s → Whole s
admitted_whole sheet s h =
    let q = sheet_read sheet s h in
    record { sized = admitted_sized sheet s h; events_len = q.events_len; rules_len = q.rules_len; windows_len = q.windows_len }

-- a host that opens an admitted sheet and makes any calls on the bytes has what a list of these calls gives, and the
-- guarantee with it
pub hosts : (sheet : List ℕ) (s : State) (cs : List Call) → read_sheet sheet ≡ admitted s → Hosted s cs
hosts sheet s cs h =
    let w = admitted_whole sheet s h in
    let kept : state_in (images_after (image_of s) cs) ≡ after scheduler s cs =
    ap state_in (images_after_lem s cs w) ∙ read_back (after scheduler s cs) (after_whole s cs w) in
    record {
      bytes = images_after_lem s cs w;
      numbers = images_numbers s cs w;
      demand = subst (Demand3 s.plan (seen scheduler s cs)) (sym kept) (demand3 sheet s cs h);
    }

-- in a host's words: the bytes that it keeps pass the check after any calls, and each call on them has the number of the
-- call on the state
module _ (sheet : List ℕ) (s : State) (cs : List Call) (h : read_sheet sheet ≡ admitted s) where
  pub hosts_check : check_on (images_after (image_of s) cs) ≡ 0
  unfolding check_on is_sound
  hosts_check =
      let k = hosts sheet s cs h in
      let image : is_image (images_after (image_of s) cs) ≡ true = ap is_image k.bytes ∙ image_is (after scheduler s cs) in
      rw (image, k.demand.claim.coherent_end)

  pub hosts_numbers : numbers_on (image_of s) cs ≡ numbers_of s cs
  hosts_numbers = (hosts sheet s cs h).numbers

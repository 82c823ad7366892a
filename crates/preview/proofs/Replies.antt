-- A preview's two ends: it is turned down with its hand-in, or gives the counts of what the hand-in adds.
use Prim.Native.Nat.{ℕ}
use native.Mathlib.Omega.{arith}
use mathlib.Core.Logic.{◌⊎◌, inl, inr}
use mathlib.Core.Path.{◌≡◌, refl}
use denote.Enum.Declared.{tag_of}
use Rattle.plan.specs.contracts.answer.Answer.{the_type}
use Rattle.preview.specs.Types.{Submit, CallFault, Answer, Is, Made, TurnedDown, State, Counts, Ok, Err}
use Rattle.scheduler.specs.Answers.{call}
use Rattle.preview.specs.Preview.{added_by, counts_in, preview_of}

module _ (s : State) (e : ℕ) where
  pub preview_down : (f : CallFault) → (call s (Submit e)).answer ≡ TurnedDown f → preview_of s e ≡ Err f
  unfolding preview_of
  preview_down f h = rw (h, preview_of)

  pub preview_taken : (a : Answer)
      → (call s (Submit e)).answer ≡ a
      → ((f : CallFault) → a ≡ TurnedDown f → ⊥)
      → preview_of s e ≡ Ok (counts_in (added_by s (Submit e)))
  unfolding preview_of
  preview_taken (Is x) h t = rw (h, preview_of)
  preview_taken Made h t = rw (h, preview_of)
  preview_taken (TurnedDown f) h t = absurd (t f refl)

  -- the same by the answer's tag
  pub preview_counted : (a : Answer)
      → (call s (Submit e)).answer ≡ a
      → (tag_of the_type a ≡ 0) ⊎ (tag_of the_type a ≡ 1)
      → preview_of s e ≡ Ok (counts_in (added_by s (Submit e)))
  unfolding preview_of
  preview_counted (Is x) h t = rw (h, preview_of)
  preview_counted Made h t = rw (h, preview_of)
  preview_counted (TurnedDown f) h t = absurd (elim t [ inl z ↦ omega (arith, z) | inr z ↦ omega (arith, z) ])

  -- the counts that a preview gives
  pub counts_given : (c : Counts) → preview_of s e ≡ Ok c → c ≡ counts_in (added_by s (Submit e))
  counts_given c h = go (call s (Submit e)).answer refl
    where
      go : (a : Answer) → (call s (Submit e)).answer ≡ a → c ≡ counts_in (added_by s (Submit e))
      go (Is x) q = cc (h, preview_taken (Is x) q (λ f z. cc))
      go Made q = cc (h, preview_taken Made q (λ f z. cc))
      go (TurnedDown f) q = cc (h, preview_down f q)

-- What the functions of the image come to at their ends: rows written one after another, and a call noted.
use Prim.Native.Nat.{ℕ}
use native.Mathlib.Nat.{add-zero}
use mathlib.Core.Bool.{true, cond}
use mathlib.Core.List.{List}
use mathlib.Core.Logic.{inl, inr}
use mathlib.Core.Path.{◌≡◌, refl, sym, ◌∙◌, ap, subst}
use lib.ListN.{length, set, replicate}
use Rattle.image.specs.Types.{Plan, State, Call, Reply}
use Rattle.plan.specs.Faults.{is_turned_down}
use Rattle.plan.specs.Plans.{event_count, rule_count}
use Rattle.plan.proofs.Tests.{either}
use Rattle.scheduler.specs.Answers.{call}
use Rattle.scheduler.specs.State.{line_count}
use Rattle.image.specs.Layout.{step_at, attributes_at, kind_at, a_at, b_at, c_at, fate_at, mark_at, shut_at, line_event_at, line_fate_at, minute_at, from_at, until_at, word_byte, image_of, state_in, is_image}
use Rattle.image.specs.Calls.{image_after}
use Rattle.image.specs.Internal.Writes.{put_to, written, step_byte, attributes_byte, kind_byte, a_byte, b_byte, c_byte, from_byte, until_byte, fate_byte, mark_byte, line_event_byte, line_fate_byte, with_plan, with_call}
use Rattle.image.proofs.Bytes.{ShowsPlan, shows_image, call_shown, call_length, written_whole}
use Rattle.image.proofs.Images.{said_shows, said_whole}
use Rattle.image.proofs.ImageCalls.{call_plan, after_image, turned_down_image}

-- one row after another
next : (at n : ℕ) (g : ℕ → ℕ) (b m l : List ℕ) → l ≡ put_to at g m n → m ≡ b → l ≡ put_to at g b n
next at n g b m l h e = h ∙ ap (λ (x : List ℕ). put_to at g x n) e

one_put : (at x : ℕ) (b m : List ℕ) → m ≡ b → set m at x ≡ put_to at (λ _. x) b 1
unfolding put_to
one_put at x b m e = rw (add-zero at) (ap (λ (l : List ℕ). set l at x) e)

pub put_call_rows : (s : State) (b b1 b2 b3 b4 b5 b6 : List ℕ)
    → b1 ≡ put_to fate_at (fate_byte s.standings) (set b 3 (line_count s)) 16
    → b2 ≡ put_to mark_at (mark_byte s.broken) b1 16
    → b3 ≡ put_to shut_at (mark_byte s.closed) b2 8
    → b4 ≡ put_to line_event_at (line_event_byte s.history) b3 16
    → b5 ≡ put_to line_fate_at (line_fate_byte s.history) b4 16
    → b6 ≡ put_to minute_at (word_byte s.minute) b5 4
    → b6 ≡ with_call s b
unfolding with_call written
put_call_rows s b b1 b2 b3 b4 b5 b6 h1 h2 h3 h4 h5 h6 =
    next _ _ _ _ _ _ h6 (next _ _ _ _ _ _ h5 (next _ _ _ _ _ _ h4 (next _ _ _ _ _ _ h3 (next _ _ _ _ _ _ h2 (next _ _ _ _ _ _ h1 (one_put 3 (line_count s) b b refl))))))

pub put_plan_rows : (p : Plan) (b b1 b2 b3 b4 b5 b6 b7 b8 : List ℕ)
    → b1 ≡ put_to step_at (step_byte p.events) (set (set (set b 0 1) 1 (event_count p)) 2 (rule_count p)) 16
    → b2 ≡ put_to attributes_at (attributes_byte p.events) b1 16
    → b3 ≡ put_to kind_at (kind_byte p.rules) b2 16
    → b4 ≡ put_to a_at (a_byte p.rules) b3 16
    → b5 ≡ put_to b_at (b_byte p.rules) b4 16
    → b6 ≡ put_to c_at (c_byte p.rules) b5 16
    → b7 ≡ put_to from_at (from_byte p.windows) b6 64
    → b8 ≡ put_to until_at (until_byte p.windows) b7 64
    → b8 ≡ with_plan p b
unfolding with_plan written
put_plan_rows p b b1 b2 b3 b4 b5 b6 b7 b8 h1 h2 h3 h4 h5 h6 h7 h8 =
    next _ _ _ _ _ _ h8 (next _ _ _ _ _ _ h7 (next _ _ _ _ _ _ h6 (next _ _ _ _ _ _ h5 (next _ _ _ _ _ _ h4 (next _ _ _ _ _ _ h3 (next _ _ _ _ _ _ h2 (next _ _ _ _ _ _ h1 heads)))))))
  where
    heads : set (set (set b 0 1) 1 (event_count p)) 2 (rule_count p) ≡ put_to 2 (λ _. rule_count p) (put_to 1 (λ _. event_count p) (put_to 0 (λ _. 1) b 1) 1) 1
    heads = one_put 2 (rule_count p) _ _ (one_put 1 (event_count p) _ _ (one_put 0 1 b b refl))

-- a state written whole
pub put_whole : (s : State) (b1 b2 : List ℕ) → b1 ≡ with_plan s.plan (replicate 384 0) → b2 ≡ with_call s b1 → b2 ≡ image_of s
put_whole s b1 b2 h e = e ∙ ap (with_call s) h ∙ written_whole s

-- a call noted on an image: the plan that the bytes show is also that of the state after the call, and so its image is
-- the bytes with what changed
module _ (b : List ℕ) (c : Call) (z : length b ≡ 384) (h : is_image b ≡ true) where
  noted : with_call (call (state_in b) c).state b ≡ image_of (call (state_in b) c).state
  noted =
      let s = (call (state_in b) c).state in
      let p : s.plan ≡ (state_in b).plan = call_plan (state_in b) c (said_whole b).sized in
      shows_image s (with_call s b) (call_length s b z)
      (call_shown s b z (subst (λ (q : Plan). ShowsPlan q b) (sym p) (said_shows b h).plan))

  pub called : (r : Reply) (l : List ℕ)
      → r ≡ call (state_in b) c
      → l ≡ cond (is_turned_down r.answer) b (with_call r.state b)
      → l ≡ image_after b c
  called r l e k =
      k
      ∙ ap (λ (x : Reply). cond (is_turned_down x.answer) b (with_call x.state b)) e
      ∙ elim (either (is_turned_down (call (state_in b) c).answer)) [
        | inl d ↦ rw d (sym (turned_down_image b c z d))
        | inr d ↦ rw d (noted ∙ sym (after_image b c h))
      ]

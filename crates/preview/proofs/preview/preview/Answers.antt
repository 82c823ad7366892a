-- `preview` meets its contract: the lines that the hand-in adds stand in the history after it.
use Rattle.std.proofs.Common.{◌≡◌, ◌≤◌, ◌-◌, ℕ, ◌∙◌, sym, ap, subst, take, drop, rules}
use Rattle.scheduler.specs.State.{line_count, Sized}
use Rattle.scheduler.specs.Answers.{call}
use Rattle.scheduler.proofs.Sizes.{sized}
use Rattle.preview.specs.Types.{Submit, CallFault, TurnedDown, State, Reply, Ok}
use Rattle.preview.specs.Preview.{added_by, counts_in}
use Rattle.preview.proofs.Growth.{part}
use Rattle.preview.proofs.Replies.{preview_down, preview_taken}
use Rattle.preview.proofs.preview.preview.Goals as goal

-- the lines that a hand-in adds, in the reply that the code has
module _ (s : State) (e : ℕ) (z : Sized s) (r : Reply) (is : r ≡ call s (Submit e))
    (taken : (f : CallFault) → r.answer ≡ TurnedDown f → ⊥) where
  added : (from to : ℕ) → from ≡ line_count s → to ≡ line_count r.state
      → (from ≤ to) × (to ≤ 16) × (take (to - from) (drop from r.state.history) ≡ added_by s (Submit e))
  added from to f g =
      let P : Reply → Type 0 = λ q. ((f : CallFault) → q.answer ≡ TurnedDown f → ⊥) → to ≡ line_count q.state
      → (from ≤ to) × (to ≤ 16) × (take (to - from) (drop from q.state.history) ≡ added_by s (Submit e)) in
      subst P (sym is) (λ n g. part s e z n from to f g) taken g

pub slice_bounds-count_lines-count : goal.slice_bounds-count_lines-count
slice_bounds-count_lines-count c =
    (added _ _ (sized _ c.well_formed.0) _ c.submit-reply.ensures c.in_default.not-TurnedDown _ _
    c.from-from.ensures c.from-to.ensures).0

pub slice_bounds-count_lines-start : goal.slice_bounds-count_lines-start
slice_bounds-count_lines-start c =
    (added _ _ (sized _ c.well_formed.0) _ c.submit-reply.ensures c.in_default.not-TurnedDown _ _
    c.from-from.ensures c.from-to.ensures).0

pub slice_bounds-count_lines-end : goal.slice_bounds-count_lines-end
slice_bounds-count_lines-end c =
    let w = (added _ _ (sized _ c.well_formed.0) _ c.submit-reply.ensures c.in_default.not-TurnedDown _ _
    c.from-from.ensures c.from-to.ensures).1 in
    search (rules, w)

pub returns-in-TurnedDown : goal.returns-in-TurnedDown
returns-in-TurnedDown c =
    sym (preview_down c.args.state c.args.event _
    (sym (ap (λ (x : Reply). x.answer) c.submit-reply.ensures) ∙ c.in-TurnedDown.is))

pub returns : goal.returns
returns c =
    let w = (added _ _ (sized _ c.well_formed.0) _ c.submit-reply.ensures c.in_default.not-TurnedDown _ _
    c.from-from.ensures c.from-to.ensures).2 in
    (λ i. Ok ((c.count_lines.ensures ∙ ap counts_in w) i))
    ∙ sym (preview_taken c.args.state c.args.event _
    (sym (ap (λ (x : Reply). x.answer) c.submit-reply.ensures)) c.in_default.not-TurnedDown)

-- `Members::add_target` meets its contract.
use mathlib.Core.Bool.{not}
use mathlib.Core.Path.{refl, sym, ◌∙◌, ap}
use Rattle.plan.proofs.Tests.{clash}
use Rattle.members.proofs.Targets.{added_unasked, added_none, added_not, added_one}
use Rattle.members.proofs.closed.Members.add_target.Goals as goal
use Rattle.members.proofs.closed.Members.add_target.Goals.{then-not-does_ask, else-not-does_ask}

pub returns-then-is_in : goal.returns-then-is_in
returns-then-is_in c = λ p f shows.
    (elim c.if-not-does_ask.branch [
      | then-not-does_ask w ↦ added_unasked p f _ _ _ (sym (c.does_ask.ensures p f shows) ∙ w.if-not-does_ask.true)
      | else-not-does_ask w ↦
          added_none p f _ shows _ _ _ _ c.target_of-target.ensures _ _
          (c.does_ask.ensures p f shows)
          w.is_in.ensures
          (rw (w.if-not-does_ask.false, sym w.value-is ∙ c.if-is_in.true))
    ])

pub returns-then-is_in-self : goal.returns-then-is_in-self
returns-then-is_in-self c = λ p f shows.
    (elim c.if-not-does_ask.branch [
      | then-not-does_ask w ↦ absurd (clash (w.value-is ∙ ap not w.if-not-does_ask.true) c.if-is_in.false)
      | else-not-does_ask w ↦
          added_one p f _ shows _ _ _ _ c.target_of-target.ensures _ _
          (c.does_ask.ensures p f shows)
          w.is_in.ensures
          (rw (w.if-not-does_ask.false, sym w.value-is ∙ c.if-is_in.false))
          _
          c.is_in-else-is_in.ensures
          _
          c.if-is_in-self.true
          refl
          c.with_if.ensures
    ])

pub returns-else-is_in-self : goal.returns-else-is_in-self
returns-else-is_in-self c = λ p f shows.
    (elim c.if-not-does_ask.branch [
      | then-not-does_ask w ↦ absurd (clash (w.value-is ∙ ap not w.if-not-does_ask.true) c.if-is_in.false)
      | else-not-does_ask w ↦
          added_not p f _ shows _ _ _ _ c.target_of-target.ensures _ _
          (c.does_ask.ensures p f shows)
          w.is_in.ensures
          (rw (w.if-not-does_ask.false, sym w.value-is ∙ c.if-is_in.false))
          _
          c.is_in-else-is_in.ensures
          c.if-is_in-self.false
    ])

-- `Ground::blocked` meets its contract. The loop: the set has what the rules below i block.
use mathlib.Core.Path.{sym, ◌∙◌, ap}
use Rattle.members.specs.Sets.{in_set, unbroken}
use Rattle.members.proofs.Blocking.{block_zero, block_skip, block_next, block_all}
use Rattle.members.proofs.PlaceReads.{standing_at, standing_not}
use Rattle.members.proofs.ground.Ground.blocked.Goals as goal
use Rattle.members.proofs.ground.Ground.blocked.Goals.{in-Some, in_default}

pub loop-i-init : goal.loop-i-init
loop-i-init c = λ p marks f is x lt. block_zero p f (unbroken marks) c.args.left x

pub loop-i-preserved : goal.loop-i-preserved
loop-i-preserved c = λ p marks f is x lt.
    let old = c.loop-i.invariant p marks f is x lt in
    (elim c.match-standing.branch [
      | in-Some w ↦
          let at = standing_at p (unbroken marks) c.loop-i.i _ (w.in-Some.ensures p marks f is) in
          ap (λ n. in_set n x) w.blocked-is
          ∙ block_next p f (unbroken marks) c.args.left x _ c.loop-i.i old _ _ at.0 at.1 (w.add_blocked-blocked.ensures p f is.shows x lt)
      | in_default w ↦
          ap (λ n. in_set n x) w.blocked-is
          ∙ block_skip p f (unbroken marks) c.args.left x _ c.loop-i.i old (standing_not p (unbroken marks) c.loop-i.i (sym w.in_default.is ∙ c.standing.ensures p marks f is))
    ])

pub returns : goal.returns
returns c = λ p marks f is x lt.
    block_all p f _ _ x _ _ (c.loop-i.invariant p marks f is x lt) _ is.counts c.loop-i.auto.i-end c.loop-i-test.false

-- `Ground::close` meets its contract. The loop: members that lie in every set that would do, closed where a pass found no more.
use mathlib.Core.Path.{refl, sym, ◌∙◌}
use Rattle.members.proofs.Growing.{close_start}
use Rattle.members.proofs.ground.Ground.close.Goals as goal

pub loop-before-init : goal.loop-before-init
loop-before-init c = λ p marks f is.
    close_start p _ f _ _ _ refl c.with_if.ensures (sym c.is_in.ensures ∙ c.if-not-is_in.false)

-- `find_barred` meets its contract.
use mathlib.Core.Bool.{Bool, ◌&&◌}
use mathlib.Core.Path.{sym, ◌∙◌, ap}
use Rattle.members.specs.Sets.{in_set}
use Rattle.members.proofs.Bits.{in_or}
use Rattle.scheduler.specs.State.{fate_of}
use Rattle.scheduler.proofs.SettleLoops.{refuse_same, none_barred}
use Rattle.scheduler.proofs.settle.find_barred.Goals as goal

pub returns-then-times-eq0 : goal.returns-then-times-eq0
returns-then-times-eq0 c = λ s g k.
    none_barred s c.args.ground.now.view g.shows c.if-view-eq0.true c.if-view-eq0-2.true c.args.times.late k.late c.if-times-eq0.true

pub returns : goal.returns
returns c = λ s g k.
    let view = c.args.ground.now.view in
    let barred = c.blocked.result in
    c.lowest_of.ensures
    ∙ sym (refuse_same s view g.shows barred c.common.result (c.blocked.ensures s.plan s.broken (fate_of s) g) c.args.times.late k.late
    (λ x. c.common.ensures x ∙ ap (λ (y : Bool). in_set view.held x && y) (in_or barred c.args.times.late x)))

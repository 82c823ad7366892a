-- `list_events` meets its contract. The loop's invariant: what the lines passed tell (`Turn`).
use mathlib.Core.Path.{refl, sym, ◌∙◌}
use Rattle.plan.proofs.Fates.{equal_is}
use Rattle.coherence.proofs.Listings.{turn_start, turn_undeclared, turn_wrong, turn_gone, turn_done, turn_all}
use Rattle.coherence.proofs.listing.list_events.Goals as goal
use Rattle.coherence.proofs.listing.list_events.Goals.{else-is_done, then-is_done}

pub loop-i-init : goal.loop-i-init
loop-i-init c = turn_start _ _ _ _

pub returns-then-event-count : goal.returns-then-event-count
returns-then-event-count c = turn_undeclared
    c.args.history c.args.len c.args.count c.args.standings c.well_formed.0.1.0.1
    c.loop-i.listed c.loop-i.places c.loop-i.i c.loop-i.invariant
    c.lines_in.result c.lines_in.ensures c.loop-i-test.true _ refl c.if-event-count.true

pub returns-then-listed-event : goal.returns-then-listed-event
returns-then-listed-event c = turn_wrong
    c.args.history c.args.len c.args.count c.args.standings c.well_formed.0.1.0.1
    c.loop-i.listed c.loop-i.places c.loop-i.i c.loop-i.invariant
    c.lines_in.result c.lines_in.ensures c.loop-i-test.true _ refl
    _ refl c.if-event-count.false (rw (c.is_settled.ensures, c.eq.ensures, equal_is) at c.if-listed-event.true)

pub loop-i-preserved : goal.loop-i-preserved
loop-i-preserved c = let right = rw (c.is_settled.ensures, c.eq.ensures, equal_is) at c.if-listed-event.false in
    (elim c.if-is_done.branch [
      | then-is_done w ↦ turn_done c.args.history c.args.len c.args.count c.args.standings c.well_formed.0.1.0.1 c.loop-i.listed c.loop-i.places c.loop-i.i c.loop-i.invariant
          c.lines_in.result c.lines_in.ensures c.loop-i-test.true _ refl _ refl c.if-event-count.false right (sym c.is_done.ensures ∙ w.if-is_done.true) _ w.places-is
      | else-is_done w ↦ turn_gone c.args.history c.args.len c.args.count c.args.standings c.well_formed.0.1.0.1 c.loop-i.listed c.loop-i.places c.loop-i.i c.loop-i.invariant
          c.lines_in.result c.lines_in.ensures c.loop-i-test.true _ refl _ refl c.if-event-count.false right (sym c.is_done.ensures ∙ w.if-is_done.false) _ w.places-is
    ])

pub returns : goal.returns
returns c = turn_all c.args.history c.args.len c.args.count c.args.standings c.well_formed.0.1.0.1 c.loop-i.listed c.loop-i.places c.loop-i.i c.loop-i.invariant c.lines_in.result c.lines_in.ensures c.loop-i-test.false

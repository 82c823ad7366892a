-- `is_past` meets its contract.
use native.Mathlib.Omega.{arith}
use borrow.Author.Tests.{lt-leb}
use mathlib.Core.Path.{refl, sym, ◌∙◌}
use Rattle.recorder.specs.Types.{Submit}
use Rattle.scheduler.proofs.CallSteps.{fate_in, submit_turns, submit_idle}
use Rattle.scheduler.proofs.CoherentParts.{coherent_few}
use Rattle.recorder.proofs.open.is_past.Goals as goal

pub bounds-state-event : goal.bounds-state-event
bounds-state-event c = omega (arith, c.if-event-state.true, coherent_few c.args.state.now c.requires)

pub returns-then-event-state : goal.returns-then-event-state
returns-then-event-state c = λ h.
    let few = coherent_few c.args.state.now c.requires in
    let opened = fate_in c.args.state.now c.args.event c.is_open.result (omega (arith, c.if-event-state.true, few)) c.is_open.ensures in (
      sym (submit_turns c.args.state.now c.args.event) ∙ lt-leb _ _ c.if-event-state.true,
      sym (submit_idle c.args.state.now (Submit c.args.event) c.args.event c.is_open.result refl opened) ∙ h,
    )

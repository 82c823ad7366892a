-- `open_records` meets its contract. The loop's invariant is `Underway`.
use native.Mathlib.Omega.{arith}
use mathlib.Core.Path.{refl, sym, ◌∙◌, ap}
use Rattle.std.specs.Prelude.{Err}
use Rattle.recorder.proofs.OpenSteps.{record_less, refused, taken, ended, bad_ended}
use Rattle.recorder.proofs.open.open_records.Goals as goal

pub loop-made-smaller : goal.loop-made-smaller
loop-made-smaller c =
    let u = c.skip_idle-at.ensures.same _ _ c.loop-made.invariant in
    omega (arith, record_less u _ c.record_at.ensures _ c.in-Ok.is _ c.call_size-at.ensures, c.skip_idle-at.ensures.ahead, u.inside)

pub loop-made-preserved : goal.loop-made-preserved
loop-made-preserved c =
    let u = c.skip_idle-at.ensures.same _ _ c.loop-made.invariant in
    taken u _ c.record_at.ensures _ c.in-Ok.is _ _ _
    (sym c.turns_down.ensures ∙ c.if-turns_down.false)
    c.after_call-history_len.ensures
    c.call_size-at.ensures
    refl

pub returns-in-Err-Short : goal.returns-in-Err-Short
returns-in-Err-Short c =
    ended (c.skip_idle-at.ensures.same _ _ c.loop-made.invariant) _ c.record_at.ensures (c.in-Err-Short.is ∙ ap Err c.in-Err-Short.field-0-is)

pub returns-in-Err-Other : goal.returns-in-Err-Other
returns-in-Err-Other c =
    bad_ended (c.skip_idle-at.ensures.same _ _ c.loop-made.invariant) _ c.record_at.ensures (c.in-Err-Other.is ∙ ap Err c.in-Err-Other.field-0-is)

pub returns-in-Ok : goal.returns-in-Ok
returns-in-Ok c =
    refused (c.skip_idle-at.ensures.same _ _ c.loop-made.invariant) _ c.record_at.ensures _ c.in-Ok.is
    (sym c.turns_down.ensures ∙ c.if-turns_down.true)

-- `take_calls` meets its contract. The loop's invariant is `Underway` of Running.antt.
use Rattle.std.proofs.Common.{arith}
use Rattle.lists.proofs.Running.{less, again_either, inside_listed, ended, bad_ended, bad_room}
use Rattle.lists.proofs.list.take_calls.Goals as goal

pub overflow_add-at : goal.overflow_add-at
overflow_add-at g c =
    let codec = g.met.C.Codec.is_codec in
    let u = c.skip_idle.ensures.same _ _ _ codec c.loop-made.invariant in
    omega (arith, inside_listed codec.decodes u _ c.call_at.ensures _ c.in-Listed.is _ c.call_size-at.ensures)

pub loop-made-smaller : goal.loop-made-smaller
loop-made-smaller g c =
    let codec = g.met.C.Codec.is_codec in
    let u = c.skip_idle.ensures.same _ _ _ codec c.loop-made.invariant in
    omega (arith, c.skip_idle.ensures.ahead, less codec.decodes u _ c.call_at.ensures _ c.in-Listed.is _ c.call_size-at.ensures)

pub loop-made-preserved : goal.loop-made-preserved
loop-made-preserved g c =
    let codec = g.met.C.Codec.is_codec in
    let u = c.skip_idle.ensures.same _ _ _ codec c.loop-made.invariant in
    again_either codec.decodes u _ c.call_at.ensures _ c.in-Listed.is _ c.call_size-at.ensures _ _ (grind (arith, c.turns_down.ensures))

pub returns-in-End : goal.returns-in-End
returns-in-End g c =
    let codec = g.met.C.Codec.is_codec in
    ended codec.decodes (c.skip_idle.ensures.same _ _ _ codec c.loop-made.invariant) _ c.call_at.ensures c.in-End.is

pub overflow_add-result : goal.overflow_add-result
overflow_add-result g c =
    let codec = g.met.C.Codec.is_codec in
    omega (arith, bad_room codec.decodes (c.skip_idle.ensures.same _ _ _ codec c.loop-made.invariant) _ c.call_at.ensures c.in-Bad.is)

pub returns-in-Bad : goal.returns-in-Bad
returns-in-Bad g c =
    let codec = g.met.C.Codec.is_codec in
    bad_ended codec.decodes (c.skip_idle.ensures.same _ _ _ codec c.loop-made.invariant) _ c.call_at.ensures c.in-Bad.is

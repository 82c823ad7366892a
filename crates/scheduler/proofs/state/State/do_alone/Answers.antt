-- `State::do_alone` meets its contract. The loop: the rules below i that are strained are recorded.
use native.Mathlib.Omega.{arith}
use mathlib.Core.Path.{sym, ◌∙◌, ap, subst}
use Rattle.scheduler.specs.Prelude.{Done, Plan, State}
use Rattle.members.specs.Sets.{Shows}
use Rattle.members.proofs.PlaceReads.{standing_at, standing_not}
use Rattle.scheduler.specs.State.{fate_of}
use Rattle.scheduler.specs.Rules.{stands}
use Rattle.scheduler.proofs.Laws.{plan_settle}
use Rattle.scheduler.proofs.CallLoops.{record_zero, record_forbidden, record_owing, record_kept, record_passed, record_all}
use Rattle.scheduler.proofs.state.State.do_alone.Goals as goal
use Rattle.scheduler.proofs.state.State.do_alone.Goals.{in-Some+then-does_forbid, then-does_forbid-via-then-does_forbid, then-does_forbid-via-else-does_forbid+then-does_owe, in-Some+else-does_forbid+else-does_owe, in_default}

pub loop-i-init : goal.loop-i-init
loop-i-init c = record_zero c.args.self.now _ _

pub loop-i-preserved : goal.loop-i-preserved
loop-i-preserved c =
    let s = c.args.self.now in
    let e = c.args.event in
    let i = c.loop-i.i in
    let after = c.settle_as.new.self in
    let done = c.settle_as.ensures in
    let before = c.loop-i.invariant in
    let ground = c.ground-ground.ensures in
    let shows : Shows s.plan (fate_of after) c.view-after.result =
    subst (λ (p : Plan). Shows p (fate_of after) c.view-after.result) (ap (λ (t : State). t.plan) done ∙ plan_settle Done s e) c.view-after.ensures in
    elim c.match-standing.branch [
      | in-Some+then-does_forbid w ↦
          let here = standing_at s.plan (stands s) i _ (w.in-Some.ensures s.plan s.broken (fate_of s) ground) in
          elim w.then-does_forbid.branch [
            | then-does_forbid-via-then-does_forbid v ↦
                record_forbidden s e after i _ done before _ here (v.if-does_forbid.ensures s.plan (fate_of s) ground.shows)
                ∙ sym (w.self-is ∙ w.break_rule.ensures)
            | then-does_forbid-via-else-does_forbid+then-does_owe v ↦
                record_owing s e after i _ done before _ here (v.if-does_forbid.ensures s.plan (fate_of s) ground.shows) (v.if-does_owe.ensures s.plan (fate_of after) shows)
                ∙ sym (w.self-is ∙ w.break_rule.ensures)
          ]
      | in-Some+else-does_forbid+else-does_owe w ↦
          let here = standing_at s.plan (stands s) i _ (w.in-Some.ensures s.plan s.broken (fate_of s) ground) in
          record_kept s e after i _ done before _ here (w.if-does_forbid.ensures s.plan (fate_of s) ground.shows) (w.if-does_owe.ensures s.plan (fate_of after) shows)
          ∙ sym w.self-is
      | in_default w ↦
          record_passed s e after i _ done before (standing_not s.plan (stands s) i (w.in_default.ensures s.plan s.broken (fate_of s) ground)) ∙ sym w.self-is
    ]

pub returns : goal.returns
returns c =
    let counts = c.ground-ground.ensures.counts in
    record_all c.args.self.now c.args.event _ c.loop-i.i c.loop-i.self c.settle_as.ensures c.loop-i.invariant
    (omega (arith, counts, c.loop-i.auto.i-end)) (omega (arith, counts, c.loop-i-test.false))

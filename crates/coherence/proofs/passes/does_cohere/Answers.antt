-- `does_cohere` meets its contract.
use mathlib.Core.Bool.{Bool, ◌&&◌}
use mathlib.Core.Path.{sym, ◌∙◌, ap}
use lib.ListN.{take}
use Rattle.plan.specs.Fates.{fates_of}
use Rattle.plan.specs.Rules.{sound_windows}
use Rattle.plan.proofs.Tests.{clash}
use Rattle.coherence.proofs.CoherentTests.{many_events, many_rules, many_lines, lines_fail, events_fail, rules_decide}
use Rattle.coherence.proofs.passes.does_cohere.Goals as goal
use Rattle.coherence.proofs.passes.does_cohere.Goals.{then-are_events_coherent, else-are_events_coherent, then-plan-gt16-via-then-plan-gt16, then-plan-gt16-via-else-plan-gt16+then-plan-gt16-2, then-plan-gt16-via-else-plan-gt16+else-plan-gt16-2+then-len-gt16}

pub returns-then-plan-gt16 : goal.returns-then-plan-gt16
returns-then-plan-gt16 c = sym (elim c.then-plan-gt16.branch [
  | then-plan-gt16-via-then-plan-gt16 w ↦ many_events c.args.plan c.args.len (fates_of c.args.standings) c.args.broken c.args.closed (take c.args.len c.args.history) w.if-plan-gt16.true
  | then-plan-gt16-via-else-plan-gt16+then-plan-gt16-2 w ↦ many_rules c.args.plan c.args.len (fates_of c.args.standings) c.args.broken c.args.closed (take c.args.len c.args.history) w.if-plan-gt16-2.true
  | then-plan-gt16-via-else-plan-gt16+else-plan-gt16-2+then-len-gt16 w ↦ many_lines c.args.plan c.args.len (fates_of c.args.standings) c.args.broken c.args.closed (take c.args.len c.args.history) w.if-len-gt16.true
])

pub returns-in_default : goal.returns-in_default
returns-in_default c = sym (lines_fail c.args.plan c.args.len (fates_of c.args.standings) c.args.broken c.args.closed (take c.args.len c.args.history) c.in_default.ensures)

pub returns-then-are_rules_coherent : goal.returns-then-are_rules_coherent
returns-then-are_rules_coherent c = elim c.if-are_events_coherent.branch [
  | then-are_events_coherent w ↦
      let told = c.in-Some.ensures in
      let pass = sym (c.are_events_coherent.ensures _ told.events) ∙ w.if-are_events_coherent.true in
      let rules = sym (w.are_rules_coherent.ensures _ _ told.placed pass) ∙ sym w.value-is ∙ c.if-are_rules_coherent.true in
      c.are_windows_sound.ensures
      ∙ ap (λ (b : Bool). b && sound_windows c.args.plan) (sym rules)
      ∙ sym (rules_decide c.args.plan c.args.len (fates_of c.args.standings) c.args.broken c.args.closed (take c.args.len c.args.history)
      c.if-plan-gt16.false c.if-plan-gt16-2.false c.if-len-gt16.false told.declared pass)
  | else-are_events_coherent w ↦ absurd (clash c.if-are_rules_coherent.true (w.value-is ∙ w.if-are_events_coherent.false))
]

pub returns-else-are_rules_coherent : goal.returns-else-are_rules_coherent
returns-else-are_rules_coherent c = let told = c.in-Some.ensures in c.if-are_rules_coherent.false ∙ sym (elim c.if-are_events_coherent.branch [
  | then-are_events_coherent w ↦
      let pass = sym (c.are_events_coherent.ensures _ told.events) ∙ w.if-are_events_coherent.true in
      rules_decide c.args.plan c.args.len (fates_of c.args.standings) c.args.broken c.args.closed (take c.args.len c.args.history)
      c.if-plan-gt16.false c.if-plan-gt16-2.false c.if-len-gt16.false told.declared pass
      ∙ ap (λ (b : Bool). b && sound_windows c.args.plan) (sym (w.are_rules_coherent.ensures _ _ told.placed pass) ∙ sym w.value-is ∙ c.if-are_rules_coherent.false)
  | else-are_events_coherent w ↦
      events_fail c.args.plan c.args.len (fates_of c.args.standings) c.args.broken c.args.closed (take c.args.len c.args.history)
      (sym (c.are_events_coherent.ensures _ told.events) ∙ w.if-are_events_coherent.false)
])

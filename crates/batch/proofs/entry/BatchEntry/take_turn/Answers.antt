-- `take_turn` meets its contract.
use Rattle.std.proofs.Common.{◌≡◌, ◌∙◌, sym, arith}
use Rattle.batch.specs.Batch.{carries}
use Rattle.batch.specs.Internal.Turns.{turn, turned}
use Rattle.batch.proofs.EntryTurns.{asked_submit, asked_close, asked_nothing, replied, turn_none, turned_none}
use Rattle.batch.proofs.entry.BatchEntry.take_turn.Goals as goal
use Rattle.batch.proofs.entry.BatchEntry.take_turn.Goals.{in-16, in-17}

pub returns-in_default : goal.returns-in_default
returns-in_default c =
    let none = asked_nothing c.args.self.now (λ h. omega arith) (λ h. omega arith) in
    record { state = sym (turn_none _ _ none); entry = sym (turned_none _ _ none) }

pub returns : goal.returns
returns c =
    let s = c.args.state in
    let e = c.args.self.now in
    let r = c.match-self.reply in
    let said : (r.state ≡ turn s e) × (carries e r.answer ≡ turned s e) = elim c.match-self.branch [
      | in-16 w ↦ replied s e _ r (asked_submit e w.in-16.is) (w.reply-is ∙ w.take_submit-reply.ensures)
      | in-17 w ↦ replied s e _ r (asked_close e (λ h. omega (arith, w.in-17.is)) w.in-17.is)
          (w.reply-is ∙ w.take_close-reply.ensures)
    ] in
    record { state = said.0; entry = c.carry.ensures ∙ said.1 }

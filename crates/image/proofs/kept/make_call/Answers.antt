-- `make_call` meets its contract.
use Rattle.std.proofs.Common.{◌∙◌, ap, rules}
use Rattle.image.specs.Types.{State}
use Rattle.scheduler.specs.Answers.{call}
use Rattle.image.proofs.CodeSteps.{called}
use Rattle.image.proofs.kept.make_call.Goals as goal

pub returns-clause-bytes : goal.returns-clause-bytes
returns-clause-bytes c =
    let reply = c.call-reply.ensures ∙ ap (λ (s : State). call s c.args.made) c.state_in.ensures in
    called c.args.image.now c.args.made c.told-image (search rules) _ _ reply c.note.ensures.bytes

-- `read_event` meets its contract.
use Rattle.std.proofs.Common.{◌∙◌, rules}
use Rattle.plan.specs.Plans.{blank_event}
use Rattle.readers.specs.Readers.{event_read}
use Rattle.readers.proofs.Places.{declared_is}
use Rattle.readers.proofs.read_event.Goals as goal

pub returns : goal.returns
unfolding event_read
returns c = c.declared.ensures ∙ declared_is c.args.state.plan.events _ _ blank_event (search rules)

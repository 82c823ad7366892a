-- `State::is_coherent` meets its contract.
use mathlib.Core.Path.{◌∙◌}
use Rattle.scheduler.proofs.CoherentParts.{coherent_parts}
use Rattle.scheduler.proofs.state.State.is_coherent.Goals as goal

pub returns : goal.returns
returns c = c.does_cohere.ensures ∙ coherent_parts c.args.self

-- `windows_in` meets its contract.
use Rattle.std.proofs.Common.{rules}
use Rattle.plan.specs.Plans.{blank_window}
use Rattle.image.specs.Layout.{window_in}
use Rattle.image.proofs.Made.{made}
use Rattle.image.proofs.read.windows_in.Goals as goal

pub returns : goal.returns
returns c = made c.from_fn.ensures.items (window_in c.args.image.now) blank_window (λ i y q lt k. search rules)

-- `Page::put` meets its contract.
use Rattle.std.proofs.Common.{arith, rules}
use Rattle.pages.proofs.Pages.{put_within, text_put_after}
use Rattle.pages.proofs.Page.put.Goals as goal

pub invariant_of-self : goal.invariant_of-self
invariant_of-self c = put_within _ _ _ c.put_bytes-self-inside.ensures.end (omega (arith, c.self.invariant))

pub returns : goal.returns
returns c =
    let put = c.put_bytes-self-inside.ensures in
    text_put_after c.self.inside.bytes _ _ (search rules) c.self.invariant c.self.view_is _ _ _ (put.end, put.page)

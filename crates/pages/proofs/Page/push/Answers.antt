-- `Page::push` meets its contract.
use Rattle.std.proofs.Common.{[], ◌∷◌, length-append, sym, arith, rules}
use Rattle.pages.proofs.Texts.{text_stays, text_size, text_pushed}
use Rattle.pages.proofs.Page.push.Goals as goal

pub returns-then-self-eq-MOST : goal.returns-then-self-eq-MOST
returns-then-self-eq-MOST c =
    let size = text_size c.self.inside.bytes _ _ (search rules) c.self.invariant c.self.view_is in
    sym (text_stays _ _ (omega (arith, size, length-append c.args.self.now (c.args.byte ∷ []))))

pub returns : goal.returns
returns c =
    text_pushed c.self.inside.bytes _ _ (search rules) c.self.invariant c.self.view_is c.args.byte (omega arith)

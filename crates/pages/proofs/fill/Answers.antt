-- `fill` meets its contract.
use Rattle.std.proofs.Common.{List, ℕ, ◌++◌, length, drop, sym, arith, ap, ◌∙◌}
use Rattle.pages.proofs.Texts.{filled_short, filled_fits}
use Rattle.pages.proofs.fill.Goals as goal

pub returns-then-out-text : goal.returns-then-out-text
returns-then-out-text c = filled_short _ _ (omega arith)

pub returns : goal.returns
returns c =
    ap (λ (l : List ℕ). l ++ drop (length c.args.text.now) c.args.out.now) c.copy_from_slice.ensures.after
    ∙ sym (filled_fits _ _ c.if-out-text.false)

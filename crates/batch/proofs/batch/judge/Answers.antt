-- `judge` meets its contract.
use Rattle.std.proofs.Common.{sym, lt-ltb, le-ltb}
use Rattle.batch.proofs.Verdicts.{fault_incoherent, fault_long, fault_none}
use Rattle.batch.proofs.batch.judge.Goals as goal

pub returns-then-not-is_coherent : goal.returns-then-not-is_coherent
returns-then-not-is_coherent c = fault_incoherent _ _ (sym c.if-not-is_coherent.ensures)

pub returns-then-count-gt-MOST : goal.returns-then-count-gt-MOST
returns-then-count-gt-MOST c = fault_long _ _ (sym c.if-not-is_coherent.ensures) (lt-ltb _ _ c.if-count-gt-MOST.true)

pub returns : goal.returns
returns c = fault_none _ _ (sym c.if-not-is_coherent.ensures) (le-ltb _ _ c.if-count-gt-MOST.false)

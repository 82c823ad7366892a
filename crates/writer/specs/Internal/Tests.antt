-- The test for number 12.
use Rattle.std.specs.Prelude.{cond}
use Rattle.scheduler.specs.Coherent.{coherent}
use Rattle.writer.specs.Types.{Result, Ok, Err, State, WriteFault, Incoherent}

-- a state that is not coherent is turned down
unfoldable pub coherent_or_fault : State → Result Unit WriteFault
coherent_or_fault s = cond (coherent s) (Ok tt) (Err Incoherent)

-- `list_events` meets its contract. The loop's invariant: what the lines passed tell (`Turn`).
use Rattle.coherence.proofs.Listings.{Turn}
use Rattle.coherence.proofs.listing.list_events.Given as goal

abbrev pub invariant-loop-i : goal.invariant-loop-i
invariant-loop-i l = Turn l.fn.history l.len l.count l.standings l.listed l.places l.i

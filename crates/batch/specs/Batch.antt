-- A batch: the calls that its entries ask for, what each entry carries afterwards, and when the whole batch is turned
-- down.
use Rattle.std.specs.Prelude.{ℕ, true, false, not, List, [], ◌∷◌, ◌++◌, ◌≡◌, eqb, ltb, length}
use Rattle.std.specs.declared.option.Option.{Option}
use Rattle.std.specs.declared.option.Option.TheVariants.{None as none, Some as some}
use Rattle.batch.specs.Types.{Call, Submit, Close, CallFault, Incoherent, TooLong, Fate, Answer, Made, State, Reply, BatchEntry}
use Rattle.plan.specs.Fates.{fate_number}
use Rattle.plan.specs.Faults.{answer_number, answer_fate, first_fault}
use Rattle.scheduler.specs.Coherent.{coherent}
use Rattle.scheduler.specs.Answers.{turned_down_by, call}
use Rattle.scheduler.specs.Demand.{seen, Demand3}
use Rattle.scheduler.specs.Lists.{scheduler, after}

-- the call that an entry asks for: kind 16 is a submit (hand in), kind 17 a closing, and any other kind is no call
-- (9.11)
unfoldable pub asked_by : BatchEntry → Option Call
asked_by e = elim (eqb e.kind 16) [
  | true ↦ some (Submit e.number)
  | false ↦ elim (eqb e.kind 17) [ true ↦ some (Close e.number) | false ↦ none ]
]

-- the calls of a batch, in its order (9.12)
unfoldable pub calls_of : List BatchEntry → List Call
calls_of [] = []
calls_of (e ∷ es) = elim (asked_by e) [ some c ↦ c ∷ calls_of es | none ↦ calls_of es ]

-- an entry with an answer in it: its kind and its number stay (9.13)
abbrev pub carrying : BatchEntry → ℕ → ℕ → BatchEntry
carrying e n f = record { kind = e.kind; number = e.number; refused = n; fate = f }

-- the number of the fate that an answer gives; 0 if it gives none (9.13)
abbrev pub fate_carried : Option Fate → ℕ
fate_carried x = elim x [ some f ↦ fate_number f | none ↦ 0 ]

-- an entry with the answer of its single call (9.13)
abbrev pub carries : BatchEntry → Answer → BatchEntry
carries e a = carrying e (answer_number a) (fate_carried (answer_fate a))

-- an entry after its turn on a state. If it asks for no call, it carries 2, the number of an unknown kind of record
-- (9.13)
unfoldable pub answered : State → BatchEntry → BatchEntry
answered s e = elim (asked_by e) [ some c ↦ carries e (call s c).answer | none ↦ carrying e 2 0 ]

-- the state after an entry's turn (9.12)
unfoldable pub after_entry : State → BatchEntry → State
after_entry s e = elim (asked_by e) [ some c ↦ (call s c).state | none ↦ s ]

-- the entries after their turns, each on the state that the one before it left (9.12, 9.13)
unfoldable pub answers : State → List BatchEntry → List BatchEntry
answers s [] = []
answers s (e ∷ es) = answered s e ∷ answers (after_entry s e) es

-- why a whole batch of n entries is turned down: number 12, then number 13 for more than 64 entries (10.7)
unfoldable pub batch_fault : State → ℕ → Option CallFault
batch_fault s n = first_fault ((not (coherent s), Incoherent) ∷ (ltb 64 n, TooLong) ∷ [])

-- what a batch gives: its answer, and the state after the list of its calls (9.12, 10.7)
unfoldable pub batch_reply : State → List BatchEntry → Reply
batch_reply s es = elim (batch_fault s (length es)) [
  | some f ↦ turned_down_by f s
  | none ↦ record { answer = Made; state = after scheduler s (calls_of es) }
]

-- the entries after a batch; if it is turned down, they stay as they were (9.13, 10.7)
unfoldable pub batch_entries : State → List BatchEntry → List BatchEntry
batch_entries s es = elim (batch_fault s (length es)) [ some f ↦ es | none ↦ answers s es ]

-- a batch after the list cs, from first state s on: it gives the same as the list with the entries' calls added, and
-- the guarantee (demand 3) is true of the state after it (11.14)
pub record Extends (s : State) (cs : List Call) (es : List BatchEntry) : Type 0 where
  pub reply : batch_reply (after scheduler s cs) es ≡ record { answer = Made; state = after scheduler s (cs ++ calls_of es) }
  pub entries : batch_entries (after scheduler s cs) es ≡ answers (after scheduler s cs) es
  pub demand : Demand3 s.plan (seen scheduler s (cs ++ calls_of es)) (batch_reply (after scheduler s cs) es).state

-- a single call or a batch; these may come in any sequence (11.14)
pub data Move : Type 0 where
  one : Call → Move
  together : List BatchEntry → Move

-- the state after calls and batches, each made on what the one before it left, also if that one was turned down (11.14)
unfoldable pub moved : State → List Move → State
moved s [] = s
moved s (one c ∷ ms) = moved (call s c).state ms
moved s (together es ∷ ms) = moved (batch_reply s es).state ms

-- the list of all their calls; a batch that is too long adds none (11.14)
unfoldable pub calls_in : List Move → List Call
calls_in [] = []
calls_in (one c ∷ ms) = c ∷ calls_in ms
calls_in (together es ∷ ms) = elim (ltb 64 (length es)) [ true ↦ calls_in ms | false ↦ calls_of es ++ calls_in ms ]

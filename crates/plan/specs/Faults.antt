-- Why a sheet or a call is turned down, what a call answers, and the first row of a table that applies.
use Rattle.std.specs.Prelude.{◌∷◌}
use Rattle.plan.specs.Prelude.{ℕ, Bool, true, false, List, [], Option, none, some, Result, Fate, Refusal, SheetFault, Cut, BadKind, Full, BadStep, BadAttributes, BadNames, Unenforceable, Extra, BadWindow, CallFault, Unknown, AlreadyClosed, NotClosed, Incoherent, TooLong, NoRoom, Backward, Answer, Is, Made, TurnedDown}

-- the number of each fault for which a sheet is turned down (4.2)
abbrev pub sheet_fault_number : SheetFault → ℕ
sheet_fault_number f = elim f [
  | Cut ↦ 1
  | BadKind ↦ 2
  | Full ↦ 3
  | BadStep ↦ 4
  | BadAttributes ↦ 5
  | BadNames ↦ 6
  | Unenforceable ↦ 7
  | Extra ↦ 8
  | BadWindow ↦ 15
]

-- the number of each fault for which a call, a batch, a preview or a writing is turned down (10.2, 10.7 to 10.9)
abbrev pub call_fault_number : CallFault → ℕ
call_fault_number f = elim f [
  | Unknown ↦ 9
  | AlreadyClosed ↦ 10
  | NotClosed ↦ 11
  | Incoherent ↦ 12
  | TooLong ↦ 13
  | NoRoom ↦ 14
  | Backward ↦ 16
]

-- what reading a sheet gives: it is admitted, or turned down with a fault and its offset (4.1)
abbrev pub Verdict : Type 0
Verdict = Result Unit Refusal

abbrev pub refusal : SheetFault → ℕ → Refusal
refusal f at = record { fault = f; at = at }

-- an answer's number: that of the fault if the call is turned down, 0 if it is accepted (9.6)
abbrev pub answer_number : Answer → ℕ
answer_number a = elim a [ Is x ↦ 0 | Made ↦ 0 | TurnedDown f ↦ call_fault_number f ]

-- an answer's fate: an accepted submit (hand in) answers one, and no other answer has one (9.6)
abbrev pub answer_fate : Answer → Option Fate
answer_fate a = elim a [
  | Is x ↦ some x
  | Made ↦ none
  | TurnedDown f ↦ none
]

abbrev pub is_turned_down : Answer → Bool
is_turned_down a = elim a [ Is x ↦ false | Made ↦ false | TurnedDown f ↦ true ]

-- a row of a table is a condition and its fault; the first row whose condition holds decides (4.2, 10.2)
unfoldable pub first_fault : {F : Type 0} → List (Bool × F) → Option F
first_fault [] = none
first_fault (r ∷ rs) = elim r.0 [ true ↦ some r.1 | false ↦ first_fault rs ]

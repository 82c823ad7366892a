-- Fates, marks and rules as numbers, and back.
use Prim.Native.Nat.{ℕ, zero, suc, ◌≤◌, ◌<◌}
use native.Mathlib.Omega.{arith}
use borrow.Author.Tests.{ltb-true, eqb-true}
use mathlib.Core.Bool.{Bool, true, false, ◌&&◌, ◌||◌}
use mathlib.Core.Path.{◌≡◌, refl, sym}
use lib.Dec.{eqb, ltb}
use Rattle.image.specs.Types.{Fate, Open, Held, Done, Refused, Lapsed, Forced, Rule, Order, Need, Conditional, Record, Answer, Is, Made, TurnedDown, Verdict, Err, SheetFault, Cut, BadKind, Full, BadStep, BadAttributes, BadNames, Unenforceable, Extra, BadWindow, CallFault, Unknown, AlreadyClosed, NotClosed, Incoherent, TooLong, NoRoom, Backward}
use Rattle.plan.specs.Base.{one_if}
use Rattle.plan.specs.Fates.{fate_number}
use Rattle.plan.specs.Faults.{refusal, sheet_fault_number, call_fault_number, answer_number}
use Rattle.plan.specs.Records.{rule_of}
use Rattle.image.specs.Layout.{fate_from, rule_kind, rule_a, rule_b, rule_c}

pub fate_back : (x : Fate) → fate_from (fate_number x) ≡ x
fate_back Open = refl
fate_back Held = refl
fate_back Done = refl
fate_back Refused = refl
fate_back Lapsed = refl
fate_back Forced = refl

pub fate_low : (x : Fate) → ltb (fate_number x) 6 ≡ true
fate_low Open = refl
fate_low Held = refl
fate_low Done = refl
fate_low Refused = refl
fate_low Lapsed = refl
fate_low Forced = refl

pub number_back : (n : ℕ) → ltb n 6 ≡ true → fate_number (fate_from n) ≡ n
number_back zero h = refl
number_back (suc zero) h = refl
number_back (suc (suc zero)) h = refl
number_back (suc (suc (suc zero))) h = refl
number_back (suc (suc (suc (suc zero)))) h = refl
number_back (suc (suc (suc (suc (suc n))))) h = omega (arith, ltb-true (suc (suc (suc (suc (suc n))))) 6 h)

pub mark_back : (b : Bool) → eqb (one_if b) 1 ≡ b
mark_back true = refl
mark_back false = refl

pub mark_low : (b : Bool) → ltb (one_if b) 2 ≡ true
mark_low true = refl
mark_low false = refl

pub one_back : (n : ℕ) → ltb n 2 ≡ true → one_if (eqb n 1) ≡ n
one_back zero h = refl
one_back (suc zero) h = refl
one_back (suc (suc n)) h = absurd (omega (arith, ltb-true (suc (suc n)) 2 h))

-- a rule's four bytes
abbrev pub record_of : Rule → Record
record_of r = record { kind = rule_kind r; x = rule_a r; y = rule_b r; z = rule_c r; from = 0; until = 0 }

pub rule_back : (r : Rule) → rule_of (record_of r) ≡ r
unfolding rule_of
rule_back (Order a b) = refl
rule_back (Need a b) = refl
rule_back (Conditional a b c) = refl

-- the tests that a rule's bytes pass
pub rule_passes : (r : Rule) → (ltb 1 (rule_kind r) && ltb (rule_kind r) 5 && (eqb (rule_kind r) 4 || eqb (rule_c r) 0)) ≡ true
rule_passes (Order a b) = refl
rule_passes (Need a b) = refl
rule_passes (Conditional a b c) = refl

-- a rule's bytes are those of the rule that they say
pub record RuleBytes (v : Record) : Type 0 where
  pub kind_is : rule_kind (rule_of v) ≡ v.kind
  pub a_is : rule_a (rule_of v) ≡ v.x
  pub b_is : rule_b (rule_of v) ≡ v.y
  pub c_is : rule_c (rule_of v) ≡ v.z

pub rule_bytes : (k x y z : ℕ)
    → ltb 1 k ≡ true
    → ltb k 5 ≡ true
    → (eqb k 4 || eqb z 0) ≡ true
    → RuleBytes (record { kind = k; x = x; y = y; z = z; from = 0; until = 0 })
unfolding rule_of
rule_bytes zero x y z lo hi h = let e : ◌≡◌ {A = ℕ} 0 1 = cc in absurd (omega arith)
rule_bytes (suc zero) x y z lo hi h = let e : ◌≡◌ {A = ℕ} 0 1 = cc in absurd (omega arith)
rule_bytes (suc (suc zero)) x y z lo hi h = record { kind_is = refl; a_is = refl; b_is = refl; c_is = sym (eqb-true z 0 h) }
rule_bytes (suc (suc (suc zero))) x y z lo hi h = record { kind_is = refl; a_is = refl; b_is = refl; c_is = sym (eqb-true z 0 h) }
rule_bytes (suc (suc (suc (suc zero)))) x y z lo hi h = record { kind_is = refl; a_is = refl; b_is = refl; c_is = refl }
rule_bytes (suc (suc (suc (suc (suc k))))) x y z lo hi h = absurd (omega (arith, ltb-true (suc (suc (suc (suc (suc k))))) 5 hi))

-- the numbers of faults are bytes
sheet_number_low : (f : SheetFault) → sheet_fault_number f ≤ 15
sheet_number_low Cut = omega arith
sheet_number_low BadKind = omega arith
sheet_number_low Full = omega arith
sheet_number_low BadStep = omega arith
sheet_number_low BadAttributes = omega arith
sheet_number_low BadNames = omega arith
sheet_number_low Unenforceable = omega arith
sheet_number_low Extra = omega arith
sheet_number_low BadWindow = omega arith

call_number_low : (f : CallFault) → call_fault_number f ≤ 16
call_number_low Unknown = omega arith
call_number_low AlreadyClosed = omega arith
call_number_low NotClosed = omega arith
call_number_low Incoherent = omega arith
call_number_low TooLong = omega arith
call_number_low NoRoom = omega arith
call_number_low Backward = omega arith

pub sheet_byte : (v : Verdict) (f : SheetFault) (at n : ℕ) → v ≡ Err (refusal f at) → n ≡ sheet_fault_number f → n < 256
sheet_byte v f at n h e = omega (arith, e, sheet_number_low f)

pub answer_byte : (a : Answer) → answer_number a < 256
answer_byte (Is x) = omega arith
answer_byte Made = omega arith
answer_byte (TurnedDown f) = omega (arith, call_number_low f)

-- no fault has number 0
pub fault_above : (f : CallFault) → 0 < call_fault_number f
fault_above Unknown = omega arith
fault_above AlreadyClosed = omega arith
fault_above NotClosed = omega arith
fault_above Incoherent = omega arith
fault_above TooLong = omega arith
fault_above NoRoom = omega arith
fault_above Backward = omega arith

pub sheet_fault_above : (f : SheetFault) → 0 < sheet_fault_number f
sheet_fault_above Cut = omega arith
sheet_fault_above BadKind = omega arith
sheet_fault_above Full = omega arith
sheet_fault_above BadStep = omega arith
sheet_fault_above BadAttributes = omega arith
sheet_fault_above BadNames = omega arith
sheet_fault_above Unenforceable = omega arith
sheet_fault_above Extra = omega arith
sheet_fault_above BadWindow = omega arith

-- A sheet's records: their bytes, what they declare, and the tests that turn them down.
use Rattle.std.specs.Prelude.{◌+◌, ◌*◌, ◌&&◌, ◌||◌, ◌∷◌}
use Rattle.plan.specs.Prelude.{ℕ, Bool, true, false, not, List, [], Option, eqb, ltb, leb, get_or, Rule, Order, Need, Conditional, Plan, Record, SheetFault, Cut, BadKind, Full, BadStep, BadAttributes, BadNames, Unenforceable, BadWindow}
use Rattle.plan.specs.Base.{store_at}
use Rattle.plan.specs.Plans.{event_count, rule_count}
use Rattle.plan.specs.Rules.{bad_step, bad_attributes, bad_window, named, enforceable}
use Rattle.plan.specs.Faults.{first_fault}

-- the length of a record's body, by its kind, 1 to 7 (3.2)
abbrev pub body_length : ℕ → ℕ
body_length k = get_or (0 ∷ 2 ∷ 2 ∷ 2 ∷ 3 ∷ 0 ∷ 1 ∷ 9 ∷ []) k 0

-- how many events a record declares, by its kind (3.2)
abbrev pub new_events : ℕ → ℕ
new_events k = get_or (0 ∷ 1 ∷ 0 ∷ 0 ∷ 0 ∷ 0 ∷ 4 ∷ []) k 0

-- how many rules a record declares, by its kind (3.2)
abbrev pub new_rules : ℕ → ℕ
new_rules k = get_or (0 ∷ 0 ∷ 1 ∷ 1 ∷ 1 ∷ 0 ∷ 0 ∷ []) k 0

abbrev pub is_rule : ℕ → Bool
is_rule k = eqb (new_rules k) 1

-- four bytes as a number, the lowest byte first (3.5)
abbrev pub word_of : ℕ → ℕ → ℕ → ℕ → ℕ
word_of a b c d = a + 256 * (b + 256 * (c + 256 * d))

-- the number in the four bytes from an offset on (3.5)
abbrev pub word_at : List ℕ → ℕ → ℕ
word_at b at = word_of (get_or b at 0) (get_or b (at + 1) 0) (get_or b (at + 2) 0) (get_or b (at + 3) 0)

-- the number at an offset in a record of kind 7; for a record of another kind, 0 (3.2, 3.5)
abbrev pub number_at : ℕ → List ℕ → ℕ → ℕ
number_at k b at = elim (eqb k 7) [ true ↦ word_at b at | false ↦ 0 ]

-- the record at an offset: its kind, the three bytes after it, and the two numbers after the first of these. Bytes past
-- the end are read as 0 (3.1, 3.5). A sheet never declares such a 0: a record that is not turned down lies whole within
-- the sheet (`faultless` in FaultlessRecords, field `whole`; the rows on number 1 in `judged`)
abbrev pub record_at : List ℕ → ℕ → Record
record_at b at = record {
  kind = get_or b at 0;
  x = get_or b (at + 1) 0;
  y = get_or b (at + 2) 0;
  z = get_or b (at + 3) 0;
  from = number_at (get_or b at 0) b (at + 2);
  until = number_at (get_or b at 0) b (at + 6);
}

-- the rule of a record: kind 2 is an order, 3 a need, 4 a conditional (3.2)
unfoldable pub rule_of : Record → Rule
rule_of r = elim (eqb r.kind 2) [
  | true ↦ Order r.x r.y
  | false ↦ elim (eqb r.kind 3) [
    | true ↦ Need r.x r.y
    | false ↦ Conditional r.x r.y r.z
  ]
]

-- adds an event, which gets the next number (2.2)
unfoldable pub add_event : Plan → ℕ → ℕ → Plan
add_event p k a = record {
  events = store_at 16 p.events (event_count p) (record { step = k; attributes = a });
  event_count = event_count p + 1;
  rules = p.rules;
  rule_count = rule_count p;
  windows = p.windows;
}

-- adds a rule, which gets the next number (2.5)
unfoldable pub add_rule : Plan → Rule → Plan
add_rule p r = record {
  events = p.events;
  event_count = event_count p;
  rules = store_at 16 p.rules (rule_count p) (record { rule = r });
  rule_count = rule_count p + 1;
  windows = p.windows;
}

-- gives an event its window (2.10)
unfoldable pub add_window : Plan → ℕ → ℕ → ℕ → Plan
add_window p e from until = record {
  events = p.events;
  event_count = event_count p;
  rules = p.rules;
  rule_count = rule_count p;
  windows = store_at 16 p.windows e (record { from = from; until = until });
}

-- the attributes of start, prepare, commit and abort (2.9)
abbrev pub table1 : List ℕ
table1 = 7 ∷ 0 ∷ 6 ∷ 1 ∷ []

-- adds events of step k, one for each value in a list of attributes (3.2)
unfoldable pub add_events : Plan → ℕ → List ℕ → Plan
add_events p k [] = p
add_events p k (a ∷ more) = add_events (add_event p k a) k more

-- the plan with what a record declares (3.2)
unfoldable pub declare : Plan → Record → Plan
declare p r = elim (eqb r.kind 1) [
  | true ↦ add_event p r.x r.y
  | false ↦ elim (eqb r.kind 6) [
    | true ↦ add_events p r.x table1
    | false ↦ elim (eqb r.kind 7) [
      | true ↦ add_window p r.x r.from r.until
      | false ↦ add_rule p (rule_of r)
    ]
  ]
]

-- the first fault of a record, by the tests of the table in their order. The sheet has `len` bytes, and the record
-- begins at offset `at` (4.2, 4.3)
unfoldable pub record_fault : Plan → ℕ → ℕ → Record → Option SheetFault
record_fault p len at r =
    first_fault (
    (leb len at, Cut)
    ∷ (eqb r.kind 0 || ltb 7 r.kind, BadKind)
    ∷ (ltb len (at + 1 + body_length r.kind), Cut)
    ∷ (ltb 16 (event_count p + new_events r.kind) || ltb 16 (rule_count p + new_rules r.kind), Full)
    ∷ ((eqb r.kind 1 || eqb r.kind 6) && bad_step r.x, BadStep)
    ∷ (eqb r.kind 1 && bad_attributes r.y, BadAttributes)
    ∷ (is_rule r.kind && not (named (event_count p) (rule_of r)), BadNames)
    ∷ (is_rule r.kind && not (enforceable p (rule_of r)), Unenforceable)
    ∷ (eqb r.kind 7 && bad_window p r.x r.from r.until, BadWindow)
    ∷ [])

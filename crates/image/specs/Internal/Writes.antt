-- Rows of bytes written one after another over bytes, and what a plan and a state write.
use Rattle.std.specs.Prelude.{ℕ, zero, suc, ◌≡◌, ◌+◌, ◌*◌, Bool, false, List, [], ◌∷◌, get_or, set}
use Rattle.image.specs.Types.{Event, RuleLine, Window, Standing, Plan, Entry, State}
use Rattle.plan.specs.Base.{one_if}
use Rattle.plan.specs.Fates.{fate_number, blank_standing}
use Rattle.plan.specs.Plans.{event_count, rule_count, blank_event, blank_rule, blank_window}
use Rattle.plan.specs.Histories.{blank_entry}
use Rattle.scheduler.specs.State.{line_count}
use Rattle.image.specs.Layout.{step_at, attributes_at, kind_at, a_at, b_at, c_at, fate_at, mark_at, shut_at, line_event_at, line_fate_at, minute_at, from_at, until_at, rule_kind, rule_a, rule_b, rule_c, word_byte, row_byte}

-- the bytes with g 0, g 1, .. in the n places from `at` on
unfoldable pub put_to : ℕ → (ℕ → ℕ) → List ℕ → ℕ → List ℕ
put_to at g l zero = l
put_to at g l (suc n) = set (put_to at g l n) (at + n) (g n)

-- m is l with g of the first n elements of a row in the places from `at` on, where each call on an element x gives g x
abbrev pub IsRowPut : {T : Type 0} → (T → ℕ → Type 0) → ℕ → List T → ℕ → List ℕ → List ℕ → Type 0
IsRowPut {T} calls at row n l m =
    (g : T → ℕ) (d : T) → ((x : T) (y : ℕ) → calls x y → y ≡ g x) → m ≡ put_to at (λ i. g (get_or row i d)) l n

-- the same with the four bytes of each number
abbrev pub IsWordRowPut : {T : Type 0} → (T → ℕ → Type 0) → ℕ → List T → ℕ → List ℕ → List ℕ → Type 0
IsWordRowPut {T} calls at row n l m =
    (g : T → ℕ) (d : T) → ((x : T) (y : ℕ) → calls x y → y ≡ g x) → m ≡ put_to at (row_byte (λ i. g (get_or row i d))) l (4 * n)

-- a row to be written: where it begins, its length, and its bytes
pub record Row : Type 0 where
  pub at : ℕ
  pub len : ℕ
  pub byte : ℕ → ℕ

unfoldable pub written : List Row → List ℕ → List ℕ
written [] b = b
written (r ∷ rs) b = written rs (put_to r.at r.byte b r.len)

abbrev pub one : ℕ → ℕ → Row
one at x = record { at = at; len = 1; byte = λ _. x }

abbrev pub sixteen : ℕ → (ℕ → ℕ) → Row
sixteen at g = record { at = at; len = 16; byte = g }

-- the bytes of each array
abbrev pub step_byte : List Event → ℕ → ℕ
step_byte l i = (get_or l i blank_event).step

abbrev pub attributes_byte : List Event → ℕ → ℕ
attributes_byte l i = (get_or l i blank_event).attributes

abbrev pub kind_byte : List RuleLine → ℕ → ℕ
kind_byte l i = rule_kind (get_or l i blank_rule).rule

abbrev pub a_byte : List RuleLine → ℕ → ℕ
a_byte l i = rule_a (get_or l i blank_rule).rule

abbrev pub b_byte : List RuleLine → ℕ → ℕ
b_byte l i = rule_b (get_or l i blank_rule).rule

abbrev pub c_byte : List RuleLine → ℕ → ℕ
c_byte l i = rule_c (get_or l i blank_rule).rule

abbrev pub from_byte : List Window → ℕ → ℕ
from_byte l i = row_byte (λ e. (get_or l e blank_window).from) i

abbrev pub until_byte : List Window → ℕ → ℕ
until_byte l i = row_byte (λ e. (get_or l e blank_window).until) i

abbrev pub fate_byte : List Standing → ℕ → ℕ
fate_byte l i = fate_number (get_or l i blank_standing).fate

abbrev pub mark_byte : List Bool → ℕ → ℕ
mark_byte l i = one_if (get_or l i false)

abbrev pub line_event_byte : List Entry → ℕ → ℕ
line_event_byte l i = (get_or l i blank_entry).event

abbrev pub line_fate_byte : List Entry → ℕ → ℕ
line_fate_byte l i = fate_number (get_or l i blank_entry).fate

-- the rows of a plan, with the version before them
abbrev pub plan_rows : Plan → List Row
plan_rows p =
    one 0 1
    ∷ one 1 (event_count p)
    ∷ one 2 (rule_count p)
    ∷ sixteen step_at (step_byte p.events)
    ∷ sixteen attributes_at (attributes_byte p.events)
    ∷ sixteen kind_at (kind_byte p.rules)
    ∷ sixteen a_at (a_byte p.rules)
    ∷ sixteen b_at (b_byte p.rules)
    ∷ sixteen c_at (c_byte p.rules)
    ∷ record { at = from_at; len = 64; byte = from_byte p.windows }
    ∷ record { at = until_at; len = 64; byte = until_byte p.windows }
    ∷ []

-- the rows that a call may change
abbrev pub call_rows : State → List Row
call_rows s =
    one 3 (line_count s)
    ∷ sixteen fate_at (fate_byte s.standings)
    ∷ sixteen mark_at (mark_byte s.broken)
    ∷ record { at = shut_at; len = 8; byte = mark_byte s.closed }
    ∷ sixteen line_event_at (line_event_byte s.history)
    ∷ sixteen line_fate_at (line_fate_byte s.history)
    ∷ record { at = minute_at; len = 4; byte = word_byte s.minute }
    ∷ []

-- the plan written over bytes, and what a call may change
unfoldable pub with_plan : Plan → List ℕ → List ℕ
with_plan p b = written (plan_rows p) b

unfoldable pub with_call : State → List ℕ → List ℕ
with_call s b = written (call_rows s) b

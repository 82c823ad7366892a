-- A state as 384 bytes: where each part stands, the bytes of a state, the state that bytes stand for, and which bytes
-- are an image. The layout is fixed for ever: a host may keep the bytes from one version of the library to the next.
use Rattle.std.specs.Prelude.{ℕ, ◌+◌, ◌*◌, ◌/◌, ◌%◌, Bool, ◌&&◌, ◌||◌, List, [], ◌∷◌, ◌++◌, ◌≡◌, eqb, ltb, length, get_or, replicate}
use Rattle.image.specs.Types.{Fate, Open, Held, Done, Refused, Lapsed, Forced, Standing, Event, Rule, Order, Need, Conditional, RuleLine, Window, Plan, Entry, Record, State}
use Rattle.plan.specs.Base.{one_if, all_below, tabulate, read_at}
use Rattle.plan.specs.Fates.{fate_number}
use Rattle.plan.specs.Plans.{event_count, rule_count, step_of, attributes_of, rule_at, window_at}
use Rattle.plan.specs.Histories.{blank_entry}
use Rattle.plan.specs.Records.{rule_of, word_at}
use Rattle.plan.specs.Calls.{bytes_of}
use Rattle.scheduler.specs.State.{fate_of, broken_at, closed_at, line_count, Sized}

-- the offset of each part. Before the first row stand the version and the counts of events, rules and lines (5.9)
abbrev pub step_at : ℕ
step_at = 4

abbrev pub attributes_at : ℕ
attributes_at = 20

abbrev pub kind_at : ℕ
kind_at = 36

abbrev pub a_at : ℕ
a_at = 52

abbrev pub b_at : ℕ
b_at = 68

abbrev pub c_at : ℕ
c_at = 84

abbrev pub fate_at : ℕ
fate_at = 100

abbrev pub mark_at : ℕ
mark_at = 116

abbrev pub shut_at : ℕ
shut_at = 132

abbrev pub line_event_at : ℕ
line_event_at = 140

abbrev pub line_fate_at : ℕ
line_fate_at = 156

abbrev pub minute_at : ℕ
minute_at = 172

abbrev pub from_at : ℕ
from_at = 176

abbrev pub until_at : ℕ
until_at = 240

abbrev pub spare_at : ℕ
spare_at = 304

-- a rule's kind, as in a sheet (5.9)
abbrev pub rule_kind : Rule → ℕ
rule_kind r = elim r [ Order a b ↦ 2 | Need a b ↦ 3 | Conditional a b c ↦ 4 ]

-- a rule's events; 0 for the third one if it has none (5.9)
abbrev pub rule_a : Rule → ℕ
rule_a r = elim r [ Order a b ↦ a | Need a b ↦ a | Conditional a b c ↦ a ]

abbrev pub rule_b : Rule → ℕ
rule_b r = elim r [ Order a b ↦ b | Need a b ↦ b | Conditional a b c ↦ b ]

abbrev pub rule_c : Rule → ℕ
rule_c r = elim r [ Order a b ↦ 0 | Need a b ↦ 0 | Conditional a b c ↦ c ]

-- place i of the history, also beyond its last line
abbrev pub place_of : State → ℕ → Entry
place_of s i = read_at 16 s.history i blank_entry

-- byte k of a number of four bytes, the lowest first (3.5)
abbrev pub word_byte : ℕ → ℕ → ℕ
word_byte m k = get_or (bytes_of m) k 0

-- byte i of a row of such numbers (5.9)
abbrev pub row_byte : (ℕ → ℕ) → ℕ → ℕ
row_byte f i = word_byte (f (i / 4)) (i % 4)

-- the image of a state (5.9)
unfoldable pub image_of : State → List ℕ
image_of s =
    (1 ∷ event_count s.plan ∷ rule_count s.plan ∷ line_count s ∷ [])
    ++ tabulate 16 0 (λ e. step_of s.plan e)
    ++ tabulate 16 0 (λ e. attributes_of s.plan e)
    ++ tabulate 16 0 (λ i. rule_kind (rule_at s.plan i))
    ++ tabulate 16 0 (λ i. rule_a (rule_at s.plan i))
    ++ tabulate 16 0 (λ i. rule_b (rule_at s.plan i))
    ++ tabulate 16 0 (λ i. rule_c (rule_at s.plan i))
    ++ tabulate 16 0 (λ e. fate_number (fate_of s e))
    ++ tabulate 16 0 (λ i. one_if (broken_at s i))
    ++ tabulate 8 0 (λ k. one_if (closed_at s k))
    ++ tabulate 16 0 (λ n. (place_of s n).event)
    ++ tabulate 16 0 (λ n. fate_number (place_of s n).fate)
    ++ tabulate 4 0 (λ k. word_byte s.minute k)
    ++ tabulate 64 0 (λ i. row_byte (λ e. (window_at s.plan e).from) i)
    ++ tabulate 64 0 (λ i. row_byte (λ e. (window_at s.plan e).until) i)
    ++ replicate 80 0

abbrev pub byte_at : List ℕ → ℕ → ℕ
byte_at b k = get_or b k 0

-- the fate that has this number (5.9)
abbrev pub fate_from : ℕ → Fate
fate_from n = get_or (Open ∷ Held ∷ Done ∷ Refused ∷ Lapsed ∷ []) n Forced

-- the parts of a state, read from bytes; a rule's four bytes are read as a sheet's record
abbrev pub event_in : List ℕ → ℕ → Event
event_in b e = record { step = byte_at b (step_at + e); attributes = byte_at b (attributes_at + e) }

abbrev pub record_in : List ℕ → ℕ → Record
record_in b i = record {
  kind = byte_at b (kind_at + i);
  x = byte_at b (a_at + i);
  y = byte_at b (b_at + i);
  z = byte_at b (c_at + i);
  from = 0;
  until = 0;
}

abbrev pub rule_in : List ℕ → ℕ → RuleLine
rule_in b i = record { rule = rule_of (record_in b i) }

abbrev pub standing_in : List ℕ → ℕ → Standing
standing_in b e = record { fate = fate_from (byte_at b (fate_at + e)) }

abbrev pub entry_in : List ℕ → ℕ → Entry
entry_in b n = record { event = byte_at b (line_event_at + n); fate = fate_from (byte_at b (line_fate_at + n)) }

abbrev pub window_in : List ℕ → ℕ → Window
window_in b e = record { from = word_at b (from_at + 4 * e); until = word_at b (until_at + 4 * e) }

unfoldable pub plan_in : List ℕ → Plan
plan_in b = record {
  events = tabulate 16 0 (event_in b);
  event_count = byte_at b 1;
  rules = tabulate 16 0 (rule_in b);
  rule_count = byte_at b 2;
  windows = tabulate 16 0 (window_in b);
}

-- the state that bytes stand for (5.13)
unfoldable pub state_in : List ℕ → State
state_in b = record {
  plan = plan_in b;
  standings = tabulate 16 0 (standing_in b);
  broken = tabulate 16 0 (λ i. eqb (byte_at b (mark_at + i)) 1);
  closed = tabulate 8 0 (λ k. eqb (byte_at b (shut_at + k)) 1);
  history = tabulate 16 0 (entry_in b);
  history_len = byte_at b 3;
  minute = word_at b minute_at;
}

-- in place i of the rows the rule's kind is 2, 3 or 4, its third event is 0 unless it is a conditional, both fates are
-- at most 5 and the mark is at most 1 (5.11)
unfoldable pub place_ok : List ℕ → ℕ → Bool
place_ok b i =
    ltb 1 (byte_at b (kind_at + i))
    && ltb (byte_at b (kind_at + i)) 5
    && (eqb (byte_at b (kind_at + i)) 4 || eqb (byte_at b (c_at + i)) 0)
    && ltb (byte_at b (fate_at + i)) 6
    && ltb (byte_at b (mark_at + i)) 2
    && ltb (byte_at b (line_fate_at + i)) 6

-- the number fits one byte
abbrev pub is_byte : ℕ → Bool
is_byte n = ltb n 256

-- the lower three bytes of number e, one of the 33 numbers of four bytes (the minute, then those of the windows), are
-- below 256. All bytes pass this test (5.12)
unfoldable pub word_ok : List ℕ → ℕ → Bool
word_ok b e =
    is_byte (byte_at b (minute_at + 4 * e))
    && is_byte (byte_at b (minute_at + 4 * e + 1))
    && is_byte (byte_at b (minute_at + 4 * e + 2))

-- the bytes are an image (5.11). Proved: of all lists of 384 bytes, exactly the images of states pass this test
unfoldable pub is_image : List ℕ → Bool
is_image b =
    eqb (byte_at b 0) 1
    && all_below 16 (place_ok b)
    && all_below 8 (λ k. ltb (byte_at b (shut_at + k)) 2)
    && all_below 80 (λ k. eqb (byte_at b (spare_at + k)) 0)
    && all_below 33 (word_ok b)

-- every array has its length, also those of the plan, as in every state that code can hold
pub record Whole (s : State) : Type 0 where
  pub sized : Sized s
  pub events_len : length s.plan.events ≡ 16
  pub rules_len : length s.plan.rules ≡ 16
  pub windows_len : length s.plan.windows ≡ 16

-- the number fits four bytes
abbrev pub is_word : ℕ → Bool
is_word n = ltb n 4294967296

-- the numbers in place i of the rows fit one byte, or four
unfoldable pub place_fits : State → ℕ → Bool
place_fits s i =
    is_byte (step_of s.plan i)
    && is_byte (attributes_of s.plan i)
    && is_byte (rule_a (rule_at s.plan i))
    && is_byte (rule_b (rule_at s.plan i))
    && is_byte (rule_c (rule_at s.plan i))
    && is_byte (place_of s i).event
    && is_word (window_at s.plan i).from
    && is_word (window_at s.plan i).until

-- every number fits one byte, or four, as in every state that code can hold
unfoldable pub fits : State → Bool
fits s =
    is_byte (event_count s.plan)
    && is_byte (rule_count s.plan)
    && is_byte (line_count s)
    && all_below 16 (place_fits s)
    && is_word s.minute

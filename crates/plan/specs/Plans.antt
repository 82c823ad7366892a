-- What a sheet declares: events with their step and attributes, rules, and windows.
use Rattle.std.specs.Prelude.{◌/◌, ◌%◌, ◌&&◌, ◌||◌}
use Rattle.plan.specs.Prelude.{ℕ, Bool, not, eqb, ltb, leb, replicate, Event, Rule, Order, RuleLine, Window, Plan}
use Rattle.plan.specs.Base.{any_below, read_at}

-- what an unused place holds
abbrev pub blank_event : Event
blank_event = record { step = 0; attributes = 0 }

abbrev pub blank_rule : RuleLine
blank_rule = record { rule = Order 0 0 }

-- no window (2.10)
abbrev pub blank_window : Window
blank_window = record { from = 0; until = 0 }

abbrev pub empty_plan : Plan
empty_plan = record {
  events = replicate 16 blank_event;
  event_count = 0;
  rules = replicate 16 blank_rule;
  rule_count = 0;
  windows = replicate 16 blank_window;
}

-- reading a plan (2.1)
abbrev pub event_count : Plan → ℕ
event_count p = p.event_count

abbrev pub rule_count : Plan → ℕ
rule_count p = p.rule_count

abbrev pub event_at : Plan → ℕ → Event
event_at p e = read_at 16 p.events e blank_event

abbrev pub step_of : Plan → ℕ → ℕ
step_of p e = (event_at p e).step

abbrev pub attributes_of : Plan → ℕ → ℕ
attributes_of p e = (event_at p e).attributes

abbrev pub rule_at : Plan → ℕ → Rule
rule_at p i = (read_at 16 p.rules i blank_rule).rule

abbrev pub window_at : Plan → ℕ → Window
window_at p e = read_at 16 p.windows e blank_window

abbrev pub from_of : Plan → ℕ → ℕ
from_of p e = (window_at p e).from

abbrev pub until_of : Plan → ℕ → ℕ
until_of p e = (window_at p e).until

-- the attributes n are a sum of 1 (forcible), 2 (rejectable) and 4 (delayable), and k is one of its terms (2.3)
abbrev pub holds_bit : ℕ → ℕ → Bool
holds_bit k n = eqb (n / k % 2) 1

abbrev pub forcible : Plan → ℕ → Bool
forcible p e = holds_bit 1 (attributes_of p e)

abbrev pub rejectable : Plan → ℕ → Bool
rejectable p e = holds_bit 2 (attributes_of p e)

abbrev pub delayable : Plan → ℕ → Bool
delayable p e = holds_bit 4 (attributes_of p e)

-- an event's place holds a window (2.10)
abbrev pub is_window : Window → Bool
is_window w = not (eqb w.until 0)

abbrev pub has_window : Plan → ℕ → Bool
has_window p e = is_window (window_at p e)

-- an event with this window may be done or forced at minute m: the place holds no window, or the minute lies in it
-- (2.11)
unfoldable pub allowed_in : Window → ℕ → Bool
allowed_in w m = not (is_window w) || (leb w.from m && ltb m w.until)

-- the window is over at minute m (2.11)
unfoldable pub over_in : Window → ℕ → Bool
over_in w m = is_window w && leb w.until m

-- the event may be done or forced at minute m (2.11)
unfoldable pub allowed_at : Plan → ℕ → ℕ → Bool
allowed_at p m e = allowed_in (window_at p e) m

-- the event's window is over at minute m (2.11)
unfoldable pub over_at : Plan → ℕ → ℕ → Bool
over_at p m e = over_in (window_at p e) m

-- step k has an event (2.2)
unfoldable pub has_event : Plan → ℕ → Bool
has_event p k = any_below (event_count p) (λ e. eqb (step_of p e) k)

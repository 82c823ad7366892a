-- Sets of the sixteen events as the bits of a number.
use Rattle.std.specs.Prelude.{◌&&◌, ◌≡◌}
use Rattle.std.specs.Int.{bit_at}
use Rattle.members.specs.Prelude.{ℕ, Bool, false, not, List, eqb, ltb, Standing, Event, Plan, View, Facts, Ground}
use Rattle.plan.specs.Base.{read_at}
use Rattle.plan.specs.Fates.{Fates, fates_of, is_open, is_held, is_done, is_gone}
use Rattle.plan.specs.Plans.{blank_event, holds_bit, event_count, rule_count, forcible, delayable}
use Rattle.plan.specs.Rules.{unstoppable, ready}
use Rattle.orders.specs.Closed.{Events}

-- the bit of an event
unfoldable pub in_set : ℕ → Events
in_set m e = ltb e 16 && eqb (bit_at m e) 1

-- the rules that an array of marks does not record as broken
abbrev pub unbroken : List Bool → ℕ → Bool
unbroken marks i = not (read_at 16 marks i false)

-- what the sets of a view say of the events of a plan and their fates
pub record Shows (p : Plan) (f : Fates) (v : View) : Type 0 where
  pub held : (x : ℕ) → in_set v.held x ≡ (ltb x (event_count p) && is_held (f x))
  pub able : (x : ℕ) → in_set v.able x ≡ (ltb x (event_count p) && ready p f x)
  pub done : (x : ℕ) → in_set v.done x ≡ is_done (f x)
  pub gone : (x : ℕ) → in_set v.gone x ≡ is_gone (f x)
  pub waits : (x : ℕ) → in_set v.waits x ≡ delayable p x
  pub forces : (x : ℕ) → in_set v.forcible x ≡ forcible p x
  pub stops : (x : ℕ) → in_set v.stoppable x ≡ not (unstoppable p f x)

-- a ground is what a search reads of a plan, the marks of its broken rules and the fates of its events
pub record IsGround (p : Plan) (marks : List Bool) (f : Fates) (g : Ground) : Type 0 where
  pub rules : p.rules ≡ g.rules
  pub broken : marks ≡ g.broken
  pub counts : rule_count p ≡ g.count
  pub shows : Shows p f g.view

-- the attributes in a place of an array of events
abbrev pub bits_in : List Event → ℕ → ℕ
bits_in events x = (read_at 16 events x blank_event).attributes

-- what sets say of the fates and attributes in the sixteen places of two arrays
pub record Tells (events : List Event) (standings : List Standing) (v : Facts) : Type 0 where
  pub helds : (x : ℕ) → in_set v.held x ≡ (ltb x 16 && is_held (fates_of standings x))
  pub opens : (x : ℕ) → in_set v.comes x ≡ (ltb x 16 && is_open (fates_of standings x))
  pub gones : (x : ℕ) → in_set v.gone x ≡ (ltb x 16 && is_gone (fates_of standings x))
  pub delays : (x : ℕ) → in_set v.waits x ≡ (ltb x 16 && holds_bit 4 (bits_in events x))
  pub forces : (x : ℕ) → in_set v.forcible x ≡ (ltb x 16 && holds_bit 1 (bits_in events x))
  pub refusals : (x : ℕ) → in_set v.refusable x ≡ (ltb x 16 && holds_bit 2 (bits_in events x))

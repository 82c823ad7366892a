-- Fates, and the array that holds one for each event.
use Rattle.std.specs.Prelude.{◌||◌}
use Rattle.plan.specs.Prelude.{ℕ, Bool, true, false, List, eqb, Fate, Open, Held, Done, Refused, Lapsed, Forced, Standing}
use Rattle.plan.specs.Base.{read_at}

-- the fate is open (5.1)
abbrev pub is_open : Fate → Bool
is_open x = elim x [ Open ↦ true | Held ↦ false | Done ↦ false | Refused ↦ false | Lapsed ↦ false | Forced ↦ false ]

-- the fate is held (5.1)
abbrev pub is_held : Fate → Bool
is_held x = elim x [ Open ↦ false | Held ↦ true | Done ↦ false | Refused ↦ false | Lapsed ↦ false | Forced ↦ false ]

-- done or forced: forced counts as done (5.2, 5.29)
abbrev pub is_done : Fate → Bool
is_done x = elim x [ Open ↦ false | Held ↦ false | Done ↦ true | Refused ↦ false | Lapsed ↦ false | Forced ↦ true ]

-- refused or lapsed (5.2)
abbrev pub is_gone : Fate → Bool
is_gone x = elim x [ Open ↦ false | Held ↦ false | Done ↦ false | Refused ↦ true | Lapsed ↦ true | Forced ↦ false ]

-- done, forced, refused or lapsed (5.2)
abbrev pub is_settled : Fate → Bool
is_settled x = is_done x || is_gone x

-- the fate that an order gives an event: forced if the event is open when its turn comes, else done (7.12)
abbrev pub done_as : Bool → Fate
done_as true = Forced
done_as false = Done

-- the number of a fate (5.9)
abbrev pub fate_number : Fate → ℕ
fate_number x = elim x [ Open ↦ 0 | Held ↦ 1 | Done ↦ 2 | Refused ↦ 3 | Lapsed ↦ 4 | Forced ↦ 5 ]

abbrev pub same_fate : Fate → Fate → Bool
same_fate x y = eqb (fate_number x) (fate_number y)

-- what an unused place holds (5.4)
abbrev pub blank_standing : Standing
blank_standing = record { fate = Open }

-- a fate for each event number (5.4)
abbrev pub Fates : Type 0
Fates = ℕ → Fate

-- the fates that an array holds (5.4)
abbrev pub fates_of : List Standing → Fates
fates_of l e = (read_at 16 l e blank_standing).fate

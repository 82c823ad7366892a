-- The sets of a view: the loop over the sixteen events that reads fates and attributes, and what the view shows.
use Prim.Native.Nat.{ℕ, ◌+◌, ◌≤◌, ◌<◌, zero-le}
use native.Mathlib.Decide.{ℕ_discrete}
use native.Mathlib.Nat.{le_antisymm}
use native.Mathlib.Omega.{arith}
use borrow.Author.Tests.{ltb-false, lt-ltb, le-ltb}
use mathlib.Core.Bool.{Bool, true, false, not, ◌&&◌, ◌||◌, cond, and-false, and_comm}
use mathlib.Core.List.{List}
use mathlib.Core.Logic.{inl, inr}
use mathlib.Core.Path.{◌≡◌, refl, sym, ◌∙◌, ap, ap₂}
use lib.Bits.{bit_or}
use lib.Dec.{eqb, ltb}
use lib.ListN.{get_or}
use Rattle.std.proofs.lemmas.Bool.Decides.{nat_tests}
use Rattle.plan.specs.declared.fate.Fate.TheVariants.{Open, Held, Done, Refused, Lapsed, Forced}
use Rattle.plan.specs.Fates.{fates_of, blank_standing, is_open, is_held, is_done, is_gone}
use Rattle.plan.specs.Plans.{event_count, blank_event, holds_bit}
use Rattle.plan.specs.Rules.{unstoppable, ready}
use Rattle.plan.proofs.Arrays.{read_past}
use Rattle.plan.proofs.Tests.{either}
use Rattle.members.specs.Prelude.{Fate, Standing, Event, Plan, View, Facts}
use Rattle.members.specs.Sets.{in_set, bits_in, Tells, Shows}
use Rattle.members.proofs.Bits.{in_zero, in_past, in_or, in_full}

-- the set has the events below e that pass the test
abbrev pub Upto : (ℕ → Bool) → ℕ → ℕ → Type 0
Upto t m e = (x : ℕ) → in_set m x ≡ (ltb x e && t x)

module _ (t : ℕ → Bool) where
  pub upto_zero : Upto t 0 0
  upto_zero x = in_zero x ∙ sym (ap (λ b. b && t x) (le-ltb x 0 zero-le))

  module _ (m e : ℕ) (before : Upto t m e) where
    -- one event more, where it passes
    module _
        (n : ℕ)
        (b : Bool)
        (lt : e < 16)
        (here : b ≡ t e)
        (more : (x : ℕ) → in_set n x ≡ ((eqb x e && (ltb e 16 && b)) || in_set m x))
      where
        pub upto_next : Upto t n (e + 1)
        upto_next x = elim (ℕ_discrete x e) [
          | yes is ↦ more x ∙ rw (before x, here, is) (grind (arith, nat_tests))
          | no ne ↦ more x ∙ rw (before x) (grind (arith, nat_tests))
        ]

    -- all sixteen
    pub upto_all : 16 ≤ e → e ≤ 16 → (x : ℕ) → in_set m x ≡ (ltb x 16 && t x)
    upto_all ge le x = before x ∙ ap (λ n. ltb x n && t x) (le_antisymm le ge)

-- the tests, over what code reads
module _ (events : List Event) (standings : List Standing) where
  abbrev held_in : ℕ → Bool
  held_in x = is_held (fates_of standings x)

  abbrev open_in : ℕ → Bool
  open_in x = is_open (fates_of standings x)

  abbrev gone_in : ℕ → Bool
  gone_in x = is_gone (fates_of standings x)

  abbrev delays_in : ℕ → Bool
  delays_in x = holds_bit 4 (bits_in events x)

  abbrev forces_in : ℕ → Bool
  forces_in x = holds_bit 1 (bits_in events x)

  abbrev refuses_in : ℕ → Bool
  refuses_in x = holds_bit 2 (bits_in events x)

  -- in a place
  module _ (x : ℕ) (lt : x < 16) where
    fate_read_lem : (get_or standings x blank_standing).fate ≡ fates_of standings x
    fate_read_lem = ap (λ t. (cond t (get_or standings x blank_standing) blank_standing).fate) (sym (lt-ltb x 16 lt))

    bits_read : (get_or events x blank_event).attributes ≡ bits_in events x
    bits_read = ap (λ t. (cond t (get_or events x blank_event) blank_event).attributes) (sym (lt-ltb x 16 lt))

  -- the loop: the sets so far
  pub record Viewed (held comes gone waits forcible refusable e : ℕ) : Type 0 where
    pub within : e ≤ 16
    pub helds : Upto held_in held e
    pub opens : Upto open_in comes e
    pub gones : Upto gone_in gone e
    pub delays : Upto delays_in waits e
    pub forces : Upto forces_in forcible e
    pub refusals : Upto refuses_in refusable e

  pub viewed_none : Viewed 0 0 0 0 0 0 0
  viewed_none =
      record {
        within = omega arith;
        helds = upto_zero held_in;
        opens = upto_zero open_in;
        gones = upto_zero gone_in;
        delays = upto_zero delays_in;
        forces = upto_zero forces_in;
        refusals = upto_zero refuses_in;
      }

  -- one event more: what code reads and tells of it, and the sets with it
  module _ (held comes gone waits forcible refusable e : ℕ) (before : Viewed held comes gone waits forcible refusable e)
      (lt : e < 16) where
    abbrev fate : Fate
    fate = (get_or standings e blank_standing).fate

    abbrev bits : ℕ
    bits = (get_or events e blank_event).attributes

    abbrev With : ℕ → ℕ → Bool → Type 0
    With m n b = (x : ℕ) → in_set n x ≡ ((eqb x e && (ltb e 16 && b)) || in_set m x)

    pub viewed_next : (held' comes' gone' waits' forcible' refusable' : ℕ) (h o g w s r : Bool)
        → h ≡ is_held fate
        → With held held' h
        → o ≡ is_open fate
        → With comes comes' o
        → g ≡ is_gone fate
        → With gone gone' g
        → w ≡ holds_bit 4 bits
        → With waits waits' w
        → s ≡ holds_bit 1 bits
        → With forcible forcible' s
        → r ≡ holds_bit 2 bits
        → With refusable refusable' r
        → Viewed held' comes' gone' waits' forcible' refusable' (e + 1)
    viewed_next held' comes' gone' waits' forcible' refusable' h o g w s r is-h in-h is-o in-o is-g in_g is-w in-w is-s in-s is-r in-r =
        let x : fate ≡ fates_of standings e = fate_read_lem e lt in
        let y : bits ≡ bits_in events e = bits_read e lt in
        record {
          within = omega arith;
          helds = upto_next held_in held e before.helds held' h lt (is-h ∙ ap is_held x) in-h;
          opens = upto_next open_in comes e before.opens comes' o lt (is-o ∙ ap is_open x) in-o;
          gones = upto_next gone_in gone e before.gones gone' g lt (is-g ∙ ap is_gone x) in_g;
          delays = upto_next delays_in waits e before.delays waits' w lt (is-w ∙ ap (holds_bit 4) y) in-w;
          forces = upto_next forces_in forcible e before.forces forcible' s lt (is-s ∙ ap (holds_bit 1) y) in-s;
          refusals = upto_next refuses_in refusable e before.refusals refusable' r lt (is-r ∙ ap (holds_bit 2) y) in-r;
        }

  -- after it
  pub viewed_all : (v : Facts) (e : ℕ)
      → Viewed v.held v.comes v.gone v.waits v.forcible v.refusable e
      → 16 ≤ e
      → Tells events standings v
  viewed_all v e s ge =
      record {
        helds = upto_all held_in v.held e s.helds ge s.within;
        opens = upto_all open_in v.comes e s.opens ge s.within;
        gones = upto_all gone_in v.gone e s.gones ge s.within;
        delays = upto_all delays_in v.waits e s.delays ge s.within;
        forces = upto_all forces_in v.forcible e s.forces ge s.within;
        refusals = upto_all refuses_in v.refusable e s.refusals ge s.within;
      }

-- tests of one event
not_else : (x : Fate) → not ((is_held x || is_open x) || is_gone x) ≡ is_done x
not_else Open = refl
not_else Held = refl
not_else Done = refl
not_else Refused = refl
not_else Lapsed = refl
not_else Forced = refl

stopped : (o r w : Bool) → ((not o || r) || w) ≡ not ((o && not r) && not w)
stopped o r w = grind (arith, nat_tests)

-- the view from what fates and attributes say: what each set is, in a place and past the places
module _ (events : List Event) (count : ℕ) (standings : List Standing) (v : Facts) (tells : Tells events standings v) where
  -- a set that has its places right, and nothing past them
  placed : (m : ℕ) (t : ℕ → Bool)
      → ((x : ℕ) → ltb x 16 ≡ true → in_set m x ≡ t x)
      → ((x : ℕ) → 16 ≤ x → t x ≡ false)
      → (x : ℕ)
      → in_set m x ≡ t x
  placed m t near far x = elim (either (ltb x 16)) [
    | inl h ↦ near x h
    | inr h ↦ in_past m x (ltb-false x 16 h) ∙ sym (far x (ltb-false x 16 h))
  ]

  fate_past : (x : ℕ) → 16 ≤ x → fates_of standings x ≡ blank_standing.fate
  fate_past x ge = ap (λ (s : Standing). s.fate) (read_past 16 standings x blank_standing ge)

  bits_past : (x : ℕ) → 16 ≤ x → bits_in events x ≡ 0
  bits_past x ge = ap (λ (e : Event). e.attributes) (read_past 16 events x blank_event ge)

  -- what each says in a place
  held_at : (x : ℕ) → ltb x 16 ≡ true → in_set v.held x ≡ is_held (fates_of standings x)
  held_at x h = tells.helds x ∙ rw h

  open_at : (x : ℕ) → ltb x 16 ≡ true → in_set v.comes x ≡ is_open (fates_of standings x)
  open_at x h = tells.opens x ∙ rw h

  gone_at : (x : ℕ) → ltb x 16 ≡ true → in_set v.gone x ≡ is_gone (fates_of standings x)
  gone_at x h = tells.gones x ∙ rw h

  delays_at : (x : ℕ) → ltb x 16 ≡ true → in_set v.waits x ≡ holds_bit 4 (bits_in events x)
  delays_at x h = tells.delays x ∙ rw h

  forces_at : (x : ℕ) → ltb x 16 ≡ true → in_set v.forcible x ≡ holds_bit 1 (bits_in events x)
  forces_at x h = tells.forces x ∙ rw h

  refuses_at : (x : ℕ) → ltb x 16 ≡ true → in_set v.refusable x ≡ holds_bit 2 (bits_in events x)
  refuses_at x h = tells.refusals x ∙ rw h

  module _ (declared : ℕ) (firsts : (x : ℕ) → in_set declared x ≡ (ltb x 16 && ltb x count)) where
    declared_at : (x : ℕ) → ltb x 16 ≡ true → in_set declared x ≡ ltb x count
    declared_at x h = firsts x ∙ rw h

    shown_held : (m : ℕ)
        → ((x : ℕ) → in_set m x ≡ (in_set v.held x && in_set declared x))
        → (x : ℕ)
        → in_set m x ≡ (ltb x count && is_held (fates_of standings x))
    shown_held m is =
        placed m (λ x. ltb x count && is_held (fates_of standings x))
        (λ x h. is x ∙ ap₂ (λ a b. a && b) (held_at x h) (declared_at x h) ∙ and_comm (is_held (fates_of standings x)) (ltb x count))
        (λ x ge. ap (λ (f : Fate). ltb x count && is_held f) (fate_past x ge) ∙ and-false (ltb x count))

    abbrev ready_in : ℕ → Bool
    ready_in x = is_held (fates_of standings x) || (is_open (fates_of standings x) && holds_bit 1 (bits_in events x))

    shown_able : (m both : ℕ)
        → ((x : ℕ) → in_set both x ≡ (in_set v.comes x && in_set v.forcible x))
        → ((x : ℕ) → in_set m x ≡ (in_set (bit_or v.held both) x && in_set declared x))
        → (x : ℕ)
        → in_set m x ≡ (ltb x count && ready_in x)
    shown_able m both is-both is =
        placed m (λ x. ltb x count && ready_in x)
        (λ x h.
        is x
        ∙ ap₂ (λ a b. a && b)
        (in_or v.held both x ∙ ap₂ (λ a b. a || b) (held_at x h) (is-both x ∙ ap₂ (λ a b. a && b) (open_at x h) (forces_at x h)))
        (declared_at x h)
        ∙ and_comm (ready_in x) (ltb x count))
        (λ x ge.
        ap₂ (λ (f : Fate) (n : ℕ). ltb x count && (is_held f || (is_open f && holds_bit 1 n))) (fate_past x ge) (bits_past x ge)
        ∙ and-false (ltb x count))

  shown_done : (m : ℕ)
      → ((x : ℕ) → in_set m x ≡ (in_set 65535 x && not (in_set (bit_or (bit_or v.held v.comes) v.gone) x)))
      → (x : ℕ)
      → in_set m x ≡ is_done (fates_of standings x)
  shown_done m is =
      placed m (λ x. is_done (fates_of standings x))
      (λ x h.
      is x
      ∙ ap₂ (λ a b. a && not b) (in_full x ∙ h)
      (in_or (bit_or v.held v.comes) v.gone x
      ∙ ap₂ (λ a b. a || b) (in_or v.held v.comes x ∙ ap₂ (λ a b. a || b) (held_at x h) (open_at x h)) (gone_at x h))
      ∙ not_else (fates_of standings x))
      (λ x ge. ap is_done (fate_past x ge))

  shown_stops : (m : ℕ)
      → ((x : ℕ) → in_set m x ≡ (in_set 65535 x && not (in_set v.comes x)))
      → (x : ℕ)
      → in_set (bit_or (bit_or m v.refusable) v.waits) x ≡ not ((is_open (fates_of standings x) && not (holds_bit 2 (bits_in events x))) && not (holds_bit 4 (bits_in events x)))
  shown_stops m is =
      placed (bit_or (bit_or m v.refusable) v.waits) (λ x. not ((is_open (fates_of standings x) && not (holds_bit 2 (bits_in events x))) && not (holds_bit 4 (bits_in events x))))
      (λ x h.
      in_or (bit_or m v.refusable) v.waits x
      ∙ ap₂ (λ a b. a || b)
      (in_or m v.refusable x ∙ ap₂ (λ a b. a || b) (is x ∙ ap₂ (λ a b. a && not b) (in_full x ∙ h) (open_at x h)) (refuses_at x h))
      (delays_at x h)
      ∙ stopped (is_open (fates_of standings x)) (holds_bit 2 (bits_in events x)) (holds_bit 4 (bits_in events x)))
      (λ x ge. ap₂ (λ (f : Fate) (n : ℕ). not ((is_open f && not (holds_bit 2 n)) && not (holds_bit 4 n))) (fate_past x ge) (bits_past x ge))

  -- the view
  pub shows_view : (w : View) (declared both late : ℕ)
      → ((x : ℕ) → in_set declared x ≡ (ltb x 16 && ltb x count))
      → ((x : ℕ) → in_set w.held x ≡ (in_set v.held x && in_set declared x))
      → ((x : ℕ) → in_set both x ≡ (in_set v.comes x && in_set v.forcible x))
      → ((x : ℕ) → in_set w.able x ≡ (in_set (bit_or v.held both) x && in_set declared x))
      → ((x : ℕ) → in_set w.done x ≡ (in_set 65535 x && not (in_set (bit_or (bit_or v.held v.comes) v.gone) x)))
      → ((x : ℕ) → in_set late x ≡ (in_set 65535 x && not (in_set v.comes x)))
      → w.gone ≡ v.gone
      → w.waits ≡ v.waits
      → w.forcible ≡ v.forcible
      → w.stoppable ≡ bit_or (bit_or late v.refusable) v.waits
      → (p : Plan)
      → p.events ≡ events
      → event_count p ≡ count
      → Shows p (fates_of standings) w
  unfolding ready unstoppable
  shows_view w declared both late firsts helds boths ables dones lates is_gone_lem is-waits is-forcible is-stoppable p same counts =
      record {
        held = λ x. shown_held declared firsts w.held helds x ∙ ap (λ (n : ℕ). ltb x n && is_held (fates_of standings x)) (sym counts);
        able = λ x. shown_able declared firsts w.able both boths ables x
            ∙ ap₂ (λ (n : ℕ) (l : List Event). ltb x n && (is_held (fates_of standings x) || (is_open (fates_of standings x) && holds_bit 1 (bits_in l x)))) (sym counts) (sym same);
        done = shown_done w.done dones;
        gone = λ x. ap (λ (m : ℕ). in_set m x) is_gone_lem
            ∙ placed v.gone (λ y. is_gone (fates_of standings y)) gone_at (λ y ge. ap is_gone (fate_past y ge)) x;
        waits = λ x. ap (λ (m : ℕ). in_set m x) is-waits
            ∙ placed v.waits (λ y. holds_bit 4 (bits_in events y)) delays_at (λ y ge. ap (holds_bit 4) (bits_past y ge)) x
            ∙ ap (λ (l : List Event). holds_bit 4 (bits_in l x)) (sym same);
        forces = λ x. ap (λ (m : ℕ). in_set m x) is-forcible
            ∙ placed v.forcible (λ y. holds_bit 1 (bits_in events y)) forces_at (λ y ge. ap (holds_bit 1) (bits_past y ge)) x
            ∙ ap (λ (l : List Event). holds_bit 1 (bits_in l x)) (sym same);
        stops = λ x. ap (λ (m : ℕ). in_set m x) is-stoppable
            ∙ shown_stops late lates x
            ∙ ap (λ (l : List Event). not ((is_open (fates_of standings x) && not (holds_bit 2 (bits_in l x))) && not (holds_bit 4 (bits_in l x)))) (sym same);
      }

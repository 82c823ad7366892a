-- The search in code, at each of its ends.
use Prim.Native.Nat.{ℕ, zero, suc, ◌+◌, ◌-◌, ◌≤◌, ◌<◌}
use native.Mathlib.Numerals.{sub-one}
use native.Mathlib.Omega.{arith}
use native.Mathlib.Decide.{ℕ_discrete}
use borrow.Author.Tests.{lt-ltb, ltb-true}
use mathlib.Core.Bool.{Bool, true, false, not, ◌&&◌, ◌||◌}
use mathlib.Core.List.{List, [], ◌∷◌}
use mathlib.Core.Logic.{inl, inr}
use Rattle.std.specs.declared.option.Option.{Option}
use Rattle.std.specs.declared.option.Option.TheVariants.{None as none, Some as some}
use Rattle.std.specs.Option.{option_map as map, is_some}
use mathlib.Core.Path.{◌≡◌, refl, sym, ◌∙◌, ap, ap₂, subst, fun_ext}
use lib.Dec.{eqb, ltb}
use lib.ListN.{length, get_or, set}
use Rattle.scheduler.specs.declared.order.Found.{Found}
use Rattle.scheduler.specs.declared.order.Place.{Place}
use Rattle.scheduler.specs.Prelude.{take, State}
use Rattle.plan.specs.Fates.{Fates, is_open}
use Rattle.plan.specs.Base.{tabulate, lowest}
use Rattle.orders.specs.Closed.{Events, Least}
use Rattle.members.specs.Growing.{NoFit}
use Rattle.orders.specs.Runs.{doing}
use Rattle.orders.specs.Stepwise.{blocked, less, nothing, next, stepwise}
use Rattle.members.specs.declared.view.View.{View}
use Rattle.members.specs.declared.ground.Ground.{Ground}
use Rattle.members.specs.Sets.{in_set, Shows, IsGround}
use Rattle.members.specs.Lacking.{Spared}
use Rattle.scheduler.specs.State.{fate_of, in_time, settle_as, Sized}
use Rattle.scheduler.specs.Rules.{stands}
use Rattle.scheduler.specs.Orders.{do_one, chosen, places_of, blank_place, found_order}
use Rattle.scheduler.specs.Internal.Hopeful.{Hopeful}
use Rattle.scheduler.specs.Internal.Placed.{blank_order, placed, placed_order, found_from}
use Rattle.plan.specs.Plans.{event_count}
use Rattle.plan.specs.Rules.{ready}
use Rattle.plan.proofs.Tests.{and_left, and_right, and_both, clash, either, some_none}
use Rattle.orders.proofs.Grounds.{refuted}
use Rattle.orders.proofs.Lowest.{lowest_some, lowest_none, lowest_alike}
use Rattle.orders.proofs.Taking.{less_in, less_stays, none_nothing, some_left, step_ends, step_full, step_stuck, step_takes}
use Rattle.members.proofs.Bits.{in_one}
use Rattle.scheduler.proofs.LeastSets.{fates_one, untimely_none, no_fit_none, chosen_taken}
use Rattle.scheduler.proofs.Searching.{hand_bound, chosen_short}

-- a search's answer, where there is no order and where there is one
found_none : (s : State) (i : ℕ) (q : Option (List ℕ)) → none ≡ found_from s i q → q ≡ none
unfolding found_from
found_none s i none same = refl
found_none s i (some o) same = absurd (some_none (sym same))

found_some : (s : State) (i : ℕ) (q : Option (List ℕ)) (r : Found)
    → some r ≡ found_from s i q
    → (o : List ℕ) × (q ≡ some o)
unfolding found_from
found_some s i none r same = absurd (some_none same)
found_some s i (some o) r same = (o, refl)

-- at most six places: in the search's array they stand as they are handed over, whole at the front
pub record Fits (o : List Place) : Type 0 where
  pub placed_whole : placed 0 o ≡ tabulate 6 0 (λ i. get_or o i blank_place)
  pub front_whole : take (length o) (tabulate 6 0 (λ i. get_or o i blank_place)) ≡ o

pub fits : (o : List Place) → length o ≤ 6 → Fits o
unfolding placed tabulate
fits [] h = record { placed_whole = refl; front_whole = refl }
fits (a ∷ []) h = record { placed_whole = refl; front_whole = refl }
fits (a ∷ b ∷ []) h = record { placed_whole = refl; front_whole = refl }
fits (a ∷ b ∷ c ∷ []) h = record { placed_whole = refl; front_whole = refl }
fits (a ∷ b ∷ c ∷ d ∷ []) h = record { placed_whole = refl; front_whole = refl }
fits (a ∷ b ∷ c ∷ d ∷ e ∷ []) h = record { placed_whole = refl; front_whole = refl }
fits (a ∷ b ∷ c ∷ d ∷ e ∷ f ∷ []) h = record { placed_whole = refl; front_whole = refl }
fits (a ∷ b ∷ c ∷ d ∷ e ∷ f ∷ g ∷ o) h = absurd (omega arith)

-- one place for each event
pub places_length : (s : State) (o : List ℕ) → length (places_of s o) ≡ length o
unfolding places_of
places_length s [] = refl
places_length s (c ∷ o) = ap suc (places_length (do_one s c) o)

found_all : (s : State) (o : List ℕ) → length o ≤ 6 → found_from s 0 (some o) ≡ found_order s (some o)
unfolding found_from found_order
found_all s o h =
    let len : 0 + length o ≡ length o = omega arith in
    rw ((fits (places_of s o) (omega (arith, places_length s o))).placed_whole, len)

-- a set without one event
pub after_less : (left x : ℕ)
    → x < 16
    → (one after : ℕ)
    → ((y : ℕ) → in_set one y ≡ ((eqb y x && (ltb x 16 && true)) || in_set 0 y))
    → ((y : ℕ) → in_set after y ≡ (in_set left y && not (in_set one y)))
    → in_set after ≡ less (in_set left) x
after_less left x lt one after is_one is-after =
    fun_ext (λ y. is-after y ∙ ap (λ (v : Bool). in_set left y && not v) (in_one x one lt is_one y))

-- a ground after an event of an order is done
pub ground_one : (s : State) (x : ℕ) (g : Ground)
    → Sized s
    → x < 16
    → IsGround s.plan s.broken (doing (fate_of s) x) g
    → IsGround (do_one s x).plan (do_one s x).broken (fate_of (do_one s x)) g
unfolding settle_as
ground_one s x g z lt w = subst (λ (f : Fates). IsGround s.plan s.broken f g) (sym (fates_one s x z lt)) w

-- a set is empty, or has a lowest event
pub lowest_missing : (o : Option ℕ) → is_some o ≡ false → o ≡ none
lowest_missing none h = refl
lowest_missing (some y) h = absurd (clash refl h)

lowest_there : (o : Option ℕ) → is_some o ≡ true → (y : ℕ) × (o ≡ some y)
lowest_there none h = absurd (clash h refl)
lowest_there (some y) h = (y, refl)

-- an order with an event placed, and whether it was open
abbrev pub with_event : Found → ℕ → ℕ → Bool → Found
with_event r at x opened = record { places = set r.places at (record { event = x; opened = opened }); len = r.len }

-- the search from a state
module _ (s : State) (left at places : ℕ) where
  abbrev pub steps : Option (List ℕ)
  steps = stepwise s.plan (stands s) places (fate_of s) (in_set left)

  -- a search that takes x, with the events after it left: the order ends with it, or goes on by what the search after it
  -- answers
  pub record Took (x : ℕ) (opened : Bool) (after : ℕ) : Type 0 where
    pub last : lowest 16 (in_set after) ≡ none → some (with_event (blank_order (at + 1)) at x opened) ≡ found_from s at steps
    pub miss : none ≡ found_from (do_one s x) (at + 1) (stepwise (do_one s x).plan (stands (do_one s x)) (places - 1) (fate_of (do_one s x)) (in_set after))
        → none ≡ found_from s at steps
    pub hit : (r : Found)
        → some r ≡ found_from (do_one s x) (at + 1) (stepwise (do_one s x).plan (stands (do_one s x)) (places - 1) (fate_of (do_one s x)) (in_set after))
        → some (with_event r at x opened) ≡ found_from s at steps

  -- nothing is left: the order ends here
  pub search_end : lowest 16 (in_set left) ≡ none → some (blank_order at) ≡ found_from s at steps
  unfolding found_from placed places_of
  search_end is =
      let empty = none_nothing (in_set left) (lowest_none 16 (in_set left) is) in
      rw (step_ends s.plan (stands s) places (fate_of s) (in_set left) empty) (ap (λ (n : ℕ). some (blank_order n)) (omega arith))

  pub search_more : is_some (lowest 16 (in_set left)) ≡ true → nothing (in_set left) ≡ false
  search_more h =
      let y = lowest_there (lowest 16 (in_set left)) h in
      let lo = lowest_some 16 (in_set left) y.0 y.1 in
      some_left (in_set left) y.0 lo.below lo.passes

  -- some event is left and no place
  pub search_full : nothing (in_set left) ≡ false → places ≡ 0 → none ≡ found_from s at steps
  unfolding found_from
  search_full h q = rw (q, step_full s.plan (stands s) (fate_of s) (in_set left) h)

  -- the next event
  module _ (b d : ℕ) (is-blocked : (x : ℕ) → x < 16 → in_set b x ≡ blocked s.plan (stands s) (fate_of s) (in_set left) x) (rest : (x : ℕ) → in_set d x ≡ (in_set left x && not (in_set b x))) where
    next_same : next s.plan (stands s) (fate_of s) (in_set left) ≡ lowest 16 (in_set d)
    unfolding next
    next_same = sym (lowest_alike 16 (in_set d) _ (λ x lt. rest x ∙ ap (λ (v : Bool). in_set left x && not v) (is-blocked x lt)))

    module _ (more : nothing (in_set left) ≡ false) (some-place : places ≡ 0 → ⊥) where
      -- every event that is left is blocked
      pub search_stuck : lowest 16 (in_set d) ≡ none → none ≡ found_from s at steps
      unfolding found_from
      search_stuck is = ap (found_from s at) (sym (go places refl))
        where
          go : (k : ℕ) → places ≡ k → stepwise s.plan (stands s) places (fate_of s) (in_set left) ≡ none
          go zero q = absurd (some-place q)
          go (suc k) q = rw q (step_stuck s.plan (stands s) k (fate_of s) (in_set left) more (next_same ∙ is))

      module _ (x : ℕ) (same : lowest 16 (in_set d) ≡ some x) (z : Sized s) (one after : ℕ)
          (is_one : (y : ℕ) → in_set one y ≡ ((eqb y x && (ltb x 16 && true)) || in_set 0 y))
          (is-after : (y : ℕ) → in_set after y ≡ (in_set left y && not (in_set one y)))
          (opened : Bool) (told : opened ≡ is_open (fate_of s x)) where
        lt : x < 16
        lt = (lowest_some 16 (in_set d) x same).below

        abbrev later : Option (List ℕ)
        later = stepwise s.plan (stands s) (places - 1) (doing (fate_of s) x) (less (in_set left) x)

        -- the search from the state after it
        later_same : stepwise (do_one s x).plan (stands (do_one s x)) (places - 1) (fate_of (do_one s x)) (in_set after) ≡ later
        unfolding settle_as
        later_same = rw (fates_one s x z lt, after_less left x lt one after is_one is-after)

        steps_take : steps ≡ map (λ (o : List ℕ). x ∷ o) later
        steps_take = go places refl
          where
            go : (k : ℕ) → places ≡ k → steps ≡ map (λ (o : List ℕ). x ∷ o) later
            go zero q = absurd (some-place q)
            go (suc k) q = rw (q, sub-one) (step_takes s.plan (stands s) k (fate_of s) (in_set left) x more (next_same ∙ same))

        -- it is the last: the order ends with it
        search_last : lowest 16 (in_set after) ≡ none → some (with_event (blank_order (at + 1)) at x opened) ≡ found_from s at steps
        unfolding found_from placed places_of
        search_last is =
            let empty = none_nothing (in_set after) (lowest_none 16 (in_set after) is) in
            let ends = step_ends s.plan (stands s) (places - 1) (doing (fate_of s) x) (less (in_set left) x) (sym (ap nothing (after_less left x lt one after is_one is-after)) ∙ empty) in
            ap (λ (b : Bool). some (with_event (blank_order (at + 1)) at x b)) told
            ∙ ap (found_from s at) (sym (steps_take ∙ ap (map (λ (o : List ℕ). x ∷ o)) ends))

        -- it goes on, by the answer of the search from the state after it
        search_miss : none ≡ found_from (do_one s x) (at + 1) (stepwise (do_one s x).plan (stands (do_one s x)) (places - 1) (fate_of (do_one s x)) (in_set after))
            → none ≡ found_from s at steps
        unfolding found_from
        search_miss r = ap (found_from s at) (sym (steps_take ∙ ap (map (λ (o : List ℕ). x ∷ o)) (found_none (do_one s x) (at + 1) later (r ∙ ap (found_from (do_one s x) (at + 1)) later_same))))

        hit_with : (r : Found) (o : List ℕ)
            → some r ≡ found_from (do_one s x) (at + 1) later
            → later ≡ some o
            → some (with_event r at x opened) ≡ found_from s at steps
        unfolding found_from placed places_of
        hit_with r o found q =
            let is : r ≡ placed_order (do_one s x) (at + 1) o = cc (found ∙ ap (found_from (do_one s x) (at + 1)) q) in
            let behind = placed (at + 1) (places_of (do_one s x) o) in
            ap₂ (λ (w : Found) (b : Bool). some (with_event w at x b)) is told
            ∙ ap {B = Option Found} (λ (n : ℕ). some (with_event (record { places = behind; len = n }) at x (is_open (fate_of s x)))) (omega arith)
            ∙ ap (found_from s at) (sym (steps_take ∙ ap (map (λ (u : List ℕ). x ∷ u)) q))

        search_hit : (r : Found)
            → some r ≡ found_from (do_one s x) (at + 1) (stepwise (do_one s x).plan (stands (do_one s x)) (places - 1) (fate_of (do_one s x)) (in_set after))
            → some (with_event r at x opened) ≡ found_from s at steps
        search_hit r found =
            let here = found ∙ ap (found_from (do_one s x) (at + 1)) later_same in
            let f = found_some (do_one s x) (at + 1) later r here in
            hit_with r f.0 here f.1

        pub search_took : Took x opened after
        search_took = record { last = search_last; miss = search_miss; hit = search_hit }

-- the search among the members
module _ (s : State) (z : Sized s) (e able : ℕ) (k : Hopeful s (in_set able)) where
  pub members_none : NoFit s.plan (stands s) (fate_of s) (in_set able) e → none ≡ found_order s (chosen s e)
  unfolding found_order
  members_none unfit = ap (found_order s) (sym (no_fit_none s z e (in_set able) k unfit))

  pub members_found : (m : ℕ)
      → Least s.plan (stands s) (fate_of s) (in_set able) e (in_set m)
      → (r : Option Found)
      → r ≡ found_from s 0 (steps s m 0 6)
      → r ≡ found_order s (chosen s e)
  members_found m least r same = same ∙ ap (found_from s 0) (sym taken) ∙ go (chosen s e) refl
    where
      taken : chosen s e ≡ steps s m 0 6
      taken = chosen_taken s z e (in_set able) k (in_set m) least

      go : (o : Option (List ℕ)) → chosen s e ≡ o → found_from s 0 (chosen s e) ≡ found_order s (chosen s e)
      go none q = rw q (unfold found_from found_order in refl)
      go (some o) q = rw q (found_all s o (chosen_short s e o q))

-- what a view says of the events at hand, and a set of those that are in time
pub hopeful_all : (s : State) (v : View) (times able : ℕ)
    → Sized s
    → Shows s.plan (fate_of s) v
    → ((x : ℕ) → x < 16 → in_set times x ≡ in_time s x)
    → ((x : ℕ) → in_set able x ≡ (in_set v.able x && in_set times x))
    → Hopeful s (in_set able)
hopeful_all s v times able z w timed both = record {
  hand = λ x h.
      let u = sym (both x) ∙ h in
      let t = sym (w.able x) ∙ and_left (in_set v.able x) (in_set times x) u in
      let r = and_right (ltb x (event_count s.plan)) (ready s.plan (fate_of s) x) t in
      (ltb-true x (event_count s.plan) (and_left (ltb x (event_count s.plan)) (ready s.plan (fate_of s) x) t), r, sym (timed x (hand_bound s x r)) ∙ and_right (in_set v.able x) (in_set times x) u);
  others = λ x lt r n. elim (either (in_time s x)) [
    | inr f ↦ untimely_none s z x f
    | inl t ↦
        let hand = w.able x ∙ and_both (ltb x (event_count s.plan)) (ready s.plan (fate_of s) x) (lt-ltb x (event_count s.plan) lt) r in
        absurd (clash (both x ∙ and_both (in_set v.able x) (in_set times x) hand (timed x (hand_bound s x r) ∙ t)) n)
  ];
}

-- and what one pass over the rules leaves of them
pub hopeful_spared : (s : State) (able left : Events)
    → Sized s
    → Hopeful s able
    → Spared s.plan (stands s) (fate_of s) able left
    → Hopeful s left
hopeful_spared s able left z all spared = record {
  hand = λ x h. all.hand x (spared.within x h);
  others = λ x lt r out. elim (either (able x)) [
    | inl t ↦ no_fit_none s z x able all (spared.dropped x t out)
    | inr t ↦ all.others x lt r t
  ];
}

-- an event that has no order is remembered
pub hopeful_less : (s : State) (able one after e : ℕ)
    → e < 16
    → ((y : ℕ) → in_set one y ≡ ((eqb y e && (ltb e 16 && true)) || in_set 0 y))
    → ((y : ℕ) → in_set after y ≡ (in_set able y && not (in_set one y)))
    → Hopeful s (in_set able)
    → chosen s e ≡ none
    → Hopeful s (in_set after)
hopeful_less s able one after e lt is_one is-after k h =
    let same = after_less able e lt one after is_one is-after in
    subst (Hopeful s) (sym same) (record {
      hand = λ x t. k.hand x (less_in (in_set able) e x t);
      others = λ x d r n. elim (ℕ_discrete x e) [
        | yes q ↦ subst (λ (v : ℕ). chosen s v ≡ none) (sym q) h
        | no ne ↦ k.others x d r (refuted (in_set able x) (λ t. clash (less_stays (in_set able) e x t ne) n))
      ];
    })

-- S-4: all shortest viable orders for an event are made of the same events, so looking at orders of held events first
-- finds the chosen order. They are made of the least closed set, which every viable order has.
use Prim.Native.Nat.{ℕ, ◌≤◌, ◌<◌}
use native.Mathlib.Omega.{arith}
use borrow.Author.Tests.{lt-ltb, ltb-true}
use mathlib.Core.Bool.{Bool, true, false, ◌&&◌}
use mathlib.Core.List.{List, Memᴰ}
use mathlib.Core.Logic.{inl, inr}
use Rattle.std.specs.declared.option.Option.{Option}
use Rattle.std.specs.declared.option.Option.TheVariants.{None as none, Some as some}
use mathlib.Core.Path.{◌≡◌, refl, sym, ◌∙◌, ap, subst}
use lib.Dec.{ltb}
use lib.ListN.{length}
use Rattle.theory.proofs.Types.{State}
use Rattle.plan.specs.Base.{first_of, or_else, among, count_below}
use Rattle.plan.specs.Fates.{is_held}
use Rattle.plan.specs.Plans.{event_count}
use Rattle.plan.specs.Rules.{ready}
use Rattle.orders.specs.Closed.{Events}
use Rattle.orders.specs.Sequences.{Ahead}
use Rattle.orders.specs.Stepwise.{stepwise}
use Rattle.scheduler.specs.State.{fate_of, Sized, in_time}
use Rattle.scheduler.specs.Rules.{stands}
use Rattle.scheduler.specs.Orders.{Viable, First, order_of, chosen}
use Rattle.theory.proofs.Conjunctions.{and_three}
use Rattle.theory.specs.HeldFirst.{Shortest, first_among, held_first, members, AtHand}
use Rattle.plan.proofs.Tests.{and_right, and_both, clash, first_some, either}
use Rattle.orders.proofs.Closure.{shared, shared_closed, least_has, least_closed, least_within, count_within}
use Rattle.orders.proofs.Lowest.{first_at, first_nowhere}
use Rattle.orders.proofs.Running.{inside, run_ready, count_inside}
use Rattle.orders.proofs.Cutting.{keep}
use Rattle.scheduler.proofs.Searching.{Passes, order_some, order_ahead, reaches, every, runs_differ, has_contains, ahead_both, chosen_none, chosen_first, mem_long, run_time}
use Rattle.scheduler.proofs.LeastSets.{mem_among, among_mem, run_of, cut_viable, shortest_within, viable_closed, first_shortest, chosen_taken, untimely_none}

module _ (s : State) (z : Sized s) (e : ℕ) where
  -- the events of one lie in what it shares with the other, for that is closed and has e
  shortest_inside : (o q : List ℕ) → Shortest s e o → Viable s e q → (x : ℕ) → among x o ≡ true → among x q ≡ true
  shortest_inside o q v w x h =
      let both = shared (inside o) (inside q) in
      let closed = shared_closed _ _ _ (inside o) (inside q) (viable_closed s e z o v.viable) (viable_closed s e z q w) in
      let has = and_both (among e o) (among e q) (mem_among o v.viable.contains) (mem_among q w.contains) in
      and_right (among x o) (among x q) (shortest_within s z e both closed has o v.viable v.least x h)

  -- all shortest viable orders for an event are made of the same events
  pub shortest_alike : (o q : List ℕ) → Shortest s e o → Shortest s e q → (x : ℕ) → Memᴰ x o → Memᴰ x q
  shortest_alike o q v w x m = among_mem x q (shortest_inside o q v w.viable x (mem_among o m))

  -- any viable order has every member of the least closed set
  pub members_inside : (o : List ℕ) → Viable s e o → (x : ℕ) → members s e x ≡ true → Memᴰ x o
  members_inside o v x h =
      among_mem x o (least_within s.plan (stands s) (fate_of s) e (inside o) (viable_closed s e z o v) (mem_among o v.contains) x h)

  -- and cut down to it stays viable
  pub members_cut : (o : List ℕ) → Viable s e o → Viable s e (keep (members s e) o)
  members_cut =
      cut_viable s z e (members s e) (least_closed s.plan (stands s) (fate_of s) e) (least_has s.plan (stands s) (fate_of s) e)

  -- so the shortest have these events and no other
  pub shortest_members : (o : List ℕ) → Shortest s e o → (x : ℕ) → Memᴰ x o → members s e x ≡ true
  shortest_members o v x m =
      shortest_within s z e (members s e) (least_closed s.plan (stands s) (fate_of s) e) (least_has s.plan (stands s) (fate_of s) e) o v.viable v.least x (mem_among o m)

  at_hand : (o : List ℕ) → Viable s e o → (x : ℕ) → among x o ≡ true → AtHand s x
  at_hand o v x h =
      let w = run_ready s.plan (stands s) (fate_of s) o (run_of s z o v.runs) x h in
      (w.0, w.1, run_time s o v.runs x (among_mem x o h))

  -- no order is viable where a member is not at hand, or there are more than six
  pub unready_none : (x : ℕ) → members s e x ≡ true → (AtHand s x → ⊥) → (o : List ℕ) → Viable s e o → ⊥
  unready_none x h n o v = n (at_hand o v x (mem_among o (members_inside o v x h)))

  pub many_none : 6 < count_below 16 (members s e) → (o : List ℕ) → Viable s e o → ⊥
  many_none lt o v =
      omega (arith, v.short, count_inside 16 o, count_within 16 (members s e) (inside o) (λ x k h. mem_among o (members_inside o v x h)))

  -- the events at hand, as a test; each other has no order
  handy : Events
  handy x = ltb x (event_count s.plan) && ready s.plan (fate_of s) x && in_time s x

  handy_is : (x : ℕ) → handy x ≡ true → AtHand s x
  unfolding handy
  handy_is x h =
      let q = and_three (ltb x (event_count s.plan)) (ready s.plan (fate_of s) x) (in_time s x) h in
      (ltb-true x _ q.0, q.1, q.2)

  is_handy : (x : ℕ) → AtHand s x → handy x ≡ true
  unfolding handy
  is_handy x h = rw (lt-ltb x (event_count s.plan) h.0, h.1, h.2)

  -- where its members are at hand and at most six, always the lowest of them that is not blocked is the right one to
  -- do next
  pub members_chosen : ((x : ℕ) → members s e x ≡ true → AtHand s x)
      → count_below 16 (members s e) ≤ 6
      → chosen s e ≡ stepwise s.plan (stands s) 6 (fate_of s) (members s e)
  members_chosen h few =
      chosen_taken s z e handy (record { hand = handy_is; others = λ x lt r n. elim (either (in_time s x)) [ inl t ↦ absurd (clash (is_handy x (lt, r, t)) n) | inr t ↦ untimely_none s z x t ] }) (members s e) (record {
        fit = record { contains = least_has s.plan (stands s) (fate_of s) e; closed = least_closed s.plan (stands s) (fate_of s) e; ables = λ x t. is_handy x (h x t); few = few };
        least = λ n f. least_within s.plan (stands s) (fate_of s) e n f.closed f.contains;
      })

  module _ (candidate : ℕ → Bool) where
    -- what a search of one length finds is viable
    found_viable : (t : ℕ → Bool) (k : ℕ) → k ≤ 6 → (o : List ℕ) → order_of t k s e false ≡ some o → Viable s e o
    found_viable t k le o h =
        let r = (order_some t k s e false o h).0 in
        record { contains = has_contains e o r.has_e; short = omega (arith, r.long); different = runs_differ s z o r.runs; runs = r.runs }

    nothing_found : (t : ℕ → Bool) (k : ℕ) → k ≤ 6 → ((o : List ℕ) → length o ≡ k → Viable s e o → ⊥) → order_of t k s e false ≡ none
    nothing_found t k le n = go (order_of t k s e false) refl
      where
        go : (x : Option (List ℕ)) → order_of t k s e false ≡ x → order_of t k s e false ≡ none
        go none q = q
        go (some o) q = absurd (n o (order_some t k s e false o q).0.long (found_viable t k le o q))

    neither : (k : ℕ) → k ≤ 6 → ((o : List ℕ) → length o ≡ k → Viable s e o → ⊥) → or_else (order_of candidate k s e false) (order_of every k s e false) ≡ none
    neither k le n = rw (nothing_found candidate k le n, nothing_found every k le n)

    -- at the chosen order's length: the first of the candidates' orders is the first of all
    either_one : (o : List ℕ)
        → First s e o
        → (x : Option (List ℕ))
        → order_of candidate (length o) s e false ≡ x
        → order_of every (length o) s e false ≡ some o
        → or_else (order_of candidate (length o) s e false) (order_of every (length o) s e false) ≡ some o
    either_one o f none q all = rw (q, all)
    either_one o f (some p) q all =
        let v = f.viable in
        let w = found_viable candidate (length o) v.short p q in
        let r = order_some candidate (length o) s e false p q in
        let short-p : Shortest s e p = record { viable = w; least = λ u x. omega (arith, first_shortest s e o f u x, r.0.long) } in
        let short-o : Shortest s e o = record { viable = v; least = first_shortest s e o f } in
        let passes : Passes candidate o = λ c m. r.1 c (shortest_alike o p short-o short-p c m) in
        let ahead : Ahead p o = order_ahead candidate (length o) s e false p q o (reaches v) passes in
        let same : p ≡ o = elim (f.least p w) [
          | inl lt ↦ absurd (omega (arith, r.0.long))
          | inr u ↦ ahead_both p o r.0.long ahead u.1
        ] in
        rw q (ap {B = Option (List ℕ)} some same)

    chosen_length : (o : List ℕ) → chosen s e ≡ some o → order_of every (length o) s e false ≡ some o
    unfolding chosen
    chosen_length o h =
        let f = first_some 6 1 _ o h in
        subst (λ (k : ℕ). order_of every k s e false ≡ some o) (sym (order_some every f.place s e false o f.gives).0.long) f.gives

    -- whatever orders are looked at first, the chosen one is found
    pub among_chosen : first_among candidate s e ≡ chosen s e
    unfolding first_among
    among_chosen = go (chosen s e) refl
      where
        go : (x : Option (List ℕ)) → chosen s e ≡ x → first_of 6 1 (λ k. or_else (order_of candidate k s e false) (order_of every k s e false)) ≡ chosen s e
        go none q = first_nowhere 6 1 _ (λ k lo hi. neither k (omega arith) (λ o n v. chosen_none s e q o v)) ∙ sym q
        go (some o) q =
            let f = chosen_first s e z o q in
            let long = mem_long o f.viable.contains in
            let here = either_one o f (order_of candidate (length o) s e false) refl (chosen_length o q) in
            let before : (k : ℕ) → 1 ≤ k → k < length o → or_else (order_of candidate k s e false) (order_of every k s e false) ≡ none = λ k lo hi. neither k (omega (arith, f.viable.short)) (λ u n v. omega (arith, first_shortest s e o f u v)) in
            first_at 6 1 _ (length o) o long (omega (arith, f.viable.short)) here before ∙ sym q

  -- S-4: held events first, and the chosen order remains
  pub held_first_lem : held_first s e ≡ chosen s e
  unfolding held_first
  held_first_lem = among_chosen (λ c. is_held (fate_of s c))

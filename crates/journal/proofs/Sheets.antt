-- A plan is read off the bytes of its own records: whatever follows them changes nothing. Cut anywhere before their end,
-- the sheet is turned down by number 1.
use Prim.Native.Nat.{ℕ, zero, suc, ◌+◌, ◌≤◌, ◌<◌}
use native.Mathlib.Omega.{arith}
use borrow.Author.Tests.{eqb-true, eqb-false, leb-true, leb-false, le-leb, lt-ltb, le-ltb, ne_eqb, eq-eqb}
use mathlib.Core.Bool.{Bool, true, false, not, ◌&&◌, ◌||◌}
use mathlib.Core.List.{List, [], ◌∷◌, ◌++◌}
use Rattle.std.specs.declared.option.Option.{Option}
use Rattle.std.specs.declared.option.Option.TheVariants.{None as none, Some as some}
use mathlib.Core.Path.{◌≡◌, refl, sym, ◌∙◌, ap, subst}
use lib.Dec.{eqb, ltb, leb}
use lib.ListN.{length, get_or, take, length-append, length-take, get_or-append}
use lib.Seq.{get_or-take, length-take-le}
use Rattle.plan.specs.Plans.{empty_plan, event_count}
use Rattle.plan.specs.Faults.{first_fault}
use Rattle.plan.specs.Records.{body_length, is_rule, word_at, number_at, rule_of, record_at, declare, record_fault}
use Rattle.plan.specs.Rules.{bad_step, bad_attributes, bad_window, named, enforceable}
use Rattle.plan.specs.Sheets.{whole, faulty, read_from, read_plan}
use mathlib.Core.Logic.{inl, inr}
use Rattle.plan.proofs.Tests.{or_both, either}
use Rattle.plan.proofs.Tables.{row_hit, row_miss, rows_none}
use Rattle.plan.proofs.FaultlessRecords.{Faultless, faultless, no_fault}
use Rattle.plan.proofs.SheetReading.{read_fault, read_end, read_next, read_enough}
use Rattle.journal.specs.Types.{Plan, Record, SheetFault, Cut, BadKind, Extra}

-- two records of a kind that agree in the bytes which the kind has. A window's minutes are apart from these
pub record Alike (k x y z x' y' z' : ℕ) : Type 0 where
  pub one : 1 ≤ body_length k → x ≡ x'
  pub two : 2 ≤ body_length k → y ≡ y'
  pub three : 3 ≤ body_length k → z ≡ z'

abbrev pub rec : ℕ → ℕ → ℕ → ℕ → ℕ → ℕ → Record
rec k x y z f u = record { kind = k; x = x; y = y; z = z; from = f; until = u }

module _ (p : Plan) (len len' at : ℕ) where
  -- what is without a fault in a sheet of one length is so in one of another that has room for it
  longer : (r : Record) → Faultless p len at r → at + 1 + body_length r.kind ≤ len' → Faultless p len' at r
  longer r f room = record {
    inside = omega arith;
    low = f.low;
    high = f.high;
    whole = room;
    events = f.events;
    rules = f.rules;
    step = f.step;
    attributes = f.attributes;
    names = f.names;
    enforced = f.enforced;
    window = f.window;
  }

-- the bytes that the kind does not have play no part
module _ (p : Plan) (len at : ℕ) (g u : ℕ) where
  -- the rows from 4 on are the only ones that see them
  rows : (k x y z x' y' z' : ℕ)
      → Faultless p len at (rec k x y z g u)
      → ((eqb k 1 || eqb k 6) && bad_step x') ≡ false
      → (eqb k 1 && bad_attributes y') ≡ false
      → (is_rule k && not (named (event_count p) (rule_of (rec k x' y' z' g u)))) ≡ false
      → (is_rule k && not (enforceable p (rule_of (rec k x' y' z' g u)))) ≡ false
      → (eqb k 7 && bad_window p x' g u) ≡ false
      → Faultless p len at (rec k x' y' z' g u)
  rows k x y z x' y' z' f step attributes names enforced window = record {
    inside = f.inside;
    low = f.low;
    high = f.high;
    whole = f.whole;
    events = f.events;
    rules = f.rules;
    step = step;
    attributes = attributes;
    names = names;
    enforced = enforced;
    window = window;
  }

  as_fine : (k x y z x' y' z' : ℕ)
      → Alike k x y z x' y' z'
      → Faultless p len at (rec k x y z g u)
      → Faultless p len at (rec k x' y' z' g u)
  unfolding rule_of
  as_fine zero x y z x' y' z' a f = absurd (f.low refl)
  as_fine (suc zero) x y z x' y' z' a f =
      let one : x ≡ x' = a.one (omega arith) in
      let two : y ≡ y' = a.two (omega arith) in
      rows 1 x y z x' y' z' f (rw (← one) f.step) (rw (← two) f.attributes) refl refl refl
  as_fine (suc (suc zero)) x y z x' y' z' a f =
      let one : x ≡ x' = a.one (omega arith) in
      let two : y ≡ y' = a.two (omega arith) in
      rows 2 x y z x' y' z' f refl refl (rw (← one, ← two) f.names) (rw (← one, ← two) f.enforced) refl
  as_fine (suc (suc (suc zero))) x y z x' y' z' a f =
      let one : x ≡ x' = a.one (omega arith) in
      let two : y ≡ y' = a.two (omega arith) in
      rows 3 x y z x' y' z' f refl refl (rw (← one, ← two) f.names) (rw (← one, ← two) f.enforced) refl
  as_fine (suc (suc (suc (suc zero)))) x y z x' y' z' a f =
      let one : x ≡ x' = a.one (omega arith) in
      let two : y ≡ y' = a.two (omega arith) in
      let three : z ≡ z' = a.three (omega arith) in
      rows 4 x y z x' y' z' f refl refl (rw (← one, ← two, ← three) f.names) (rw (← one, ← two, ← three) f.enforced) refl
  as_fine (suc (suc (suc (suc (suc zero))))) x y z x' y' z' a f = rows 5 x y z x' y' z' f refl refl refl refl refl
  as_fine (suc (suc (suc (suc (suc (suc zero)))))) x y z x' y' z' a f =
      let one : x ≡ x' = a.one (omega arith) in
      rows 6 x y z x' y' z' f (rw (← one) f.step) refl refl refl refl
  as_fine (suc (suc (suc (suc (suc (suc (suc zero))))))) x y z x' y' z' a f =
      let one : x ≡ x' = a.one (omega arith) in
      rows 7 x y z x' y' z' f refl refl refl refl (rw (← one) f.window)
  as_fine (suc (suc (suc (suc (suc (suc (suc (suc k)))))))) x y z x' y' z' a f = absurd (omega (arith, f.high))

  -- nor in what is declared
  as_declared : (k x y z x' y' z' : ℕ)
      → Alike k x y z x' y' z'
      → Faultless p len at (rec k x y z g u)
      → (k ≡ 5 → ⊥)
      → declare p (rec k x y z g u) ≡ declare p (rec k x' y' z' g u)
  unfolding declare rule_of
  as_declared zero x y z x' y' z' a f five = absurd (f.low refl)
  as_declared (suc zero) x y z x' y' z' a f five = rw (a.one (omega arith), a.two (omega arith))
  as_declared (suc (suc zero)) x y z x' y' z' a f five = rw (a.one (omega arith), a.two (omega arith))
  as_declared (suc (suc (suc zero))) x y z x' y' z' a f five = rw (a.one (omega arith), a.two (omega arith))
  as_declared (suc (suc (suc (suc zero)))) x y z x' y' z' a f five =
      rw (a.one (omega arith), a.two (omega arith), a.three (omega arith))
  as_declared (suc (suc (suc (suc (suc zero))))) x y z x' y' z' a f five = absurd (five refl)
  as_declared (suc (suc (suc (suc (suc (suc zero)))))) x y z x' y' z' a f five = rw (a.one (omega arith))
  as_declared (suc (suc (suc (suc (suc (suc (suc zero))))))) x y z x' y' z' a f five = rw (a.one (omega arith))
  as_declared (suc (suc (suc (suc (suc (suc (suc (suc k)))))))) x y z x' y' z' a f five = absurd (omega (arith, f.high))

-- two sheets that agree in their first n bytes
abbrev pub Agree : List ℕ → List ℕ → ℕ → Type 0
Agree b b' n = (i : ℕ) → i < n → get_or b i 0 ≡ get_or b' i 0

-- a record within them
module _ (b b' : List ℕ) (n at : ℕ) (agree : Agree b b' n) (here : at < n) where
  pub same_kind : get_or b at 0 ≡ get_or b' at 0
  same_kind = agree at here

  module _ (room : at + 1 + body_length (get_or b at 0) ≤ n) where
    pub alike : Alike (get_or b at 0) (get_or b (at + 1) 0) (get_or b (at + 2) 0) (get_or b (at + 3) 0) (get_or b' (at + 1) 0) (get_or b' (at + 2) 0) (get_or b' (at + 3) 0)
    alike = record {
      one = λ h. agree (at + 1) (omega arith);
      two = λ h. agree (at + 2) (omega arith);
      three = λ h. agree (at + 3) (omega arith);
    }

    -- a minute: four bytes of a record of kind 7, and 0 in another
    same_word : (i : ℕ) → i + 4 ≤ n → word_at b i ≡ word_at b' i
    same_word i fits = rw (agree i (omega arith), agree (i + 1) (omega arith), agree (i + 2) (omega arith), agree (i + 3) (omega arith))

    same_number : (i : ℕ) → (get_or b at 0 ≡ 7 → i + 4 ≤ n) → number_at (get_or b at 0) b i ≡ number_at (get_or b at 0) b' i
    same_number i fits = elim (either (eqb (get_or b at 0) 7)) [
      | inl t ↦ rw (t, number_at) (same_word i (fits (eqb-true (get_or b at 0) 7 t)))
      | inr t ↦ rw (t, number_at)
    ]

    seven_long : get_or b at 0 ≡ 7 → at + 10 ≤ n
    seven_long h = omega (arith, room, ap body_length h)

    -- the other sheet's record, with this one's kind and minutes
    pub same_record : rec (get_or b at 0) (get_or b' (at + 1) 0) (get_or b' (at + 2) 0) (get_or b' (at + 3) 0) (number_at (get_or b at 0) b (at + 2)) (number_at (get_or b at 0) b (at + 6))
        ≡ record_at b' at
    same_record =
        let x = get_or b' (at + 1) 0 in
        let y = get_or b' (at + 2) 0 in
        let z = get_or b' (at + 3) 0 in
        let k = get_or b at 0 in
        ap (λ (f : ℕ). rec k x y z f (number_at k b (at + 6))) (same_number (at + 2) (λ h. omega (arith, seven_long h)))
        ∙ ap (λ (u : ℕ). rec k x y z (number_at k b' (at + 2)) u) (same_number (at + 6) (λ h. omega (arith, seven_long h)))
        ∙ ap (λ (i : ℕ). rec i x y z (number_at i b' (at + 2)) (number_at i b' (at + 6))) same_kind

    -- it is without a fault in both, and declares the same
    fine_too : (p : Plan) → record_fault p (length b) at (record_at b at) ≡ none → n ≤ length b' → record_fault p (length b') at (record_at b' at) ≡ none
    fine_too p h fits =
        let f = faultless p (length b) at (record_at b at) h in
        let g = as_fine p (length b) at _ _ _ _ _ _ _ _ _ alike f in
        let l = longer p (length b) (length b') at _ g (omega arith) in
        no_fault p (length b') at (record_at b' at) (subst (Faultless p (length b') at) same_record l)

    pub declares_same : (p : Plan)
        → record_fault p (length b) at (record_at b at) ≡ none
        → (get_or b at 0 ≡ 5 → ⊥)
        → declare p (record_at b at) ≡ declare p (record_at b' at)
    declares_same p h five =
        as_declared p (length b) at _ _ _ _ _ _ _ _ _ alike (faultless p (length b) at (record_at b at) h) five
        ∙ ap (declare p) same_record

-- one record of a plan that is read to its end
pub data Stage (n : ℕ) (b : List ℕ) (at : ℕ) (p q : Plan) (end : ℕ) : Type 0 where
  ends : record_fault p (length b) at (record_at b at) ≡ none
      → get_or b at 0 ≡ 5
      → p ≡ q
      → at + 1 ≡ end
      → Stage n b at p q end
  goes : record_fault p (length b) at (record_at b at) ≡ none
      → (get_or b at 0 ≡ 5 → ⊥)
      → read_from n b (at + 1 + body_length (get_or b at 0)) (declare p (record_at b at)) ≡ whole q end
      → Stage n b at p q end

pub faulty_whole : {f : SheetFault} {at end : ℕ} {p : Plan} → faulty f at ≡ whole p end → ⊥
faulty_whole {f} {at} {end} {p} h = let z : ◌≡◌ {A = ℕ} 0 1 = cc in omega arith

pub same_plan : {p q : Plan} {at end : ℕ} → whole p at ≡ whole q end → p ≡ q
same_plan {p} {q} {at} {end} e = cc

pub same_end : {p q : Plan} {at end : ℕ} → whole p at ≡ whole q end → at ≡ end
same_end {p} {q} {at} {end} e = cc

pub stage : (n : ℕ) (b : List ℕ) (at : ℕ) (p q : Plan) (end : ℕ) → read_from (suc n) b at p ≡ whole q end → Stage n b at p q end
stage n b at p q end h = go (record_fault p (length b) at (record_at b at)) refl (eqb (get_or b at 0) 5) refl
  where
    go : (o : Option SheetFault)
        → record_fault p (length b) at (record_at b at) ≡ o
        → (t : Bool)
        → eqb (get_or b at 0) 5 ≡ t
        → Stage n b at p q end
    go (some f) o t u = absurd (faulty_whole (sym (read_fault n b at p f o) ∙ h))
    go none o true u =
        let e : whole p (at + 1) ≡ whole q end = sym (read_end n b at p o u) ∙ h in
        ends o (eqb-true (get_or b at 0) 5 u) (same_plan e) (same_end e)
    go none o false u = goes o (eqb-false (get_or b at 0) 5 u) (sym (read_next n b at p o u) ∙ h)

-- a plan ends behind where it is read from, and within the sheet
end_behind : (n : ℕ) (b : List ℕ) (at : ℕ) (p q : Plan) (end : ℕ)
    → read_from n b at p ≡ whole q end
    → (at < end) × (end ≤ length b)
unfolding read_from
end_behind zero b at p q end h = absurd (faulty_whole h)
end_behind (suc n) b at p q end h = go (stage n b at p q end h) (end_behind n b)
  where
    go : Stage n b at p q end
        → ((at : ℕ) (p q : Plan) (end : ℕ) → read_from n b at p ≡ whole q end → (at < end) × (end ≤ length b))
        → (at < end) × (end ≤ length b)
    go (ends o five same e) ih =
        let f = faultless p (length b) at (record_at b at) o in
        (omega arith, omega (arith, f.whole))
    go (goes o five next) ih =
        let m = ih (at + 1 + body_length (get_or b at 0)) (declare p (record_at b at)) q end next in
        (omega (arith, m.0), m.1)

no_body : (k : ℕ) → k ≡ 5 → body_length k ≡ 0
no_body k h = ap body_length h

-- whatever follows a plan changes nothing
same_from : (n : ℕ) (b b' : List ℕ) (at : ℕ) (p q : Plan) (end : ℕ)
    → read_from n b at p ≡ whole q end
    → Agree b b' end
    → end ≤ length b'
    → read_from n b' at p ≡ whole q end
unfolding read_from
same_from zero b b' at p q end h agree fits = absurd (faulty_whole h)
same_from (suc n) b b' at p q end h agree fits = go (stage n b at p q end h) (same_from n b b')
  where
    go : Stage n b at p q end
        → ((at : ℕ) (p q : Plan) (end : ℕ) → read_from n b at p ≡ whole q end → Agree b b' end → end ≤ length b' → read_from n b' at p ≡ whole q end)
        → read_from (suc n) b' at p ≡ whole q end
    go (ends o five same e) ih =
        let here : at < end = omega arith in
        let kind = same_kind b b' end at agree here in
        read_end n b' at p
        (fine_too b b' end at agree here (omega (arith, no_body (get_or b at 0) five)) p o fits)
        (eq-eqb (get_or b' at 0) 5 (sym kind ∙ five))
        ∙ ap (λ (r : Plan). whole r (at + 1)) same
        ∙ ap (whole q) e
    go (goes o five next) ih =
        let later = at + 1 + body_length (get_or b at 0) in
        let behind = end_behind n b later (declare p (record_at b at)) q end next in
        let room : at + 1 + body_length (get_or b at 0) ≤ end = omega (arith, behind.0) in
        let here : at < end = omega (arith, behind.0) in
        let kind = same_kind b b' end at agree here in
        read_next n b' at p (fine_too b b' end at agree here room p o fits) (ne_eqb (get_or b' at 0) 5 (λ e. five (kind ∙ e)))
        ∙ ap (λ (k : ℕ). read_from n b' (at + 1 + body_length k) (declare p (record_at b' at))) (sym kind)
        ∙ ap (λ (r : Plan). read_from n b' later r) (sym (declares_same b b' end at agree here room p o five))
        ∙ ih later (declare p (record_at b at)) q end next agree fits

-- a record of a kind whose bytes end before it does
cut_record : (p : Plan) (len at : ℕ) (r : Record)
    → (r.kind ≡ 0 → ⊥)
    → r.kind ≤ 7
    → len < at + 1 + body_length r.kind
    → record_fault p len at r ≡ some Cut
unfolding record_fault
cut_record p len at r low high short = elim (either (leb len at)) [
  | inl t ↦ row_hit (leb len at) Cut _ t
  | inr t ↦
      row_miss (leb len at) Cut _ t
      ∙ row_miss (eqb r.kind 0 || ltb 7 r.kind) BadKind _
      (or_both (eqb r.kind 0) (ltb 7 r.kind) (ne_eqb r.kind 0 low) (le-ltb 7 r.kind high))
      ∙ row_hit (ltb len (at + 1 + body_length r.kind)) Cut _ (lt-ltb len (at + 1 + body_length r.kind) short)
]

nothing_left : (p : Plan) (len at : ℕ) (r : Record) → len ≤ at → record_fault p len at r ≡ some Cut
unfolding record_fault
nothing_left p len at r h = row_hit (leb len at) Cut _ (le-leb len at h)

-- cut before a plan's end: number 1, at the record that is cut
abbrev CutFrom : ℕ → List ℕ → ℕ → Plan → Type 0
CutFrom n b at p = (o : ℕ) × (o ≤ length b) × (read_from n b at p ≡ faulty Cut o)

cut_from : (n : ℕ) (b b' : List ℕ) (at : ℕ) (p q : Plan) (end : ℕ)
    → read_from n b at p ≡ whole q end
    → Agree b b' (length b')
    → length b' < end
    → at ≤ length b'
    → CutFrom n b' at p
unfolding read_from
cut_from zero b b' at p q end h agree short before = absurd (faulty_whole h)
cut_from (suc n) b b' at p q end h agree short before = go (leb (length b') at) refl (stage n b at p q end h) (cut_from n b b')
  where
    go : (t : Bool)
        → leb (length b') at ≡ t
        → Stage n b at p q end
        → ((at : ℕ) (p q : Plan) (end : ℕ) → read_from n b at p ≡ whole q end → Agree b b' (length b') → length b' < end → at ≤ length b' → CutFrom n b' at p)
        → CutFrom (suc n) b' at p
    go true t st ih =
        (at, before, read_fault n b' at p Cut (nothing_left p (length b') at (record_at b' at) (leb-true (length b') at t)))
    go false t (ends o five same e) ih = absurd (omega (arith, leb-false (length b') at t))
    go false t (goes o five next) ih = inside (leb (at + 1 + body_length (get_or b at 0)) (length b')) refl
      where
        here : at < length b'
        here = leb-false (length b') at t

        kind : get_or b at 0 ≡ get_or b' at 0
        kind = same_kind b b' (length b') at agree here

        inside : (u : Bool) → leb (at + 1 + body_length (get_or b at 0)) (length b') ≡ u → CutFrom (suc n) b' at p
        inside true u =
            let later = at + 1 + body_length (get_or b at 0) in
            let room : later ≤ length b' = leb-true later (length b') u in
            let m = ih later (declare p (record_at b at)) q end next agree short room in (
              m.0,
              m.1,
              read_next n b' at p (fine_too b b' (length b') at agree here room p o (omega arith)) (ne_eqb (get_or b' at 0) 5 (λ e. five (kind ∙ e)))
                  ∙ ap (λ (k : ℕ). read_from n b' (at + 1 + body_length k) (declare p (record_at b' at))) (sym kind)
                  ∙ ap (λ (r : Plan). read_from n b' later r) (sym (declares_same b b' (length b') at agree here room p o five))
                  ∙ m.2,
            )
        inside false u =
            let f = faultless p (length b) at (record_at b at) o in
            let past = leb-false (at + 1 + body_length (get_or b at 0)) (length b') u in (
              at,
              before,
              read_fault n b' at p Cut
                  (cut_record p (length b') at (record_at b' at) (λ e. f.low (kind ∙ e)) (subst (λ (k : ℕ). k ≤ 7) kind f.high)
                  (subst (λ (k : ℕ). length b' < at + 1 + body_length k) kind past)),
            )

-- the same of a whole plan
module _ (b : List ℕ) (p : Plan) (end : ℕ) (h : read_plan b ≡ whole p end) where
  with_budget : (n : ℕ) → length b < n → read_from n b 0 empty_plan ≡ whole p end
  with_budget n l = read_enough n b l ∙ h

  pub plan_inside : (0 < end) × (end ≤ length b)
  plan_inside = end_behind (length b + 1) b 0 empty_plan p end (with_budget (length b + 1) (omega arith))

  pub plan_same : (b' : List ℕ) → Agree b b' end → end ≤ length b' → read_plan b' ≡ whole p end
  plan_same b' agree fits =
      let n = length b + length b' + 1 in
      sym (read_enough n b' (omega arith)) ∙ same_from n b b' 0 empty_plan p end (with_budget n (omega arith)) agree fits

  pub plan_cut : (b' : List ℕ) → Agree b b' (length b') → length b' < end → (o : ℕ) × (o ≤ length b') × (read_plan b' ≡ faulty Cut o)
  plan_cut b' agree short =
      let n = length b + length b' + 1 in
      let c = cut_from n b b' 0 empty_plan p end (with_budget n (omega arith)) agree short (omega arith) in
      (c.0, c.1, sym (read_enough n b' (omega arith)) ∙ c.2)

  -- the first n bytes and others behind them, the plan whole
  pub plan_before : (n : ℕ) (r : List ℕ) → end ≤ n → read_plan (take n b ++ r) ≡ whole p end
  plan_before n r fits =
      plan_same (take n b ++ r)
      (λ i l.
      let long : i < length (take n b) = simp length-take (omega (arith, plan_inside.1)) in
      sym (get_or-append (take n b) r 0 i long ∙ get_or-take n b i 0 (omega arith)))
      (simp (length-append, length-take) (omega (arith, plan_inside.1)))

  -- the first n bytes, which end before it does
  pub plan_cut_at : (n : ℕ) → n < end → (o : ℕ) × (o ≤ n) × (read_plan (take n b) ≡ faulty Cut o)
  plan_cut_at n short =
      let len : length (take n b) ≡ n = length-take-le n b (omega (arith, plan_inside.1)) in
      let c = plan_cut (take n b) (λ i l. sym (get_or-take n b i 0 (omega arith))) (omega arith) in
      (c.0, omega (arith, c.1), c.2)

-- no record is turned down for bytes behind the sheet: number 8 is not given
abbrev NotExtra : List (Bool × SheetFault) → Type 0
NotExtra [] = Unit {0}
NotExtra (x ∷ xs) = (x.1 ≡ Extra → ⊥) × NotExtra xs

first_not : (l : List (Bool × SheetFault)) → NotExtra l → (f : SheetFault) → first_fault l ≡ some f → f ≡ Extra → ⊥
first_not [] n f h e = let q = sym (rows_none {F = SheetFault}) ∙ h in let z : ◌≡◌ {A = ℕ} 0 1 = cc in omega arith
first_not (x ∷ xs) n f h e = go x.0 refl (first_not xs n.1 f)
  where
    go : (t : Bool) → x.0 ≡ t → (first_fault xs ≡ some f → f ≡ Extra → ⊥) → ⊥
    go true t ih = n.0 (let q = sym (row_hit x.0 x.1 xs t) ∙ h in cc)
    go false t ih = ih (sym (row_miss x.0 x.1 xs t) ∙ h) e

record_not : (p : Plan) (len at : ℕ) (r : Record) (f : SheetFault) → record_fault p len at r ≡ some f → f ≡ Extra → ⊥
unfolding record_fault
record_not p len at r f h =
    first_not _ (
      λ e. let z : ◌≡◌ {A = ℕ} 0 1 = cc in omega arith,
      (
        λ e. let z : ◌≡◌ {A = ℕ} 0 1 = cc in omega arith,
        (
          λ e. let z : ◌≡◌ {A = ℕ} 0 1 = cc in omega arith,
          (
            λ e. let z : ◌≡◌ {A = ℕ} 0 1 = cc in omega arith,
            (
              λ e. let z : ◌≡◌ {A = ℕ} 0 1 = cc in omega arith,
              (
                λ e. let z : ◌≡◌ {A = ℕ} 0 1 = cc in omega arith,
                (λ e. let z : ◌≡◌ {A = ℕ} 0 1 = cc in omega arith, (λ e. let z : ◌≡◌ {A = ℕ} 0 1 = cc in omega arith, (λ e. let z : ◌≡◌ {A = ℕ} 0 1 = cc in omega arith, tt))),
              ),
            ),
          ),
        ),
      ),
    )
    f h

from_not : (n : ℕ) (b : List ℕ) (at : ℕ) (p : Plan) (f : SheetFault) (o : ℕ) → read_from n b at p ≡ faulty f o → f ≡ Extra → ⊥
unfolding read_from
from_not zero b at p f o h e = let z : ◌≡◌ {A = ℕ} 0 1 = cc in omega arith
from_not (suc n) b at p f o h e = go (record_fault p (length b) at (record_at b at)) refl (eqb (get_or b at 0) 5) refl (from_not n b)
  where
    go : (q : Option SheetFault)
        → record_fault p (length b) at (record_at b at) ≡ q
        → (t : Bool)
        → eqb (get_or b at 0) 5 ≡ t
        → ((at : ℕ) (p : Plan) (f : SheetFault) (o : ℕ) → read_from n b at p ≡ faulty f o → f ≡ Extra → ⊥)
        → ⊥
    go (some g) q t u ih = record_not p (length b) at (record_at b at) g q (let y = sym (read_fault n b at p g q) ∙ h in cc)
    go none q true u ih = faulty_whole (sym (sym (read_end n b at p q u) ∙ h))
    go none q false u ih =
        ih (at + 1 + body_length (get_or b at 0)) (declare p (record_at b at)) f o (sym (read_next n b at p q u) ∙ h) e

pub never_extra : (b : List ℕ) (f : SheetFault) (at : ℕ) → read_plan b ≡ faulty f at → f ≡ Extra → ⊥
unfolding read_plan
never_extra b f at h = from_not (length b + 1) b 0 empty_plan f at h

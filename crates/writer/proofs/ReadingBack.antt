-- Reading what was written: record after record, events first, then rules, then the end record.
use Prim.Native.Nat.{ℕ, suc, ◌+◌, ◌≤◌, ◌<◌}
use native.Mathlib.Nat.{suc-add, zero-add, add-zero}
use native.Mathlib.Omega.{arith}
use mathlib.Core.Bool.{Bool, true, false, not, cond, ◌&&◌, ◌||◌}
use mathlib.Core.Logic.{inl, inr}
use borrow.Author.Tests.{lt-leb}
use mathlib.Core.List.{List, [], ◌∷◌, ◌++◌, map, append_assoc, append-nil}
use mathlib.Core.Path.{◌≡◌, refl, sym, ◌∙◌, ap, subst}
use lib.Dec.{eqb, leb}
use lib.ListN.{length, get_or, drop, length-append, length-drop}
use lib.Seq.{get_or-drop, drop-drop, append_snoc, drop-append_seam}
use Rattle.plan.specs.Plans.{blank_event, blank_rule, blank_window, event_count, rule_count, is_window, has_window, delayable}
use Rattle.plan.specs.Rules.{bad_step, bad_attributes, bad_window, named, enforceable}
use Rattle.plan.specs.Records.{body_length, new_events, new_rules, is_rule, word_of, record_at, rule_of}
use Rattle.plan.specs.Records.{add_event, add_rule, add_window, declare, record_fault}
use Rattle.plan.proofs.Tests.{either}
use Rattle.plan.proofs.CallRecords.{word_back}
use Rattle.plan.specs.Sheets.{whole, read_from}
use Rattle.plan.proofs.FaultlessRecords.{Faultless, no_fault}
use Rattle.plan.proofs.SheetReading.{read_end, read_next}
use Rattle.writer.specs.Types.{Event, Rule, Order, Need, Conditional, RuleLine, Window, Plan, Record}
use Rattle.writer.specs.Writing.{event_record, rule_record, timed_record, window_record, window_bytes, joined}
use Rattle.writer.proofs.Joining.{window_some, window_none}
use Rattle.writer.proofs.Padded.{line_of, made, add_event_lem, add_rule_lem, add_window_lem, next_blank, no_window}

-- the record at the start of some bytes
abbrev front : List ℕ → Record
front l = record_at l 0

-- an event that a sheet would not be turned down for
pub record Fine (v : Event) : Type 0 where
  pub step : bad_step v.step ≡ false
  pub attributes : bad_attributes v.attributes ≡ false

-- the rows for a record of kind 1, of kind 2, 3 or 4, of kind 5, and of kind 7
module _ (p : Plan) (len at : ℕ) (events : event_count p ≤ 16) (rules : rule_count p ≤ 16) where
  rows : (v : Record)
      → 0 < v.kind
      → v.kind ≤ 7
      → at + 1 + body_length v.kind ≤ len
      → event_count p + new_events v.kind ≤ 16
      → rule_count p + new_rules v.kind ≤ 16
      → ((eqb v.kind 1 || eqb v.kind 6) && bad_step v.x) ≡ false
      → (eqb v.kind 1 && bad_attributes v.y) ≡ false
      → (is_rule v.kind && not (named (event_count p) (rule_of v))) ≡ false
      → (is_rule v.kind && not (enforceable p (rule_of v))) ≡ false
      → (eqb v.kind 7 && bad_window p v.x v.from v.until) ≡ false
      → Faultless p len at v
  rows v low high size few_events few_rules step attributes names enforced window = record {
    inside = omega arith;
    low = λ e. omega (arith, e);
    high = high;
    whole = size;
    events = few_events;
    rules = few_rules;
    step = step;
    attributes = attributes;
    names = names;
    enforced = enforced;
    window = window;
  }

  event_faultless : (v : Event) (more : List ℕ)
      → at + 3 ≤ len
      → event_count p < 16
      → Fine v
      → Faultless p len at (front (event_record v ++ more))
  event_faultless v more inside room fine =
      rows (front (event_record v ++ more)) (omega arith) (omega arith) (omega arith) (omega arith) (omega arith) fine.step fine.attributes refl refl refl

  end_faultless : at + 1 ≤ len → Faultless p len at (front (5 ∷ []))
  end_faultless inside =
      rows (front (5 ∷ [])) (omega arith) (omega arith) (omega arith) (omega arith) (omega arith) refl refl refl refl refl

  window_faultless : (e : ℕ) (w : Window) (more : List ℕ)
      → at + 10 ≤ len
      → bad_window p e w.from w.until ≡ false
      → Faultless p len at (front (timed_record e w ++ more))
  window_faultless e w more inside fine =
      rows (front (timed_record e w ++ more)) (omega arith) (omega arith) (omega arith) (omega arith) (omega arith) refl refl refl refl
      ((λ i. bad_window p e (word_back w.from i) (word_back w.until i)) ∙ fine)

  rule_faultless : (r : Rule) (more : List ℕ)
      → at + length (rule_record r) ≤ len
      → rule_count p < 16
      → named (event_count p) r ≡ true
      → enforceable p r ≡ true
      → Faultless p len at (front (rule_record r ++ more))
  unfolding rule_of
  rule_faultless (Order a b) more inside room n e =
      rows (front (2 ∷ a ∷ b ∷ more)) (omega arith) (omega arith) (omega arith) (omega arith) (omega arith) refl refl (ap not n) (ap not e) refl
  rule_faultless (Need a b) more inside room n e =
      rows (front (3 ∷ a ∷ b ∷ more)) (omega arith) (omega arith) (omega arith) (omega arith) (omega arith) refl refl (ap not n) (ap not e) refl
  rule_faultless (Conditional a b c) more inside room n e =
      rows (front (4 ∷ a ∷ b ∷ c ∷ more)) (omega arith) (omega arith) (omega arith) (omega arith) (omega arith) refl refl (ap not n) (ap not e) refl

-- what a rule's record says: the rule, which is declared, and where the next record begins
rule_declared : (p : Plan) (r : Rule) (more : List ℕ) → declare p (front (rule_record r ++ more)) ≡ add_rule p r
unfolding declare rule_of
rule_declared p (Order a b) more = refl
rule_declared p (Need a b) more = refl
rule_declared p (Conditional a b c) more = refl

event_declared : (p : Plan) (v : Event) (more : List ℕ)
    → declare p (front (event_record v ++ more)) ≡ add_event p v.step v.attributes
unfolding declare
event_declared p v more = refl

window_declared : (p : Plan) (e : ℕ) (w : Window) (more : List ℕ)
    → declare p (front (timed_record e w ++ more)) ≡ add_window p e w.from w.until
unfolding declare
window_declared p e w more = λ i. add_window p e (word_back w.from i) (word_back w.until i)

-- what a sheet asks of the next event's window
pub record Timed (p : Plan) (e : ℕ) (w : Window) : Type 0 where
  pub blank : is_window w ≡ false → w ≡ blank_window
  pub waits : is_window w ≡ true → delayable p e ≡ true
  pub ahead : is_window w ≡ true → w.from < w.until

four_false : (a b c d : Bool) → a ≡ false → b ≡ true → c ≡ false → d ≡ false → (a || not b || c || d) ≡ false
four_false a b c d p q r s = λ i. p i || not (q i) || r i || s i

fine_window : (es : List Event) (ls : List RuleLine) (ws : List Window) (e : ℕ) (w : Window)
    → length ws ≡ e
    → e < length es
    → length es ≤ 16
    → delayable (made es ls ws) e ≡ true
    → w.from < w.until
    → bad_window (made es ls ws) e w.from w.until ≡ false
unfolding bad_window
fine_window es ls ws e w q lt few waits ahead =
    four_false (leb (length es) e) (delayable (made es ls ws) e) (has_window (made es ls ws) e) (leb w.until w.from)
    (lt-leb (length es) e lt)
    waits
    (ap is_window (next_blank es ls ws e q (omega arith)))
    (lt-leb w.until w.from ahead)

-- how many windows there are, of some events
unfoldable pub windowed : List Window → ℕ
windowed [] = 0
windowed (w ∷ ws) = cond (is_window w) (suc (windowed ws)) (windowed ws)

windowed_more : (w : Window) (ws : List Window) → is_window w ≡ true → windowed (w ∷ ws) ≡ suc (windowed ws)
unfolding windowed
windowed_more w ws h = rw h

windowed_same : (w : Window) (ws : List Window) → is_window w ≡ false → windowed (w ∷ ws) ≡ windowed ws
unfolding windowed
windowed_same w ws h = rw h

windowed_none : windowed [] ≡ 0
unfolding windowed
windowed_none = refl

rule_goes_on : (r : Rule) (more : List ℕ) → eqb (front (rule_record r ++ more)).kind 5 ≡ false
rule_goes_on (Order a b) more = refl
rule_goes_on (Need a b) more = refl
rule_goes_on (Conditional a b c) more = refl

rule_size : (r : Rule) (more : List ℕ) → 1 + body_length (front (rule_record r ++ more)).kind ≡ length (rule_record r)
rule_size (Order a b) more = refl
rule_size (Need a b) more = refl
rule_size (Conditional a b c) more = refl

-- reading from an offset of some bytes on
module _ (b : List ℕ) where
  front_at : (at : ℕ) (l : List ℕ) → drop at b ≡ l → record_at b at ≡ front l
  front_at at l h =
      let zeroth : get_or b at 0 ≡ get_or (drop at b) 0 0 =
      ap (λ (k : ℕ). get_or b k 0) (omega arith) ∙ sym (get_or-drop at b 0 0) in
      let later : (j k : ℕ) → at + j + k ≡ at + (j + k) = λ j k. omega arith in
      let byte : (j k : ℕ) → get_or b (at + j + k) 0 ≡ get_or (drop at b) (j + k) 0 =
      λ j k. ap (λ (m : ℕ). get_or b m 0) (later j k) ∙ sym (get_or-drop at b (j + k) 0) in
      (λ i. record {
        kind = zeroth i;
        x = sym (get_or-drop at b 1 0) i;
        y = sym (get_or-drop at b 2 0) i;
        z = sym (get_or-drop at b 3 0) i;
        from = elim (eqb (zeroth i) 7) [
          | true ↦ word_of (sym (get_or-drop at b 2 0) i) (byte 2 1 i) (byte 2 2 i) (byte 2 3 i)
          | false ↦ 0
        ];
        until = elim (eqb (zeroth i) 7) [
          | true ↦ word_of (sym (get_or-drop at b 6 0) i) (byte 6 1 i) (byte 6 2 i) (byte 6 3 i)
          | false ↦ 0
        ];
      })
      ∙ ap front h

  -- past the bytes of one record
  pub drop_next : (at : ℕ) (one more : List ℕ) (next : ℕ)
      → drop at b ≡ one ++ more
      → next ≡ at + length one
      → drop next b ≡ more
  drop_next at one more next h e =
      ap (λ (k : ℕ). drop k b) e
      ∙ sym (drop-drop (length one) at b)
      ∙ ap (drop (length one)) h
      ∙ drop-append_seam one more

  -- they stand in the bytes
  inside_at : (at : ℕ) (one more : List ℕ) → drop at b ≡ one ++ more → 0 < length one → at + length one ≤ length b
  inside_at at one more h some =
      omega (arith, sym (length-drop at b) ∙ ap length h ∙ length-append one more)

  -- a record without a fault, before the last: it is declared, and the next one is read
  read_on : (n at : ℕ) (p : Plan) (v : Record)
      → record_at b at ≡ v
      → Faultless p (length b) at v
      → eqb v.kind 5 ≡ false
      → read_from (suc n) b at p ≡ read_from n b (at + 1 + body_length v.kind) (declare p v)
  read_on n at p v h c k =
      let none_here = ap (record_fault p (length b) at) h ∙ no_fault p (length b) at v c in
      let going = ap (λ (w : Record). eqb w.kind 5) h ∙ k in
      read_next n b at p none_here going
      ∙ ap (λ (w : Record). read_from n b (at + 1 + body_length w.kind) (declare p w)) h

  -- the end record
  pub read_last : (n at : ℕ) (p : Plan)
      → event_count p ≤ 16
      → rule_count p ≤ 16
      → drop at b ≡ 5 ∷ []
      → read_from (suc n) b at p ≡ whole p (at + 1)
  read_last n at p few_events few_rules h =
      let here = front_at at (5 ∷ []) h in
      let inside = inside_at at (5 ∷ []) [] h (omega arith) in
      let faultless = end_faultless p (length b) at few_events few_rules (omega arith) in
      let none_here =
      ap (record_fault p (length b) at) here ∙ no_fault p (length b) at (front (5 ∷ [])) faultless in
      read_end n b at p none_here (ap (λ (w : Record). eqb w.kind 5) here)

  -- the events' records
  pub read_events : (vs es : List Event) (n at : ℕ) (more : List ℕ)
      → drop at b ≡ joined event_record vs ++ more
      → length es + length vs ≤ 16
      → ((k : ℕ) → k < length vs → Fine (get_or vs k blank_event))
      → read_from (length vs + n) b at (made es [] [])
      ≡ read_from n b (at + length (joined event_record vs)) (made (es ++ vs) [] [])
  unfolding joined
  read_events [] es n at more h few fine =
      λ i. read_from (zero-add n i) b (sym (add-zero at) i) (made (sym (append-nil es) i) [] [])
  read_events (v ∷ vs) es n at more h few fine =
      let rest = joined event_record vs ++ more in
      let split = h ∙ append_assoc (event_record v) (joined event_record vs) more in
      let here = front_at at (event_record v ++ rest) split in
      let inside = inside_at at (event_record v) rest split (omega arith) in
      let next = at + 1 + 2 in
      let onward = drop_next at (event_record v) rest next split (omega arith) in
      let p = made es [] [] in
      let size : length (es ++ (v ∷ [])) ≡ suc (length es) = omega (arith, length-append es (v ∷ [])) in
      let faultless =
      event_faultless p (length b) at (omega arith) (omega arith) v rest inside (omega arith) (fine 0 (omega arith)) in
      ap (λ (k : ℕ). read_from k b at p) (suc-add (length vs) n)
      ∙ read_on (length vs + n) at p (front (event_record v ++ rest)) here faultless refl
      ∙ ap (λ (q : Plan). read_from (length vs + n) b next q) (event_declared p v rest ∙ add_event_lem es [] [] v (omega arith))
      ∙ read_events vs (es ++ (v ∷ [])) n next more onward (omega arith) (λ k lt. fine (suc k) (omega arith))
      ∙ (λ i. read_from n b (later i) (made (append_snoc es v vs i) [] []))
    where
      later : at + 1 + 2 + length (joined event_record vs) ≡ at + length (event_record v ++ joined event_record vs)
      later = omega arith

  -- the rules' records, of rules that name events of the plan and can be enforced
  pub read_rules : (rs : List Rule) (es : List Event) (ls : List RuleLine) (n at : ℕ) (more : List ℕ)
      → drop at b ≡ joined rule_record rs ++ more
      → length es ≤ 16
      → length ls + length rs ≤ 16
      → ((k : ℕ) → k < length rs → named (length es) (get_or rs k blank_rule.rule) ≡ true)
      → ((k : ℕ) (ms : List RuleLine) → k < length rs → enforceable (made es ms []) (get_or rs k blank_rule.rule) ≡ true)
      → read_from (length rs + n) b at (made es ls [])
      ≡ read_from n b (at + length (joined rule_record rs)) (made es (ls ++ map line_of rs) [])
  unfolding joined
  read_rules [] es ls n at more h few_events few names holds =
      λ i. read_from (zero-add n i) b (sym (add-zero at) i) (made es (sym (append-nil ls) i) [])
  read_rules (r ∷ rs) es ls n at more h few_events few names holds =
      let rest = joined rule_record rs ++ more in
      let split = h ∙ append_assoc (rule_record r) (joined rule_record rs) more in
      let size = rule_size r rest in
      let here = front_at at (rule_record r ++ rest) split in
      let inside = inside_at at (rule_record r) rest split (omega arith) in
      let next = at + 1 + body_length (front (rule_record r ++ rest)).kind in
      let onward = drop_next at (rule_record r) rest next split (omega arith) in
      let p = made es ls [] in
      let room : length (ls ++ (line_of r ∷ [])) + length rs ≤ 16 = omega (arith, length-append ls (line_of r ∷ [])) in
      let named_here = names 0 (omega arith) in
      let faultless =
      rule_faultless p (length b) at (omega arith) (omega arith) r rest inside (omega arith) named_here (holds 0 ls (omega arith)) in
      let names-on : (k : ℕ) → k < length rs → named (length es) (get_or rs k blank_rule.rule) ≡ true =
      λ k lt. names (suc k) (omega arith) in
      ap (λ (k : ℕ). read_from k b at p) (suc-add (length rs) n)
      ∙ read_on (length rs + n) at p (front (rule_record r ++ rest)) here faultless (rule_goes_on r rest)
      ∙ ap (λ (q : Plan). read_from (length rs + n) b next q) (rule_declared p r rest ∙ add_rule_lem es ls [] r (omega arith))
      ∙ read_rules rs es (ls ++ (line_of r ∷ [])) n next more onward few_events room names-on (λ k ms lt. holds (suc k) ms (omega arith))
      ∙ (λ i. read_from n b (later i) (made es (append_snoc ls (line_of r) (map line_of rs) i) []))
    where
      later : at + 1 + body_length (front (rule_record r ++ (joined rule_record rs ++ more))).kind + length (joined rule_record rs)
          ≡ at + length (rule_record r ++ joined rule_record rs)
      later = omega (arith, rule_size r (joined rule_record rs ++ more), length-append (rule_record r) (joined rule_record rs))

  -- the windows' records, of the events from e on
  module _ (es : List Event) (ls : List RuleLine) (few_events : length es ≤ 16) (few_rules : length ls ≤ 16) where
    timed_split : (u : Window) (us : List Window) (e at : ℕ) (more : List ℕ)
        → drop at b ≡ (window_record e u ++ window_bytes (suc e) us) ++ more
        → is_window u ≡ true
        → drop at b ≡ timed_record e u ++ (window_bytes (suc e) us ++ more)
    timed_split u us e at more h t =
        h
        ∙ ap (λ (l : List ℕ). (l ++ window_bytes (suc e) us) ++ more) (window_some e u t)
        ∙ append_assoc (timed_record e u) (window_bytes (suc e) us) more

    timed_later : (u : Window) (us : List Window) (e at : ℕ)
        → is_window u ≡ true
        → at + 1 + 9 + length (window_bytes (suc e) us) ≡ at + length (window_record e u ++ window_bytes (suc e) us)
    timed_later u us e at t =
        omega (arith, ap length (window_some e u t), length-append (window_record e u) (window_bytes (suc e) us))

    timed_step : (u : Window) (us ws : List Window) (e n at : ℕ) (more : List ℕ)
        → length ws ≡ e
        → drop at b ≡ (window_record e u ++ window_bytes (suc e) us) ++ more
        → e + suc (length us) ≤ length es
        → is_window u ≡ true
        → Timed (made es ls []) e u
        → read_from (windowed (u ∷ us) + n) b at (made es ls ws)
        ≡ read_from (windowed us + n) b (at + 1 + 9) (made es ls (ws ++ (u ∷ [])))
    timed_step u us ws e n at more q h few t now =
        let rest = window_bytes (suc e) us ++ more in
        let split = timed_split u us e at more h t in
        let here = front_at at (timed_record e u ++ rest) split in
        let inside = inside_at at (timed_record e u) rest split (omega arith) in
        let p = made es ls ws in
        let fine = fine_window es ls ws e u q (omega arith) few_events (now.waits t) (now.ahead t) in
        let faultless = window_faultless p (length b) at few_events few_rules e u rest (omega (arith, inside)) fine in
        ap (λ (k : ℕ). read_from k b at p) (ap (λ (k : ℕ). k + n) (windowed_more u us t) ∙ suc-add (windowed us) n)
        ∙ read_on (windowed us + n) at p (front (timed_record e u ++ rest)) here faultless refl
        ∙ ap (λ (v : Plan). read_from (windowed us + n) b (at + 1 + 9) v)
        (window_declared p e u rest ∙ add_window_lem es ls ws e q (omega arith) u)

    pub read_windows : (us ws : List Window) (e n at : ℕ) (more : List ℕ)
        → length ws ≡ e
        → drop at b ≡ window_bytes e us ++ more
        → e + length us ≤ length es
        → ((k : ℕ) → k < length us → Timed (made es ls []) (e + k) (get_or us k blank_window))
        → read_from (windowed us + n) b at (made es ls ws)
        ≡ read_from n b (at + length (window_bytes e us)) (made es ls (ws ++ us))
    unfolding window_bytes
    read_windows [] ws e n at more q h few timed = λ i.
        read_from ((ap (λ (k : ℕ). k + n) windowed_none ∙ zero-add n) i) b (sym (add-zero at) i) (made es ls (sym (append-nil ws) i))
    read_windows (u ∷ us) ws e n at more q h few timed =
        let size : length (ws ++ (u ∷ [])) ≡ suc e = omega (arith, length-append ws (u ∷ [])) in
        let first : e + 0 ≡ e = omega arith in
        let here = timed 0 (omega arith) in
        let later : (k : ℕ) → e + suc k ≡ suc e + k = λ k. omega arith in
        let rest : (k : ℕ) → k < length us → Timed (made es ls []) (suc e + k) (get_or us k blank_window) =
        λ k lt. subst (λ (j : ℕ). Timed (made es ls []) j (get_or us k blank_window)) (later k) (timed (suc k) (omega arith)) in
        let room : suc e + length us ≤ length es = omega arith in
        let now = subst (λ (j : ℕ). Timed (made es ls []) j u) first here in
        elim (either (is_window u)) [
          | inl t ↦
              let next = at + 1 + 9 in
              let onward = drop_next at (timed_record e u) (window_bytes (suc e) us ++ more) next (timed_split u us e at more h t) (omega arith) in
              timed_step u us ws e n at more q h few t now
              ∙ read_windows us (ws ++ (u ∷ [])) (suc e) n next more size onward room rest
              ∙ (λ i. read_from n b (timed_later u us e at t i) (made es ls (append_snoc ws u us i)))
          | inr f ↦
              let none = window_none e u f in
              let onward = h ∙ ap (λ (l : List ℕ). (l ++ window_bytes (suc e) us) ++ more) none in
              let blank : made es ls ws ≡ made es ls (ws ++ (u ∷ [])) =
              no_window es ls ws e q (omega arith) ∙ ap (λ (w : Window). made es ls (ws ++ (w ∷ []))) (sym (now.blank f)) in
              (λ i. read_from (windowed_same u us f i + n) b at (blank i))
              ∙ read_windows us (ws ++ (u ∷ [])) (suc e) n at more size onward room rest
              ∙ (λ i. read_from n b (at + length (sym none i ++ window_bytes (suc e) us)) (made es ls (append_snoc ws u us i)))
        ]

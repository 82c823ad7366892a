-- The records of what stands at a plan's places: one more, those of each kind, and those of a sheet.
use Prim.Native.Nat.{ℕ, zero, suc, ◌+◌, ◌/◌, ◌%◌, ◌≤◌, ◌<◌}
use native.Mathlib.Nat.{add-zero}
use native.Mathlib.Numerals.{add-one}
use native.Mathlib.Omega.{arith}
use mathlib.Core.List.{List, [], ◌∷◌, ◌++◌, map, append_assoc, append-nil}
use mathlib.Core.Path.{◌≡◌, refl, sym, ◌∙◌, ap}
use lib.ListN.{length, get_or, take, drop, take-append-drop}
use lib.Seq.{take-suc, length-take-le, get_or-take}
use Rattle.plan.specs.Base.{tabulate, read_at}
use Rattle.plan.specs.Plans.{blank_event, blank_rule, blank_window, event_count, rule_count, event_at}
use Rattle.plan.specs.Calls.{bytes_of}
use Rattle.plan.proofs.Arrays.{read_in}
use Rattle.std.specs.Int.{to_le_bytes}
use mir.Syntax.{w32}
use Rattle.theory.proofs.Observation.{as_tabulate}
use Rattle.writer.specs.Types.{Event, RuleLine, Window, Plan}
use Rattle.writer.specs.Writing.{events_of, rules_of, windows_of, event_record, rule_record, window_record, window_bytes, joined, sheet_bytes}
use Rattle.writer.specs.Internal.Records.{records}
use Rattle.writer.proofs.Joining.{sheet_parts}

module _ {A : Type 0} (f : ℕ → A → List ℕ) where
  -- none, and one
  pub records_none : (e : ℕ) → records f e [] ≡ []
  unfolding records
  records_none e = refl

  records_one : (e : ℕ) (x : A) → records f e (x ∷ []) ≡ f e x
  unfolding records
  records_one e x = append-nil (f e x)

  -- in two parts
  records_append : (e : ℕ) (xs ys : List A) → records f e (xs ++ ys) ≡ records f e xs ++ records f (e + length xs) ys
  unfolding records
  records_append e [] ys = ap (λ (k : ℕ). records f k ys) (sym (add-zero e))
  records_append e (x ∷ xs) ys =
      let later : suc e + length xs ≡ e + suc (length xs) = omega arith in
      ap (λ (l : List ℕ). f e x ++ l) (records_append (suc e) xs ys)
      ∙ sym (append_assoc (f e x) (records f (suc e) xs) (records f (suc e + length xs) ys))
      ∙ ap (λ (k : ℕ). f e x ++ records f (suc e) xs ++ records f k ys) later

  module _ (xs : List A) (i : ℕ) (x : A) (lt : i < length xs) (is : x ≡ get_or xs i x) where
    -- one more
    pub records_next : records f 0 (take (i + 1) xs) ≡ records f 0 (take i xs) ++ f i x
    records_next =
        let here : 0 + length (take i xs) ≡ i = omega (arith, length-take-le i xs (omega arith)) in
        rw (add-one i, take-suc xs i x lt)
        (records_append 0 (take i xs) (get_or xs i x ∷ [])
        ∙ ap (λ (y : A). records f 0 (take i xs) ++ records f (0 + length (take i xs)) (y ∷ [])) (sym is)
        ∙ ap (λ (k : ℕ). records f 0 (take i xs) ++ records f k (x ∷ [])) here
        ∙ ap (λ (l : List ℕ). records f 0 (take i xs) ++ l) (records_one i x))

    -- those before it, its own, and those after it
    abbrev pub later : List ℕ
    later = records f (0 + length (take (i + 1) xs)) (drop (i + 1) xs)

    pub records_split : records f 0 xs ≡ records f 0 (take i xs) ++ (f i x ++ later)
    records_split =
        ap (records f 0) (sym (take-append-drop (i + 1) xs))
        ∙ records_append 0 (take (i + 1) xs) (drop (i + 1) xs)
        ∙ ap (λ (l : List ℕ). l ++ later) records_next
        ∙ append_assoc (records f 0 (take i xs)) (f i x) later

-- the same, whatever the place
records_joined : {A B : Type 0} (f : B → List ℕ) (g : A → B) (e : ℕ) (xs : List A)
    → records (λ (k : ℕ) (x : A). f (g x)) e xs ≡ joined f (map g xs)
unfolding records joined
records_joined f g e [] = refl
records_joined f g e (x ∷ xs) = ap (λ (l : List ℕ). f (g x) ++ l) (records_joined f g (suc e) xs)

records_windows : (e : ℕ) (ws : List Window) → records window_record e ws ≡ window_bytes e ws
unfolding records window_bytes
records_windows e [] = refl
records_windows e (w ∷ ws) = ap (λ (l : List ℕ). window_record e w ++ l) (records_windows (suc e) ws)

-- the first of an array's places, as the definitions read them
front : {A : Type 0} (xs : List A) (n : ℕ) (d : A)
    → length xs ≡ 16
    → n ≤ 16
    → take n xs ≡ tabulate n 0 (λ e. read_at 16 xs e d)
front xs n d whole few =
    as_tabulate n (take n xs) (λ e. read_at 16 xs e d) d
    (length-take-le n xs (omega arith))
    (λ k lt. get_or-take n xs k d lt ∙ sym (read_in 16 xs k d (omega arith)))

map_tabulate : {A B : Type 0} (f : A → B) (g : ℕ → A) (n i : ℕ) → map f (tabulate n i g) ≡ tabulate n i (λ k. f (g k))
unfolding tabulate
map_tabulate f g zero i = refl
map_tabulate f g (suc n) i = ap (λ l. f (g i) ∷ l) (map_tabulate f g n (suc i))

-- the parts of a sheet, as code puts them
module _ (p : Plan) where
  abbrev pub event_rows : List ℕ
  event_rows = records (λ (e : ℕ) (v : Event). event_record v) 0 (take (event_count p) p.events)

  abbrev pub rule_rows : List ℕ
  rule_rows = records (λ (i : ℕ) (l : RuleLine). rule_record l.rule) 0 (take (rule_count p) p.rules)

  abbrev pub window_rows : List ℕ
  window_rows = records window_record 0 (take (event_count p) p.windows)

  events_said : length p.events ≡ 16 → event_count p ≤ 16 → event_rows ≡ joined event_record (events_of p)
  events_said whole few =
      records_joined event_record (λ (v : Event). v) 0 (take (event_count p) p.events)
      ∙ ap (λ (l : List Event). joined event_record (map (λ (v : Event). v) l))
      (front p.events (event_count p) blank_event whole few)
      ∙ ap (joined event_record) (map_tabulate (λ (v : Event). v) (λ e. event_at p e) (event_count p) 0)

  rules_said : length p.rules ≡ 16 → rule_count p ≤ 16 → rule_rows ≡ joined rule_record (rules_of p)
  rules_said whole few =
      records_joined rule_record (λ (l : RuleLine). l.rule) 0 (take (rule_count p) p.rules)
      ∙ ap (λ (l : List RuleLine). joined rule_record (map (λ (r : RuleLine). r.rule) l))
      (front p.rules (rule_count p) blank_rule whole few)
      ∙ ap (joined rule_record)
      (map_tabulate (λ (l : RuleLine). l.rule) (λ i. read_at 16 p.rules i blank_rule) (rule_count p) 0)

  windows_said : length p.windows ≡ 16 → event_count p ≤ 16 → window_rows ≡ window_bytes 0 (windows_of p)
  windows_said whole few =
      records_windows 0 (take (event_count p) p.windows)
      ∙ ap (window_bytes 0) (front p.windows (event_count p) blank_window whole few)

  -- the arrays have their places, and the counts are within them
  pub record Whole : Type 0 where
    pub events : length p.events ≡ 16
    pub rules : length p.rules ≡ 16
    pub windows : length p.windows ≡ 16
    pub few_events : event_count p ≤ 16
    pub few_rules : rule_count p ≤ 16

  pub sheet_split : Whole → sheet_bytes p ≡ event_rows ++ (rule_rows ++ (window_rows ++ (5 ∷ [])))
  sheet_split w =
      sheet_parts p
      ∙ sym (λ i. events_said w.events w.few_events i
      ++ (rules_said w.rules w.few_rules i ++ (windows_said w.windows w.few_events i ++ (5 ∷ []))))

-- a number's four bytes, as code writes them
pub le_bytes : (n : ℕ) → n < 4294967296 → to_le_bytes w32 n ≡ bytes_of n
le_bytes n h =
    let last : n / 16777216 % 256 ≡ n / 16777216 = omega arith in
    ap (λ (d : ℕ). n % 256 ∷ n / 256 % 256 ∷ n / 65536 % 256 ∷ d ∷ []) last

-- The records of a journal, over calls of any sort: what a record is, what stands at the front of bytes, and the run of
-- record after record.
use Rattle.std.specs.Prelude.{ℕ, zero, suc, ◌+◌, ◌-◌, Bool, true, false, List, [], ◌∷◌, ◌++◌, ◌≡◌, eqb, ltb, leb, length, take, drop}
use Rattle.std.specs.declared.option.Option.{Option}
use Rattle.std.specs.declared.option.Option.TheVariants.{None as none, Some as some}
use Rattle.journal.specs.Types.{Plan}

-- what a journal records: calls on states, and a record for each call. `calls` in Calls.antt is the scheduler's (16.1)
pub record Keeping (S C F : Type 0) : Type 0 where
  pub first : Plan → S  -- a plan's first state
  pub fault : S → C → Option F  -- why a state turns a call down
  pub make : S → C → S  -- the state after an accepted call
  pub bytes : C → List ℕ  -- a call's record, its kind byte first
  pub long : ℕ → ℕ  -- how many bytes a record of a kind has, the kind byte too; 0 for a kind that is no call's
  pub call_of : List ℕ → Option C  -- the call of a whole record, if it is a call's

-- what stands at the front of bytes (16.3)
pub data Front (C : Type 0) : Type 0 where
  Whole : C → Front C  -- a call's record
  Short : Front C  -- nothing, or a record of a call's kind that the bytes end before
  Other : Front C  -- a kind byte that is no call's, or a whole record that is no call's

abbrev pub as_front : {C : Type 0} → Option C → Front C
as_front (some c) = Whole c
as_front none = Other

-- what a run of records comes to: the state, how many bytes its whole records take, and whether it ended at a bad
-- record
pub record Ran (S : Type 0) : Type 0 where
  pub state : S
  pub used : ℕ
  pub bad : Bool

abbrev pub stopped : {S : Type 0} → S → Bool → Ran S
stopped s t = record { state = s; used = 0; bad = t }

abbrev pub further : {S : Type 0} → ℕ → Ran S → Ran S
further n r = record { state = r.state; used = n + r.used; bad = r.bad }

module _ {S C F : Type 0} (k : Keeping S C F) where
  -- how many bytes a call's record has
  abbrev pub size : C → ℕ
  size c = length (k.bytes c)

  -- the record at the front, by the length that its kind has (16.3)
  unfoldable pub front : List ℕ → Front C
  front [] = Short
  front (x ∷ r) = elim (eqb (k.long x) 0) [
    | true ↦ Other
    | false ↦ elim (ltb (length (x ∷ r)) (k.long x)) [
      | true ↦ Short
      | false ↦ as_front (k.call_of (take (k.long x) (x ∷ r)))
    ]
  ]

  -- makes record after record, each call on the state that the one before it left. It stops at the end and at a cut
  -- record; at a record that is no call's and at a call that the state there turns down it stops bad. At most n records;
  -- `run` allows enough (16.3, 16.4)
  unfoldable pub run_up_to : ℕ → S → List ℕ → Ran S
  run_up_to zero s b = stopped s false
  run_up_to (suc n) s b = elim (front b) [
    | Whole c ↦ elim (k.fault s c) [
      | none ↦ further (size c) (run_up_to n (k.make s c) (drop (size c) b))
      | some f ↦ stopped s true
    ]
    | Short ↦ stopped s false
    | Other ↦ stopped s true
  ]

  unfoldable pub run : S → List ℕ → Ran S
  run s b = run_up_to (length b) s b

  -- the records of calls, one after another (16.1)
  unfoldable pub records : List C → List ℕ
  records [] = []
  records (c ∷ cs) = k.bytes c ++ records cs

  -- the state after calls that are made one after another
  unfoldable pub made : S → List C → S
  made s [] = s
  made s (c ∷ cs) = made (k.make s c) cs

  -- calls that are accepted one after another, from a state on (16.1)
  abbrev pub Accepted : S → List C → Type 0
  Accepted s [] = Unit {0}
  Accepted s (c ∷ cs) = (k.fault s c ≡ none) × Accepted (k.make s c) cs

  -- a call's record is read as that call; so is the record of each call of a list
  abbrev pub Recorded : C → Type 0
  Recorded c = k.call_of (k.bytes c) ≡ some c

  abbrev pub AllRecorded : List C → Type 0
  AllRecorded [] = Unit {0}
  AllRecorded (c ∷ cs) = Recorded c × AllRecorded cs

  -- the calls whose records are whole in the first n bytes of the records of these calls (16.8)
  unfoldable pub whole_within : ℕ → List C → List C
  whole_within n [] = []
  whole_within n (c ∷ cs) = elim (leb (size c) n) [ true ↦ c ∷ whole_within (n - size c) cs | false ↦ [] ]

-- What is claimed of journals: of a cut, of an appended record, and of what a host keeps.
use Rattle.std.specs.Prelude.{ℕ, ◌+◌, ◌-◌, ◌≤◌, ◌<◌, Bool, true, false, List, [], ◌∷◌, ◌++◌, ◌≡◌, length, take, drop}
use Rattle.std.specs.declared.option.Option.TheVariants.{None as none}
use Rattle.journal.specs.Types.{Plan, Cut}
use Rattle.journal.specs.Records.{Keeping, size, records, made, Recorded, whole_within}
use Rattle.journal.specs.Journals.{Opening, Opens, Unread, Appending, Appended, TooLong, BadSheet, BadRecord, TurnedDown, NoRoom, journal_of, open_journal, append, buffer_after}

abbrev pub is_appended : {F : Type 0} → Appending F → Bool
is_appended (Appended at n) = true
is_appended TooLong = false
is_appended (BadSheet f at) = false
is_appended (BadRecord at) = false
is_appended (TurnedDown f at) = false
is_appended (NoRoom at) = false

module _ {S C F : Type 0} (k : Keeping S C F) where
  -- bytes b open to the state after these calls, from s on, and all that stands behind their records is left over
  abbrev pub opens_after : List ℕ → List ℕ → S → List C → Opening S
  opens_after b sheet s cs = Opens (made k s cs) (length (journal_of k sheet cs)) (length b - length (journal_of k sheet cs))

  -- a journal of which only the first n bytes remain. With the sheet whole it opens to the state after exactly the calls
  -- whose records are whole; a cut inside the sheet is number 1 (16.8)
  pub record SurvivesCut (sheet : List ℕ) (p : Plan) (cs : List C) : Type 0 where
    pub behind : (n : ℕ) → length sheet ≤ n
        → open_journal k (take n (journal_of k sheet cs))
        ≡ opens_after (take n (journal_of k sheet cs)) sheet (k.first p) (whole_within k (n - length sheet) cs)
    pub inside : (n : ℕ) → n < length sheet
        → (at : ℕ) × (at ≤ n) × (open_journal k (take n (journal_of k sheet cs)) ≡ Unread Cut at)

  -- the calls that remain are the first ones, as many as have their records whole in n bytes (16.8)
  pub record ExactlyWhole (n : ℕ) (cs remain : List C) : Type 0 where
    pub lost : List C
    pub first : cs ≡ remain ++ lost
    pub whole : length (records k remain) ≤ n
    pub no_more : (c : C) (more : List C) → lost ≡ c ∷ more → n < length (records k remain) + size k c

  -- a record appended to the journal in the first `len` bytes of a buffer: the journal opens, the call is accepted, and
  -- what is written opens to the state after the call, with nothing left over. Only the record's own bytes change. Cut
  -- again, inside the record, it opens to the state before the call (16.7, 16.9)
  pub record AppendsCall (buffer : List ℕ) (len : ℕ) (c : C) (end n : ℕ) : Type 0 where
    pub state : S
    pub left : ℕ
    pub opens : open_journal k (take len buffer) ≡ Opens state end left
    pub accepted : k.fault state c ≡ none
    pub length_is : n ≡ end + size k c
    pub fits : n ≤ length buffer
    pub reopens : open_journal k (take n (buffer_after k buffer len c)) ≡ Opens (k.make state c) n 0
    pub torn : (m : ℕ) → end ≤ m → m < n → open_journal k (take m (buffer_after k buffer len c)) ≡ Opens state end (m - end)
    pub written : take n (buffer_after k buffer len c) ≡ take end buffer ++ k.bytes c
    pub beyond : drop n (buffer_after k buffer len c) ≡ drop n buffer
    pub as_long : length (buffer_after k buffer len c) ≡ length buffer

  -- what a host keeps that began with a sheet alone, and the calls that it has not lost. A call is appended in a buffer
  -- that begins with what is kept; last bytes are lost, but none of the sheet; what is kept is cut back to its last
  -- whole record (16.10)
  pub data Kept (sheet : List ℕ) : List ℕ → List C → Type 0 where
    fresh : Kept sheet sheet []
    appended : {b : List ℕ} {cs : List C} → Kept sheet b cs
        → (rest : List ℕ) (c : C) (end n : ℕ)
        → Recorded k c
        → append k (b ++ rest) (length b) c ≡ Appended end n
        → Kept sheet (take n (buffer_after k (b ++ rest) (length b) c)) (cs ++ (c ∷ []))
    lost : {b : List ℕ} {cs : List C} → Kept sheet b cs
        → (n : ℕ)
        → length sheet ≤ n
        → Kept sheet (take n b) (whole_within k (n - length sheet) cs)
    cut_back : {b : List ℕ} {cs : List C} → Kept sheet b cs
        → (s : S) (end left : ℕ)
        → open_journal k b ≡ Opens s end left
        → Kept sheet (take end b) cs

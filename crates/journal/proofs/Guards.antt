-- What the claims on journals say of one journal. Each is taken out of the claim alone, so that a claim with a premise
-- that nothing meets, or without one of its clauses, would not give it.
use Prim.Native.Nat.{ℕ, ◌≤◌}
use native.Mathlib.Omega.{arith}
use mathlib.Core.Bool.{true}
use mathlib.Core.List.{List, [], ◌∷◌, ◌++◌}
use Rattle.std.specs.declared.option.Option.TheVariants.{None as none}
use mathlib.Core.Path.{◌≡◌}
use lib.ListN.{length, take, drop}
use lib.Pow.{are_bytes}
use Rattle.std.specs.Prelude.{Ok, Err}
use Rattle.scheduler.specs.State.{first_state}
use Rattle.scheduler.specs.Coherent.{coherent}
use Rattle.scheduler.specs.Sheet.{read_sheet, admitted}
use Rattle.scheduler.specs.Answers.{call_fault, call}
use Rattle.scheduler.specs.Lists.{scheduler, after, turned_down}
use Rattle.scheduler.specs.Demand.{Demand3, seen}
use Rattle.journal.specs.Types.{Plan, Call, Submit, Cut, State, JournalFault, Journal}
use Rattle.journal.specs.Records.{made, records, whole_within}
use Rattle.journal.specs.Journals.{Opens, Unread, Appended, journal_of, open_journal, append, buffer_after}
use Rattle.journal.specs.Claims.{SurvivesCut, AppendsCall}
use Rattle.journal.specs.Calls.{calls}
use Rattle.journal.specs.Scheduled.{StoresRecord, HoldsCalls, JournalHolds}

-- a sheet of one event, four bytes, and a submit of it
abbrev one : List ℕ
one = 1 ∷ 0 ∷ 6 ∷ 5 ∷ []

abbrev now : Call
now = Submit 0

-- every cut behind the sheet, and one inside it
pub cut_says : (p : Plan)
    → SurvivesCut calls one p (now ∷ [])
    → (open_journal calls one ≡ Opens (first_state p) 4 0)
    × (open_journal calls (one ++ (16 ∷ [])) ≡ Opens (first_state p) 4 1)
    × (open_journal calls (one ++ (16 ∷ 0 ∷ [])) ≡ Opens (call (first_state p) now).state 6 0)
    × ((at : ℕ) × (at ≤ 2) × (open_journal calls (1 ∷ 0 ∷ []) ≡ Unread Cut at))
unfolding records made whole_within
cut_says p c = (c.behind 4 (omega arith), c.behind 5 (omega arith), c.behind 6 (omega arith), c.inside 2 (omega arith))

-- a record over leftover bytes: opened, cut again, and the bytes beyond it
module _ (buffer : List ℕ) (a : AppendsCall calls buffer 6 now 4 6) where
  pub append_says :
      (open_journal calls (take 6 buffer) ≡ Opens a.state 4 a.left)
      × (call_fault a.state now ≡ none)
      × (open_journal calls (take 6 (buffer_after calls buffer 6 now)) ≡ Opens (call a.state now).state 6 0)
      × (open_journal calls (take 5 (buffer_after calls buffer 6 now)) ≡ Opens a.state 4 1)
      × (open_journal calls (take 4 (buffer_after calls buffer 6 now)) ≡ Opens a.state 4 0)
  append_says = (a.opens, a.accepted, a.reopens, a.torn 5 (omega arith) (omega arith), a.torn 4 (omega arith) (omega arith))

  pub append_keeps :
      (take 6 (buffer_after calls buffer 6 now) ≡ take 4 buffer ++ (16 ∷ 0 ∷ []))
      × (drop 6 (buffer_after calls buffer 6 now) ≡ drop 6 buffer)
      × (length (buffer_after calls buffer 6 now) ≡ length buffer)
      × (6 ≤ length buffer)
  append_keeps = (a.written, a.beyond, a.as_long, a.fits)

-- a record stored by a host that keeps the state
pub store_says : (b : List ℕ) (s : State)
    → StoresRecord b s 4 now
    → (open_journal calls (take 4 b ++ (16 ∷ 0 ∷ [])) ≡ Opens (call s now).state 6 0)
    × (open_journal calls (take 4 b ++ (16 ∷ [])) ≡ Opens s 4 1)
    × (append calls (take 4 b ++ (9 ∷ 9 ∷ [])) 4 now ≡ Appended 4 6)
    × (take 6 (buffer_after calls (take 4 b ++ (9 ∷ 9 ∷ [])) 4 now) ≡ take 4 b ++ (16 ∷ 0 ∷ []))
store_says b s r =
    let a = r.appends (9 ∷ 9 ∷ []) (omega arith) in
    (r.opens, r.torn 1 (omega arith), a.answer, a.bytes)

-- what a journal holds that opens, or that has a bad record
module _ (b : List ℕ) (r : Journal) (end left : ℕ) (j : JournalHolds b r) where
  abbrev Held : State → ℕ → Type 0
  Held t n =
      (first : State) × (cs : List Call) × (at : ℕ)
      × (read_sheet (take at b) ≡ admitted first)
      × (turned_down first cs ≡ 0)
      × (are_bytes b ≡ true → take n b ≡ journal_of calls (take at b) cs)
      × (t ≡ after scheduler first cs)
      × Demand3 first.plan (seen scheduler first cs) t
      × (coherent t ≡ true)
      × (at ≤ n)
      × (n ≤ length b)

  held : (n : ℕ) → HoldsCalls b r.state n → Held r.state n
  held n h = (h.first, h.made, h.sheet_end, h.admits, h.accepted, h.written, h.state, h.demand3, h.hangs, h.before, h.inside)

  pub opened_says : r.verdict ≡ Ok (record { end = end; left = left }) → Held r.state end
  opened_says h = held end (j.opened end left h)

  pub broken_says : r.verdict ≡ Err (JournalFault.Broken end) → Held r.state end
  broken_says h = held end (j.broken end h)

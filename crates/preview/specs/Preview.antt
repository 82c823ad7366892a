-- A preview: the lines that a submit (hand in) would add to the history, counted by fate.
use Rattle.std.specs.Prelude.{ℕ, ◌+◌, false, List, [], ◌++◌, ◌≡◌, drop, count_by}
use Rattle.preview.specs.Types.{Fate, Done, Refused, Lapsed, Forced, Entry, Call, Submit, Is, Made, TurnedDown, CallFault, State, Counts, Result, Ok, Err}
use Rattle.plan.specs.Fates.{is_open, same_fate}
use Rattle.scheduler.specs.State.{fate_of, line_count, lines}
use Rattle.scheduler.specs.Answers.{call}

-- the lines that a call adds to the history: those beyond as many as it had before (9.16)
abbrev pub added_by : State → Call → List Entry
added_by s c = drop (line_count s) (lines (call s c).state)

-- how many lines say this fate (9.15)
abbrev pub count_of : Fate → List Entry → ℕ
count_of x ls = count_by (λ (l : Entry). same_fate l.fate x) ls

-- the counts of lines, by fate (9.15)
abbrev pub counts_in : List Entry → Counts
counts_in ls = record {
  done = count_of Done ls;
  refused = count_of Refused ls;
  lapsed = count_of Lapsed ls;
  forced = count_of Forced ls;
}

-- the sum of the counts (11.15)
abbrev pub total : Counts → ℕ
total c = c.done + c.refused + c.lapsed + c.forced

-- what a preview gives: the fault if the submit would be turned down, else the counts of the lines that it would add
-- (9.15, 10.8)
unfoldable pub preview_of : State → ℕ → Result Counts CallFault
preview_of s e =
    let counted = Ok (counts_in (added_by s (Submit e))) in
    elim (call s (Submit e)).answer [ TurnedDown f ↦ Err f | Is x ↦ counted | Made ↦ counted ]

-- what is true of a preview and its submit. The history after the submit is the one before it with the added lines. If
-- the preview gives counts, they are those of the added lines. The history grows by their sum. No added line says
-- lapsed. The submit of an event that is not open adds none (11.15)
pub record Foretold (s : State) (e : ℕ) : Type 0 where
  pub history : lines (call s (Submit e)).state ≡ lines s ++ added_by s (Submit e)
  pub counts : (c : Counts) → preview_of s e ≡ Ok c → c ≡ counts_in (added_by s (Submit e))
  pub growth : line_count (call s (Submit e)).state ≡ line_count s + total (counts_in (added_by s (Submit e)))
  pub unlapsed : count_of Lapsed (added_by s (Submit e)) ≡ 0
  pub idle : is_open (fate_of s e) ≡ false → added_by s (Submit e) ≡ []

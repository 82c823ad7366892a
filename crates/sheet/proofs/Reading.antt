-- Reading record after record comes to what the sheet comes to.
use Rattle.std.proofs.Common.{◌≡◌, ℕ, zero, suc, ◌+◌, ◌-◌, ◌≤◌, ◌<◌, List, length, Ok, Err, refl, sym, ◌∙◌, ap, subst, arith}
use Rattle.std.specs.declared.option.Option.TheVariants.{None as none, Some as some}
use borrow.Author.Tests.{eq-eqb, ne_eqb, lt-ltb, le-ltb}
use Rattle.plan.specs.Faults.{refusal}
use Rattle.plan.specs.Plans.{empty_plan}
use Rattle.plan.specs.Records.{body_length, record_at, declare, record_fault}
use Rattle.plan.specs.Sheets.{PlanReading, whole, faulty, read_from, read_plan, ending, sheet_plan}
use Rattle.plan.proofs.SheetReading.{read_enough, read_fault, read_end, read_next}
use Rattle.plan.proofs.FaultlessRecords.{Faultless, faultless}
use Rattle.scheduler.specs.Sheet.{read_sheet}
use Rattle.sheet.specs.Types.{Plan, Record, Extra, Refusal, Kind, Reader}
use Rattle.sheet.specs.Internal.Progress.{plan_of, reading_of, IsFine, IsFaulty}
use Rattle.sheet.specs.Internal.Place.{place_after, new_reader, moved_past}
use Rattle.sheet.proofs.RecordLaws.{place_inside}

-- a sheet's plan, or its refusal, gives the reading
pub reading_lem : (b : List ℕ) → reading_of (plan_of (sheet_plan b)) ≡ read_sheet b
unfolding read_sheet
reading_lem b = go (sheet_plan b) refl
  where
    go : (r : PlanReading) → sheet_plan b ≡ r → reading_of (plan_of (sheet_plan b)) ≡ read_sheet b
    go (whole p at) e = rw (e, read_sheet)
    go (faulty f at) e = rw (e, read_sheet)

-- the loop's invariant: the reader holds the sheet, and what is left to read from its place on comes to what the sheet
-- comes to; the budget passes it
pub record Left (b : List ℕ) (d : Reader) (p : Plan) : Type 0 where
  pub held : d.sheet.now ≡ b
  pub budget : ℕ
  pub enough : length b ≤ budget + d.at
  pub same : read_from (suc budget) b d.at p ≡ read_plan b

pub begins : (s : _) → Left s.now (new_reader s) empty_plan
begins s = record {
  held = refl;
  budget = length s.now;
  enough = omega arith;
  same = read_enough (suc (length s.now)) s.now (omega arith);
}

-- a turn of the loop
module _ {b : List ℕ} {d : Reader} {p : Plan} (l : Left b d p) where
  -- a fault ends the reading
  pub stops : (e : Refusal) → IsFaulty p d.sheet.now d.at e → Err e ≡ plan_of (sheet_plan b)
  unfolding sheet_plan ending
  stops e q =
      let f = subst (λ s. record_fault p (length s) d.at (record_at s d.at) ≡ some e.fault) l.held q.fault in
      ap (λ at. Err (refusal e.fault at)) q.place
      ∙ sym (ap (λ r. plan_of (ending b r)) (sym l.same ∙ read_fault l.budget b d.at p e.fault f))

  module _ {k : Kind} {r : Record} (q : IsFine p d.sheet.now d.at k r) where
    here : r ≡ record_at b d.at
    here = q.read ∙ ap (λ s. record_at s d.at) l.held

    fine_here : record_fault p (length b) d.at r ≡ none
    fine_here = subst (λ (s : List ℕ). record_fault p (length s) d.at r ≡ none) l.held q.fine

    fine : record_fault p (length b) d.at (record_at b d.at) ≡ none
    fine = subst (λ (x : Record). record_fault p (length b) d.at x ≡ none) here fine_here

    -- the record lies whole within the sheet, and the plan has room for it
    pub sound : Faultless p (length b) d.at r
    sound = faultless p (length b) d.at r fine_here

    -- kind 5 ends the reading, and nothing may follow it
    module _ (last : r.kind ≡ 5) where
      ended : read_plan b ≡ whole p (d.at + 1)
      ended = sym l.same ∙ read_end l.budget b d.at p fine (eq-eqb (record_at b d.at).kind 5 (ap (λ (x : Record). x.kind) (sym here) ∙ last))

      pub ends_whole : length b ≤ d.at + 1 → Ok p ≡ plan_of (sheet_plan b)
      unfolding sheet_plan ending
      ends_whole h = sym (ap (λ r. plan_of (ending b r)) ended ∙ rw (le-ltb (d.at + 1) (length b) h, ending))

      pub ends_early : d.at + 1 < length b → Err (refusal Extra (d.at + 1)) ≡ plan_of (sheet_plan b)
      unfolding sheet_plan ending
      ends_early h = sym (ap (λ r. plan_of (ending b r)) ended ∙ rw (lt-ltb (d.at + 1) (length b) h, ending))

    -- any other record is declared, and what is left begins after it
    module _ {d' : Reader} (moves : d' ≡ moved_past d r) where
      moved : d'.at ≡ d.at + 1 + body_length r.kind
      moved =
          ap (λ (x : Reader). x.at) moves
          ∙ ap (λ (s : List ℕ). place_after (length s) d.at r) l.held
          ∙ place_inside (length b) d.at r sound.inside

      pub less : length b - d'.at < length b - d.at
      less = omega (arith, moved, sound.whole, sound.inside)

      pub again : {p' : Plan} → p' ≡ declare p r → (r.kind ≡ 5 → ⊥) → Left b d' p'
      again {p'} declares goes = more l.budget l.enough l.same
        where
          more : (n : ℕ) → length b ≤ n + d.at → read_from (suc n) b d.at p ≡ read_plan b → Left b d' p'
          more zero e s = absurd (omega (arith, sound.inside))
          more (suc n) e s = record {
            held = ap (λ (x : Reader). x.sheet.now) moves ∙ l.held;
            budget = n;
            enough = omega (arith, moved);
            same = rw (moved, declares, here)
                (sym (read_next (suc n) b d.at p fine (ne_eqb (record_at b d.at).kind 5 (λ x. goes (ap (λ (y : Record). y.kind) here ∙ x)))) ∙ s);
          }

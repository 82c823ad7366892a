-- `put_all` meets its contract. The loop's invariant: the records before this one are put.
use Rattle.std.proofs.Common.{List, ℕ, ◌++◌, take, append-nil, append_assoc, sym, ap, ◌∙◌}
use Rattle.pages.proofs.Texts.{room_second}
use Rattle.writer.specs.Internal.Records.{records}
use Rattle.writer.proofs.Putting.{records_none, records_next, records_split, later}
use Rattle.writer.proofs.records.put_all.Goals as goal

pub loop-place-init : goal.loop-place-init
loop-place-init g c =
    sym (ap (λ (l : List ℕ). c.args.page.now ++ l) (records_none g.T.Declared.bytes 0) ∙ append-nil _)

pub put-requires : goal.put-requires
put-requires g c =
    let f = g.T.Declared.bytes in
    let xs = c.args.declared.now in
    let i = c.loop-place.place in
    let x = c.index-declared-place.result in
    room_second
    _ _
    (records f 0 (take i xs))
    (f i x)
    (later f xs i x c.loop-place-test.true c.index-declared-place.is)
    (records_split f xs i x c.loop-place-test.true c.index-declared-place.is)
    c.requires.room _
    c.loop-place.invariant

pub loop-place-preserved : goal.loop-place-preserved
loop-place-preserved g c =
    let f = g.T.Declared.bytes in
    let xs = c.args.declared.now in
    let i = c.loop-place.place in
    let x = c.index-declared-place.result in
    c.put.ensures
    ∙ ap (λ (l : List ℕ). l ++ f i x) c.loop-place.invariant
    ∙ append_assoc c.args.page.now (records f 0 (take i xs)) (f i x)
    ∙ ap (λ (l : List ℕ). c.args.page.now ++ l)
    (sym (records_next f xs i x c.loop-place-test.true c.index-declared-place.is))

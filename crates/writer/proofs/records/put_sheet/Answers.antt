-- `put_sheet` meets its contract: the four parts are put one after another.
use Rattle.std.proofs.Common.{[], ◌∷◌, ◌++◌, refl, rules}
use Rattle.pages.proofs.Texts.{room_first, room_second, room_third, put_three, put_last}
use Rattle.writer.proofs.Putting.{event_rows, rule_rows, window_rows, Whole, sheet_split}
use Rattle.writer.proofs.records.put_sheet.Goals as goal

pub put_all-requires-clause-room : goal.put_all-requires-clause-room
put_all-requires-clause-room c =
    let p = c.args.plan in
    let whole : Whole p = search rules in
    room_first _ _ (event_rows p) (rule_rows p ++ (window_rows p ++ (5 ∷ []))) (sheet_split p whole) c.requires.room

pub put_all-requires-2-clause-room : goal.put_all-requires-2-clause-room
put_all-requires-2-clause-room c =
    let p = c.args.plan in
    let whole : Whole p = search rules in
    room_second
    _ _
    (event_rows p)
    (rule_rows p)
    (window_rows p ++ (5 ∷ []))
    (sheet_split p whole)
    c.requires.room _
    c.put_all.ensures

pub put_all-requires-3-clause-room : goal.put_all-requires-3-clause-room
put_all-requires-3-clause-room c =
    let p = c.args.plan in
    let whole : Whole p = search rules in
    let room = room_third
    _ _
    (event_rows p)
    (rule_rows p)
    (window_rows p ++ (5 ∷ []))
    (sheet_split p whole)
    c.requires.room _
    c.put_all.ensures _
    c.put_all-2.ensures in
    room_first _ (window_rows p ++ (5 ∷ [])) (window_rows p) (5 ∷ []) refl room

pub returns : goal.returns
returns c =
    let p = c.args.plan in
    let whole : Whole p = search rules in
    let room = room_third
    _ _
    (event_rows p)
    (rule_rows p)
    (window_rows p ++ (5 ∷ []))
    (sheet_split p whole)
    c.requires.room _
    c.put_all.ensures _
    c.put_all-2.ensures in
    let last = put_last
    _
    (window_rows p ++ (5 ∷ []))
    (window_rows p)
    (5 ∷ []) refl
    room _
    c.put_all-3.ensures _
    c.push.ensures in
    put_three
    _ _
    (event_rows p)
    (rule_rows p)
    (window_rows p ++ (5 ∷ []))
    (sheet_split p whole)
    c.requires.room _
    c.put_all.ensures _
    c.put_all-2.ensures _
    last

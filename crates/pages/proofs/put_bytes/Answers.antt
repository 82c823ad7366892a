-- `put_bytes` meets its contract.
use Rattle.std.proofs.Common.{◌+◌, ◌-◌, length, arith}
use Rattle.pages.proofs.Pages.{put_no_room, after_put, put_part}
use Rattle.pages.proofs.put_bytes.Goals as goal

pub returns-then-at-gt-MOST : goal.returns-then-at-gt-MOST
returns-then-at-gt-MOST c =
    let both = put_no_room c.args.page.now c.args.at c.args.bytes.now (omega arith) in
    record { end = both.0; page = both.1 }

pub returns-then-at-bytes : goal.returns-then-at-bytes
returns-then-at-bytes c =
    let both = put_no_room c.args.page.now c.args.at c.args.bytes.now (omega arith) in
    record { end = both.0; page = both.1 }

pub returns : goal.returns
returns c =
    let size = c.args.at + length c.args.bytes.now - c.args.at in
    let same = c.copy_from_slice.ensures.after in
    let put = put_part c.args.page.now c.args.at c.args.bytes.now _ size same (omega arith) (omega arith) in
    let both = after_put c.args.page.now c.args.at c.args.bytes.now (omega arith) _ _ put in
    record { end = both.0; page = both.1 }

-- `put_word` meets its contract.
use Rattle.std.proofs.Common.{◌≡◌, ◌∙◌, rules, arith}
use Rattle.std.proofs.lemmas.Slice.{put_mid-paste}
use Rattle.plan.specs.Calls.{bytes_of}
use Rattle.image.proofs.RowLoops.{put_pasted}
use Rattle.image.proofs.Words.{low_first}
use Rattle.image.proofs.write.put_word.Goals as goal

pub returns : goal.returns
returns c =
    let bytes : c.copy_from_slice.new.self ≡ bytes_of c.args.word = c.copy_from_slice.ensures.after ∙ c.to_le_bytes.ensures ∙ low_first c.args.word (search rules) in
    put_mid-paste c.args.at _ c.args.image.now _ (bytes_of c.args.word) 4 bytes (omega arith) (search rules)
    ∙ put_pasted c.args.at (bytes_of c.args.word) c.args.image.now 4 (omega arith) (omega (arith, c.told-image))

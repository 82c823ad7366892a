-- The two codecs: of the runner's records, and of records of every kind.
use Rattle.plan.specs.Calls.{first_call, any_call_first, decode, decode_all}
use Rattle.plan.proofs.CallDecoding.{decodes, decodes_all}
use Rattle.plan.proofs.AnyCalls.{narrow_back}
use Rattle.lists.specs.Internal.Underway.{IsCodec}

pub runner_codec : IsCodec first_call decode
runner_codec = record { decodes = decodes; keeps = λ b c h. h }

pub any_codec : IsCodec any_call_first decode_all
any_codec = record { decodes = decodes_all; keeps = narrow_back }

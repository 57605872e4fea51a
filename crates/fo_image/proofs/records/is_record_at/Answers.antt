use Rattle.std.proofs.Common.{◌≡◌, ◌∙◌, length, arith}
use Rattle.fo_image.specs.Record.{RecordHolds, record_len, record_fields}
use Rattle.fo_image.proofs.Answering.{written, parts_are}
use Rattle.fo_image.proofs.RecordLemmas.{record_whole}
use Rattle.fo_image.proofs.records.is_record_at.Goals as goal

pub returns-then-bytes-record_len : goal.returns-then-bytes-record_len
returns-then-bytes-record_len c = (λ h. absurd cc, λ s. absurd (omega (arith, c.record_len.ensures.is, record_whole c.args.v.now c.args.bytes.now s)))

pub returns : goal.returns
returns c =
    let r = c.args.v.now in
    let bytes = c.args.bytes.now in
    let len : length bytes ≡ record_len r = c.if-bytes-record_len.false ∙ c.record_len.ensures.is in (
      λ h. written (record_len r) record_fields RecordHolds r _ bytes bytes (c.is_record.ensures.0 c.if-not-is_record.false) c.parts_of.ensures.fit c.parts_of.ensures.spelled len (c.is_spelled.ensures.0 h),
      λ s. c.is_spelled.ensures.1 (parts_are (record_len r) record_fields RecordHolds r _ bytes len c.parts_of.ensures.spelled s),
    )

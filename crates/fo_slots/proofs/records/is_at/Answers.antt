use Rattle.std.proofs.Common.{◌≡◌, ◌∙◌, length, arith}
use Rattle.fo_image.specs.Record.{RecordHolds, record_len, record_fields}
use Rattle.fo_image.proofs.RecordLemmas.{record_whole}
use Rattle.fo_slots.specs.Seen.{as_record}
use Rattle.fo_slots.proofs.Answering.{written, parts_are}
use Rattle.fo_slots.proofs.records.is_at.Goals as goal

pub returns-then-bytes-len_of : goal.returns-then-bytes-len_of
returns-then-bytes-len_of c = (λ h. absurd cc, λ s. absurd (omega (arith, c.len_of.ensures.is, record_whole (as_record c.args.v.now) c.args.bytes.now s)))

pub returns : goal.returns
returns c =
    let r = as_record c.args.v.now in
    let bytes = c.args.bytes.now in
    let len : length bytes ≡ record_len r = c.if-bytes-len_of.false ∙ c.len_of.ensures.is in (
      λ h. written (record_len r) record_fields RecordHolds r _ bytes bytes (c.holds.ensures.0 c.if-not-holds.false) c.parts_of.ensures.fit c.parts_of.ensures.spelled len (c.is_spelled.ensures.0 h),
      λ s. c.is_spelled.ensures.1 (parts_are (record_len r) record_fields RecordHolds r _ bytes len c.parts_of.ensures.spelled s),
    )

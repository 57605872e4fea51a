use Rattle.std.proofs.Common.{◌∙◌, ◌++◌}
use Rattle.std.proofs.lemmas.List.{take_rest}
use Rattle.fo_image.specs.Field.{Text, spelled}
use Rattle.fo_image.proofs.RecordLemmas.{record_at}
use Rattle.fo_slots.proofs.records.texts_of.Goals as goal

pub returns-in_err-muid-clause-only : goal.returns-in_err-muid-clause-only
returns-in_err-muid-clause-only c = λ r s.
    let at = record_at c.args.bytes.now r s in
    let after_gid = spelled (Text r.muid) ++ at.more in
    let after_uid = spelled (Text r.gid) ++ after_gid in
    let after_name = spelled (Text r.uid) ++ after_uid in
    let name = c.in_ok-name.ensures r.name after_name s.fit.1.1.1.1.1.1.1.1.0 (take_rest c.args.bytes.now 30 ∙ at.texts) in
    let uid = c.in_ok-uid.ensures r.uid after_uid s.fit.1.1.1.1.1.1.1.1.1.0 name.1 in
    let gid = c.in_ok-gid.ensures r.gid after_gid s.fit.1.1.1.1.1.1.1.1.1.1.0 uid.1 in
    absurd (c.in_err-muid.ensures r.muid at.more s.fit.1.1.1.1.1.1.1.1.1.1.1.0 gid.1)

pub returns-clause-only : goal.returns-clause-only
returns-clause-only c = λ r s.
    let at = record_at c.args.bytes.now r s in
    let after_gid = spelled (Text r.muid) ++ at.more in
    let after_uid = spelled (Text r.gid) ++ after_gid in
    let after_name = spelled (Text r.uid) ++ after_uid in
    let name = c.in_ok-name.ensures r.name after_name s.fit.1.1.1.1.1.1.1.1.0 (take_rest c.args.bytes.now 30 ∙ at.texts) in
    let uid = c.in_ok-uid.ensures r.uid after_uid s.fit.1.1.1.1.1.1.1.1.1.0 name.1 in
    let gid = c.in_ok-gid.ensures r.gid after_gid s.fit.1.1.1.1.1.1.1.1.1.1.0 uid.1 in
    let muid = c.in_ok-muid.ensures r.muid at.more s.fit.1.1.1.1.1.1.1.1.1.1.1.0 gid.1 in
    (name.0, uid.0, gid.0, muid.0)

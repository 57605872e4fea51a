use Rattle.std.proofs.Common.{inl, length}
use Rattle.std.proofs.lemmas.Result.{err_from_is_err_and}
use Rattle.fo_vac_files.specs.Vac.{world_of}
use Rattle.fo_vac_walk.proofs.Blocks.{still_told}
use Rattle.fo_vac_files.proofs.Entered.{names_at, bytes_at}
use Rattle.fo_vac_files.proofs.Saying.{read_said, read_dir, read_given}
use Rattle.fo_vac_files.proofs.looks.read_at.Goals as goal

pub returns-in_err-file-clause-held : goal.returns-in_err-file-clause-held
returns-in_err-file-clause-held g c = λ h k.
    let p = err_from_is_err_and c.from_residual.result c.from_residual.ensures.1 in
    rw (p.1, p.2) (read_said h c.args.opened.now _ _ _ _ c.in_err-file.field-0.0 (c.in_err-file.ensures.held h k))

pub returns-in-File-clause-held : goal.returns-in-File-clause-held
returns-in-File-clause-held g c = λ h k.
    let o = c.args.opened.now in
    let l = c.in_ok-file.ensures.held h k in
    let b = bytes_at h o c.in_ok-file.file l.node c.in-File.source l.stands c.in-File.is in
    read_given h o (world_of h c.args.opened.now) c.args.at.now c.args.offset (length c.args.into.now) c.in_ok-file.file c.read_of.new.into _ l b.bytes c.read_of.result
    (c.read_of.ensures.held h o b.link (still_told h _ _ _ _ c.in_ok-file.ensures.shelf c.in_ok-file.ensures.kept k) b.is)

pub returns-clause-held : goal.returns-clause-held
returns-clause-held g c = λ h k.
    let o = c.args.opened.now in
    let l = c.in_ok-file.ensures.held h k in
    inl (tt, read_dir h o (world_of h c.args.opened.now) c.args.at.now c.args.offset (length c.args.into.now) c.in_ok-file.file _ l (names_at h o c.in_ok-file.file l.node _ l.stands c.in-Dir.is))

use Rattle.fo_vacput.proofs.Tops.{Pieces, top_written}
use Rattle.fo_vacput.proofs.top.write_vac_top.Goals as goal

pub returns : goal.returns
returns c =
    let pieces : Pieces c.args.v.now _ _ _ = record { entries_are = c.write_vac_entry.ensures; meta_is = c.write_vac_entry-2.ensures; own_is = c.write_record.ensures } in
    top_written c.args.v.now _ _ _ pieces c.args.into.now c.write_parts.new.into c.requires.spelled c.requires.length c.write_parts.ensures

use Rattle.std.proofs.Common.{refl}
use Rattle.fo_files_create_look.proofs.place.to_dir.Goals as goal

pub returns-then-not-way-clause-refused : goal.returns-then-not-way-clause-refused
returns-then-not-way-clause-refused g c = λ name mode halted. (c.args.on.now, (c.args.way.file, record { way = c.args.way; found = c.requires.way; file_is = refl; kind = c.if-not-way.true }))

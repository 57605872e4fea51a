use Rattle.std.proofs.Common.{refl, sym, ap, subst}
use Rattle.fo_image.specs.Record.{RootRecordHolds}
use Rattle.fo_files_along.specs.of_files_at.declared.file.File.{File}
use Rattle.fo_files_along.specs.Along.{touched}
use Rattle.fo_files_along.proofs.Ways.{file_holds, touched_holds, touched_root, way_named}
use Rattle.fo_files_create_look.proofs.Ways.{user_of}
use Rattle.fo_files_create_look.proofs.found.found_at.Goals as goal

pub returns-in-Ok-clause-found : goal.returns-in-Ok-clause-found
returns-in-Ok-clause-found g c =
    let s = g.B.Blocks.state c.args.on.now in
    let root = c.args.root in
    let trail = c.args.at.now.trail in
    let way = c.args.way in
    let who = c.args.named.muid in
    let now = c.args.named.mtime in
    let user = user_of c.args.named c.requires.named in
    let holds = (file_holds s root trail way c.requires.way).named in
    let is = c.in-Ok.ensures.is in
    record {
      was = way;
      was_found = c.requires.way;
      is_dir = c.requires.dir;
      way = way_named s root trail way c.in-Ok.way (touched who now way.file.named) (touched_holds who now way.file.named user holds) refl (ap (λ xs. xs.items) is.0) is.1 c.requires.way;
      steps = is.0;
      file = is.1;
      of_root = λ none. subst (λ (f : File). RootRecordHolds f.named) (sym is.1) (touched_root who now way.file.named user (c.requires.of_root none));
      named_is = refl;
      holds = c.requires.named;
      pair = c.requires.pair;
      leaf = c.requires.leaf;
    }

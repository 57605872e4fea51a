use Rattle.std.proofs.Common.{◌<◌, length, rules}
use Rattle.fo_sparse.proofs.Bytes.{bytes_written}
use Rattle.fo_sparse.proofs.plain.Plain.write.Goals as goal

pub returns-in-Ok : goal.returns-in-Ok
returns-in-Ok c =
    let some : 0 < length c.args.bytes.now = search rules in
    rw (← c.self.view_is, c.max-self-inside.ensures) (bytes_written c.self.inside.pages c.keep_pages.new.pages c.put.new.pages c.self.inside.len c.args.offset c.args.bytes.now some c.self.invariant c.in-Ok.ensures.same c.put.ensures.puts)

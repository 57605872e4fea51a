use Rattle.std.proofs.Common.{length, sym, ap, ◌∙◌}
use Rattle.fo_sparse.proofs.Bytes.{length-bytes_of}
use Rattle.fo_sparse.proofs.plain.Plain.len.Goals as goal

pub returns-clause-len : goal.returns-clause-len
returns-clause-len c = sym (length-bytes_of c.self.inside.pages c.self.inside.len) ∙ ap length c.self.view_is

use Rattle.fo_sparse.proofs.Bytes.{bytes_resized}
use Rattle.fo_sparse.proofs.plain.Plain.set_len.Goals as goal

pub returns : goal.returns
returns c = rw (← c.self.view_is) (bytes_resized _ _ _ _ c.self.invariant c.cut.ensures)

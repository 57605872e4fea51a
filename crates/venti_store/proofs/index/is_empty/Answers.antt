use Rattle.std.proofs.Common.{◌∙◌, sym}
use Rattle.venti_store.proofs.Empty.{empty_score}
use Rattle.venti_store.proofs.Puts.{differ, same}
use Rattle.venti_store.proofs.index.is_empty.Goals as goal

pub returns-clause-yes : goal.returns-clause-yes
returns-clause-yes c equal = same _ _ c.eq.result c.eq.ensures equal ∙ sym empty_score

pub returns-clause-no : goal.returns-clause-no
returns-clause-no c other = differ _ _ _ c.eq.result c.eq.ensures other (sym empty_score)

use Rattle.fo_arch.proofs.Sames.{forms_begin, named_begin}
use Rattle.fo_arch.proofs.archive.Archive.begin.Goals as goal

pub returns-clause-forms : goal.returns-clause-forms
returns-clause-forms c image lines stored = forms_begin c.new.result c.new.ensures.none image lines stored

pub returns-clause-named : goal.returns-clause-named
returns-clause-named c lines = named_begin c.new.result c.new.ensures.none lines

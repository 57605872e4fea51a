use Rattle.venti_store.proofs.Openings.{shown_on, opens}
use Rattle.venti_store.proofs.arena.Arena.open.Goals as goal

pub returns-in-Ok-clause-answer : goal.returns-in-Ok-clause-answer
returns-in-Ok-clause-answer g c vault shows =
    opens c.in-Ok.shelf _ (shown_on c.in-Ok.ensures.kept shows) (g.met.A.Disk.is_content c.read_shelf.new.device) (c.in-Ok.ensures.answer vault shows) c.in-Ok.ensures.none.0 c.in-Ok.ensures.none.1 c.in-Ok.ensures.size

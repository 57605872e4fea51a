use Rattle.fo_closing.proofs.Resting.{looked_more, looked_same, rest_looked}
use Rattle.fo_closing.proofs.turn.prepare.Goals as goal

pub returns-in_default-keep_turn-clause-looked : goal.returns-in_default-keep_turn-clause-looked
returns-in_default-keep_turn-clause-looked g c = looked_same c.show_wanted.ensures.looked (c.in_default-keep_turn.ensures.err _ _)

pub returns-in_default-keep_turn-clause-rest : goal.returns-in_default-keep_turn-clause-rest
returns-in_default-keep_turn-clause-rest g c = rest_looked (looked_same c.show_wanted.ensures.looked (c.in_default-keep_turn.ensures.err _ _)) c.requires.rest

pub returns-clause-looked : goal.returns-clause-looked
returns-clause-looked g c = looked_more c.show_wanted.ensures.looked (c.in-Ok.ensures.kept _ _)

pub returns-clause-rest : goal.returns-clause-rest
returns-clause-rest g c = rest_looked (looked_more c.show_wanted.ensures.looked (c.in-Ok.ensures.kept _ _)) c.requires.rest

use Rattle.std.proofs.Common.{[], List, subst}
use Rattle.fo_cache.specs.of_waits.declared.listed.Wait.{Wait}
use Rattle.fo_cache.specs.of_waits.Listed.{Awaits}
use Rattle.fo_cache.specs.of_mind.MindParts.{parts}
use Rattle.fo_cache.proofs.of_mind.Results.{on_ok}
use Rattle.fo_settling.proofs.Waiting.{clean_quiet}
use Rattle.fo_settling.proofs.rounds.settle.Goals as goal

pub returns-clause-all : goal.returns-clause-all
returns-clause-all g c = on_ok c.settle_all.result (λ quiet. record { each = λ image h. absurd h }) c.settle_all.ensures.quiet

pub returns-clause-no_wait : goal.returns-clause-no_wait
returns-clause-no_wait g c = on_ok c.settle_all.result (λ none a on j h. subst (λ (ws : List Wait). Awaits ws a on j) none h) c.settle_all.ensures.no_wait

pub returns-clause-clean : goal.returns-clause-clean
returns-clause-clean g c =
    let mind = c.settle_all.new.cache.mind in
    on_ok c.settle_all.result (λ quiet b d. (clean_quiet (parts mind [] 0) mind.first mind.turning quiet b d, λ tells. absurd tells)) c.settle_all.ensures.quiet

use Rattle.std.proofs.Common.{rules, ◌≡◌, ◌<◌, length, slice_index_or, slice_set, sym, ap, ◌∙◌}
use Rattle.nine_fids.specs.Fids.{no_fids}
use Rattle.fo_sessions.proofs.Same.{at_any}
use Rattle.fo_sessions.proofs.sessions.Sessions.answer.Goals as goal

pub returns-clause-serves : goal.returns-clause-serves
returns-clause-serves g c =
    let n = c.args.number in
    let all = c.self.inside.sessions in
    let found = c.index-self-from.result in
    let same : c.from.result ≡ n = search rules in
    let within : n < length all = search rules in
    let before : slice_index_or all n no_fids ≡ slice_index_or all c.from.result found = at_any all n no_fids found within ∙ ap (λ i. slice_index_or all i found) (sym same) in
    let after : slice_index_or (slice_set all c.from.result c.answer.new.self) n no_fids ≡ c.answer.new.self = search rules in
    rw (← c.self.view_is, before, after) c.answer.ensures.serves

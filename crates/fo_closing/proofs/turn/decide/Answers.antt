use Rattle.std.proofs.Common.{◌≡◌, [], ◌∙◌, false, true, refl, sym, ap, subst}
use Rattle.fo_image.specs.declared.types.Kind.{Kind}
use Rattle.fo_mind.specs.MindParts.{parts}
use Rattle.fo_closing.specs.Known.{IsClosable, kind_below}
use Rattle.fo_closing.proofs.Resting.{closable_turned, may_close, placed_turned, rest_closed, rest_turned, turns_stay}
use Rattle.fo_closing.proofs.turn.decide.Goals as goal

never : {A : Type 0} → false ≡ true → A
never e = cc

pub close_by-requires-clause-may : goal.close_by-requires-clause-may
close_by-requires-clause-may c =
    let m = c.args.mind.now in
    may_close (parts m [] 0) m.first m.count m.placed m.turning c.requires.rest (c.is_closable.ensures.0 c.if-not-is_closable.false)

pub returns-then-not-is_closable-clause-decided : goal.returns-then-not-is_closable-clause-decided
returns-then-not-is_closable-clause-decided c = λ disk faults.
    let m = c.args.mind.now in
    let kind = c.kind_below-kind.ensures ∙ ap (kind_below c.args.first.now.kind) c.level.ensures in
    (parts m disk faults, turns_stay _, (refl, subst (λ (k : Kind). IsClosable (parts m [] 0) c.args.first.now k c.args.at → ⊥) kind (λ s. never (sym c.if-not-is_closable.true ∙ c.is_closable.ensures.1 s)), refl))

pub returns-clause-decided : goal.returns-clause-decided
returns-clause-decided c = λ disk faults.
    let m = c.args.mind.now in
    let kind = c.kind_below-kind.ensures ∙ ap (kind_below c.args.first.now.kind) c.level.ensures in
    let k = c.close_by.ensures.closed disk faults in
    (k.0, k.1, (refl, closable_turned k.1 (subst (λ (k : Kind). IsClosable (parts m [] 0) c.args.first.now k c.args.at) kind (c.is_closable.ensures.0 c.if-not-is_closable.false)), k.2))

pub returns-clause-rest : goal.returns-clause-rest
returns-clause-rest c =
    let m = c.args.mind.now in
    let k = c.close_by.ensures.closed [] 0 in
    rest_closed k.0 (parts c.close_by.new.mind [] 0) m.first m.count (placed_turned {p = parts m [] 0} k.1 m.placed) (rest_turned k.1 c.requires.rest) k.2

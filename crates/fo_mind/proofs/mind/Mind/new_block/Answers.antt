use Rattle.std.proofs.Common.{◌≡◌, ℕ, List, [], None, Some, subst}
use Rattle.fo_ports.specs.Blocks.{blank}
use Rattle.fo_mind.specs.Changes.{Given}
use Rattle.fo_mind.specs.MindParts.{parts}
use Rattle.fo_mind.proofs.Gives.{gives, level_holds, instead_given}
use Rattle.fo_mind.proofs.mind.Mind.new_block.Goals as goal

none_some : {x : ℕ} → None ≡ Some x → ⊥
none_some e = cc

pub give-requires-clause-kind : goal.give-requires-clause-kind
give-requires-clause-kind c = level_holds c.args.kind c.requires.level

pub give-requires-clause-good : goal.give-requires-clause-good
give-requires-clause-good c = c.blank_block-bytes.ensures.good c.args.self.now.first c.args.self.now.count

pub returns-clause-gives : goal.returns-clause-gives
returns-clause-gives c = λ disk faults.
    let self = c.args.self.now in
    gives (blank c.args.kind) self.placed self.holding self.waiting self.clearable (c.give.ensures disk faults) c.blank_block-bytes.ensures.content

pub returns-clause-instead : goal.returns-clause-instead
returns-clause-instead c = λ x h.
    let self = c.args.self.now in
    none_some ((instead_given self.placed (c.give.ensures [] 0) x).0 h)

pub returns-clause-given : goal.returns-clause-given
returns-clause-given c = λ disk faults. subst (λ (bytes : List ℕ). Given c.give.result c.args.kind c.args.tag c.args.rank bytes None (parts c.args.self.now disk faults) (parts c.give.new.self disk faults)) c.blank_block-bytes.ensures.zeros (c.give.ensures disk faults)

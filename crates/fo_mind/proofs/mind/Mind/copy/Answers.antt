use Rattle.std.proofs.Common.{◌≡◌, ◌^◌, ◌-◌, ◌∙◌, ℕ, List, [], Option, Some, sym, ap, subst}
use Rattle.std.specs.Option.{option_map}
use Rattle.fo_image.specs.declared.types.Label.{Label}
use Rattle.fo_image.specs.declared.types.State.TheVariants.{Live}
use Rattle.fo_buffers.specs.declared.block.Buffer.{Buffer}
use Rattle.fo_buffers.specs.Held.{held_at, block_in}
use Rattle.fo_facts.specs.declared.fact.Fact.{Fact}
use Rattle.fo_facts.specs.Known.{fact_at}
use Rattle.fo_bring.proofs.Copying.{good_held as bytes_good}
use Rattle.fo_ports.specs.State.{Gives}
use Rattle.fo_mind.specs.Changes.{Given}
use Rattle.fo_mind.specs.MindParts.{parts}
use Rattle.fo_mind.specs.Parts.{label_at, memory, state_of}
use Rattle.fo_mind.specs.Laws.{pinned_held}
use Rattle.fo_mind.proofs.Getting.{good_held, held_is, is_held}
use Rattle.fo_mind.proofs.Gives.{gives, instead_given, kind_held, same_as}
use Rattle.fo_mind.proofs.mind.Mind.copy.Goals as goal

same_some : {x y : ℕ} → Some x ≡ Some y → y ≡ x
same_some e = cc

pub copied-bytes-requires : goal.copied-bytes-requires
copied-bytes-requires c = is_held (held_at c.args.self.now.buffers c.args.at) c.requires.pinned

pub give-requires-clause-kind : goal.give-requires-clause-kind
give-requires-clause-kind c =
    let self = c.args.self.now in
    kind_held c.args.at c.label-label.result c.label-label.ensures self.placed self.holding self.labelled (is_held (held_at self.buffers c.args.at) c.requires.pinned)

pub give-requires-clause-good : goal.give-requires-clause-good
give-requires-clause-good c =
    let self = c.args.self.now in
    let some = is_held (held_at self.buffers c.args.at) c.requires.pinned in
    let kind = ap (λ (z : Label). z.kind) c.label-label.ensures in
    bytes_good self.first self.count c.label-label.result.kind (held_at self.buffers c.args.at) c.copied-bytes.result c.copied-bytes.ensures (good_held c.args.at c.label-label.result.kind self.holding (sym kind) some)

pub returns-clause-gives : goal.returns-clause-gives
returns-clause-gives c = λ disk faults.
    let self = c.args.self.now in
    let p = parts self disk faults in
    let is = held_is p self.first self.count c.args.at c.copied-bytes.result self.placed self.holding c.copied-bytes.ensures in
    subst (λ (z : Label). Gives c.give.result (memory p c.args.at) (record z { state = Live; epoch = self.one.high; closing = 2 ^ 32 - 1 }) (state_of p) (state_of (parts c.give.new.self disk faults))) c.label-label.ensures
    (gives (memory p c.args.at) self.placed self.holding self.waiting self.clearable (c.give.ensures disk faults) (same_as p c.copied-bytes.result c.args.at c.label-label.result c.label-label.ensures is))

pub label-label-requires : goal.label-label-requires
label-label-requires c =
    let self = c.args.self.now in
    let x = pinned_held (held_at self.buffers c.args.at) c.requires.pinned in
    self.holding.block c.args.at x.0 x.1

pub returns-clause-instead : goal.returns-clause-instead
returns-clause-instead c = λ x.
    let self = c.args.self.now in
    let i = instead_given self.placed (c.give.ensures [] 0) x in
    (λ h. same_some (i.0 h), λ e. i.1 (ap Some (sym e)))

same_bytes : {a b : List ℕ} (o : Option Buffer) → Some a ≡ option_map block_in o → Some b ≡ option_map block_in o → a ≡ b
same_bytes o e f = some_same (e ∙ sym f)
  where
    some_same : {a b : List ℕ} → Some a ≡ Some b → a ≡ b
    some_same e = cc

pub returns-clause-given : goal.returns-clause-given
returns-clause-given c = λ bytes is disk faults.
    let self = c.args.self.now in
    subst (λ (b : List ℕ). Given c.give.result (label_at self.labels c.args.at).kind (label_at self.labels c.args.at).tag (fact_at self.facts c.args.at).rank b (Some c.args.at) (parts self disk faults) (parts c.give.new.self disk faults)) (same_bytes (held_at self.buffers c.args.at) c.copied-bytes.ensures is)
    (subst (λ (r : ℕ). Given c.give.result (label_at self.labels c.args.at).kind (label_at self.labels c.args.at).tag r c.copied-bytes.result (Some c.args.at) (parts self disk faults) (parts c.give.new.self disk faults)) (ap (λ (f : Fact). f.rank) c.get-fact.ensures)
    (subst (λ (z : Label). Given c.give.result z.kind z.tag c.get-fact.result.rank c.copied-bytes.result (Some c.args.at) (parts self disk faults) (parts c.give.new.self disk faults)) c.label-label.ensures
    (c.give.ensures disk faults)))

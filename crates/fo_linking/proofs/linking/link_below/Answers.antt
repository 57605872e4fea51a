use Rattle.std.proofs.Common.{◌∙◌, sym, ap}
use Rattle.std.specs.Option.{option_copied}
use Rattle.fo_image.specs.declared.types.Label.{Label}
use Rattle.fo_linking.proofs.Joining.{block_of, grows_none, leads_none, leads_of, reached_of, slots_of}
use Rattle.fo_linking.proofs.linking.link_below.Goals as goal

pub label-requires : goal.label-requires
label-requires c = block_of c.args.buffers.now c.args.labels.now c.args.at c.in-Some.bytes.now (ap option_copied (sym c.in-Some.is) ∙ c.bytes.ensures.value) c.requires.good

pub link_slots-requires-clause-slots : goal.link_slots-requires-clause-slots
link_slots-requires-clause-slots c = slots_of c.args.buffers.now c.args.labels.now c.args.at c.in-Some.bytes.now c.label.result.kind (ap option_copied (sym c.in-Some.is) ∙ c.bytes.ensures.value) (ap (λ (z : Label). z.kind) c.label.ensures) c.requires.good

pub returns-in-Some-clause-linked : goal.returns-in-Some-clause-linked
returns-in-Some-clause-linked c = leads_of c.args.buffers.now c.args.labels.now c.args.at c.in-Some.bytes.now c.label.result.kind (ap option_copied (sym c.in-Some.is) ∙ c.bytes.ensures.value) (ap (λ (z : Label). z.kind) c.label.ensures) c.link_slots.new.facts c.link_slots.ensures.linked

pub returns-in-Some-clause-only : goal.returns-in-Some-clause-only
returns-in-Some-clause-only c = λ old to reached made r. c.link_slots.ensures.only c.args.labels.now old to
    (reached_of c.args.buffers.now c.args.labels.now c.args.at c.in-Some.bytes.now c.label.result.kind (ap option_copied (sym c.in-Some.is) ∙ c.bytes.ensures.value) (ap (λ (z : Label). z.kind) c.label.ensures) to old reached made) r

pub returns-in-None-clause-linked : goal.returns-in-None-clause-linked
returns-in-None-clause-linked c = leads_none c.args.buffers.now c.args.labels.now c.args.facts.now c.args.at (ap option_copied (sym c.in-None.is) ∙ c.bytes.ensures.value)

pub returns-in-None-clause-grows : goal.returns-in-None-clause-grows
returns-in-None-clause-grows c = grows_none c.args.buffers.now c.args.facts.now c.args.order.now c.args.links.now.items

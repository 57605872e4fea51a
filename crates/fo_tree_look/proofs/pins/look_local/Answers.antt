use Rattle.std.proofs.Common.{ap, ◌∙◌}
use Rattle.fo_image.specs.declared.types.Label.{Label}
use Rattle.fo_tree_read.proofs.Slots.{only_place}
use Rattle.fo_tree_look.proofs.Shown.{whole}
use Rattle.fo_tree_look.proofs.pins.look_local.Goals as goal

pub get-requires-clause-place : goal.get-requires-clause-place
get-requires-clause-place g c = λ told p stands. only_place (g.met.B.Blocks.one_place c.args.on.now) (c.requires.place told) p stands

pub returns-then-has_label-clause-ready : goal.returns-then-has_label-clause-ready
returns-then-has_label-clause-ready g c = λ pinned.
    let looks = c.get.ensures.looks in
    let at = c.args.at in
    let is = c.has_label.ensures.is c.if-has_label.true in
    record {
      is_pinned = (looks.stays.marks at (λ n. n)).0 pinned;
      live = is.live;
      has_kind = ap (λ (l : Label). l.kind) (looks.stays.labels at (λ n. n)) ∙ c.in_ok-get.ensures.formed.1;
      tagged = is.tagged;
      up_to = is.up_to;
      long = whole c.args.kind c.args.rank ((g.B.Blocks.state c.get.new.self).now at) c.get.new.into c.in_ok-get.ensures.bytes.0 c.get.auto.into;
    }

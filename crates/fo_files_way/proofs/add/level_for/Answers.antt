use Rattle.std.proofs.Common.{◌∙◌, ap}
use Rattle.fo_tree_read.specs.Tree.{kind_at}
use Rattle.fo_files_way.proofs.Prepared.{leaf_ready}
use Rattle.fo_files_way.proofs.add.level_for.Goals as goal

pub returns-in-Ok-readied-clause-held : goal.returns-in-Ok-readied-clause-held
returns-in-Ok-readied-clause-held g c =
    let y = c.readied.new.source.ways in
    let there = c.in-Ok-readied.ensures.there in
    let same = c.in-Ok-readied.ensures.same.0 in
    let is = c.in-Ok.ensures.is in
    let p = leaf_ready (g.B.Blocks.state c.readied.new.on) y.tree y.kept.items y.limit c.args.wanted.leaf c.in-Ok-readied.at c.in-Ok-readied.ensures.prepared there.0 in (
      record { is_pinned = p.is_pinned; live = p.live; tagged = p.tagged ∙ ap (λ t. t.tag) same ∙ is.0 },
      p.has_kind ∙ ap (λ t. kind_at t.dir 0) same ∙ ap (λ d. kind_at d 0) is.1,
      there.1,
    )

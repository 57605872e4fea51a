use Rattle.std.proofs.Common.{◌∙◌}
use Rattle.fo_ports.specs.State.{Looks}
use Rattle.fo_ports.specs.Sources.{SameLeaves}
use Rattle.fo_looks.proofs.Looks.{looks_undisturbed, source_looks, ready_looks}
use Rattle.fo_dir_read.proofs.Looking.{any_looked}
use Rattle.fo_dir_read.proofs.leaves.copy_leaf.Given as given
use Rattle.fo_dir_read.proofs.leaves.copy_leaf.Goals as goal

-- a source stays over a look at a block
still : (g : given.Over) (s : _) (a b : _) → g.S.Bytes.is_over s a → g.B.Blocks.keeps a b → Looks (g.B.Blocks.state a) (g.B.Blocks.state b)
    → g.S.Bytes.is_over s b × SameLeaves (g.B.Blocks.state a).tells (g.S.Bytes.leaves s a) (g.S.Bytes.leaves s b)
still g s a b over keeps looks =
    let stays = g.met.S.Bytes.stays s a b over keeps (λ told. looks_undisturbed looks (g.met.B.Blocks.active b).0 told (λ at own. (g.met.S.Bytes.live s a at over told own).2)) in (
      stays.0,
      source_looks (g.S.Bytes.size s) looks (g.met.S.Bytes.bytes_are s a over) (g.met.S.Bytes.bytes_are s b stays.0) stays.1
          (λ o n h. g.met.S.Bytes.still_prepared s a b o n over stays.0 keeps (λ at ready. ready_looks looks at ready) h)
          (λ h. g.met.S.Bytes.still_current s a b over stays.0 keeps (λ at ready. ready_looks looks at ready) (λ at own. looks.stays.labels at (λ n. n)) h),
    )

pub returns-clause-over : goal.returns-clause-over
returns-clause-over g c = (still g c.args.source.now c.args.on.now c.get.new.self c.requires.over c.get.ensures.keeps c.get.ensures.looks).0

pub returns-clause-same : goal.returns-clause-same
returns-clause-same g c = (still g c.args.source.now c.args.on.now c.get.new.self c.requires.over c.get.ensures.keeps c.get.ensures.looks).1

pub returns-clause-shows : goal.returns-clause-shows
returns-clause-shows g c = λ told i e. ((still g c.args.source.now c.args.on.now c.get.new.self c.requires.over c.get.ensures.keeps c.get.ensures.looks).1.leaves told i).0 ∙ e

pub returns-clause-cause : goal.returns-clause-cause
returns-clause-cause g c = any_looked (g.B.Blocks.state c.args.on.now) (g.B.Blocks.state c.get.new.self) c.args.at c.requires.block
    (λ told. let there = c.requires.shows told in g.met.S.Bytes.leaf_stands c.args.source.now c.args.on.now there.0 c.args.at c.requires.over told there.1) c.get.result c.get.ensures.cause

use Rattle.std.proofs.Common.{◌≡◌, ◌^◌, ◌<◌, ◌≤◌, ℕ, [], subst, sym}
use Rattle.fo_image.specs.declared.types.Entry.{Entry}
use Rattle.fo_image.specs.declared.types.Pointer.TheVariants.{Local}
use Rattle.fo_image.specs.Format.{EntryHolds}
use Rattle.fo_tree_look.specs.of_crash.Images.{Reaches, to_block}
use Rattle.fo_tree_look.specs.Source.{Over, HasBlock}
use Rattle.fo_tree_open.specs.Open.{IsFit, StandsIn, tree_of}
use Rattle.fo_tree_open.proofs.Opened.{Opens, over_opened, linked_opened}
use Rattle.fo_tree_open.proofs.source.open_read.Given as given
use Rattle.fo_tree_open.proofs.source.open_read.Goals as goal

opens : (g : given.Over) (on : g.row.B.Denot) {e : Entry} {tag rank limit : ℕ} → EntryHolds e × (e.depth ≤ 4) → ((b : ℕ) → e.top ≡ Local b → (g.B.Blocks.state on).is_block b) → (rank < 2 ^ 31) × (limit ≤ 2 ^ 47)
    → ((g.B.Blocks.state on).tells → StandsIn (g.B.Blocks.state on) e rank) → IsFit e tag limit → Opens (g.B.Blocks.state on) e tag rank limit
opens g on entry block low told fit =
    let s = g.B.Blocks.state on in
    record {
      says = record {
        placed = λ tells. g.met.B.Blocks.placed on s.now (g.met.B.Blocks.present on tells);
        ranked = λ tells. g.met.B.Blocks.ranked on s.now (g.met.B.Blocks.present on tells);
        one = g.met.B.Blocks.one_place on;
        active = (g.met.B.Blocks.active on).0;
        super_stands = g.met.B.Blocks.super_stands on;
        live = λ b tells ne r. g.met.B.Blocks.live on b tells ne r;
      };
      entry = entry;
      within = block;
      low = low;
      told = told;
      fit = fit;
    }

pub returns-clause-over : goal.returns-clause-over
returns-clause-over g c =
    let s = g.B.Blocks.state c.args.on.now in
    let e = c.args.entry.now in
    let is = c.source_of.ensures in
    let over = over_opened (opens g c.args.on.now c.requires.entry c.requires.block c.requires.low c.requires.told (c.is_fit.ensures.yes c.if-not-is_fit.false)) in
    subst (λ w. Over s w c.source_of.result.kept.items c.source_of.result.limit) (sym is.0)
    (subst (λ k. Over s (tree_of e c.args.rank) k c.source_of.result.limit) (sym is.3) (subst (λ n. Over s (tree_of e c.args.rank) [] n) (sym is.2) over))

pub returns-clause-linked : goal.returns-clause-linked
returns-clause-linked g c =
    let s = g.B.Blocks.state c.args.on.now in
    let is = c.source_of.ensures in
    let linked = linked_opened (opens g c.args.on.now c.requires.entry c.requires.block c.requires.low c.requires.told (c.is_fit.ensures.yes c.if-not-is_fit.false)) in
    subst (λ w. s.tells → (b : ℕ) → HasBlock s w b → Reaches s.now (to_block 1) b) (sym is.0) linked

-- An epoch begins over blocks that tell nothing: a tree stays, and is older.
use Rattle.std.proofs.Common.{◌≡◌, ◌<◌, ℕ, length, sym, ◌∙◌, ap, subst, arith}
use Rattle.fo_image.specs.declared.types.Label.{Label}
use Rattle.fo_crash.specs.Images.{target}
use Rattle.test_blocks.specs.declared.silent.Block.{Block}
use Rattle.test_blocks.specs.Silent.{Silent, BeginsEpoch, IsBegun, content_of, state_of}
use Rattle.test_clients.specs.Found.{HasRoot, HasTree}

pub begun : (p : Silent) → p.high ≡ 1 → IsBegun p.blocks → HasRoot (state_of p)
begun p high is = record {
  root_pinned = (omega arith, subst (λ n. 2 < n) (sym is.as_long) (omega arith));
  root_live = ap (λ (l : Label). l.state) is.label;
  root_kind = ap (λ (l : Label). l.kind) is.label;
  root_epoch = ap (λ (l : Label). l.epoch) is.label ∙ sym high;
  empty = is.slot;
  settled = λ b j w. w;
  not_one = λ e. omega (arith, e);
}

pub aged : (p q : Silent) (top leaf epoch : ℕ) → BeginsEpoch p q → HasTree (state_of p) top leaf epoch → HasTree (state_of q) top leaf epoch
aged p q top leaf epoch is had = record {
  root_pinned = (had.root_pinned.0, subst (λ n. 2 < n) (sym is.as_long) had.root_pinned.1);
  root_live = ap (λ (z : Block). z.label.state) is.root ∙ had.root_live;
  root_kind = ap (λ (z : Block). z.label.kind) is.root ∙ had.root_kind;
  root_epoch = ap (λ (z : Block). z.label.epoch) is.root;
  top_leads = ap (λ (z : Block). target ((content_of z).slot 0)) is.root ∙ had.top_leads;
  top_pinned = (had.top_pinned.0, subst (λ n. top < n) (sym is.as_long) had.top_pinned.1);
  top_live = ap (λ (z : Block). z.label.state) (is.others top had.beside.0) ∙ had.top_live;
  top_kind = ap (λ (z : Block). z.label.kind) (is.others top had.beside.0) ∙ had.top_kind;
  top_epoch = ap (λ (z : Block). z.label.epoch) (is.others top had.beside.0) ∙ had.top_epoch;
  leaf_leads = ap (λ (z : Block). target ((content_of z).slot 1)) (is.others top had.beside.0) ∙ had.leaf_leads;
  leaf_block = (had.leaf_block.0, subst (λ n. leaf < n) (sym is.count) had.leaf_block.1);
  leaf_pinned = (had.leaf_pinned.0, subst (λ n. leaf < n) (sym is.as_long) had.leaf_pinned.1);
  leaf_live = ap (λ (z : Block). z.label.state) (is.others leaf had.beside.1) ∙ had.leaf_live;
  leaf_kind = ap (λ (z : Block). z.label.kind) (is.others leaf had.beside.1) ∙ had.leaf_kind;
  leaf_epoch = ap (λ (z : Block). z.label.epoch) (is.others leaf had.beside.1) ∙ had.leaf_epoch;
  leaf_long = ap (λ (z : Block). length ((content_of z).bytes)) (is.others leaf had.beside.1) ∙ had.leaf_long;
  settled = λ b j w. w;
  apart = had.apart;
  beside = had.beside;
}

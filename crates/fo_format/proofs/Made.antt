-- What the writes to the main device make.
use Rattle.std.proofs.Common.{◌≡◌, inr, ℕ, ◌*◌, ◌<◌, ◌≤◌, List, [], length, set, take, drop, refl, sym, ◌∙◌, ap, subst, arith, length-set, length-take, length-drop, get_or-set_other, get_or-set_same}
use Rattle.fo_disk.specs.Disk.{Block}
use Rattle.fo_image.specs.Format.{SpellsHeader, SpellsSuper}
use Rattle.fo_image.specs.Record.{SpellsRoot}
use Rattle.fo_image.specs.Place.{label_blocks, first_data, label_block, label_byte}
use Rattle.fo_sound.specs.Image.{block_of, IsDataBlock, label_bytes}
use Rattle.fo_sound.specs.Fresh.{fresh_super, fresh_root, IsFresh}
use Rattle.fo_sound.proofs.Labels.{free_spelled}
use Rattle.fo_format.specs.Labels.{IsLabelBlock, HasLabelBlocks}
use Rattle.fo_format.specs.Formatted.{MakesFresh}

-- what stands in each block of the main device
pub record IsWritten (time blocks : ℕ) (before now : List Block) : Type 0 where
  pub count : blocks ≡ length now
  pub least : 64 ≤ blocks
  pub kept : length now ≡ length before
  pub header : SpellsHeader (record { blocks = blocks }) (block_of now 0)
  pub super_block : SpellsSuper (fresh_super blocks) (block_of now 1)
  pub table : (at : ℕ) → 2 ≤ at → at < first_data blocks → IsLabelBlock blocks at (block_of now at)
  pub root : SpellsRoot (fresh_root time) (block_of now (first_data blocks))
  pub others : (at : ℕ) → first_data blocks < at → block_of now at ≡ block_of before at

in_table : (address blocks : ℕ) → address < 585 * label_blocks blocks → label_block address < first_data blocks
in_table address blocks lt = omega arith

data_in_table : (address blocks : ℕ) → address < blocks → label_block address < first_data blocks
data_in_table address blocks lt = omega arith

root_is_data : (blocks : ℕ) → 64 ≤ blocks → IsDataBlock blocks (first_data blocks)
root_is_data blocks least = record { from = omega arith; to = omega arith }

whole_label : (address : ℕ) (block : Block) → length block ≡ 8192 → length (take 14 (drop (label_byte address) block)) ≡ 14
whole_label address block len = omega (arith, len, length-take 14 (drop (label_byte address) block), length-drop (label_byte address) block)

fresh : {time : ℕ} {before now : List Block} → IsWritten time (length now) before now → IsFresh time now
fresh {time} {before} {now} w = record {
  formatted = record { header = w.header; super_block = w.super_block };
  root_label = record { spelled = (w.table (label_block first) (omega arith) (data_in_table first blocks root_data.to)).root refl };
  free = λ address d other.
      let here = data_in_table address blocks d.to in
      let is = w.table (label_block address) (omega arith) here in
      record { spelled = free_spelled (label_bytes now address) (whole_label address (block_of now (label_block address)) is.whole) (is.others address refl other) };
  others = λ address lt no.
      (w.table (label_block address) (omega arith) (in_table address blocks lt)).others address refl (λ same. no (subst (IsDataBlock blocks) (sym same) root_data));
  rests = λ at from to. (w.table at from to).rest;
  root = w.root;
}
  where
    blocks : ℕ
    blocks = length now

    first : ℕ
    first = first_data (length now)

    root_data : IsDataBlock (length now) (first_data (length now))
    root_data = root_is_data (length now) w.least

pub written-makes : {time blocks : ℕ} {before now : List Block} → IsWritten time blocks before now → MakesFresh time before now
written-makes {time} {blocks} {before} {now} w = record {
  count = w.kept;
  fresh = fresh (subst (λ (n : ℕ). IsWritten time n before now) w.count w);
  others = λ at inside other.
      let is : first_data (length before) ≡ first_data blocks = ap first_data (sym w.kept ∙ sym w.count) in
      w.others at (omega (arith, inside.from, other, is));
}

-- the writes in their order: root block, label table, super block, header
pub writes-makes : (time blocks : ℕ) (before rooted labelled supered now : List Block) (root_bytes super_bytes header_bytes : Block) → length before ≡ blocks → 64 ≤ blocks
    → rooted ≡ set before (first_data blocks) root_bytes → HasLabelBlocks blocks (first_data blocks) rooted labelled → supered ≡ set labelled 1 super_bytes → now ≡ set supered 0 header_bytes
    → SpellsRoot (fresh_root time) root_bytes → SpellsSuper (fresh_super blocks) super_bytes → SpellsHeader (record { blocks = blocks }) header_bytes → MakesFresh time before now
writes-makes time blocks before rooted labelled supered now root_bytes super_bytes header_bytes len least rooted_is labels supered_is now_is root super_block header = written-makes (record {
  count = sym len ∙ sym kept;
  least = least;
  kept = kept;
  header = subst (SpellsHeader (record { blocks = blocks })) (sym at_header) header;
  super_block = subst (SpellsSuper (fresh_super blocks)) (sym at_super) super_block;
  table = λ at two below. subst (IsLabelBlock blocks at) (sym (later at two)) (labels.labels at two below (omega (arith, below, rooted_len, len, least)));
  root = subst (SpellsRoot (fresh_root time)) (sym at_root) root;
  others = λ at above. later at (omega (arith, above)) ∙ labels.others at (inr (omega (arith, above))) ∙ ap (λ (bs : List Block). block_of bs at) rooted_is ∙ get_or-set_other before (first_data blocks) at root_bytes [] (omega (arith, above));
})
  where
    rooted_len : length rooted ≡ length before
    rooted_len = ap length rooted_is ∙ length-set before (first_data blocks) root_bytes

    labelled_len : length labelled ≡ length before
    labelled_len = labels.count ∙ rooted_len

    supered_len : length supered ≡ length before
    supered_len = ap length supered_is ∙ length-set labelled 1 super_bytes ∙ labelled_len

    kept : length now ≡ length before
    kept = ap length now_is ∙ length-set supered 0 header_bytes ∙ supered_len

    at_header : block_of now 0 ≡ header_bytes
    at_header = ap (λ (bs : List Block). block_of bs 0) now_is ∙ get_or-set_same supered 0 header_bytes [] (omega (arith, supered_len, len, least))

    at_super : block_of now 1 ≡ super_bytes
    at_super =
        ap (λ (bs : List Block). block_of bs 1) now_is ∙ get_or-set_other supered 0 1 header_bytes [] (omega arith)
        ∙ ap (λ (bs : List Block). block_of bs 1) supered_is ∙ get_or-set_same labelled 1 super_bytes [] (omega (arith, labelled_len, len, least))

    later : (at : ℕ) → 2 ≤ at → block_of now at ≡ block_of labelled at
    later at two =
        ap (λ (bs : List Block). block_of bs at) now_is ∙ get_or-set_other supered 0 at header_bytes [] (omega (arith, two))
        ∙ ap (λ (bs : List Block). block_of bs at) supered_is ∙ get_or-set_other labelled 1 at super_bytes [] (omega (arith, two))

    at_root : block_of now (first_data blocks) ≡ root_bytes
    at_root =
        later (first_data blocks) (omega arith) ∙ labels.others (first_data blocks) (inr (omega arith))
        ∙ ap (λ (bs : List Block). block_of bs (first_data blocks)) rooted_is ∙ get_or-set_same before (first_data blocks) root_bytes [] (omega (arith, len, (root_is_data blocks least).to))

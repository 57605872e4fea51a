-- Devices that were just formatted are opened as the empty world of that moment and as no other.
use Rattle.std.proofs.Common.{◌≡◌, ℕ, ◌≤◌, zero, suc, false, List, [], ◌∷◌, ◌++◌, length, take, drop, refl, sym, ap, subst, ◌∙◌, arith}
use Rattle.std.specs.Prelude.{if◌then◌else◌}
use Rattle.std.specs.List.{flat_map, range_with_len}
use Rattle.std.proofs.lemmas.Nat.{from_be_bytes-to_be_bytes_4}
use Rattle.fo_disk.specs.Disk.{Block}
use Rattle.fo_image.specs.declared.types.Super.{Super}
use Rattle.fo_image.specs.declared.types.Pointer.TheVariants.{Nil}
use Rattle.fo_image.specs.declared.types.Entry.{Entry}
use Rattle.fo_image.specs.declared.record.Record.{Record}
use Rattle.fo_image.specs.Field.{Four, number_at}
use Rattle.fo_image.specs.Format.{SpellsSuper}
use Rattle.fo_image.specs.Place.{first_data}
use Rattle.fo_image.specs.Record.{SpellsRoot}
use Rattle.fo_image.proofs.RecordLemmas.{root_at}
use Rattle.fo_crash.specs.Images.{Image, Arena, Link, target, step, leaf_path, bytes_at, from_block}
use Rattle.fo_slots.proofs.Meaning.{entry_meant}
use Rattle.fo_world.specs.declared.tree.Tree.{Tree}
use Rattle.fo_world.specs.declared.tree.Body.TheVariants.{Dir}
use Rattle.fo_world.specs.Names.{Names, no_names}
use Rattle.fo_world.specs.Tree.{node_of}
use Rattle.fo_world.specs.World.{World}
use Rattle.fo_sound.specs.Image.{block_of}
use Rattle.fo_sound.specs.Fresh.{fresh_super, fresh_root, IsFresh}
use Rattle.fo_good.specs.Means.{IsRootBlock}
use Rattle.fo_good.specs.Trees.{size_of}
use Rattle.fo_good.specs.Sound.{Kept, IsChain}
use Rattle.fo_good.specs.Reading.{dir_in, names_in, dir_records, leaf_records, leaves_in, levels, stat_in, own_record, record_at, is_allowed, no_record, tree_of}
use Rattle.fo_good.specs.Opened.{OpensAs, world_of, fresh_tree, fresh_world}
use Rattle.fo_good.proofs.Fresh.{past_bytes}
use Rattle.fo_good.proofs.Leaf.{own_is_read}

-- ---- a directory whose records lead nowhere has no names

none_read : leaf_records [] ≡ []
unfolding number_at
none_read = refl

flat_none : (f : ℕ → List Record) (ks : List ℕ) → ((k : ℕ) → f k ≡ []) → flat_map f ks ≡ []
flat_none f [] each = refl
flat_none f (k ∷ ks) each = ap (λ (xs : List Record). xs ++ flat_map f ks) (each k) ∙ flat_none f ks each

no_records : (arena : Arena) (image : Image) (meta : Link) → target meta.slot ≡ Nil → dir_records arena image meta ≡ []
no_records arena image meta e = flat_none (λ k. leaf_records (bytes_at arena image meta (leaf_path meta.slot k))) (range_with_len 0 (leaves_in (size_of meta.slot))) (λ k. ap leaf_records (past_bytes arena image meta e (leaf_path meta.slot k)) ∙ none_read)

no_dir : (levels : ℕ) (arena : Arena) (image : Image) (entries meta : Link) → target meta.slot ≡ Nil → dir_in levels arena image entries meta ≡ no_names
unfolding dir_in
no_dir zero arena image entries meta e = refl
no_dir (suc levels) arena image entries meta e = ap (λ (rs : List Record). names_in (dir_in levels arena image) arena image entries rs) (no_records arena image meta e)

-- ---- no root is before the first one

no_older : (device : List Block) (low : ℕ) (k : Kept) (older : List Kept) → k.root.epoch ≤ low → IsChain device low k older → older ≡ []
no_older device low k [] same chain = refl
no_older device low k (next ∷ rest) same chain =
    let epochs = chain.0.epochs in
    let from = epochs.0 in
    let after = epochs.1 in
    absurd (omega (arith, same, from, after))

-- ---- what stands where in a super block

record SuperAt (bytes : List ℕ) (s : Super) : Type 0 where
  low : number_at Four 10 bytes ≡ s.low
  high : number_at Four 14 bytes ≡ s.high
  active : number_at Four 18 bytes ≡ s.active
  numbers : number_at Four 22 bytes ≡ s.numbers
  pending : number_at Four 26 bytes ≡ s.pending

super_at : (bytes : List ℕ) (s : Super) → SpellsSuper s bytes → SuperAt bytes s
unfolding number_at
super_at bytes v s = subst (λ b. SuperAt b v) (sym s.bytes_are) (record {
  low = from_be_bytes-to_be_bytes_4 v.low s.fit.1.1.0;
  high = from_be_bytes-to_be_bytes_4 v.high s.fit.1.1.1.0;
  active = from_be_bytes-to_be_bytes_4 v.active s.fit.1.1.1.1.0;
  numbers = from_be_bytes-to_be_bytes_4 v.numbers s.fit.1.1.1.1.1.0;
  pending = from_be_bytes-to_be_bytes_4 v.pending s.fit.1.1.1.1.1.1.0;
})

-- ---- the world

-- the own record of a root block is read from its bytes behind the entries
own_from : (a b : List ℕ) → drop 104 a ≡ drop 104 b → own_record a ≡ own_record b
own_from a b same = ap (λ (xs : List ℕ). if is_allowed (record_at xs) then record_at xs else no_record) same

module _ {device vault : List Block} {time : ℕ} {w : World} (fresh : IsFresh time device) (o : OpensAs device vault w) where
  one : SuperAt (block_of device 1) (fresh_super (length device))
  one = super_at (block_of device 1) (fresh_super (length device)) fresh.formatted.super_block

  other : SuperAt (block_of device 1) o.s
  other = super_at (block_of device 1) o.s o.sound.formatted.super_block

  low : o.s.low ≡ 1
  low = sym other.low ∙ one.low

  high : o.s.high ≡ 1
  high = sym other.high ∙ one.high

  pending : o.s.pending ≡ 0
  pending = sym other.pending ∙ one.pending

  numbers : o.s.numbers ≡ 1
  numbers = sym other.numbers ∙ one.numbers

  active : o.s.active ≡ first_data (length device)
  active = sym other.active ∙ one.active

  here : o.active.at ≡ first_data (length device)
  here = o.sound.at ∙ active

  older : o.older ≡ []
  older =
      let epoch : o.active.root.epoch ≡ o.s.high = o.sound.root.epoch in
      no_older device o.s.low o.active o.older (omega (arith, epoch, high, low)) o.sound.chain

  block : IsRootBlock (o.image o.active.at) (block_of device o.active.at)
  block = o.sound.tree.read.each [] o.active.at refl

  spelled : SpellsRoot block.root (block_of device (first_data (length device)))
  spelled = subst (λ (n : ℕ). SpellsRoot block.root (block_of device n)) here block.spelled

  meta_is : block.root.meta ≡ (fresh_root time).meta
  meta_is =
      let bytes = take 40 (drop 64 (block_of device (first_data (length device)))) in
      sym (entry_meant block.root.meta bytes (root_at (block_of device (first_data (length device))) block.root spelled).meta)
      ∙ entry_meant (fresh_root time).meta bytes (root_at (block_of device (first_data (length device))) (fresh_root time) fresh.root).meta

  nowhere : target ((o.image o.active.at).slot 1) ≡ Nil
  nowhere = ap target block.meta.0 ∙ ap (λ (e : Entry). e.top) meta_is

  own : own_record ((o.image o.active.at).bytes) ≡ (fresh_root time).own
  own =
      own_from ((o.image o.active.at).bytes) (block_of device o.active.at) block.own
      ∙ ap (λ (n : ℕ). own_record (block_of device n)) here
      ∙ own_is_read (fresh_root time) (block_of device (first_data (length device))) fresh.root

  tree : tree_of o.arena o.image o.active.at ≡ fresh_tree time
  tree =
      let entries = step o.arena o.image (from_block o.active.at) 0 in
      let meta = step o.arena o.image (from_block o.active.at) 1 in
      let made : Record → Names → Tree = λ own names. record { root = node_of (stat_in own) (Dir names) } in
      ap (λ (r : Record). made r (dir_in levels o.arena o.image entries meta)) own ∙ ap (λ (names : Names). made (fresh_root time).own names) (no_dir levels o.arena o.image entries meta nowhere)

  pub only_empty : w ≡ fresh_world time
  only_empty = o.is ∙ ap (λ (older : List Kept). world_of o.arena o.image o.s o.active older) older ∙ rw (low, high, pending, numbers) (ap (λ (t : Tree). record { active = t; low = 1; high = 1; snaps = []; archives = []; pending = 0; next = 1; halted = false; exclusive = [] }) tree)

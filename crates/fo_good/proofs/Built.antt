-- Where an image has no file, no snapshot and no archive, the rules say what `fo_sound` says of it. And names lead 64 directories down at most.
use Rattle.std.proofs.Common.{◌≡◌, ℕ, ◌+◌, ◌*◌, ◌%◌, ◌<◌, ◌≤◌, ◌^◌, Bool, true, List, [], ◌∷◌, length, take, drop, get_or, refl, sym, ap, ◌∙◌, subst, arith}
use Rattle.std.proofs.lemmas.List.{length-append}
use Rattle.fo_sound.specs.of_disk.Disk.{Block}
use Rattle.fo_image.specs.declared.types.Super.{Super}
use Rattle.fo_image.specs.declared.types.Entry.{Entry}
use Rattle.fo_image.specs.declared.record.Record.{Record}
use Rattle.fo_image.specs.declared.record.RootBlock.{RootBlock}
use Rattle.fo_image.specs.Format.{SpellsEntry}
use Rattle.fo_image.specs.Record.{SpellsRoot}
use Rattle.fo_image.proofs.RecordLemmas.{root_at}
use Rattle.fo_crash.specs.declared.slot.Slot.{Slot}
use Rattle.fo_crash.specs.declared.slot.Slot.TheVariants.{Pointer as To, Entry as Head, Prev}
use Rattle.fo_crash.specs.Images.{Image, Arena, Link, entry_of}
use Rattle.fo_world.specs.Step.{is_dir_mode}
use Rattle.fo_sound.specs.Image.{block_of}
use Rattle.fo_sound.specs.Sound.{IsBuilt, ReachesLow, HasDepths}
use Rattle.fo_sound.specs.Sound as built
use Rattle.fo_good.specs.Means.{IsRootBlock}
use Rattle.fo_good.specs.Trees.{IsEntries, IsFirst, InTree, IsDir}
use Rattle.fo_good.specs.Trees.InTree.{top as source_top, below as source_below}
use Rattle.fo_good.specs.Trees.IsDir.{top as dir_top, below as dir_below}
use Rattle.fo_good.specs.Sound.{Kept, IsChain, IsSoundTree, IsSound}

-- ---- no file and no snapshot

small : (n : ℕ) → n < 2 ^ 8 → n % 256 ≡ n
small n lt = omega arith

depth_at : (e : Entry) (bytes : List ℕ) → SpellsEntry e bytes → get_or bytes 5 0 ≡ e.depth
depth_at e bytes s = ap (λ (xs : List ℕ). get_or xs 5 0) s.bytes_are ∙ small e.depth s.fit.1.1.0

-- the depths that a block of the tree has are those of the one root that it spells
depths : (root other : RootBlock) (block : List ℕ) → SpellsRoot root block → SpellsRoot other block → other.entries.depth ≤ 4 → other.meta.depth ≤ 4 → HasDepths root
depths root other block s t de dm =
    let a = root_at block root s in
    let b = root_at block other t in
    let e : root.entries.depth ≡ other.entries.depth = sym (depth_at root.entries (take 40 (drop 24 block)) a.entries) ∙ depth_at other.entries (take 40 (drop 24 block)) b.entries in
    let m : root.meta.depth ≡ other.meta.depth = sym (depth_at root.meta (take 40 (drop 64 block)) a.meta) ∙ depth_at other.meta (take 40 (drop 64 block)) b.meta in
    record { entries = omega (arith, e, de); meta = omega (arith, m, dm) }

reaches_low : (device : List Block) (s : Super) (active : Kept) (older : List Kept) → active.root.epoch ≡ s.high → active.root.prev_epoch < s.low → IsChain device s.low active older → ReachesLow s
reaches_low device s active [] high alone chain = record { reached = sym chain.0 ∙ high }
reaches_low device s active (next ∷ rest) high alone chain =
    let from = chain.0.epochs.0 in
    let is = chain.0.is.1 in
    absurd (omega (arith, from, is, alone))

pub sound_built : {arena : Arena} {device vault : List Block} {s : Super} {active : Kept} {older : List Kept} {image : Image} → IsSound arena device vault s active older image → IsBuilt s active.root → built.IsSound device s active.root
sound_built {arena} {device} {vault} {s} {active} {older} {image} sound is =
    let root : IsRootBlock (image active.at) (block_of device active.at) = sound.tree.read.each [] active.at refl in
    let spelled : SpellsRoot active.root (block_of device active.at) = subst (λ at. SpellsRoot active.root (block_of device at)) (sym sound.at) sound.root.block in
    record {
      formatted = sound.formatted;
      active = sound.root;
      chain = reaches_low device s active older sound.root.epoch is.alone sound.chain;
      table = sound.table;
      depths = depths active.root root.root (block_of device active.at) spelled root.spelled root.entries.1 root.meta.1;
      entries = sound.tree.entries;
      numbers = record { below = let none = sound.root.block.holds.own_holds.number_is in let some = sound.formatted.super_block.holds.numbers_are.0 in omega (arith, none, some) };
    }

-- ---- directories that names lead to

first_is : (s : Slot) (r : Record) → is_dir_mode r.mode ≡ true → IsFirst s r → IsEntries s
first_is (Head e) r folder h = (h.0, h.2 ∙ folder)
first_is (To p) r folder h = h
first_is (Prev epoch at) r folder h = h

-- A directory at the end of a trail is a source of entries of the tree, as deep as the trail is long.
pub dir_in_tree : {arena : Arena} {device : List Block} {image : Image} {numbers : ℕ} {active : Bool} {k : Kept} → IsSoundTree arena device image numbers active k → (trail : List ℕ) (entries meta : Link) → IsDir arena image k.at trail entries meta → InTree arena image k.at (length trail) entries
dir_in_tree sound trail entries meta dir_top = source_top
dir_in_tree {arena} {image = image} {k = k} sound trail entries meta (dir_below up e m i j r dir listed folder) =
    let fit = sound.pairs.fit up e m i j r dir listed in
    let below : InTree arena image k.at (length up + 1) (entry_of arena image e (2 * r.slot)) =
    subst (λ n. InTree arena image k.at n (entry_of arena image e (2 * r.slot))) (omega arith) (source_below (length up) e (2 * r.slot) (dir_in_tree sound up e m dir) (first_is (entry_of arena image e (2 * r.slot)).slot r folder fit.first)) in
    subst (λ n. InTree arena image k.at n (entry_of arena image e (2 * r.slot))) (sym (length-append up (r.slot ∷ []))) below

pub names_end : {arena : Arena} {device : List Block} {image : Image} {numbers : ℕ} {active : Bool} {k : Kept} → IsSoundTree arena device image numbers active k → (trail : List ℕ) (entries meta : Link) → IsDir arena image k.at trail entries meta → length trail ≤ 64
names_end sound trail entries meta dir = sound.named.depths (length trail) entries (dir_in_tree sound trail entries meta dir)

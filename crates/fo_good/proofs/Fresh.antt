-- An image with no file is sound, as `fo_sound` says of it, and its world is an empty directory. The fresh image is such a one.
use Rattle.std.proofs.Common.{◌≡◌, ◌≢◌, ⊎_elim, ℕ, ◌*◌, ◌/◌, ◌%◌, ◌≤◌, zero, suc, true, false, List, [], ◌∷◌, ◌++◌, length, refl, sym, ap, subst, ◌∙◌, inl, arith}
use Rattle.std.specs.List.{flat_map, range_with_len}
use Rattle.std.proofs.lemmas.Bool.{cases_eq}
use Rattle.fo_sound.specs.of_disk.Disk.{Block}
use Rattle.fo_image.specs.declared.types.Pointer.{Pointer}
use Rattle.fo_image.specs.declared.types.Pointer.TheVariants.{Nil, Local, Score as Held}
use Rattle.fo_image.specs.declared.types.Score.{Score}
use Rattle.fo_image.specs.declared.types.Super.{Super}
use Rattle.fo_image.specs.declared.record.Record.{Record}
use Rattle.fo_image.specs.declared.record.RootBlock.{RootBlock}
use Rattle.fo_image.specs.Place.{first_data}
use Rattle.fo_image.specs.Field.{number_at}
use Rattle.fo_image.specs.Record.{SpellsRoot}
use Rattle.fo_image.specs.Usable.{free_label}
use Rattle.fo_meta.specs.Leaf.{SpellsLeaf}
use Rattle.fo_crash.specs.declared.slot.Slot.{Slot}
use Rattle.fo_crash.specs.declared.slot.Slot.TheVariants.{Pointer as To, Entry as Head, Prev}
use Rattle.fo_crash.specs.Images.{Content, Image, Arena, Link, target, meant, goes, step, bytes_at, entry_of, leaf_path, from_block, to_block, with_block}
use Rattle.fo_crash.proofs.Updates.{block_other, block_here}
use Rattle.fo_world.specs.declared.tree.Tree.{Tree}
use Rattle.fo_world.specs.declared.tree.Body.TheVariants.{Dir}
use Rattle.fo_world.specs.Names.{Names, no_names}
use Rattle.fo_world.specs.Tree.{node_of}
use Rattle.fo_world.specs.World.{World}
use Rattle.fo_sound.specs.Sizes.{HasSizes, IsArena}
use Rattle.fo_sound.specs.Image.{block_of, HasLabel}
use Rattle.fo_sound.specs.Sound.{HasActiveRoot, HasTable, HasRootEntries, IsBuilt, root_label}
use Rattle.fo_sound.specs.Sound as built
use Rattle.fo_sound.specs.Fresh.{fresh_super, fresh_root, IsFresh}
use Rattle.fo_good.specs.Means.{IsRead, IsRootBlock}
use Rattle.fo_good.specs.Trees.{IsEntries, InTree, HasRecords, Lists, IsDir, LeadsTo, size_of, at_path}
use Rattle.fo_good.specs.Trees.InTree.{top as source_top, below as source_below}
use Rattle.fo_good.specs.Trees.HasRecords.{top as records_top, pair as records_pair}
use Rattle.fo_good.specs.Trees.IsDir.{top as dir_top, below as dir_below}
use Rattle.fo_good.specs.Sound.{Kept, IsSoundTree}
use Rattle.fo_good.specs.Reading.{dir_in, names_in, dir_records, leaf_records, leaves_in, levels, stat_in, own_record, tree_of}
use Rattle.fo_good.specs.Opened.{OpensAs, fresh_world}
use Rattle.fo_good.proofs.Leaf.{own_is_read}

-- ---- paths past a pointer that leads nowhere

past_one : (arena : Arena) (image : Image) (w : Link) → target w.slot ≡ Nil → (i : ℕ) → (step arena image w i).slot ≡ To Nil
past_one arena image w e i = ap (λ (p : Pointer). (meant arena image w.kind p).slot i) e

pub past : (arena : Arena) (image : Image) (w : Link) → target w.slot ≡ Nil → (i : ℕ) (path : List ℕ) → (goes arena image w (i ∷ path)).slot ≡ To Nil
past arena image w e i [] = past_one arena image w e i
past arena image w e i (j ∷ path) = past arena image (step arena image w i) (ap target (past_one arena image w e i)) j path

pub past_end : (arena : Arena) (image : Image) (w : Link) → target w.slot ≡ Nil → (path : List ℕ) (i : ℕ) → (goes arena image w (path ++ i ∷ [])).slot ≡ To Nil
past_end arena image w e [] i = past arena image w e i []
past_end arena image w e (j ∷ path) i = past arena image w e j (path ++ i ∷ [])

pub past_target : (arena : Arena) (image : Image) (w : Link) → target w.slot ≡ Nil → (path : List ℕ) → target ((goes arena image w path).slot) ≡ Nil
past_target arena image w e [] = e
past_target arena image w e (i ∷ path) = ap target (past arena image w e i path)

pub past_bytes : (arena : Arena) (image : Image) (w : Link) → target w.slot ≡ Nil → (path : List ℕ) → bytes_at arena image w path ≡ []
past_bytes arena image w e path = ap (λ (p : Pointer). (meant arena image (goes arena image w path).kind p).bytes) (past_target arena image w e path)

not_empty : (path more : List ℕ) (i : ℕ) → path ++ i ∷ more ≡ [] → ⊥
not_empty [] more i e = cc
not_empty (j ∷ path) more i e = cc

nil_local : {a : ℕ} → Nil ≡ Local a → ⊥
nil_local e = cc

nil_held : {s : Score} → Nil ≡ Held s → ⊥
nil_held e = cc

local_held : {a : ℕ} {s : Score} → Local a ≡ Held s → ⊥
local_held e = cc

local_is : {a b : ℕ} → Local a ≡ Local b → a ≡ b
local_is e = cc

-- no leaf spells records where no block is
no_leaf : (rs : List Record) (bytes : List ℕ) → bytes ≡ [] → SpellsLeaf rs bytes → ⊥
no_leaf rs bytes e s = let no = sym e ∙ s.bytes_are in cc

-- and none are read there
none_read : leaf_records [] ≡ []
unfolding number_at
none_read = refl

flat_none : (f : ℕ → List Record) (ks : List ℕ) → ((k : ℕ) → f k ≡ []) → flat_map f ks ≡ []
flat_none f [] each = refl
flat_none f (k ∷ ks) each = ap (λ (xs : List Record). xs ++ flat_map f ks) (each k) ∙ flat_none f ks each

no_records : (arena : Arena) (image : Image) (meta : Link) → target meta.slot ≡ Nil → dir_records arena image meta ≡ []
no_records arena image meta e = flat_none (λ k. leaf_records (bytes_at arena image meta (leaf_path meta.slot k))) (range_with_len 0 (leaves_in (size_of meta.slot))) (λ k. ap leaf_records (past_bytes arena image meta e (leaf_path meta.slot k)) ∙ none_read)

no_dir : (levels : ℕ) (arena : Arena) (image : Image) (entries meta : Link) → target meta.slot ≡ Nil → dir_in levels arena image entries meta ≡ no_names
unfolding dir_in
no_dir zero arena image entries meta e = refl
no_dir (suc levels) arena image entries meta e = ap (λ (rs : List Record). names_in (dir_in levels arena image) arena image entries rs) (no_records arena image meta e)

-- ---- the image of a root block alone

root_slot : RootBlock → ℕ → Slot
root_slot r zero = Head r.entries
root_slot r (suc zero) = Head r.meta
root_slot r (suc (suc zero)) = Prev r.prev_epoch r.prev
root_slot r (suc (suc (suc i))) = To Nil

content : RootBlock → List ℕ → Content
content r bytes = record { bytes = bytes; slot = root_slot r }

-- the super block leads to a root block at this address, and that is all
alone : RootBlock → List ℕ → ℕ → Image
alone r bytes at = with_block (λ b. content r bytes) 1 (record { bytes = []; slot = λ i. to_block at })

alone_super : (r : RootBlock) (bytes : List ℕ) (at : ℕ) → (alone r bytes at 1).slot 0 ≡ to_block at
unfolding alone
alone_super r bytes at = ap (λ (c : Content). c.slot 0) (block_here (λ b. content r bytes) 1 (record { bytes = []; slot = λ i. to_block at }))

alone_here : (r : RootBlock) (bytes : List ℕ) (at : ℕ) → at ≢ 1 → alone r bytes at at ≡ content r bytes
unfolding alone
alone_here r bytes at apart = block_other (λ b. content r bytes) 1 (record { bytes = []; slot = λ i. to_block at }) at apart

content_bytes : (r : RootBlock) (bytes : List ℕ) → (content r bytes).bytes ≡ bytes
unfolding content
content_bytes r bytes = refl

content_tops : (r : RootBlock) (bytes : List ℕ) → r.entries.top ≡ Nil → r.meta.top ≡ Nil → (i : ℕ) → target ((content r bytes).slot i) ≡ Nil
unfolding content root_slot
content_tops r bytes e m zero = e
content_tops r bytes e m (suc zero) = m
content_tops r bytes e m (suc (suc zero)) = refl
content_tops r bytes e m (suc (suc (suc i))) = refl

content_read : (r : RootBlock) (bytes : List ℕ) → SpellsRoot r bytes → r.entries.depth ≤ 4 → r.meta.depth ≤ 4 → r.entries.top ≡ Nil → r.meta.top ≡ Nil → IsRootBlock (content r bytes) bytes
unfolding content root_slot
content_read r bytes spelled de dm e m = record {
  root = r;
  spelled = spelled;
  entries = (refl, de);
  meta = (refl, dm);
  before = refl;
  ends = record { each = λ i above. content_tops r bytes e m i };
  own = refl;
}

module _ (arena : Arena) (device : List Block) (r : RootBlock) (at : ℕ) (apart : at ≢ 1) (spelled : SpellsRoot r (block_of device at)) (no_entries : r.entries.top ≡ Nil) (no_meta : r.meta.top ≡ Nil) where
  image : Image
  image = alone r (block_of device at) at

  here : image at ≡ content r (block_of device at)
  unfolding image
  here = alone_here r (block_of device at) at apart

  tops : (i : ℕ) → target ((image at).slot i) ≡ Nil
  tops i = ap (λ (c : Content). target (c.slot i)) here ∙ content_tops r (block_of device at) no_entries no_meta i

  nowhere : (i : ℕ) (path : List ℕ) → target ((at_path arena image at (i ∷ path)).slot) ≡ Nil
  nowhere i path = past_target arena image (step arena image (from_block at) i) (tops i) path

  only : (path : List ℕ) (b : ℕ) → LeadsTo arena image at path b → (path ≡ []) × (at ≡ b)
  only [] b e = (refl, local_is e)
  only (i ∷ path) b e = absurd (nil_local (sym (nowhere i path) ∙ e))

  none_below : {X : Type 0} (path more : List ℕ) (i b : ℕ) → LeadsTo arena image at (path ++ i ∷ more) b → X
  none_below path more i b e = absurd (not_empty path more i (only (path ++ i ∷ more) b e).0)

  reads : r.entries.depth ≤ 4 → r.meta.depth ≤ 4 → (path : List ℕ) (b : ℕ) → LeadsTo arena image at path b → IsRead ((at_path arena image at path).kind) (image b) (block_of device b)
  reads de dm [] b e =
      let root : IsRootBlock (image at) (block_of device at) = subst (λ (c : Content). IsRootBlock c (block_of device at)) (sym here) (content_read r (block_of device at) spelled de dm no_entries no_meta) in
      subst (λ b. IsRootBlock (image b) (block_of device b)) (local_is e) root
  reads de dm (i ∷ path) b e = absurd (nil_local (sym (nowhere i path) ∙ e))

  no_scores : (path : List ℕ) (score : Score) → target ((at_path arena image at path).slot) ≡ Held score → ⊥
  no_scores [] score e = local_held e
  no_scores (i ∷ path) score e = nil_held (sym (nowhere i path) ∙ e)

  -- no names
  no_lists : (k j : ℕ) (q : Record) → Lists arena image (step arena image (from_block at) 1) k j q → ⊥
  no_lists k j q l =
      let meta = step arena image (from_block at) 1 in
      no_leaf (l.before ++ q ∷ l.after) (bytes_at arena image meta (leaf_path meta.slot k)) (past_bytes arena image meta (tops 1) (leaf_path meta.slot k)) l.spelled

  root_meta : (trail : List ℕ) (entries meta : Link) → IsDir arena image at trail entries meta → meta ≡ step arena image (from_block at) 1
  root_meta trail entries meta dir_top = refl
  root_meta trail entries meta (dir_below up e m k j q dir listed folder) = absurd (no_lists k j q (subst (λ (w : Link). Lists arena image w k j q) (root_meta up e m dir) listed))

  unnamed : {X : Type 0} (trail : List ℕ) (entries meta : Link) (k j : ℕ) (q : Record) → IsDir arena image at trail entries meta → Lists arena image meta k j q → X
  unnamed trail entries meta k j q dir listed = absurd (no_lists k j q (subst (λ (w : Link). Lists arena image w k j q) (root_meta trail entries meta dir) listed))

  -- no source of entries but the root's, and no entry in that
  not_entries : (s : Slot) → s ≡ To Nil → IsEntries s → ⊥
  not_entries s e is = subst IsEntries e is

  in_root : (depth : ℕ) (w : Link) → InTree arena image at depth w → (depth ≡ 0) × (target w.slot ≡ Nil)
  in_root depth w source_top = (refl, tops 0)
  in_root depth w (source_below d v j up is) = absurd (not_entries (entry_of arena image v j).slot (past_end arena image v (in_root d v up).1 (leaf_path v.slot (j / 204)) (j % 204)) is)

  root_records : (meta : Link) → HasRecords arena image at meta → meta ≡ step arena image (from_block at) 1
  root_records meta records_top = refl
  root_records meta (records_pair depth w k up first second) = absurd (not_entries (entry_of arena image w (2 * k)).slot (past_end arena image w (in_root depth w up).1 (leaf_path w.slot (2 * k / 204)) (2 * k % 204)) first)

  alone_sound : (numbers : ℕ) → r.entries.depth ≤ 4 → r.meta.depth ≤ 4 → HasRootEntries r → IsSoundTree arena device image numbers true (record { at = at; root = r })
  alone_sound numbers de dm entries = record {
    labels = record { each = λ path i a b above leads has below. none_below path [] i b below };
    read = record { each = reads de dm };
    leaves = record {
      leaves = λ path more i b named kind leads. none_below path more i b leads;
      names = λ meta k j m n x y has a b e. absurd (no_lists k j x (subst (λ (w : Link). Lists arena image w k j x) (root_records meta has) a));
    };
    entries = entries;
    pairs = record {
      fit = λ trail e m k j x dir a. unnamed trail e m k j x dir a;
      differ = λ trail e m k j i n x y dir a b same. unnamed trail e m k j x dir a;
    };
    once = record { once = λ p q b x y. (only p b x).0 ∙ sym (only q b y).0 };
    named = record {
      differ = λ trail other e m e' m' k j i n x y dir dir' a b same. unnamed trail e m k j x dir a;
      below = λ trail e m k j x dir a. unnamed trail e m k j x dir a;
      depths = λ depth w up. let e = (in_root depth w up).0 in omega (arith, e);
    };
    scores = record { none = no_scores };
  }

  named : (image 1).slot 0 ≡ to_block at
  unfolding image
  named = alone_super r (block_of device at) at

  alone_tree : tree_of arena image at ≡ record { root = node_of (stat_in r.own) (Dir no_names) }
  alone_tree =
      let own : own_record ((image at).bytes) ≡ r.own = ap (λ (c : Content). own_record c.bytes) here ∙ ap own_record (content_bytes r (block_of device at)) ∙ own_is_read r (block_of device at) spelled in
      let entries = step arena image (from_block at) 0 in
      let meta = step arena image (from_block at) 1 in
      let tree : Record → Names → Tree = λ own names. record { root = node_of (stat_in own) (Dir names) } in
      ap (λ (own : Record). tree own (dir_in levels arena image entries meta)) own ∙ ap (λ (names : Names). tree r.own names) (no_dir levels arena image entries meta (tops 1))

-- the world of such an image
abbrev pub built_world : Super → RootBlock → World
built_world s r = record {
  active = record { root = node_of (stat_in r.own) (Dir no_names) };
  low = s.low;
  high = s.high;
  snaps = [];
  archives = [];
  pending = s.pending;
  next = s.numbers;
  halted = false;
  exclusive = [];
}

-- What `fo_sound` says of an image with no file and no snapshot gives that it is sound, and its world.
pub built_opens : {device vault : List Block} {s : Super} {root : RootBlock} (arena : Arena) → HasSizes device vault → IsArena vault 0 → IsBuilt s root → built.IsSound device s root → OpensAs device vault (built_world s root)
built_opens {device} {vault} {s} {root} arena sizes vault_is is sound = record {
  arena = arena;
  s = s;
  active = kept;
  older = [];
  image = image arena device root s.active apart sound.active.block is.entries is.meta;
  sound = record {
    sizes = sizes;
    vault_is = vault_is;
    formatted = sound.formatted;
    root = sound.active;
    at = refl;
    named = super;
    chain = (sound.active.epoch ∙ sym sound.chain.reached, is.alone);
    table = sound.table;
    tree = alone_sound arena device root s.active apart sound.active.block is.entries is.meta s.numbers sound.depths.entries sound.depths.meta sound.entries;
    trees = tt;
    last = is.last;
  };
  is = ap (λ (t : Tree). world t) (sym (alone_tree arena device root s.active apart sound.active.block is.entries is.meta));
}
  where
    kept : Kept
    kept = record { at = s.active; root = root }

    apart : s.active ≢ 1
    apart e = let from = sound.active.place.from in omega (arith, e, from)

    super : (image arena device root s.active apart sound.active.block is.entries is.meta 1).slot 0 ≡ to_block s.active
    super = named arena device root s.active apart sound.active.block is.entries is.meta

    world : Tree → World
    world t = record { active = t; low = s.low; high = s.high; snaps = []; archives = []; pending = s.pending; next = s.numbers; halted = false; exclusive = [] }

-- ---- devices that were just formatted

module _ {device : List Block} {time : ℕ} (fresh : IsFresh time device) where
  has_table : HasTable device
  has_table = record {
    labels = λ address here. ⊎_elim
        (λ same. (root_label (fresh_super (length device)), subst (λ (n : ℕ). HasLabel device n (root_label (fresh_super (length device)))) (sym same) fresh.root_label))
        (λ apart. (free_label, fresh.free address here apart))
        (cases_eq address (first_data (length device)));
    others = fresh.others;
    rests = fresh.rests;
  }

  sound_at : {vault : List Block} → HasSizes device vault → built.IsSound device (fresh_super (length device)) (fresh_root time)
  sound_at sizes = record {
    formatted = fresh.formatted;
    active = record {
      epochs = record { order = omega arith; pending = inl refl };
      place = record { from = omega arith; to = omega (arith, sizes.main_least, sizes.main_most) };
      label = fresh.root_label;
      block = fresh.root;
      epoch = refl;
    };
    chain = record { reached = refl };
    table = has_table;
    depths = record { entries = omega arith; meta = omega arith };
    entries = record { entries_active = refl; entries_dir = refl; entries_tag = refl; meta_active = refl; meta_dir = refl; meta_tag = refl };
    numbers = record { below = omega arith };
  }

  fresh_built : IsBuilt (fresh_super (length device)) (fresh_root time)
  fresh_built = record { alone = omega arith; last = refl; entries = refl; meta = refl }

-- Devices that were just formatted are sound, and are opened as the empty world.
pub fresh_opens : {device vault : List Block} {time : ℕ} (arena : Arena) → HasSizes device vault → IsArena vault 0 → IsFresh time device → OpensAs device vault (fresh_world time)
fresh_opens arena sizes vault_is fresh = built_opens arena sizes vault_is (fresh_built fresh) (sound_at fresh sizes)

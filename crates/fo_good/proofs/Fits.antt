-- The worlds that images show are within the limits, whatever the image.
use Rattle.std.proofs.Common.{◌≡◌, ℕ, ◌+◌, ◌*◌, ◌≤◌, zero, suc, Bool, true, false, cond, List, [], ◌∷◌, ◌++◌, length, drop, refl, sym, subst, arith, if◌then◌else◌}
use Rattle.std.specs.Prelude.{◌&&◌, nat_lt, nat_le}
use Rattle.std.specs.List.{All, AllByRecursion, flat_map, filter, range_with_len}
use Rattle.std.proofs.lemmas.Bool.{ltb-true, leb-true}
use Rattle.std.proofs.lemmas.List.Elements.{All-nil, All-push}
use Rattle.fo_world.specs.of_base.Text.{is_text, IsText}
use Rattle.fo_sound.specs.of_disk.Disk.{Block}
use Rattle.fo_image.specs.declared.types.Super.{Super}
use Rattle.fo_image.specs.declared.record.Record.{Record}
use Rattle.fo_image.specs.Field.{Two, number_at}
use Rattle.fo_image.specs.Record.{SpellsRoot}
use Rattle.fo_crash.specs.Images.{Image, Arena, Link, bytes_at, leaf_path, entry_of}
use Rattle.fo_world.specs.declared.tree.Node.{Node}
use Rattle.fo_world.specs.declared.tree.Body.{Body}
use Rattle.fo_world.specs.declared.tree.Body.TheVariants.{File, Dir}
use Rattle.fo_world.specs.Names.{Names, no_names, file, folder}
use Rattle.fo_world.specs.Tree.{node_of, and_node, put_name, comes_before}
use Rattle.fo_world.specs.Step.{is_dir_mode}
use Rattle.fo_world.specs.Limits.{IsName, IsUser}
use Rattle.fo_world.specs.World.{World}
use Rattle.fo_world.specs.Fits.{StatFits, NamesFit, BodyFits, NodeFits, SnapFits, ArchiveFits, WorldFits}
use Rattle.fo_world.proofs.Texts.{user-adm}
use Rattle.fo_sound.specs.Image.{block_of}
use Rattle.fo_good.specs.Trees.{size_of}
use Rattle.fo_good.specs.Sound.{Kept, IsChain}
use Rattle.fo_good.specs.Reading.{is_text_within, is_allowed, record_at, leaf_records, records_from, leaves_in, dir_records, stat_in, source_in, body_in, names_in, dir_in, levels, no_record, own_record, root_node, tree_of}
use Rattle.fo_good.specs.Opened.{snaps_of, world_of, OpensAs}

and_left : (a b : Bool) → (a && b) ≡ true → a ≡ true
and_left true b e = refl
and_left false b e = cc

and_right : (a b : Bool) → (a && b) ≡ true → b ≡ true
and_right true b e = e
and_right false b e = cc

-- ---- records

record TextFits (limit : ℕ) (bytes : List ℕ) : Type 0 where
  some : 1 ≤ length bytes
  short : length bytes ≤ limit
  text : IsText bytes

text_fits : (limit : ℕ) (bytes : List ℕ) → is_text_within limit bytes ≡ true → TextFits limit bytes
text_fits limit bytes e =
    let some = nat_lt 0 (length bytes) in
    let short = nat_le (length bytes) limit in
    let front : (some && short) ≡ true = and_left (some && short) (is_text bytes) e in
    record {
      some = let lt = ltb-true 0 (length bytes) (and_left some short front) in omega (arith, lt);
      short = leb-true (length bytes) limit (and_right some short front);
      text = and_right (some && short) (is_text bytes) e;
    }

user_fits : (bytes : List ℕ) → is_text_within 64 bytes ≡ true → IsUser bytes
user_fits bytes e = let t = text_fits 64 bytes e in record { some = t.some; short = t.short; text = t.text }

record RecordFits (r : Record) : Type 0 where
  name : IsName r.name
  stat : StatFits (stat_in r)

record_fits : (r : Record) → is_allowed r ≡ true → RecordFits r
record_fits r e =
    let name = is_text_within 255 r.name in
    let uid = is_text_within 64 r.uid in
    let gid = is_text_within 64 r.gid in
    let muid = is_text_within 64 r.muid in
    let three : (name && uid && gid) ≡ true = and_left (name && uid && gid) muid e in
    let two : (name && uid) ≡ true = and_left (name && uid) gid three in
    let t = text_fits 255 r.name (and_left name uid two) in
    record {
      name = record { some = t.some; short = t.short; text = t.text };
      stat = record { uid = user_fits r.uid (and_right name uid two); gid = user_fits r.gid (and_right (name && uid) gid three); muid = user_fits r.muid (and_right (name && uid && gid) muid e) };
    }

abbrev IsAllowed : Record → Type 0
IsAllowed r = is_allowed r ≡ true

allowed-filter : (rs : List Record) → AllByRecursion IsAllowed (filter is_allowed rs)
allowed-filter [] = tt
allowed-filter (r ∷ rs) = go (is_allowed r) refl (allowed-filter rs)
  where
    go : (b : Bool) → is_allowed r ≡ b → AllByRecursion IsAllowed (filter is_allowed rs) → AllByRecursion IsAllowed (cond b (r ∷ filter is_allowed rs) (filter is_allowed rs))
    go true e rest = (e, rest)
    go false e rest = rest

allowed-append : (rs qs : List Record) → AllByRecursion IsAllowed rs → AllByRecursion IsAllowed qs → AllByRecursion IsAllowed (rs ++ qs)
allowed-append [] qs p q = q
allowed-append (r ∷ rs) qs p q = (p.0, allowed-append rs qs p.1 q)

allowed-flat_map : (f : ℕ → List Record) (ks : List ℕ) → ((k : ℕ) → AllByRecursion IsAllowed (f k)) → AllByRecursion IsAllowed (flat_map f ks)
allowed-flat_map f [] each = tt
allowed-flat_map f (k ∷ ks) each = allowed-append (f k) (flat_map f ks) (each k) (allowed-flat_map f ks each)

allowed-dir : (arena : Arena) (image : Image) (meta : Link) → AllByRecursion IsAllowed (dir_records arena image meta)
allowed-dir arena image meta =
    let leaf : ℕ → List ℕ = λ k. bytes_at arena image meta (leaf_path meta.slot k) in
    allowed-flat_map (λ k. leaf_records (leaf k)) (range_with_len 0 (leaves_in (size_of meta.slot))) (λ k. allowed-filter (records_from (number_at Two 0 (leaf k)) (drop 4 (leaf k))))

-- ---- trees

and_node_fits : (k : List ℕ) (n : Node) → IsName k → NodeFits n → (rest : Names) → NamesFit rest → NamesFit (and_node k n rest)
and_node_fits k n is fits rest h = go n.body fits.body
  where
    go : (body : Body) → BodyFits body → NamesFit (and_node k (record n { body = body }) rest)
    go (File bytes) b = (is, record { uid = fits.stat.uid; gid = fits.stat.gid; muid = fits.stat.muid }, h)
    go (Dir names) b = (is, record { uid = fits.stat.uid; gid = fits.stat.gid; muid = fits.stat.muid }, b, h)

put_name_fits : (k : List ℕ) (n : Node) → IsName k → NodeFits n → (names : Names) → NamesFit names → NamesFit (put_name k n names)
put_name_fits k n is fits no_names h = and_node_fits k n is fits no_names tt
put_name_fits k n is fits (file name stat bytes rest) h = go (comes_before k name) (put_name_fits k n is fits rest h.2)
  where
    go : (b : Bool) → NamesFit (put_name k n rest) → NamesFit (if b then and_node k n (file name stat bytes rest) else file name stat bytes (put_name k n rest))
    go true ih = and_node_fits k n is fits (file name stat bytes rest) h
    go false ih = (h.0, h.1, ih)
put_name_fits k n is fits (folder name stat inside rest) h = go (comes_before k name) (put_name_fits k n is fits rest h.3)
  where
    go : (b : Bool) → NamesFit (put_name k n rest) → NamesFit (if b then and_node k n (folder name stat inside rest) else folder name stat inside (put_name k n rest))
    go true ih = and_node_fits k n is fits (folder name stat inside rest) h
    go false ih = (h.0, h.1, h.2, ih)

body_fits : (names : Link → Link → Names) (arena : Arena) (image : Image) (entries : Link) (r : Record) → ((e m : Link) → NamesFit (names e m)) → BodyFits (body_in names arena image entries r)
body_fits names arena image entries r below = go (is_dir_mode r.mode)
  where
    go : (b : Bool) → BodyFits (if b then Dir (names (entry_of arena image entries (2 * r.slot)) (entry_of arena image entries (2 * r.slot + 1))) else File (source_in arena image (entry_of arena image entries (2 * r.slot))))
    go true = below (entry_of arena image entries (2 * r.slot)) (entry_of arena image entries (2 * r.slot + 1))
    go false = tt

names_fit : (names : Link → Link → Names) (arena : Arena) (image : Image) (entries : Link) → ((e m : Link) → NamesFit (names e m)) → (rs : List Record) → AllByRecursion IsAllowed rs → NamesFit (names_in names arena image entries rs)
names_fit names arena image entries below [] h = tt
names_fit names arena image entries below (r ∷ rs) h =
    let f = record_fits r h.0 in
    put_name_fits r.name (node_of (stat_in r) (body_in names arena image entries r)) f.name (record { stat = f.stat; body = body_fits names arena image entries r below }) (names_in names arena image entries rs) (names_fit names arena image entries below rs h.1)

pub dir_fits : (levels : ℕ) (arena : Arena) (image : Image) (entries meta : Link) → NamesFit (dir_in levels arena image entries meta)
unfolding dir_in
dir_fits zero arena image entries meta = tt
dir_fits (suc levels) arena image entries meta = names_fit (dir_in levels arena image) arena image entries (dir_fits levels arena image) (dir_records arena image meta) (allowed-dir arena image meta)

own_fits : (block : List ℕ) → StatFits (stat_in (own_record block))
own_fits block = go (record_at (drop 104 block))
  where
    by : (r : Record) (b : Bool) → is_allowed r ≡ b → StatFits (stat_in (if b then r else no_record))
    by r true e = (record_fits r e).stat
    by r false e = record { uid = user-adm; gid = user-adm; muid = user-adm }

    go : (r : Record) → StatFits (stat_in (if is_allowed r then r else no_record))
    go r = by r (is_allowed r) refl

-- the tree of any block of any image
pub root_fits : (arena : Arena) (image : Image) (at : ℕ) → NodeFits (root_node arena image at)
root_fits arena image at = record { stat = own_fits ((image at).bytes); body = dir_fits levels arena image _ _ }

-- ---- worlds

snaps_fit : (arena : Arena) (device : List Block) (image : Image) (low : ℕ) (k : Kept) (older : List Kept) → SpellsRoot k.root (block_of device k.at) → IsChain device low k older → All SnapFits (snaps_of arena image k older)
snaps_fit arena device image low k [] spelled chain = All-nil SnapFits
snaps_fit arena device image low k (next ∷ rest) spelled chain =
    All-push SnapFits (snaps_of arena image next rest) (record { epoch = next.root.epoch; time = k.root.time; tree = tree_of arena image next.at })
    (snaps_fit arena device image low next rest chain.0.spelled chain.1)
    (record { epoch = chain.0.spelled.holds.epoch_is.1; time = spelled.fit.1.1.0; tree = root_fits arena image next.at })

chain_fits : (arena : Arena) (device : List Block) (image : Image) (s : Super) (active : Kept) (older : List Kept) → SpellsRoot active.root (block_of device active.at) → IsChain device s.low active older → WorldFits (world_of arena image s active older)
chain_fits arena device image s active older spelled chain = record {
  active = root_fits arena image active.at;
  snaps = snaps_fit arena device image s.low active older spelled chain;
  archives = All-nil ArchiveFits;
}

-- A world that devices are opened as is within the limits.
pub world_fits : {device vault : List Block} {w : World} → OpensAs device vault w → WorldFits w
world_fits {device} o = subst WorldFits (sym o.is) (chain_fits o.arena device o.image o.s o.active o.older (subst (λ at. SpellsRoot o.active.root (block_of device at)) (sym o.sound.at) o.sound.root.block) o.sound.chain)

-- The files of a directory's records.
use Rattle.std.proofs.Common.{◌≡◌, ◌∙◌, ℕ, ◌-◌, ◌*◌, ◌+◌, Bool, true, false, cond, List, Option, Some, None, refl, sym, ap, subst}
use Rattle.fo_image.specs.declared.record.Record.{Record}
use Rattle.fo_crash.specs.Images.{Link}
use Rattle.fo_world.specs.declared.tree.Node.{Node}
use Rattle.fo_world.specs.declared.tree.Body.{Body}
use Rattle.fo_world.specs.declared.tree.Body.TheVariants.{File, Dir}
use Rattle.fo_world.specs.Tree.{first, child}
use Rattle.fo_world.specs.Step.{is_dir_mode}
use Rattle.fo_good.specs.Reading.{dir_in, source_in}
use Rattle.fo_vac_open.specs.Tree.{no_image}
use Rattle.fo_vac_walk.specs.declared.source.Source.{Source}
use Rattle.fo_vac_walk.specs.Walk.{Holding, blocks_of, entry_at, Leading}
use Rattle.fo_vac_dir.specs.declared.folder.Folder.{Folder}
use Rattle.fo_vac_dir.specs.declared.choice.Wanted.TheVariants.{Number}
use Rattle.fo_vac_dir.specs.Choice.{test_of}
use Rattle.fo_vac_dir.specs.Dir.{IsAmong, records_of, names_of, Finds}
use Rattle.fo_vac_files.specs.declared.reach.Inside.{Inside}
use Rattle.fo_vac_files.specs.declared.reach.Inside.TheVariants as inside
use Rattle.fo_vac_files.specs.declared.reach.Reached.{Reached}
use Rattle.fo_vac_files.specs.declared.opened.Opened.{Opened}
use Rattle.fo_vac_files.specs.Broken.{below}
use Rattle.fo_vac_files.specs.Stands.{DirIs, DirBody, HasInside, Stands, NodeAt, Picks}
use Rattle.fo_vac_files.proofs.Clean.{led}

pub entered_dir : (h : Holding) (o : Opened) (folder : Folder) (entries meta : Link) (r : Record) (under : Folder) → DirIs h o folder entries meta → IsAmong (records_of h meta) r → is_dir_mode r.mode ≡ true
    → Leading h entries folder.entries.holder (entry_at h entries (2 * r.slot)) under.entries.entry under.entries.holder → Leading h entries folder.entries.holder (entry_at h entries (2 * r.slot + 1)) under.meta.entry under.meta.holder
    → under.levels ≡ folder.levels - 1 → NodeAt h o folder entries r (record { named = r; inside = inside.Dir under })
entered_dir h o folder entries meta r under d among mode first second fewer =
    let one = entry_at h entries (2 * r.slot) in
    let two = entry_at h entries (2 * r.slot + 1) in
    let names = dir_in (folder.levels - 1) (blocks_of h) no_image one two in
    let bytes = source_in (blocks_of h) no_image one in
    record {
      body = cond (is_dir_mode r.mode) (Dir names) (File bytes);
      is = refl;
      has = record {
        entries = one;
        meta = two;
        is = record { entries_are = led h o entries folder.entries one under.entries d.entries_are first; meta_is = led h o entries folder.entries two under.meta d.entries_are second; is = below entries meta r d.is among mode };
        names = ap (λ b. cond b (Dir names) (File bytes)) mode ∙ ap (λ n. Dir (dir_in n (blocks_of h) no_image one two)) (sym fewer);
      };
    }

pub entered_file : (h : Holding) (o : Opened) (folder : Folder) (entries meta : Link) (r : Record) (source : Source) → DirIs h o folder entries meta → is_dir_mode r.mode ≡ false
    → Leading h entries folder.entries.holder (entry_at h entries (2 * r.slot)) source.entry source.holder → NodeAt h o folder entries r (record { named = r; inside = inside.File source })
entered_file h o folder entries meta r source d mode first =
    let one = entry_at h entries (2 * r.slot) in
    let two = entry_at h entries (2 * r.slot + 1) in
    let names = dir_in (folder.levels - 1) (blocks_of h) no_image one two in
    let bytes = source_in (blocks_of h) no_image one in
    record {
      body = cond (is_dir_mode r.mode) (Dir names) (File bytes);
      is = refl;
      has = record {
        link = one;
        is = led h o entries folder.entries one source d.entries_are first;
        bytes = ap (λ b. cond b (Dir names) (File bytes)) mode;
      };
    }

-- ---- what is picked

pub picked : (h : Holding) (o : Opened) (test : List ℕ → ℕ → Bool) (folder : Folder) (entries meta : Link) (r : Record) (f : Reached) → Finds h test folder.levels entries meta (Some r) → NodeAt h o folder entries r f
    → Picks h o (first test (names_of h folder.levels entries meta)) (Some f)
picked h o test folder entries meta r f found at = subst (λ there. Picks h o there (Some f)) (sym found.is) at

pub none_picked : (h : Holding) (o : Opened) (test : List ℕ → ℕ → Bool) (folder : Folder) (entries meta : Link) → Finds h test folder.levels entries meta None → Picks h o (first test (names_of h folder.levels entries meta)) None
none_picked h o test folder entries meta found = subst (λ there. Picks h o there None) (sym found.is) tt

-- ---- one step down

pub body_of : (h : Holding) (o : Opened) (f : Reached) (n : List ℕ × Node) (s : Stands h o f n) → n.1.body ≡ s.body
body_of h o f n s = ap (λ (m : List ℕ × Node). m.1.body) s.is

pub as_folder : (h : Holding) (o : Opened) (f : Reached) (n : List ℕ × Node) (folder : Folder) (s : Stands h o f n) → f.inside ≡ inside.Dir folder → DirBody h o folder s.body
as_folder h o f n folder s is = subst (λ (i : Inside). HasInside h o i s.body) is s.has

pub names_at : (h : Holding) (o : Opened) (f : Reached) (n : List ℕ × Node) (folder : Folder) (s : Stands h o f n) (is : f.inside ≡ inside.Dir folder)
    → n.1.body ≡ Dir (names_of h folder.levels (as_folder h o f n folder s is).entries (as_folder h o f n folder s is).meta)
names_at h o f n folder s is = body_of h o f n s ∙ (as_folder h o f n folder s is).names

pub bytes_at : (h : Holding) (o : Opened) (f : Reached) (n : List ℕ × Node) (source : Source) (s : Stands h o f n) → f.inside ≡ inside.File source → HasInside h o (inside.File source) n.1.body
bytes_at h o f n source s is = subst (HasInside h o (inside.File source)) (sym (body_of h o f n s)) (subst (λ (i : Inside). HasInside h o i s.body) is s.has)

pub no_child : (h : Holding) (o : Opened) (f : Reached) (n : List ℕ × Node) (source : Source) (k : ℕ) → Stands h o f n → f.inside ≡ inside.File source → child k n.1.body ≡ None
no_child h o f n source k s is = ap (child k) (bytes_at h o f n source s is).bytes

pub child_picked : (h : Holding) (o : Opened) (k : ℕ) (body : Body) (folder : Folder) (entries meta : Link) (found : Option Reached) → body ≡ Dir (names_of h folder.levels entries meta)
    → Picks h o (first (test_of (Number k)) (names_of h folder.levels entries meta)) found → Picks h o (child k body) found
child_picked h o k body folder entries meta found is p = subst (λ b. Picks h o (child k b) found) (sym is) p

pub none_there : (h : Holding) (o : Opened) (there : Option (List ℕ × Node)) → Picks h o there None → there ≡ None
none_there h o None p = refl
none_there h o (Some n) p = absurd p

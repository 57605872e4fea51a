-- How goodness lasts: with more stale files, with more in doubt, where nothing changes, and over steps one after another.
use Rattle.std.proofs.Common.{◌≡◌, ◌⊎◌, ⊎_elim, ◌<◌, ◌≤◌, Bool, true, false, ◌||◌, List, length, refl, sym, ap, inl, inr, subst}
use Rattle.fo_sound.specs.of_disk.Disk.{Block, IsImage, EachImage}
use Rattle.fo_sound.proofs.of_disk.Moments.{started}
use Rattle.fo_world.specs.declared.tree.Node.{Node}
use Rattle.fo_world.specs.World.{World}
use Rattle.fo_good.specs.Touched.{Files, either, no_file, AreAmong, KeepsFiles}
use Rattle.fo_good.specs.Good.{Values, values_of, world_values, Good, Stands, AllGood, GoodWithin, KeepsGood, Steps, Tell, ShowsAll, reached}
use Rattle.fo_good.specs.Good.Steps.{none as at_once, step as one_more, sync as synced}

-- ---- sets of files

pub among_left : (a b : Files) → AreAmong a (either a b)
among_left a b = record { each = λ trail h. by (a trail) (b trail) h }
  where
    by : (x y : Bool) → x ≡ true → (x || y) ≡ true
    by true y h = refl
    by false y h = cc

pub among_joins : {a b c : Files} → AreAmong a b → AreAmong b c → AreAmong a c
among_joins p q = record { each = λ trail h. q.each trail (p.each trail h) }

not_more : (x y : Bool) → (x ≡ true → y ≡ true) → y ≡ false → x ≡ false
not_more false y h e = refl
not_more true y h e = let same : y ≡ true = h refl in cc

pub files_more : {stale more : Files} {root other : Node} → AreAmong stale more → KeepsFiles stale root other → KeepsFiles more root other
files_more {stale} {more} among keeps = record { each = λ trail fresh. keeps.each trail (not_more (stale trail) (more trail) (among.each trail) fresh) }

-- ---- images

-- With more stale files and more in doubt an image is still good.
pub good_more : {w : World} {stale more : Files} {doubt doubts : Values → Type 0} {device vault : List Block} → AreAmong stale more → ((v : Values) → doubt v → doubts v) → Good w stale doubt device vault → Good w more doubts device vault
good_more among less g = record {
  arena = g.arena;
  s = g.s;
  active = g.active;
  older = g.older;
  image = g.image;
  sound = g.sound;
  values = ⊎_elim (λ e. inl e) (λ d. inr (less (values_of g.s) d)) g.values;
  snaps = g.snaps;
  files = files_more among g.files;
  archives = g.archives;
  numbers = g.numbers;
}

pub all_more : {s : Stands} {stale more : Files} → AreAmong stale more → AllGood s stale → AllGood s more
all_more among all = record { each = λ device vault is is_vault. good_more among (λ v d. d) (all.each device vault is is_vault) }

-- ---- steps

-- Where nothing changes, all images stay good.
pub nothing_keeps : (s : Stands) → Tell s → KeepsGood s s s.world
nothing_keeps s tell = record {
  within = λ stale all. record {
    second = started (λ vault. 0 < length s.main.holds → EachImage (λ device. Within stale device vault) s.main.holds) tell.arena.1 (λ told vault is_vault some device is. inl (good stale all device vault is is_vault));
    first = started (λ device. 0 < length s.arena.holds → EachImage (λ vault. Within stale device vault) s.arena.holds) tell.main.1 (λ told device is some vault is_vault. inl (good stale all device vault is is_vault));
  };
  after = λ stale all. all_more (among_left stale (reached s s.world)) all;
}
  where
    Within : Files → List Block → List Block → Type 0
    Within stale = GoodWithin s s (either stale (reached s s.world)) s.world

    good : (stale : Files) → AllGood s stale → (device vault : List Block) → IsImage s.main.holds device → IsImage s.arena.holds vault → Good s.world (either stale (reached s s.world)) (λ v. s.doubt v ⊎ (v ≡ world_values s.world)) device vault
    good stale all device vault is is_vault = good_more (among_left stale (reached s s.world)) (λ v d. inl d) (all.each device vault is is_vault)

-- Two steps one after the other: what both touch is stale.
pub both_keep : {s s' s'' : Stands} {goal goal' : World} → KeepsGood s s' goal → KeepsGood s' s'' goal' → (stale : Files) → AllGood s stale → AllGood s'' (either (either stale (reached s goal)) (reached s' goal'))
both_keep {s = s} {goal = goal} first second stale all = second.after (either stale (reached s goal)) (first.after stale all)

-- Over steps one after another the stale set grows by what each touches, and an acknowledged sync empties it.
pub steps_keep : {s s' : Stands} {stale stale' : Files} → Steps s stale s' stale' → AllGood s stale → AllGood s' stale'
steps_keep (at_once s stale) all = all
steps_keep (one_more s s' s'' goal stale stale'' keeps rest) all = steps_keep rest (keeps.after stale all)
steps_keep (synced s s' s'' stale stale'' settles rest) all = steps_keep rest (settles.after stale all)

-- ---- nothing stale

-- A good image where nothing is stale and nothing in doubt shows the world in all.
pub shows_all : {w : World} {device vault : List Block} → Good w no_file (λ v. ⊥) device vault → ShowsAll w device vault
shows_all {w} g = record {
  arena = g.arena;
  s = g.s;
  active = g.active;
  older = g.older;
  image = g.image;
  sound = g.sound;
  epochs = (ap (λ (v : Values). v.low) same, ap (λ (v : Values). v.high) same, ap (λ (v : Values). v.pending) same);
  files = λ trail. g.files.each trail refl;
  snaps = λ kept has above. g.snaps kept has (subst (λ n. n ≤ kept.epoch) (sym (ap (λ (v : Values). v.low) same)) above);
  numbers = g.numbers;
}
  where
    same : values_of g.s ≡ world_values w
    same = ⊎_elim (λ e. e) (λ no. absurd no) g.values

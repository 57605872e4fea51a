-- An image in which one file was changed shows the tree that the file step makes.
use Rattle.std.proofs.Common.{◌≡◌, ◌∙◌, ℕ, suc, Bool, true, cond, List, ◌++◌, sym, ap, subst}
use Rattle.fo_image.specs.declared.record.Record.{Record}
use Rattle.fo_crash.specs.Images.{Arena, Image}
use Rattle.fo_world.specs.declared.tree.Node.{Node}
use Rattle.fo_world.specs.declared.tree.Body.TheVariants.{File, Dir}
use Rattle.fo_world.specs.Names.{Names}
use Rattle.fo_world.specs.Tree.{node_of, put_name, change_first, change_along, change_names}
use Rattle.fo_good.specs.Reading.{dir_in, names_in, source_in, root_node, levels}
use Rattle.fo_files_world.specs.Spots.{Spot, spot_of, root_spot, body_of, node_at}
use Rattle.fo_files_world.specs.Same.{LackName, ChangesOne, Changed}
use Rattle.fo_files_world.specs.Same.Changed.{here, below}
use Rattle.fo_files_world.proofs.Puts.{names_put, names_change, lack_front}
use Rattle.fo_files_world.proofs.Same.{same_names, same_dir}

module _ (arena : Arena) (image other : Image) where
  -- the names of a directory in which one file became what a function makes of it
  changed_dir : (n k : ℕ) (h : Node → Node) (s t : Spot) (old new : Record) → ChangesOne arena image other n k s t old new
      → (node_at arena other n (spot_of arena other t.first new)).1 ≡ h ((node_at arena image n (spot_of arena image s.first old)).1)
      → dir_in (suc n) arena other t.first t.second ≡ change_first k h (dir_in (suc n) arena image s.first s.second)
  unfolding dir_in
  changed_dir n k h s t old new one is =
      let lack : LackName new.name one.front = subst (λ x. LackName x one.front) (sym one.name) (lack_front old.name one.front one.back (subst (LackName old.name) one.rest one.apart)) in
      let same : names_in (dir_in n arena other) arena other t.first (one.front ++ one.back) ≡ names_in (dir_in n arena image) arena image s.first (one.before ++ one.after)
      = sym (same_names arena image other n (same_dir arena image other n) s.first t.first (one.before ++ one.after) one.same ∙ ap (names_in (dir_in n arena other) arena other t.first) one.rest) in
      let name = one.name in
      ap (names_in (dir_in n arena other) arena other t.first) one.is
      ∙ names_put (dir_in n arena other) arena other t.first one.front one.back new lack
      ∙ (λ i. put_name (name i) (is i) (same i))
      ∙ sym (ap (λ rs. change_first k h (names_in (dir_in n arena image) arena image s.first rs)) one.was ∙ names_change (dir_in n arena image) arena image s.first k h one.before one.after old one.number one.alone one.apart)

  -- a directory whose names became what a function makes of them
  pub dir_body : (n : ℕ) (g : Names → Names) (s t : Spot) → s.dir ≡ true → t.dir ≡ true
      → dir_in (suc n) arena other t.first t.second ≡ g (dir_in (suc n) arena image s.first s.second)
      → body_of arena other (suc n) t ≡ change_names g (body_of arena image (suc n) s)
  dir_body n g s t from to is =
      ap (λ (d : Bool). cond d (Dir (dir_in (suc n) arena other t.first t.second)) (File (source_in arena other t.first))) to
      ∙ ap Dir is
      ∙ sym (ap (λ (d : Bool). change_names g (cond d (Dir (dir_in (suc n) arena image s.first s.second)) (File (source_in arena image s.first)))) from)

  -- what was changed along a trail is what the file step makes of the tree
  pub changed_along : (f : Node → Node) (n : ℕ) (trail : List ℕ) (s t : Spot) → Changed arena image other f n trail s t → (node_at arena other n t).1 ≡ change_along trail f ((node_at arena image n s).1)
  changed_along f n trail s t (here m x y is) = is
  changed_along f n trail s t (below m k ks x y old new from to stat one rest) =
      let ih = changed_along f m ks (spot_of arena image x.first old) (spot_of arena other y.first new) rest in
      let body = dir_body m (change_first k (change_along ks f)) x y from to (changed_dir m k (change_along ks f) x y old new one ih) in
      λ i. node_of (sym stat i) (body i)

  pub changed_root : (f : Node → Node) (trail : List ℕ) (root root' : ℕ) → Changed arena image other f levels trail (root_spot arena image root) (root_spot arena other root') → root_node arena other root' ≡ change_along trail f (root_node arena image root)
  changed_root f trail root root' changed = changed_along f levels trail (root_spot arena image root) (root_spot arena other root') changed

-- A directory in which a record was added or taken out, and whose own record was touched, is what the file step makes of it.
use Rattle.std.proofs.Common.{◌≡◌, ◌∙◌, ℕ, suc, true, List, ◌++◌, sym, ap}
use Rattle.fo_image.specs.declared.record.Record.{Record}
use Rattle.fo_crash.specs.Images.{Arena, Image}
use Rattle.fo_world.specs.Tree.{node_of, put_name, without, with_name, without_name}
use Rattle.fo_good.specs.Reading.{dir_in, names_in, stat_in}
use Rattle.fo_files_world.specs.Spots.{Spot, spot_of, node_at}
use Rattle.fo_files_world.specs.Same.{touched_stat, AddsRecord, TakesRecord}
use Rattle.fo_files_world.proofs.Puts.{names_put, names_without}
use Rattle.fo_files_world.proofs.Same.{same_names, same_dir}
use Rattle.fo_files_world.proofs.Changed.{dir_body}

module _ (arena : Arena) (image other : Image) where
  names_added : (n : ℕ) (s t : Spot) (new : Record) → AddsRecord arena image other n s t new
      → dir_in (suc n) arena other t.first t.second ≡ put_name new.name ((node_at arena other n (spot_of arena other t.first new)).1) (dir_in (suc n) arena image s.first s.second)
  unfolding dir_in
  names_added n s t new adds =
      ap (names_in (dir_in n arena other) arena other t.first) adds.is
      ∙ names_put (dir_in n arena other) arena other t.first adds.front adds.back new adds.apart
      ∙ ap (put_name new.name ((node_at arena other n (spot_of arena other t.first new)).1))
      (sym (ap (names_in (dir_in n arena image) arena image s.first) adds.was ∙ same_names arena image other n (same_dir arena image other n) s.first t.first (adds.front ++ adds.back) adds.same))

  names_taken : (n : ℕ) (s t : Spot) (old : Record) → TakesRecord arena image other n s t old
      → dir_in (suc n) arena other t.first t.second ≡ without old.name (dir_in (suc n) arena image s.first s.second)
  unfolding dir_in
  names_taken n s t old takes =
      ap (names_in (dir_in n arena other) arena other t.first) takes.is
      ∙ sym (same_names arena image other n (same_dir arena image other n) s.first t.first (takes.before ++ takes.after) takes.same)
      ∙ sym (ap (λ rs. without old.name (names_in (dir_in n arena image) arena image s.first rs)) takes.was ∙ names_without (dir_in n arena image) arena image s.first takes.before takes.after old takes.apart)

  -- a file that was made
  pub made_is : (n : ℕ) (s t : Spot) (new : Record) (who : List ℕ) (now : ℕ) → s.dir ≡ true → t.dir ≡ true → stat_in t.named ≡ touched_stat who now (stat_in s.named) → AddsRecord arena image other n s t new
      → (node_at arena other (suc n) t).1 ≡ with_name new.name ((node_at arena other n (spot_of arena other t.first new)).1) who now ((node_at arena image (suc n) s).1)
  made_is n s t new who now from to stat adds =
      let body = dir_body arena image other n (put_name new.name ((node_at arena other n (spot_of arena other t.first new)).1)) s t from to (names_added n s t new adds) in
      λ i. node_of (stat i) (body i)

  -- a file that was taken out
  pub taken_is : (n : ℕ) (s t : Spot) (old : Record) (who : List ℕ) (now : ℕ) → s.dir ≡ true → t.dir ≡ true → stat_in t.named ≡ touched_stat who now (stat_in s.named) → TakesRecord arena image other n s t old
      → (node_at arena other (suc n) t).1 ≡ without_name old.name who now ((node_at arena image (suc n) s).1)
  taken_is n s t old who now from to stat takes =
      let body = dir_body arena image other n (without old.name) s t from to (names_taken n s t old takes) in
      λ i. node_of (stat i) (body i)

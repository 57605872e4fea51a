-- The table of users as it is looked for.
use Rattle.std.proofs.Common.{◌≡◌, ℕ, List, ◌^◌, ◌<◌, ◌≤◌, true, false, Some, None, refl, arith}
use Rattle.std.specs.Prelude.{nat_lt, if◌then◌else◌}
use Rattle.std.proofs.lemmas.Bool.Decides.{nat_tests}
use Rattle.std.specs.Prelude.{codes, Ok, Err}
use Rattle.fo_world.specs.declared.place.View.TheVariants.{Active}
use Rattle.fo_world.specs.Step.{root_at}
use Rattle.fo_users.specs.Rights.{may}
use Rattle.fo_users.specs.declared.table.User.{User}
use Rattle.fo_users.specs.declared.right.Right.TheVariants.{Write}
use Rattle.nine_fids.specs.declared.fid.Fid.{Fid}
use Rattle.nine_fids.specs.declared.refusal.Refusal.{Refusal}
use Rattle.nine_fids.specs.declared.refusal.Refusal.TheVariants as refusal
use Rattle.fo_world.specs.declared.place.Info.{Info}
use Rattle.fo_world.specs.World.{World}
use Rattle.nine_fids.specs.Told.{Files, bytes_at, parent_at}
use Rattle.nine_fids.specs.Rights.{found, small_file, found_at, users_file, may_write_above_by}

over : {A : Type 0} (m n : ℕ) (x y : A) → m < n → (if nat_lt m n then x else y) ≡ x
over m n x y lt = let is : nat_lt m n ≡ true = grind (arith, nat_tests) in rw is refl

within : {A : Type 0} (m n : ℕ) (x y : A) → n ≤ m → (if nat_lt m n then x else y) ≡ y
within m n x y le = let is : nat_lt m n ≡ false = grind (arith, nat_tests) in rw is refl

pub big_file : (e : Files) (w : World) (i : Info) → 2 ^ 16 < i.length → small_file e w i ≡ None
unfolding small_file
big_file e w i lt = over (2 ^ 16) i.length None (found (bytes_at e w i.place 0 i.length)) lt

pub file_within : (e : Files) (w : World) (i : Info) → i.length ≤ 2 ^ 16 → small_file e w i ≡ found (bytes_at e w i.place 0 i.length)
unfolding small_file
file_within e w i le = within (2 ^ 16) i.length None (found (bytes_at e w i.place 0 i.length)) le

-- ---- /adm/users

pub no_adm : (e : Files) (w : World) → found_at e w (root_at Active) (codes "adm") ≡ None → users_file e w ≡ None
unfolding users_file
no_adm e w h = rw h refl

pub no_users : (e : Files) (w : World) (dir : Info) → found_at e w (root_at Active) (codes "adm") ≡ Some dir → found_at e w dir.place (codes "users") ≡ None → users_file e w ≡ None
unfolding users_file
no_users e w dir h k = rw (h, k) refl

pub users_there : (e : Files) (w : World) (dir i : Info) → found_at e w (root_at Active) (codes "adm") ≡ Some dir → found_at e w dir.place (codes "users") ≡ Some i → users_file e w ≡ small_file e w i
unfolding users_file
users_there e w dir i h k = rw (h, k) refl

-- ---- the right to write above

module _ (table : List User) (e : Files) (w : World) (f : Fid) where
  pub above_refused : (r : Refusal) → parent_at e w f.place ≡ Err r → may_write_above_by table e w f ≡ Err r
  unfolding may_write_above_by
  above_refused r h = rw h refl

  pub above_denied : (dir : Info) → parent_at e w f.place ≡ Ok dir → may table f.user dir Write ≡ false → may_write_above_by table e w f ≡ Err refusal.PermissionDenied
  unfolding may_write_above_by
  above_denied dir h k = rw (h, k) refl

  pub above_granted : (dir : Info) → parent_at e w f.place ≡ Ok dir → may table f.user dir Write ≡ true → may_write_above_by table e w f ≡ Ok tt
  unfolding may_write_above_by
  above_granted dir h k = rw (h, k) refl

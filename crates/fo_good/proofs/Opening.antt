-- A device that was opened has a good image, in which nothing is stale and nothing is in doubt.
use Rattle.std.proofs.Common.{◌≡◌, ℕ, true, List, Option, Some, None, refl, sym, ap, subst, inl, arith, nat_eq, Bool}
use Rattle.std.specs.Prelude.{◌&&◌}
use Rattle.std.specs.Str.{bytes_eq}
use Rattle.std.proofs.lemmas.Cmp.{nat_eq_equiv, nat_list_eq_equiv}
use Rattle.fo_sound.specs.of_disk.Disk.{Block, Content, IsImage, settled}
use Rattle.fo_sound.proofs.of_disk.Quiet.{settled-image}
use Rattle.fo_image.specs.declared.types.Score.{Score}
use Rattle.fo_world.specs.declared.tree.Node.{Node}
use Rattle.fo_world.specs.declared.tree.Body.{Body}
use Rattle.fo_world.specs.declared.tree.Body.TheVariants.{File, Dir}
use Rattle.fo_good.specs.Reading.{root_node}
use Rattle.fo_good.specs.Opened.{OpensAs}
use Rattle.fo_good.specs.Touched.{Files, file_at, same_file, same_bytes, same_stat, same_there, no_file, KeepsFiles}
use Rattle.fo_good.specs.Good.{Values, Good, Stands, AllGood}
use Rattle.fo_good.proofs.Keeps.{good_more}
use Rattle.fo_world.specs.World.{World}

same_text : (a : List ℕ) → bytes_eq a a ≡ true
same_text a = nat_list_eq_equiv.refl a

same_number : (n : ℕ) → nat_eq n n ≡ true
same_number n = nat_eq_equiv.refl n

both : {a b : Bool} → a ≡ true → b ≡ true → (a && b) ≡ true
both p q = rw (p, q) refl

same_body : (b : Body) → same_bytes b b ≡ true
same_body (File bytes) = same_text bytes
same_body (Dir names) = refl

same_node : (n : Node) → same_stat n n ≡ true
same_node n = both (both (both (both (both (both (both (same_number n.number) (same_number n.vers)) (same_number n.mode)) (same_number n.atime)) (same_number n.mtime)) (same_text n.uid)) (same_text n.gid)) (same_text n.muid)

pub same_itself : (f : List ℕ × Node) → same_file f f ≡ true
same_itself f = both (both (same_text f.0) (same_node f.1)) (same_body f.1.body)

there : (o : Option (List ℕ × Node)) → same_there o o ≡ true
there None = refl
there (Some f) = same_itself f

-- nothing is lost between a tree and itself
pub keeps_itself : (stale : Files) (root : Node) → KeepsFiles stale root root
keeps_itself stale root = record { each = λ trail fresh. there (file_at root trail) }

-- Devices that are opened as a world have a good image for it.
pub opens_good : {device vault : List Block} {w : World} → OpensAs device vault w → Good w no_file (λ v. ⊥) device vault
opens_good {device} {vault} o = subst (λ (w : World). Good w no_file (λ v. ⊥) device vault) (sym o.is) (record {
  arena = o.arena;
  s = o.s;
  active = o.active;
  older = o.older;
  image = o.image;
  sound = o.sound;
  values = inl (ap (λ (last : Option Score). let v : Values = record { low = o.s.low; high = o.s.high; pending = o.s.pending; last = last } in v) o.sound.last);
  snaps = λ kept has above. has;
  files = keeps_itself no_file (root_node o.arena o.image o.active.at);
  archives = refl;
  numbers = omega arith;
})

-- So all images of quiet devices are good when they are opened.
pub opens_all : {device vault : List Block} {s : Stands} → s.main.holds ≡ settled device → s.arena.holds ≡ settled vault → OpensAs device vault s.world → AllGood s no_file
opens_all {device} {vault} {s} main arena o = record {
  each = λ other store is is_store.
      let same : other ≡ device = settled-image (subst (λ (c : Content). IsImage c other) main is) in
      let same_store : store ≡ vault = settled-image (subst (λ (c : Content). IsImage c store) arena is_store) in
      good_more (record { each = λ trail h. h }) (λ v d. absurd d) (subst (λ (x : List Block). Good s.world no_file (λ v. ⊥) other x) (sym same_store) (subst (λ (x : List Block). Good s.world no_file (λ v. ⊥) x vault) (sym same) (opens_good o)));
}

-- Tstat and Twstat, step by step.
use Rattle.std.proofs.Common.{◌≡◌, ℕ, ◌+◌, ◌<◌, ◌≤◌, length, List, Bool, true, false, not, Option, Some, None, Result, Ok, Err, refl, sym, ap, ◌∙◌, arith}
use Rattle.std.specs.Prelude.{◌||◌, nat_lt}
use Rattle.std.proofs.lemmas.Bool.Decides.{nat_tests}
use Rattle.nine_wire.specs.declared.message.Reply.{Reply}
use Rattle.nine_wire.specs.declared.message.Reply.TheVariants as reply
use Rattle.nine_stat.specs.declared.stat.Stat.{Stat}
use Rattle.fo_world.specs.declared.place.Info.{Info}
use Rattle.fo_world.specs.declared.place.Change.{Change}
use Rattle.fo_world.specs.declared.place.Place.{Place}
use Rattle.fo_world.specs.declared.tree.Node.{Node}
use Rattle.fo_world.specs.declared.tree.Body.{Body}
use Rattle.fo_world.specs.declared.error.FileError.{FileError}
use Rattle.fo_world.specs.declared.error.FileError.TheVariants as error
use Rattle.fo_world.specs.World.{World}
use Rattle.fo_world.specs.Step as step
use Rattle.nine_fids.specs.declared.fid.Fid.{Fid}
use Rattle.nine_fids.specs.declared.refusal.Refusal.{Refusal}
use Rattle.nine_fids.specs.declared.refusal.Refusal.TheVariants as refusal
use Rattle.fo_world.specs.Chain.{and_then, refuse_if}
use Rattle.nine_fids.specs.Refusing.{changed}
use Rattle.nine_fids.specs.Fids.{State, version_of, fid_at, in_world}
use Rattle.nine_fids.specs.Told.{Files, info_at, record_of, reply_len}
use Rattle.nine_fids.specs.Rights.{table_of}
use Rattle.nine_files.specs.Granting.{allowed_change, changed_by}
use Rattle.nine_files.specs.Stating.{allowed_name, change_of, changes_fixed, changing_rights, touches, touches_fixed}
use Rattle.nine_files.proofs.Links.{past_then}
use Rattle.nine_session.specs.Stating.{is_bad_stat, restated, settled, stat, wstat}
use Rattle.nine_session.proofs.Links.{past_refuse, refuse_same, then_same}
use Rattle.nine_session.proofs.Records.{reply_length}

-- ---- Tstat

module _ (e : Files) (z : State) (fid : ℕ) where
  pub stat_no_version : (r : Refusal) → version_of z ≡ Err r → stat e z fid ≡ Err r
  unfolding stat
  stat_no_version r h = rw h refl

  pub stat_no_fid : (msize : ℕ) (r : Refusal) → version_of z ≡ Ok msize → fid_at z fid ≡ Err r → stat e z fid ≡ Err r
  unfolding stat
  stat_no_fid msize r h k = rw (h, k) refl

  pub stat_no_info : (msize : ℕ) (f : Fid) (r : Refusal) → version_of z ≡ Ok msize → fid_at z fid ≡ Ok f → info_at e z.world f.place ≡ Err r → stat e z fid ≡ Err r
  unfolding stat
  stat_no_info msize f r h k l = rw (h, k, l) refl

  pub stat_there : (msize : ℕ) (f : Fid) (i : Info) → version_of z ≡ Ok msize → fid_at z fid ≡ Ok f → info_at e z.world f.place ≡ Ok i → stat e z fid ≡ refuse_if (nat_lt msize (reply_len (reply.Stat (record_of i)))) refusal.StatTooLong (Ok (reply.Stat (record_of i), z))
  unfolding stat
  stat_there msize f i h k l = rw (h, k, l) refl

too_long : (msize n m : ℕ) → m ≡ 9 + n → msize < 9 + n → nat_lt msize m ≡ true
too_long msize n m is h = rw is (longer msize (9 + n) h)
  where
    longer : (a b : ℕ) → a < b → nat_lt a b ≡ true
    longer a b lt = grind (arith, nat_tests)

short_enough : (msize n m : ℕ) → m ≡ 9 + n → 9 + n ≤ msize → nat_lt msize m ≡ false
short_enough msize n m is h = rw is (within msize (9 + n) h)
  where
    within : (a b : ℕ) → b ≤ a → nat_lt a b ≡ false
    within a b le = grind (arith, nat_tests)

module _ (e : Files) (z : State) (fid msize : ℕ) (f : Fid) (i : Info) (n : ℕ) (h : version_of z ≡ Ok msize) (k : fid_at z fid ≡ Ok f) (l : info_at e z.world f.place ≡ Ok i) (is : n ≡ length (record_of i)) where
  pub stat_too_long : msize < 9 + n → stat e z fid ≡ Err refusal.StatTooLong
  stat_too_long lt =
      let long : nat_lt msize (reply_len (reply.Stat (record_of i))) ≡ true = too_long msize n (reply_len (reply.Stat (record_of i))) (reply_length (record_of i) ∙ ap (λ x. 9 + x) (sym is)) lt in
      stat_there e z fid msize f i h k l ∙ ap (λ b. refuse_if b refusal.StatTooLong (Ok (reply.Stat (record_of i), z))) long

  pub stat_done : 9 + n ≤ msize → stat e z fid ≡ Ok (reply.Stat (record_of i), z)
  stat_done le =
      let short : nat_lt msize (reply_len (reply.Stat (record_of i))) ≡ false = short_enough msize n (reply_len (reply.Stat (record_of i))) (reply_length (record_of i) ∙ ap (λ x. 9 + x) (sym is)) le in
      stat_there e z fid msize f i h k l ∙ ap (λ b. refuse_if b refusal.StatTooLong (Ok (reply.Stat (record_of i), z))) short

-- ---- Twstat

pub asks_same : (a a' : Bool) (c c' : Change) (b : Bool) → a ≡ a' → c ≡ c' → (a || touches c) ≡ b → (a' || touches c') ≡ b
asks_same a a' c c' b h k is = sym (ap (λ t. t || touches c) h ∙ ap (λ d. a' || touches d) k) ∙ is

nothing_given : (mode mtime length : Option ℕ) (name gid : Option (List ℕ)) (old : List ℕ) (body : Body) → touches (record { mode = mode; mtime = mtime; length = length; name = name; gid = gid }) ≡ false → step.changes_nothing (record { mode = mode; mtime = mtime; length = length; name = name; gid = gid }) old body ≡ true
nothing_given None None None None None old body h = refl
nothing_given (Some x) mtime length name gid old body h = absurd cc
nothing_given None (Some x) length name gid old body h = absurd cc
nothing_given None None (Some x) name gid old body h = absurd cc
nothing_given None None None (Some x) gid old body h = absurd cc
nothing_given None None None None (Some x) old body h = absurd cc

idle_at : (c : Change) (depth : ℕ) (t : Result (List ℕ × Node) FileError) → touches c ≡ false → step.change_need_of c depth t ≡ 0
idle_at c depth (Ok f) h = rw (nothing_given c.mode c.mtime c.length c.name c.gid f.0 f.1.body h) refl
idle_at c depth (Err e) h = refl

not_either : (a b : Bool) → (a || b) ≡ false → b ≡ false
not_either true b h = absurd cc
not_either false b h = h

-- where nothing is given, no block is needed
pub idle_need : (whole : Bool) (w : World) (at : Place) (fixed : Bool) (c : Change) → (fixed || touches c) ≡ false → step.change_need whole w at c ≡ 0
idle_need whole w at fixed c h = idle_at c (step.depth_of at) (step.reached whole w at) (not_either fixed (touches c) h)

abbrev reply_in : State → World → Result (Reply × State) Refusal
reply_in z w = Ok (reply.Wstat, in_world z w)

pub restated_chain : (e : Files) (z : State) (now : ℕ) (f : Fid) (s : Stat) (i : Info) → restated e z now f s i ≡ and_then (changed_by e z.world now f (changes_fixed s i) (change_of s) i) (λ w. Ok (reply.Wstat, in_world z w))
unfolding restated changed_by allowed_change
restated_chain e z now f s i =
    let told = changed (step.change e.whole e.largest z.world f.place (change_of s) f.user now) in
    let last : Unit {0} → Result World Refusal = λ _. and_then told (λ p. Ok p.1) in
    let end : Unit {0} → Result (Reply × State) Refusal = λ _. and_then told (λ p. reply_in z p.1) in
    let a = not (step.is_active f.place.view) in
    let b = is_bad_stat (table_of e z.world) s i in
    refuse_same a (refusal.File error.ReadOnly) _ _
    (refuse_same b refusal.BadStat _ _
    (past_then (allowed_name f (change_of s).name) (λ _. changing_rights e z.world f i (change_of s)) end)
    ∙ past_refuse b refusal.BadStat (and_then (allowed_name f (change_of s).name) (λ _. changing_rights e z.world f i (change_of s))) end)
    ∙ past_refuse a (refusal.File error.ReadOnly) (refuse_if b refusal.BadStat (and_then (allowed_name f (change_of s).name) (λ _. changing_rights e z.world f i (change_of s)))) end
    ∙ then_same (allowed_change e z.world f (changes_fixed s i) (change_of s) i) end (λ x. and_then (last x) (reply_in z)) (λ x. past_then told (λ p. Ok p.1) (reply_in z))
    ∙ past_then (allowed_change e z.world f (changes_fixed s i) (change_of s) i) last (reply_in z)

module _ (e : Files) (z : State) (now fid : ℕ) (s : Stat) where
  pub wstat_no_version : (r : Refusal) → version_of z ≡ Err r → wstat e z now fid s ≡ Err r
  unfolding wstat
  wstat_no_version r h = rw h refl

  pub wstat_no_fid : (msize : ℕ) (r : Refusal) → version_of z ≡ Ok msize → fid_at z fid ≡ Err r → wstat e z now fid s ≡ Err r
  unfolding wstat
  wstat_no_fid msize r h k = rw (h, k) refl

  pub wstat_no_info : (msize : ℕ) (f : Fid) (r : Refusal) → version_of z ≡ Ok msize → fid_at z fid ≡ Ok f → info_at e z.world f.place ≡ Err r → wstat e z now fid s ≡ Err r
  unfolding wstat
  wstat_no_info msize f r h k l = rw (h, k, l) refl

  pub wstat_settles : (msize : ℕ) (f : Fid) (i : Info) → version_of z ≡ Ok msize → fid_at z fid ≡ Ok f → info_at e z.world f.place ≡ Ok i → (touches_fixed s || touches (change_of s)) ≡ false → wstat e z now fid s ≡ Ok (reply.Wstat, z)
  unfolding wstat settled
  wstat_settles msize f i h k l t = rw (h, k, l, t) refl

  pub wstat_changes : (msize : ℕ) (f : Fid) (i : Info) → version_of z ≡ Ok msize → fid_at z fid ≡ Ok f → info_at e z.world f.place ≡ Ok i → (touches_fixed s || touches (change_of s)) ≡ true → wstat e z now fid s ≡ and_then (changed_by e z.world now f (changes_fixed s i) (change_of s) i) (λ w. Ok (reply.Wstat, in_world z w))
  unfolding wstat
  wstat_changes msize f i h k l t = rw (h, k, l, t) (restated_chain e z now f s i)

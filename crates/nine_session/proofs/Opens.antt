-- Topen and Tcreate, step by step.
use Rattle.std.proofs.Common.{◌≡◌, ℕ, ◌≤◌, List, Bool, true, false, not, Option, Some, None, Result, Ok, Err, refl, sym, ap, ◌∙◌, arith}
use Rattle.std.specs.Prelude.{◌&&◌, if◌then◌else◌}
use Rattle.nine_fields.specs.declared.qid.Qid.{Qid}
use Rattle.nine_wire.specs.declared.message.Reply.{Reply}
use Rattle.nine_wire.specs.declared.message.Reply.TheVariants as reply
use Rattle.fo_world.specs.declared.place.Info.{Info}
use Rattle.fo_world.specs.declared.place.Place.{Place}
use Rattle.fo_world.specs.declared.error.FileError.TheVariants as error
use Rattle.fo_world.specs.World.{World}
use Rattle.fo_world.specs.Step as step
use Rattle.fo_users.specs.Rights.{may}
use Rattle.fo_users.specs.declared.right.Right.TheVariants.{Write}
use Rattle.nine_fids.specs.declared.fid.Fid.{Fid}
use Rattle.nine_fids.specs.declared.mode.Mode.{Mode}
use Rattle.nine_fids.specs.declared.refusal.Refusal.{Refusal}
use Rattle.nine_fids.specs.declared.refusal.Refusal.TheVariants as refusal
use Rattle.fo_world.specs.Chain.{and_then, refuse_if}
use Rattle.std.specs.Option.{ok_or}
use Rattle.nine_fids.specs.Refusing.{changed}
use Rattle.nine_fids.specs.Fids.{Fids, State, version_of, fid_at, is_open}
use Rattle.nine_fids.specs.declared.fid.Opened.{Opened}
use Rattle.fo_users.specs.Rights.{has_bit}
use Rattle.nine_fids.specs.Told.{Files, info_at, is_dir, is_exclusive, qid_of, iounit}
use Rattle.nine_fids.specs.Modes.{access_of, mode_of, is_more, changes}
use Rattle.nine_fids.proofs.Missing.{ok_same}
use Rattle.nine_fids.specs.Rights.{table_of}
use Rattle.nine_files.specs.Granting.{admitted, admitted_new, is_held, told_qid}
use Rattle.nine_files.specs.Opening.{cuts, most_cut, allowed_mode, allowed_new, is_bad_name, new_mode, opened_so, opening_rights, truncated}
use Rattle.nine_files.proofs.Links.{past_then, refuse_ok, then_ok_parts}
use Rattle.nine_session.specs.Attempting.{state, with_put}
use Rattle.nine_session.specs.Opening.{create_file, open_file, with_open}
use Rattle.nine_session.specs.Session.{need_at}
use Rattle.nine_session.proofs.Kept.{need_there}
use Rattle.nine_session.proofs.Links.{past_refuse, refuse_same, ok_or_ok, then_same}

-- ---- Topen

-- the reply for a file that is open, and the state with its fid
abbrev pub opened_by : ℕ → State → Fid → Info → Mode → Qid × World → Reply × State
opened_by msize z f i m p = (reply.Open p.0 (iounit msize), with_open (record z { world = p.1 }) f f.place m (is_exclusive i.mode))

qid_then : (t : Result (Info × World) Refusal) (rest : Qid × World → Reply × State) → and_then t (λ p. Ok (rest (qid_of p.0, p.1))) ≡ and_then (told_qid t) (λ p. Ok (rest p))
qid_then (Ok p) rest = refl
qid_then (Err r) rest = refl

abbrev pub opened_from : Files → State → ℕ → ℕ → Fid → Info × Mode → Result (Reply × State) Refusal
opened_from e z now msize f a = and_then (truncated e z.world f a.0 a.1 now) (λ p. Ok (reply.Open (qid_of p.0) (iounit msize), with_open (record z { world = p.1 }) f f.place a.1 (is_exclusive a.0.mode)))

module _ (e : Files) (z : State) (now fid mode : ℕ) where
  pub open_no_version : (r : Refusal) → version_of z ≡ Err r → open_file e z now fid mode ≡ Err r
  unfolding open_file
  open_no_version r h = rw h refl

  pub open_no_fid : (msize : ℕ) (r : Refusal) → version_of z ≡ Ok msize → fid_at z fid ≡ Err r → open_file e z now fid mode ≡ Err r
  unfolding open_file
  open_no_fid msize r h k = rw (h, k) refl

  pub open_chain : (msize : ℕ) (f : Fid) → version_of z ≡ Ok msize → fid_at z fid ≡ Ok f → open_file e z now fid mode ≡ and_then (admitted e z.world f z.exclusive mode) (opened_from e z now msize f)
  unfolding open_file admitted
  open_chain msize f h k =
      rw (h, k)
      (refuse_same (is_open f) refusal.FidIsOpen _ _
      (then_same (info_at e z.world f.place) _ _ (λ i.
      then_same (allowed_mode f i mode) _ _ (λ m.
      then_same (opening_rights e z.world f i m) _ _ (λ _.
      past_refuse (is_held f i z.exclusive) refusal.ExclusivelyOpen (Ok (i, m)) (opened_from e z now msize f))
      ∙ past_then (opening_rights e z.world f i m) _ (opened_from e z now msize f))
      ∙ past_then (allowed_mode f i mode) _ (opened_from e z now msize f))
      ∙ past_then (info_at e z.world f.place) _ (opened_from e z now msize f))
      ∙ past_refuse (is_open f) refusal.FidIsOpen _ (opened_from e z now msize f))

  pub open_refused : (msize : ℕ) (f : Fid) (r : Refusal) → version_of z ≡ Ok msize → fid_at z fid ≡ Ok f → admitted e z.world f z.exclusive mode ≡ Err r → open_file e z now fid mode ≡ Err r
  open_refused msize f r h k l = open_chain msize f h k ∙ ap (λ t. and_then t (opened_from e z now msize f)) l

  pub open_at : (msize : ℕ) (f : Fid) (a : Info × Mode) → version_of z ≡ Ok msize → fid_at z fid ≡ Ok f → admitted e z.world f z.exclusive mode ≡ Ok a → open_file e z now fid mode ≡ opened_from e z now msize f a
  open_at msize f a h k l = open_chain msize f h k ∙ ap (λ t. and_then t (opened_from e z now msize f)) l

  pub open_cuts : (msize : ℕ) (f : Fid) (i : Info) (m : Mode) → version_of z ≡ Ok msize → fid_at z fid ≡ Ok f → admitted e z.world f z.exclusive mode ≡ Ok (i, m) → open_file e z now fid mode ≡ and_then (told_qid (truncated e z.world f i m now)) (λ p. Ok (opened_by msize z f i m p))
  open_cuts msize f i m h k l = open_at msize f (i, m) h k l ∙ qid_then (truncated e z.world f i m now) (opened_by msize z f i m)

mode_if : (b : Bool) (x m : Mode) → (if b then None else Some x) ≡ Some m → x ≡ m
mode_if true x m h = absurd cc
mode_if false x m h = cc

mode_bit : (mode : ℕ) (m : Mode) → mode_of mode ≡ Some m → m.truncate ≡ has_bit mode 16
mode_bit mode m h =
    let x : Mode = record { access = access_of mode; truncate = has_bit mode 16; remove = has_bit mode 64 } in
    ap (λ (y : Mode). y.truncate) (sym (mode_if (has_bit mode 140) x m h))

-- the bit of OTRUNC is what a mode says of it
cut_bit : (f : Fid) (i : Info) (mode : ℕ) (m : Mode) → allowed_mode f i mode ≡ Ok m → m.truncate ≡ has_bit mode 16
unfolding allowed_mode
cut_bit f i mode m h =
    let go : Mode → Result Mode Refusal = λ m. refuse_if (not (step.is_active f.place.view) && changes m) (refusal.File error.ReadOnly) (refuse_if (is_dir i.mode && is_more m) (refusal.File error.IsDir) (Ok m)) in
    let first = then_ok_parts (ok_or (mode_of mode) refusal.BadOpenMode) go m h in
    let second = refuse_ok (not (step.is_active f.place.view) && changes first.0) (refusal.File error.ReadOnly) (refuse_if (is_dir i.mode && is_more first.0) (refusal.File error.IsDir) (Ok first.0)) m first.2 in
    let third = refuse_ok (is_dir i.mode && is_more first.0) (refusal.File error.IsDir) (Ok first.0) m second.1 in
    let same : first.0 ≡ m = ok_same _ _ third.1 in
    ap (λ (x : Mode). x.truncate) (sym same) ∙ mode_bit mode first.0 (ok_or_ok (mode_of mode) refusal.BadOpenMode first.0 first.1)

-- no more blocks than the mode may need
most_within : (b t c : Bool) (n n' : ℕ) → t ≡ b → (t ≡ false → c ≡ false) → n ≡ n' → (if c then n else 0) ≤ (if b then n' else 0)
most_within true t true n n' is none same = omega (arith, same)
most_within true t false n n' is none same = omega arith
most_within false t c n n' is none same = let zero : c ≡ false = none is in rw zero (omega arith)

pub cut_within : (o : Option Fid) (f : Fid) (i : Info) (mode : ℕ) (m : Mode) → allowed_mode f i mode ≡ Ok m → ok_or o refusal.UnknownFid ≡ Ok f → most_cut f i m ≤ (if has_bit mode 16 then need_at o (λ f. step.most_need f.place) else 0)
cut_within o f i mode m h there = most_within (has_bit mode 16) m.truncate (cuts i m) (step.most_need f.place) (need_at o (λ f. step.most_need f.place)) (cut_bit f i mode m h) (λ none. rw none refl) (sym (need_there o f (λ f. step.most_need f.place) there))

-- ---- Tcreate

pub named_well : (f : Fid) (above : Info) (name : List ℕ) (perm mode : ℕ) (m : Mode) → allowed_new f above name perm mode ≡ Ok m → is_bad_name name ≡ false
unfolding allowed_new
named_well f above name perm mode m h =
    let t3 : Result Mode Refusal = and_then (ok_or (mode_of mode) refusal.BadOpenMode) (λ k. refuse_if (is_dir perm && is_more k) refusal.BadOpenMode (Ok k)) in
    let t2 : Result Mode Refusal = refuse_if (is_bad_name name) refusal.BadName t3 in
    let t1 : Result Mode Refusal = refuse_if (not (step.is_active f.place.view)) (refusal.File error.ReadOnly) t2 in
    let first = refuse_ok (not (is_dir above.mode)) (refusal.File error.NotDir) t1 m h in
    let second = refuse_ok (not (step.is_active f.place.view)) (refusal.File error.ReadOnly) t2 m first.1 in
    (refuse_ok (is_bad_name name) refusal.BadName t3 m second.1).0

-- the reply for a file that was made, and the state with its fid
abbrev pub created : ℕ → State → Fid → Mode → Info × World → Reply × State
created msize z f m p = (reply.Create (qid_of p.0) (iounit msize), with_open (record z { world = p.1 }) f p.0.place m (is_exclusive p.0.mode))

abbrev pub made_from : Files → State → ℕ → List ℕ → ℕ → ℕ → Fid → Info × Mode → Result (Reply × State) Refusal
made_from e z now name perm msize f a =
    and_then (changed (step.create e.whole z.world f.place name (new_mode perm a.0.mode) f.user f.user a.0.gid now)) (λ p.
    Ok (created msize z f a.1 p))

module _ (e : Files) (z : State) (now fid : ℕ) (name : List ℕ) (perm mode : ℕ) where
  pub create_no_version : (r : Refusal) → version_of z ≡ Err r → create_file e z now fid name perm mode ≡ Err r
  unfolding create_file
  create_no_version r h = rw h refl

  pub create_no_fid : (msize : ℕ) (r : Refusal) → version_of z ≡ Ok msize → fid_at z fid ≡ Err r → create_file e z now fid name perm mode ≡ Err r
  unfolding create_file
  create_no_fid msize r h k = rw (h, k) refl

  pub create_chain : (msize : ℕ) (f : Fid) → version_of z ≡ Ok msize → fid_at z fid ≡ Ok f → create_file e z now fid name perm mode ≡ and_then (admitted_new e z.world f name perm mode) (made_from e z now name perm msize f)
  unfolding create_file admitted_new
  create_chain msize f h k =
      rw (h, k)
      (refuse_same (is_open f) refusal.FidIsOpen _ _
      (then_same (info_at e z.world f.place) _ _ (λ i.
      then_same (allowed_new f i name perm mode) _ _ (λ m.
      past_refuse (not (may (table_of e z.world) f.user i Write)) refusal.PermissionDenied (Ok (i, m)) (made_from e z now name perm msize f))
      ∙ past_then (allowed_new f i name perm mode) _ (made_from e z now name perm msize f))
      ∙ past_then (info_at e z.world f.place) _ (made_from e z now name perm msize f))
      ∙ past_refuse (is_open f) refusal.FidIsOpen _ (made_from e z now name perm msize f))

  pub create_refused : (msize : ℕ) (f : Fid) (r : Refusal) → version_of z ≡ Ok msize → fid_at z fid ≡ Ok f → admitted_new e z.world f name perm mode ≡ Err r → create_file e z now fid name perm mode ≡ Err r
  create_refused msize f r h k l = create_chain msize f h k ∙ ap (λ t. and_then t (made_from e z now name perm msize f)) l

  pub create_at : (msize : ℕ) (f : Fid) (a : Info × Mode) → version_of z ≡ Ok msize → fid_at z fid ≡ Ok f → admitted_new e z.world f name perm mode ≡ Ok a → create_file e z now fid name perm mode ≡ made_from e z now name perm msize f a
  create_at msize f a h k l = create_chain msize f h k ∙ ap (λ t. and_then t (made_from e z now name perm msize f)) l

-- ---- a fid put in its place

pub fid_made : (g : Fid) (n n' : ℕ) (u u' : List ℕ) (p p' : Place) (o o' : Option Opened) → g ≡ record { number = n; user = u; place = p; opened = o } → n ≡ n' → u ≡ u' → p ≡ p' → o ≡ o' → g ≡ record { number = n'; user = u'; place = p'; opened = o' }
fid_made g n n' u u' p p' o o' is a b c d = is ∙ rw (a, b, c, d) refl

pub put_is_open : (s : Fids) (x x' : List ℕ) (w w' : World) (f g : Fid) (at : Place) (m : Mode) (held held' : Bool) → x' ≡ x → held' ≡ held → g ≡ record { number = f.number; user = f.user; place = at; opened = opened_so m held } → with_put (state s x' w') g held' ≡ with_open (record { session = s; exclusive = x; world = w' }) f at m held
put_is_open s x x' w w' f g at m held held' h k l = rw (h, k, l) refl

pub open_replies : (q : Qid) (n n' : ℕ) (z z' : State) → n' ≡ n → z' ≡ z → (let out : Reply × State = (reply.Open q n, z) in out) ≡ (reply.Open q n', z')
open_replies q n n' z z' k l = rw (k, l) refl

pub create_replies : (q q' : Qid) (n n' : ℕ) (z z' : State) → q' ≡ q → n' ≡ n → z' ≡ z → (let out : Reply × State = (reply.Create q n, z) in out) ≡ (reply.Create q' n', z')
create_replies q q' n n' z z' j k l = rw (j, k, l) refl

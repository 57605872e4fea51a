use Rattle.std.proofs.Common.{◌≡◌, ◌<◌, ◌≤◌, ◌==◌, ◌&&◌, not, ℕ, List, [], Bool, true, false, length, sym, ap, ◌∙◌, arith}
use Rattle.std.specs.Prelude.{nat_lt, nat_le}
use Rattle.std.proofs.lemmas.Bool.Decides.{nat_tests}
use Rattle.std.proofs.lemmas.Result.{err_from_is_err_and}
use Rattle.fo_world.specs.World.{World}
use Rattle.fo_world.specs.declared.tree.Body.TheVariants.{File}
use Rattle.nine_fids.specs.declared.fid.Fid.{Fid}
use Rattle.nine_fids.specs.Fids.{Fids, in_use, most_fids}
use Rattle.nine_session.specs.Attempting.{state}
use Rattle.nine_session.proofs.Kept.{number_there, user_there, users_seen}
use Rattle.nine_session.proofs.Walks.{tested_full, tested_many, tested_open, tested_used, tested_well, walk_no_fid, walk_no_version, walk_tests}
use Rattle.nine_session.proofs.session.Session.walked_fid.Goals as goal

pub returns-in_err-version-clause-told : goal.returns-in_err-version-clause-told
returns-in_err-version-clause-told c =
    let p = err_from_is_err_and c.from_residual.result c.from_residual.ensures.1 in
    rw (p.1, p.2) (λ x w. walk_no_version (state c.args.self.now x w) c.args.fid c.args.newfid c.args.names.now c.in_err-version.field-0.0 (sym (c.in_err-version.ensures x w)))

pub returns-in_err-from-clause-told : goal.returns-in_err-from-clause-told
returns-in_err-from-clause-told c =
    let p = err_from_is_err_and c.from_residual-in_err-from.result c.from_residual-in_err-from.ensures.1 in
    rw (p.1, p.2) (λ x w. walk_no_fid (state c.args.self.now x w) c.args.fid c.args.newfid c.args.names.now c.in_ok-version.field-0 c.in_err-from.field-0.0 (sym (c.in_ok-version.ensures x w)) (c.in_err-from.ensures x w))

many : (n : ℕ) → 16 < n → nat_lt 16 n ≡ true
many n lt = grind (arith, nat_tests)

few : (n : ℕ) → n ≤ 16 → nat_lt 16 n ≡ false
few n le = grind (arith, nat_tests)

used : (fid newfid : ℕ) (seen fids : List Fid) (r b : Bool) → seen ≡ fids → r ≡ (not (newfid == fid) && in_use newfid seen) → r ≡ b → (not (newfid == fid) && in_use newfid fids) ≡ b
used fid newfid seen fids r b same is was = ap (λ (fs : List Fid). not (newfid == fid) && in_use newfid fs) (sym same) ∙ sym is ∙ was

full : (fid newfid : ℕ) (seen fids : List Fid) (r b : Bool) → seen ≡ fids → r ≡ (not (newfid == fid) && nat_le most_fids (length seen)) → r ≡ b → (not (newfid == fid) && nat_le most_fids (length fids)) ≡ b
full fid newfid seen fids r b same is was = ap (λ (fs : List Fid). not (newfid == fid) && nat_le most_fids (length fs)) (sym same) ∙ sym is ∙ was

pub returns-then-names-gt-MOST_NAMES-clause-told : goal.returns-then-names-gt-MOST_NAMES-clause-told
returns-then-names-gt-MOST_NAMES-clause-told c = λ x w.
    let z = state c.args.self.now x w in
    walk_tests z c.args.fid c.args.newfid c.args.names.now c.in_ok-version.field-0 c.in_ok-from.from.now (sym (c.in_ok-version.ensures x w)) (c.in_ok-from.ensures x w)
    ∙ tested_many z c.in_ok-from.from.now c.args.fid c.args.newfid c.args.names.now (many (length c.args.names.now) c.if-names-gt-MOST_NAMES.true)

pub returns-then-is_some-clause-told : goal.returns-then-is_some-clause-told
returns-then-is_some-clause-told c = λ x w.
    let z = state c.args.self.now x w in
    walk_tests z c.args.fid c.args.newfid c.args.names.now c.in_ok-version.field-0 c.in_ok-from.from.now (sym (c.in_ok-version.ensures x w)) (c.in_ok-from.ensures x w)
    ∙ tested_open z c.in_ok-from.from.now c.args.fid c.args.newfid c.args.names.now (few (length c.args.names.now) c.if-names-gt-MOST_NAMES.false) (sym c.is_some.ensures ∙ c.if-is_some.true)

pub returns-then-is_taken-clause-told : goal.returns-then-is_taken-clause-told
returns-then-is_taken-clause-told c = λ x w.
    let z = state c.args.self.now x w in
    let fids = c.as_slice.ensures.value ∙ ap (λ (s : Fids). s.fids) c.self.view_is in
    walk_tests z c.args.fid c.args.newfid c.args.names.now c.in_ok-version.field-0 c.in_ok-from.from.now (sym (c.in_ok-version.ensures x w)) (c.in_ok-from.ensures x w)
    ∙ tested_used z c.in_ok-from.from.now c.args.fid c.args.newfid c.args.names.now (few (length c.args.names.now) c.if-names-gt-MOST_NAMES.false) (sym c.is_some.ensures ∙ c.if-is_some.false)
    (used c.args.fid c.args.newfid _ c.args.self.now.fids c.is_taken.result true fids c.is_taken.ensures c.if-is_taken.true)

pub returns-then-lacks_room-clause-told : goal.returns-then-lacks_room-clause-told
returns-then-lacks_room-clause-told c = λ x w.
    let z = state c.args.self.now x w in
    let fids = c.as_slice.ensures.value ∙ ap (λ (s : Fids). s.fids) c.self.view_is in
    let fids' = c.as_slice-2.ensures.value ∙ ap (λ (s : Fids). s.fids) c.self.view_is in
    walk_tests z c.args.fid c.args.newfid c.args.names.now c.in_ok-version.field-0 c.in_ok-from.from.now (sym (c.in_ok-version.ensures x w)) (c.in_ok-from.ensures x w)
    ∙ tested_full z c.in_ok-from.from.now c.args.fid c.args.newfid c.args.names.now (few (length c.args.names.now) c.if-names-gt-MOST_NAMES.false) (sym c.is_some.ensures ∙ c.if-is_some.false)
    (used c.args.fid c.args.newfid _ c.args.self.now.fids c.is_taken.result false fids c.is_taken.ensures c.if-is_taken.false)
    (full c.args.fid c.args.newfid _ c.args.self.now.fids c.lacks_room.result true fids' c.lacks_room.ensures c.if-lacks_room.true)

pub returns-clause-told : goal.returns-clause-told
returns-clause-told c = λ x w.
    let z = state c.args.self.now x w in
    let fids = c.as_slice.ensures.value ∙ ap (λ (s : Fids). s.fids) c.self.view_is in
    let fids' = c.as_slice-2.ensures.value ∙ ap (λ (s : Fids). s.fids) c.self.view_is in
    walk_tests z c.args.fid c.args.newfid c.args.names.now c.in_ok-version.field-0 c.in_ok-from.from.now (sym (c.in_ok-version.ensures x w)) (c.in_ok-from.ensures x w)
    ∙ tested_well z c.in_ok-from.from.now c.args.fid c.args.newfid c.args.names.now (few (length c.args.names.now) c.if-names-gt-MOST_NAMES.false) (sym c.is_some.ensures ∙ c.if-is_some.false)
    (used c.args.fid c.args.newfid _ c.args.self.now.fids c.is_taken.result false fids c.is_taken.ensures c.if-is_taken.false)
    (full c.args.fid c.args.newfid _ c.args.self.now.fids c.lacks_room.result false fids' c.lacks_room.ensures c.if-lacks_room.false)

any_world : World
any_world = record {
  active = record { root = record { number = 0; vers = 0; mode = 0; atime = 0; mtime = 0; uid = []; gid = []; muid = []; body = File [] } };
  low = 0;
  high = 0;
  snaps = [];
  archives = [];
  pending = 0;
  next = 0;
  halted = false;
  exclusive = [];
}

pub returns-clause-number : goal.returns-clause-number
returns-clause-number c = number_there (state c.args.self.now [] any_world) c.args.fid c.in_ok-from.from.now (c.in_ok-from.ensures [] any_world)

pub returns-clause-user : goal.returns-clause-user
returns-clause-user c = user_there (state c.args.self.now [] any_world) c.args.fid c.in_ok-from.from.now (users_seen _ _ c.self.view_is c.self.invariant) (c.in_ok-from.ensures [] any_world)

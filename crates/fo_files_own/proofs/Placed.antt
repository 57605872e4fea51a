-- The bytes of a block with another record are made.
use Rattle.std.proofs.Common.{◌≡◌, ◌⊎◌, ◌+◌, ◌-◌, ◌<◌, ◌≤◌, ◌++◌, ◌∷◌, [], ℕ, List, length, take, drop, Result, Ok, Err, inl, inr, sym, ap, subst, ◌∙◌, arith}
use Rattle.std.specs.Prelude.{MatchResult}
use Rattle.std.proofs.lemmas.List.{length-drop, take_all}
use Rattle.fo_image.specs.declared.record.Record.{Record}
use Rattle.fo_image.specs.Record.{record_len}
use Rattle.fo_meta.specs.declared.error.MetaError.{MetaError}
use Rattle.fo_meta.specs.declared.error.MetaError.TheVariants.{NoRoom}
use Rattle.fo_meta.specs.Leaf.{IsLeaf, SpellsLeaf, records_bytes, without}
use Rattle.fo_crash.specs.Steps.{PutsBytes}
use Rattle.fo_image.specs.declared.types.Kind.{Kind}
use Rattle.fo_image.specs.declared.types.Kind.TheVariants.{Data, Root}
use Rattle.fo_ports.specs.Blocks.{put_at, MayPut}
use Rattle.fo_ports.specs.State.{State}
use Rattle.fo_files_record.specs.of_dir_change.Changes.{HasChanged}
use Rattle.fo_files_record.proofs.of_dir_put.Leaves.{leaf_long, whole_put}
use Rattle.fo_files_dir.specs.declared.dir.DirAt.{DirAt}
use Rattle.fo_files_record.proofs.Rooted.{same_head, own_put, head_put}
use Rattle.fo_files_record.specs.Own.{IsRootAt}
use Rattle.fo_files_ready.specs.Ready.{HasPlace, IsLeafOf}
use Rattle.fo_files_own.specs.declared.at.OwnAt.{OwnAt}
use Rattle.fo_files_own.specs.declared.at.OwnAt.TheVariants as place
use Rattle.fo_files_own.specs.declared.at.ReadyOwn.{ReadyOwn}
use Rattle.fo_files_own.specs.Own.{ChangesOwn, HasOwnLeaf, HasReady, IsBlockOf, IsLive, IsOfLeaf, MayPutOwn}

-- a record that has room is put in the place of the one of its name
pub has_changed : (U : Type 0) (result : Result U MetaError) (name : List ℕ) (named : Record) (old new : List ℕ) → HasPlace name named old
    → ((rs : List Record) → SpellsLeaf rs old → MatchResult result (λ u. SpellsLeaf (without name rs ++ named ∷ []) new) (λ e. (e ≡ NoRoom) × (8188 < length (records_bytes (without name rs)) + record_len named)))
    → HasChanged name named old new
has_changed U (Ok u) name named old new has put = record { each = put }
has_changed U (Err e) name named old new has put = absurd (has.fits (record { each = λ rs spells. (put rs spells).1 }))

-- so it is where the name and the bytes were copied
pub copy_changed : (U : Type 0) (result : Result U MetaError) (name : List ℕ) (named : Record) (old copy new : List ℕ) → name ≡ named.name → copy ≡ old → HasPlace named.name named old
    → ((rs : List Record) → SpellsLeaf rs copy → MatchResult result (λ u. SpellsLeaf (without name rs ++ named ∷ []) new) (λ e. (e ≡ NoRoom) × (8188 < length (records_bytes (without name rs)) + record_len named)))
    → HasChanged named.name named old new
copy_changed U result name named old copy new is same has put =
    let there : HasPlace name named copy = subst (λ n. HasPlace n named copy) (sym is) (subst (λ xs. HasPlace named.name named xs) (sym same) has) in
    subst (λ xs. HasChanged named.name named xs new) same (subst (λ n. HasChanged n named copy new) is (has_changed U result name named copy new there put))

-- a leaf that is ready may get other bytes
pub may_put_leaf : (s : State) (d : DirAt) (leaf : ℕ) (r : ReadyOwn) → IsLeafOf d s leaf → r.at ≡ leaf → r.from ≡ 0 → length r.bytes ≡ 8192 → MayPutOwn s r
may_put_leaf s d leaf r own at from long = record {
  is_one = subst (λ b. s.is_block b) (sym at) own.is_one;
  is_pinned = subst (λ b. s.pinned b) (sym at) own.is_pinned;
  live = ap (λ b. (s.label b).state) at ∙ own.live;
  current = ap (λ b. (s.label b).epoch) at ∙ own.current;
  kind_is = inl (from, ap (λ b. (s.label b).kind) at ∙ own.leaf_kind);
  whole = ap (λ b. length ((s.now b).bytes)) at ∙ own.whole;
  long = long;
}

-- so it is where a leaf's bytes with a record were made
pub leaf_ready : (s : State) (d : DirAt) (leaf : ℕ) (r : ReadyOwn) (named : Record) (read : List ℕ) → IsLeafOf d s leaf → r.at ≡ leaf → r.from ≡ 0 → read ≡ (s.now leaf).bytes → IsLeaf read → IsLeaf r.bytes → HasChanged named.name named read r.bytes
    → MayPutOwn s r × IsOfLeaf s d r × HasOwnLeaf named ((s.now r.at).bytes) r.bytes
leaf_ready s d leaf r named read own at from is was_leaf is_leaf changed =
    let same : read ≡ (s.now r.at).bytes = is ∙ ap (λ b. (s.now b).bytes) (sym at) in (
      may_put_leaf s d leaf r own at from (leaf_long is_leaf),
      (subst (λ b. IsLeafOf d s b) (sym at) own, from),
      record { was_leaf = subst (λ xs. IsLeaf xs) same was_leaf; is_leaf = is_leaf; changed = subst (λ xs. HasChanged named.name named xs r.bytes) same changed },
    )

-- a root block
pub may_put_root : (s : State) (root : ℕ) (r : ReadyOwn) → IsRootAt s root → IsLive s root → length ((s.now root).bytes) ≡ 8192 → r.at ≡ root → r.from ≡ 104 → length r.bytes ≡ 8192 → MayPutOwn s r
may_put_root s root r is live whole at from long = record {
  is_one = subst (λ b. s.is_block b) (sym at) is.is_one;
  is_pinned = subst (λ b. s.pinned b) (sym at) is.is_pinned;
  live = ap (λ b. (s.label b).state) at ∙ live;
  current = ap (λ b. (s.label b).epoch) at ∙ is.current;
  kind_is = inr (from, ap (λ b. (s.label b).kind) at ∙ is.root_kind);
  whole = ap (λ b. length ((s.now b).bytes)) at ∙ whole;
  long = long;
}

-- ---- the put

pub piece_whole : (from : ℕ) (xs : List ℕ) → take (length xs - from) (drop from xs) ≡ drop from xs
piece_whole from xs = let l = length-drop from xs in take_all (length xs - from) (drop from xs) (omega (arith, l))

pub puts_whole : (s u : State) (r : ReadyOwn) → PutsBytes r.at (put_at r.from (take (length r.bytes - r.from) (drop r.from r.bytes)) ((s.now r.at).bytes)) s.now u.now → PutsBytes r.at (put_at r.from (drop r.from r.bytes) ((s.now r.at).bytes)) s.now u.now
puts_whole s u r puts = subst (λ (xs : List ℕ). PutsBytes r.at (put_at r.from xs ((s.now r.at).bytes)) s.now u.now) (piece_whole r.from r.bytes) puts

pub bytes_fit : (s : State) (r : ReadyOwn) (n : ℕ) → MayPutOwn s r → n ≡ length (drop r.from r.bytes) → r.from + n ≤ length ((s.now r.at).bytes)
bytes_fit s r n may e = by may.kind_is
  where
    by : ((r.from ≡ 0) × ((s.label r.at).kind ≡ Data 0)) ⊎ ((r.from ≡ 104) × ((s.label r.at).kind ≡ Root)) → r.from + n ≤ length ((s.now r.at).bytes)
    by (inl h) = let l = length-drop r.from r.bytes in let whole = may.whole in let long = may.long in let at = h.0 in omega (arith, l, e, long, whole, at)
    by (inr h) = let l = length-drop r.from r.bytes in let whole = may.whole in let long = may.long in let at = h.0 in omega (arith, l, e, long, whole, at)

pub piece_fits : (s : State) (r : ReadyOwn) → MayPutOwn s r → r.from + length (take (length r.bytes - r.from) (drop r.from r.bytes)) ≤ length ((s.now r.at).bytes)
piece_fits s r may = bytes_fit s r (length (take (length r.bytes - r.from) (drop r.from r.bytes))) may (ap (λ (xs : List ℕ). length xs) (piece_whole r.from r.bytes))

pub place_fits : (s : State) (r : ReadyOwn) (end : ℕ) → MayPutOwn s r → MayPut (s.label r.at).kind r.from end
place_fits s r end may = by may.kind_is
  where
    by : ((r.from ≡ 0) × ((s.label r.at).kind ≡ Data 0)) ⊎ ((r.from ≡ 104) × ((s.label r.at).kind ≡ Root)) → MayPut (s.label r.at).kind r.from end
    by (inl h) = subst (λ (k : Kind). MayPut k r.from end) (sym h.1) (omega arith)
    by (inr h) = subst (λ (k : Kind). MayPut k r.from end) (sym h.1) (inr (inr (let e = h.0 in omega (arith, e))))

-- the record that the block has then
pub changes_own : (s u : State) (at : OwnAt) (named : Record) (r : ReadyOwn) → MayPutOwn s r → PutsBytes r.at (put_at r.from (drop r.from r.bytes) ((s.now r.at).bytes)) s.now u.now → IsBlockOf s at r → HasReady s at named r → ChangesOwn s u at named r.at
changes_own s u (place.Root root) named r may puts of has =
    let here : (u.now root).bytes ≡ put_at 104 (drop 104 r.bytes) ((s.now root).bytes) =
    subst (λ b. (u.now b).bytes ≡ put_at 104 (drop 104 r.bytes) ((s.now b).bytes)) of.0 (subst (λ n. (u.now r.at).bytes ≡ put_at n (drop n r.bytes) ((s.now r.at).bytes)) of.1 puts.here) in
    let was : length ((s.now root).bytes) ≡ 8192 = subst (λ b. length ((s.now b).bytes) ≡ 8192) of.0 may.whole in
    record {
      old = has.old;
      had = has.had;
      new = r.bytes;
      has = record {
        head = sym (same_head has.own.root named has.old r.bytes has.own.was has.own.is) ∙ has.had.head ∙ sym (head_put (drop 104 r.bytes) ((s.now root).bytes) was) ∙ sym (ap (λ (xs : List ℕ). take 16 xs) here);
        own = sym (own_put r.bytes ((s.now root).bytes) may.long was) ∙ sym (ap (λ (xs : List ℕ). drop 104 xs) here);
      };
      own = has.own;
    }
changes_own s u (place.Below b) named r may puts of has =
    let here : (u.now r.at).bytes ≡ put_at 0 r.bytes ((s.now r.at).bytes) = subst (λ n. (u.now r.at).bytes ≡ put_at n (drop n r.bytes) ((s.now r.at).bytes)) of.1 puts.here in
    subst (λ xs. HasChanged named.name named ((s.now r.at).bytes) xs) (sym (here ∙ whole_put r.bytes ((s.now r.at).bytes) may.long may.whole)) has.changed

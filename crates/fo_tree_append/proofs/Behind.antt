-- A source was seen with a size past its end, and a piece was put that ends there.
use Rattle.std.proofs.Common.{◌≡◌, ◌⊎◌, ◌+◌, ◌-◌, ◌*◌, ◌/◌, ◌<◌, ◌≤◌, ℕ, List, length, inl, inr, ⊎_elim, sym, ◌∙◌, ap, subst, arith}
use Rattle.std.proofs.lemmas.List.{take_all}
use Rattle.fo_sparse.specs.Written.{written}
use Rattle.fo_image.specs.declared.types.Pointer.{Pointer}
use Rattle.fo_image.specs.declared.types.Pointer.TheVariants.{Local}
use Rattle.fo_crash.specs.declared.place.Place.{Place}
use Rattle.fo_crash.specs.Images.{Image}
use Rattle.fo_crash.specs.Places.{IsPlaced, RanksFall}
use Rattle.fo_ports.specs.State.{State, KeepsAll}
use Rattle.fo_ports.specs.Sources.{Made, Changes, Grows, ComesFor, depth_for}
use Rattle.fo_tree_read.proofs.of_looks.Free.{Standing}
use Rattle.fo_tree_read.specs.declared.tree.Tree.{Tree}
use Rattle.fo_tree_read.specs.Reading.{passed, most}
use Rattle.fo_tree_look.specs.declared.ways.Kept.{Kept}
use Rattle.fo_tree_look.specs.Source.{HasBlock, Over, Prepared, IsTopCurrent, leaves_of}
use Rattle.fo_tree_clear.specs.of_tree_down.Way.{CurrentBut}
use Rattle.fo_tree_clear.specs.of_tree_down.Clear.{EndsClear}
use Rattle.fo_tree_clear.proofs.of_tree_down.Beside.{on_way_block}
use Rattle.fo_tree_clear.proofs.of_tree_down.Sparing.{but_whole, but_more}
use Rattle.fo_tree_clear.specs.Put.{byte_here, Puts}
use Rattle.fo_tree_clear.specs.Steps.{Steps}
use Rattle.fo_tree_write.specs.Write.{Wrote}
use Rattle.fo_tree_write.proofs.Wider.{changes_wider, ways_own}
use Rattle.fo_tree_append.specs.Append.{ended, OnLeaves, OnEnd, OnPiece, SpendsBut}
use Rattle.fo_tree_append.specs.Grown.{GrownTo}
use Rattle.fo_tree_append.specs.Rises.{Rises}
use Rattle.fo_tree_append.proofs.Joining.{ThenSteps, rises_changes, rises_join, rises_wider, made_first, made_second, made_either}
use Rattle.fo_tree_append.proofs.Leaves.{leaves_cases, way_before}
use Rattle.fo_tree_append.proofs.Spending.{most_passed, last_of, spends_end}
use Rattle.fo_tree_append.proofs.Values.{values_past_end}

-- ---- how many blocks it takes

-- what is left for the piece
pub need_past : (s m : State) (new : Tree) (offset len : ℕ) → new.depth ≤ 4 → 0 < len → most new.depth len ≤ s.spare → (s.spare ≤ m.spare) ⊎ (IsTopCurrent m new × (s.spare ≤ m.spare + (new.depth + 1)))
    → (c : ℕ) × CurrentBut m new c new.depth (offset / 8192) × (c + passed new.depth ((offset + len - 1) / 8192) ≤ m.spare + passed new.depth (offset / 8192))
need_past s m new offset len few some enough spent =
    let last = last_of offset len some in
    let p = most_passed new.depth (offset / 8192) ((offset + len - 1) / 8192) len few last.0 last.1 in
    ⊎_elim
    (λ none. (new.depth + 1, but_more m new new.depth (offset / 8192), whole new.depth s.spare m.spare (passed new.depth (offset / 8192)) (passed new.depth ((offset + len - 1) / 8192)) (most new.depth len) enough none p))
    (λ h. (new.depth, but_whole m new new.depth (offset / 8192) h.0, rest new.depth s.spare m.spare (passed new.depth (offset / 8192)) (passed new.depth ((offset + len - 1) / 8192)) (most new.depth len) enough h.1 p))
    spent
  where
    whole : (d before left x y all : ℕ) → all ≤ before → before ≤ left → 2 * d + 2 + y ≤ x + all → d + 1 + y ≤ left + x
    whole d before left x y all enough none bound = omega (arith, enough, none, bound)

    rest : (d before left x y all : ℕ) → all ≤ before → before ≤ left + (d + 1) → 2 * d + 2 + y ≤ x + all → d + y ≤ left + x
    rest d before left x y all enough taken bound = omega (arith, enough, taken, bound)

-- all that was spent
pub spent_past : (s m u : State) (new last : Tree) (offset len : ℕ) → last.depth ≡ new.depth → new.depth ≤ 4 → 0 < len → (s.spare ≤ m.spare) ⊎ (IsTopCurrent m new × (s.spare ≤ m.spare + (new.depth + 1)))
    → ((c : ℕ) → CurrentBut m new c new.depth (offset / 8192) → SpendsBut c u last m.spare offset len) → s.spare ≤ u.spare + most new.depth len
spent_past s m u new last offset len same few some spent spends =
    let end = last_of offset len some in
    let p = most_passed new.depth (offset / 8192) ((offset + len - 1) / 8192) len few end.0 end.1 in
    ⊎_elim
    (λ none. whole new.depth s.spare m.spare u.spare (passed new.depth (offset / 8192)) (passed new.depth ((offset + len - 1) / 8192)) (most new.depth len) none (at (new.depth + 1) (spends_end (new.depth + 1) u last m.spare offset len some (spends (new.depth + 1) (but_more m new new.depth (offset / 8192))))) p)
    (λ h. rest new.depth s.spare m.spare u.spare (passed new.depth (offset / 8192)) (passed new.depth ((offset + len - 1) / 8192)) (most new.depth len) h.1 (at new.depth (spends_end new.depth u last m.spare offset len some (spends new.depth (but_whole m new new.depth (offset / 8192) h.0)))) p)
    spent
  where
    at : (c : ℕ) → m.spare + passed last.depth (offset / 8192) ≤ u.spare + c + passed last.depth ((offset + len - 1) / 8192) → m.spare + passed new.depth (offset / 8192) ≤ u.spare + c + passed new.depth ((offset + len - 1) / 8192)
    at c h = subst (λ d. m.spare + passed d (offset / 8192) ≤ u.spare + c + passed d ((offset + len - 1) / 8192)) same h

    whole : (d before mid left x y all : ℕ) → before ≤ mid → mid + x ≤ left + (d + 1) + y → 2 * d + 2 + y ≤ x + all → before ≤ left + all
    whole d before mid left x y all none taken bound = omega (arith, none, taken, bound)

    rest : (d before mid left x y all : ℕ) → before ≤ mid + (d + 1) → mid + x ≤ left + d + y → 2 * d + 2 + y ≤ x + all → before ≤ left + all
    rest d before mid left x y all first taken bound = omega (arith, first, taken, bound)

-- ---- what both leave

-- what may change is the source's
pub piece_own : (s : State) (t : Tree) (offset n b : ℕ) → OnPiece s t offset n b → HasBlock s t b
piece_own s t offset n b = ⊎_elim (λ is. ways_own s t offset n b is) (λ h. on_way_block s t t.depth (t.size / 8192) b (omega arith) h.1.on)

pub record Both (s m u : State) (t : Tree) (kept : List Kept) (z : ℕ) (mid top : Pointer) (limit offset : ℕ) (piece : List ℕ) : Type 0 where
  pub grown : GrownTo s m t (ended t z mid) kept
  pub by_end : Rises t.tag (HasBlock s t) (OnEnd s t) s m
  pub wrote : Wrote m u (ended t z mid) top kept offset (length piece) piece
  pub steps : Steps t.tag (λ b. OnLeaves m (ended t z mid) (offset / 8192) ((offset + length piece - 1) / 8192) b) (λ b. OnLeaves m (ended t z mid) (offset / 8192) ((offset + length piece - 1) / 8192) b) m u
  pub stays : m.tells → (b : ℕ) → HasBlock m (ended t z mid) b → (m.label b).epoch ≡ m.high → HasBlock u (ended t z top) b
  pub ends : z ≡ offset + length piece
  pub some : 0 < length piece
  pub past : t.size < z
  pub over : Over s t kept limit
  pub prepared : Prepared s t kept limit offset (length piece)
  pub clear : EndsClear s t kept
  pub all : KeepsAll s u
  pub placed : (image : Image) → s.may_leave image → IsPlaced s.stands image
  pub ranked : (image : Image) → s.may_leave image → RanksFall s.stands image
  pub top_stands : (image : Image) → s.may_leave image → (up : ℕ) → s.tops up → (p : Place) × s.stands up p
  pub told : (image : Image) → s.may_leave image → s.tells
  pub standing : Standing s

module _ {s m u : State} {t : Tree} {kept : List Kept} {z : ℕ} {mid top : Pointer} {limit offset : ℕ} {piece : List ℕ} (x : Both s m u t kept z mid top limit offset piece) where
  abbrev new : Tree
  new = ended t z mid

  told_mid : s.tells → m.tells
  told_mid told = x.grown.rises.all.still_tells.1 told

  over_mid : Over m (ended t z mid) kept limit
  over_mid = x.grown.sees.over limit (let end = x.prepared.end in let is = x.ends in omega (arith, end, is)) x.over

  mine_of : (b : ℕ) → OnLeaves m (ended t z mid) (offset / 8192) ((offset + length piece - 1) / 8192) b → HasBlock s t b ⊎ Made s m b
  mine_of b is =
      let to = is.to in
      let ends = x.ends in
      let some = x.some in
      let room = over_mid.hangs.room in
      ⊎_elim
      (λ old. inl (on_way_block s t t.depth is.leaf b (omega arith) old.1))
      (λ made. inr made)
      (x.grown.sees.ways is.leaf b (omega (arith, to, ends, some, room)) (λ few. way_before s t kept limit offset (length piece) x.some x.prepared x.clear is.leaf is.from is.to few) is.on)

  piece_of : (b : ℕ) → OnLeaves m (ended t z mid) (offset / 8192) ((offset + length piece - 1) / 8192) b → OnPiece s t offset (length piece) b ⊎ Made s m b
  piece_of b is =
      let to = is.to in
      let ends = x.ends in
      let some = x.some in
      let room = over_mid.hangs.room in
      ⊎_elim
      (λ old. inl (inl (record { leaf = is.leaf; from = is.from; to = omega (arith, to, some); few = old.0; on = old.1 })))
      (λ made. inr made)
      (x.grown.sees.ways is.leaf b (omega (arith, to, ends, some, room)) (λ few. way_before s t kept limit offset (length piece) x.some x.prepared x.clear is.leaf is.from is.to few) is.on)

  has_mid : (b : ℕ) → OnLeaves m (ended t z mid) (offset / 8192) ((offset + length piece - 1) / 8192) b → HasBlock m (ended t z mid) b
  has_mid b is = on_way_block m (ended t z mid) (depth_for z) is.leaf b (omega arith) is.on

  follows : ThenSteps t.tag (HasBlock s t) (λ b. OnPiece s t offset (length piece) b) (λ b. OnLeaves m (ended t z mid) (offset / 8192) ((offset + length piece - 1) / 8192) b) (λ b. OnLeaves m (ended t z mid) (offset / 8192) ((offset + length piece - 1) / 8192) b) s m u
  follows = record {
    first = let past = x.past in let ends = x.ends in rises_wider (λ b on. inr (omega (arith, past, ends), on)) x.by_end;
    second = x.steps;
    all = x.all;
    of = mine_of;
    within = piece_of;
    cases = λ b. leaves_cases m (ended t z mid) (offset / 8192) ((offset + length piece - 1) / 8192) b;
    rooted = λ told b is older. (over_mid.told told b (has_mid b is)).in_tree older;
    up_to = λ told b is. (over_mid.told told b (has_mid b is)).up_to;
    placed = x.placed;
    ranked = x.ranked;
    top_stands = x.top_stands;
    told = x.told;
    standing = x.standing;
  }

  pub only_ways_past : Changes t.tag (HasBlock s t) (λ b. OnPiece s t offset (length piece) b) s u
  only_ways_past = rises_changes (rises_join follows)

  pub changes_past : Changes t.tag (HasBlock s t) (HasBlock s t) s u
  changes_past = changes_wider (λ b is. piece_own s t offset (length piece) b is) only_ways_past

  pub over_past : (limit : ℕ) → z ≤ limit → Over s t kept limit → Over u (ended t z top) kept limit
  over_past limit within was = x.wrote.over limit (x.grown.sees.over limit within was)

  pub bytes_past : s.tells → (limit : ℕ) → (leaves_of u (ended t z top) kept limit).bytes ≡ written ((leaves_of s t kept limit).bytes) offset piece
  bytes_past told limit =
      values_past_end (λ k. byte_here m (ended t z mid) kept k) (λ k. byte_here u (ended t z top) kept k) t.size z offset piece x.ends x.past x.some (x.grown.zeros told)
      (subst (λ xs. Puts (byte_here m (ended t z mid) kept) (byte_here u (ended t z top) kept) offset xs) (take_all (length piece) piece (omega arith)) (x.wrote.bytes (told_mid told)))
      ∙ ap (λ xs. written xs offset piece) (x.grown.bytes told limit)

  pub grows_past : (limit : ℕ) → Grows s u (leaves_of s t kept limit) (leaves_of u (ended t z top) kept limit)
  grows_past limit = record {
    owns = λ told b. (
      λ has. ⊎_elim
          (λ old. ⊎_elim (λ was. inl was) (λ made. inr (made_first follows b made)) ((x.grown.sees.owns told b).0 old))
          (λ made. inr (made_second follows b made))
          ((x.wrote.owns (told_mid told) b).0 has),
      λ made. ⊎_elim
          (λ old. x.stays (told_mid told) b ((x.grown.sees.owns told b).1 old) ((x.grown.rises.made b old).labelled.0 ∙ sym x.grown.rises.all.same_high))
          (λ later. (x.wrote.owns (told_mid told) b).1 later)
          (made_either follows b made),
    );
    still = λ o n was. x.wrote.still limit o n (x.grown.sees.still limit o n was);
  }

  pub comes_past : s.tells → (from : Pointer) → ComesFor s t.top from → ComesFor u top from
  comes_past told from h = x.wrote.comes (told_mid told) from (x.grown.sees.comes told from h)

  pub only_past : s.tells → (b y : ℕ) → u.instead b y → (top ≡ Local b) ⊎ (s.instead b y × (t.top ≡ Local b → ⊥))
  only_past told b y h = ⊎_elim
      (λ own. inl own)
      (λ old. ⊎_elim (λ e. absurd (old.1 e)) (λ was. inr was) (x.grown.sees.only told b y old.0))
      (x.wrote.only (told_mid told) b y h)

  pub clear_past : s.tells ⊎ (z ≤ 8192 * (offset / 8192 + 1)) → EndsClear u (ended t z top) kept
  clear_past which = x.wrote.clear (⊎_elim (λ told. inl (told_mid told)) (λ near. inr near) which) x.grown.sees.clear

  pub room_past : u.room ≡ s.room
  room_past = x.steps.room ∙ x.grown.rises.room

-- The leaves of a directory, over what is done to them.
use Rattle.std.proofs.Common.{◌≡◌, ◌≢◌, ◌⊎◌, ◌+◌, ◌*◌, ◌%◌, ◌^◌, ◌<◌, ◌≤◌, ℕ, Bool, true, false, List, length, inl, inr, ⊎_elim, sym, ap, subst, ◌∙◌, arith}
use Rattle.fo_image.specs.declared.types.Label.{Label}
use Rattle.fo_image.specs.declared.types.State.TheVariants.{Live}
use Rattle.fo_ports.specs.State.{State, KeepsAll, Rests, StaysKnown, none}
use Rattle.fo_ports.specs.Sources.{Made}
use Rattle.fo_tree_read.specs.Tree.{kind_at}
use Rattle.fo_tree_open.specs.Open.{HasEntry}
use Rattle.fo_files_dir.specs.declared.dir.DirAt.{DirAt}
use Rattle.fo_files_dir.specs.Dir.{IsDirAt}
use Rattle.fo_files_leaf.specs.declared.open.LeafOf.{LeafOf}
use Rattle.fo_files_leaf.specs.Alters.{MayPut, Alters}
use Rattle.fo_files_leaf.specs.Leaf.{IsHolder, IsWanted, IsAbove, IsOwnLeaf}
use Rattle.fo_files_leaf.proofs.Altering.{alters_wider, alters_same, alters_settled}
use Rattle.fo_files_new.specs.declared.pair.Leaves.{Leaves}
use Rattle.fo_files_new.specs.New.{IsSlotOf, IsTagOf, IsAboveOf, IsLeafOf, AltersDir, IsEntriesLeaf, IsRecordsLeaf, AreOwn, AreInPlace}

-- ---- what is wanted

holder_at : (s : State) (at j c k : ℕ) → c ≡ at → k ≡ j → IsHolder s at j → IsHolder s c k
holder_at s at j c k here slot is = subst (λ x. IsHolder s x k) (sym here) (subst (λ x. IsHolder s at x) (sym slot) is)

pub entries_holder : (s : State) (d : DirAt) (pair : ℕ) (w : LeafOf) → IsDirAt s d → IsEntriesLeaf d pair w → IsHolder s w.at w.slot
entries_holder s d pair w is of = holder_at s d.at d.slot w.at w.slot of.at_is of.slot_is (record { is_one = is.pair.is_one; is_pinned = is.pair.is_pinned; live = is.pair.live; current = is.pair.current; leaf = is.pair.first })

pub records_holder : (s : State) (d : DirAt) (leaf : ℕ) (w : LeafOf) → IsDirAt s d → IsRecordsLeaf d leaf w → IsHolder s w.at w.slot
records_holder s d leaf w is of = holder_at s d.at (d.slot + 1) w.at w.slot of.at_is of.slot_is (record { is_one = is.pair.is_one; is_pinned = is.pair.is_pinned; live = is.pair.live; current = is.pair.current; leaf = is.pair.second })

true_false : (b : Bool) → b ≡ true → b ≡ false → ⊥
true_false b e f = let h : true ≡ false = sym e ∙ f in cc

low_rank : (r d n : ℕ) → r + n ≡ d → d ≤ 2120 → r < 2 ^ 31
low_rank r d n sum most = omega (arith, sum, most)

low_limit : (l n : ℕ) → l ≡ n → n ≤ 2 ^ 47 → l ≤ 2 ^ 47
low_limit l n is le = omega (arith, is, le)

records_rank : (r d : ℕ) → r + 24 ≡ d → d % 32 ≡ 8 → 40 ≤ d → r % 32 ≡ 16
records_rank r d sum ranked least = omega (arith, sum, ranked, least)

pub entries_wanted : (s : State) (d : DirAt) (pair : ℕ) (w : LeafOf) → IsDirAt s d → IsEntriesLeaf d pair w → IsWanted w
entries_wanted s d pair w is of = record {
  low = (low_rank w.rank d.rank 32 of.rank is.most, low_limit w.limit (2 ^ 38) of.limit (omega arith));
  records = λ e. absurd (true_false w.is_dir of.kind e);
}

pub records_wanted : (s : State) (d : DirAt) (leaf : ℕ) (w : LeafOf) → IsDirAt s d → IsRecordsLeaf d leaf w → IsWanted w
records_wanted s d leaf w is of = record {
  low = (low_rank w.rank d.rank 24 of.rank is.most, low_limit w.limit (2 ^ 40) of.limit (omega arith));
  records = λ e. records_rank w.rank d.rank of.rank is.ranked is.least;
}

-- ---- what stays

above_as : (tag tag_is : ℕ) (dir dir_is : Bool) (l : Label) → tag ≡ tag_is → dir ≡ dir_is → IsAbove tag dir l → IsAbove tag_is dir_is l
above_as tag tag_is dir dir_is l t d h = (h.0 ∙ t, λ e. h.1 (e ∙ sym (ap (λ x. kind_at x 0) d)))

pub alters_entries : (s u : State) (d : DirAt) (pair : ℕ) (w : LeafOf) → IsEntriesLeaf d pair w → Alters w.at (λ k. k ≡ w.slot) (λ t. t ≡ w.tag) (IsAbove w.tag w.is_dir) none s u → AltersDir d none s u
alters_entries s u d pair w of x = alters_wider (λ k h. inl (h ∙ of.slot_is)) (λ t h. inl (h ∙ of.tag)) (λ l h. inl (above_as w.tag (32 + 2 * d.number) w.is_dir true l of.tag of.kind h)) (λ b h. h)
    (subst (λ at. Alters at (λ k. k ≡ w.slot) (λ t. t ≡ w.tag) (IsAbove w.tag w.is_dir) none s u) of.at_is x)

pub alters_records : (s u : State) (d : DirAt) (leaf : ℕ) (w : LeafOf) → IsRecordsLeaf d leaf w → Alters w.at (λ k. k ≡ w.slot) (λ t. t ≡ w.tag) (IsAbove w.tag w.is_dir) none s u → AltersDir d none s u
alters_records s u d leaf w of x = alters_wider (λ k h. inr (h ∙ of.slot_is)) (λ t h. inr (h ∙ of.tag)) (λ l h. inr (above_as w.tag (33 + 2 * d.number) w.is_dir false l of.tag of.kind h)) (λ b h. h)
    (subst (λ at. Alters at (λ k. k ≡ w.slot) (λ t. t ≡ w.tag) (IsAbove w.tag w.is_dir) none s u) of.at_is x)

pub alters_leaves : (s u : State) (d : DirAt) (leaves : Leaves) → AltersDir d none s u → AltersDir d (IsLeafOf leaves) s u
alters_leaves s u d leaves x = alters_wider (λ k h. h) (λ t h. h) (λ l h. h) (λ b h. absurd h) x

pub own_as : (u : State) (tag tag_is leaf : ℕ) (dir dir_is : Bool) → tag ≡ tag_is → dir ≡ dir_is → IsOwnLeaf u tag dir leaf → IsOwnLeaf u tag_is dir_is leaf
own_as u tag tag_is leaf dir dir_is t d own = subst (λ x. IsOwnLeaf u x dir_is leaf) t (subst (λ x. IsOwnLeaf u tag x leaf) d own)

-- what is live keeps its label
live_stays : (s u : State) (d : DirAt) (but : ℕ → Type 0) (b : ℕ) → AltersDir d but s u → (s.label b).state ≡ Live → (Made s u b → ⊥) × (u.label b ≡ s.label b)
live_stays s u d but b x live = let none : Made s u b → ⊥ = λ made. made.0 live in (none, x.labels b none)

-- a leaf of a source is not the block with its entry
pub leaf_apart : (s u : State) (d : DirAt) (w : LeafOf) (leaf : ℕ) → IsDirAt s d → w.at ≡ d.at → AltersDir d none s u → (s.label w.at).tag ≢ w.tag → IsOwnLeaf u w.tag w.is_dir leaf → leaf ≢ d.at
leaf_apart s u d w leaf is at_is x apart own here =
    let same = (live_stays s u d none d.at x is.pair.live).1 in
    apart (ap (λ b. (s.label b).tag) at_is ∙ sym (ap (λ (l : Label). l.tag) same) ∙ sym (ap (λ b. (u.label b).tag) here) ∙ own.tagged)

-- the block with a directory's entries stays
pub dir_on : (s u : State) (d : DirAt) (but : ℕ → Type 0) → KeepsAll s u → AltersDir d but s u → IsDirAt s d → IsDirAt u d
dir_on s u d but all x is =
    let p = is.pair in
    let stays = live_stays s u d but d.at x p.live in
    let same = stays.1 in
    record {
      pair = record {
        is_one = (all.same_blocks d.at).1 p.is_one;
        is_pinned = (x.marks d.at stays.0).0 p.is_pinned;
        live = ap (λ (l : Label). l.state) same ∙ p.live;
        current = ap (λ (l : Label). l.epoch) same ∙ p.current ∙ sym all.same_high;
        first = subst (λ (l : Label). HasEntry l.kind d.slot) (sym same) p.first;
        second = subst (λ (l : Label). HasEntry l.kind (d.slot + 1)) (sym same) p.second;
      };
      ranked = is.ranked;
      least = is.least;
      most = is.most;
    }

-- before anything was done, and where nothing is done
pub same_alters : (s : State) (d : DirAt) → AltersDir d none s s
same_alters s d = alters_same d.at (IsSlotOf d) (IsTagOf d) (IsAboveOf d) none s

-- a settling
pub settled_alters : (s u : State) (d : DirAt) → s.pinned d.at → Rests s u → ((b : ℕ) → s.pinned b → StaysKnown s u b) → ((b : ℕ) → (u.label b ≡ s.label b) × (s.pinned b → u.pinned b) × (s.sealed b → u.sealed b)) → u.spare ≡ s.spare → AltersDir d none s u
settled_alters s u d pinned rests known blocks spare = alters_settled d.at (IsSlotOf d) (IsTagOf d) (IsAboveOf d) none s u pinned rests known blocks spare

-- the leaves are in place where they were so, or after a settling
pub placed_before : (s : State) (leaves : Leaves) → s.sealed leaves.entries → s.sealed leaves.records → AreInPlace s leaves
placed_before s leaves entries records b which = inr (⊎_elim (λ e. subst (λ z. s.sealed z) (sym e) entries) (λ e. subst (λ z. s.sealed z) (sym e) records) which)

pub placed_after : (u : State) (d : DirAt) (leaves : Leaves) → ((b : ℕ) → u.pinned b → u.newborn b ⊎ u.sealed b) → AreOwn u d leaves → AreInPlace u leaves
placed_after u d leaves settled own b which = settled b (⊎_elim (λ e. subst (λ z. u.pinned z) (sym e) own.entries_own.is_pinned) (λ e. subst (λ z. u.pinned z) (sym e) own.records_own.is_pinned) which)

-- so does a leaf of which nothing was changed
leaf_on : (s u : State) (d : DirAt) (but : ℕ → Type 0) (tag leaf : ℕ) (dir : Bool) → KeepsAll s u → AltersDir d but s u → (MayPut d.at (IsAboveOf d) but s leaf → ⊥) → IsOwnLeaf s tag dir leaf → IsOwnLeaf u tag dir leaf
leaf_on s u d but tag leaf dir all x not_put own =
    let stays = live_stays s u d but leaf x own.live in
    let same = stays.1 in
    record {
      is_one = (all.same_blocks leaf).1 own.is_one;
      is_pinned = (x.marks leaf stays.0).0 own.is_pinned;
      live = ap (λ (l : Label). l.state) same ∙ own.live;
      current = ap (λ (l : Label). l.epoch) same ∙ own.current ∙ sym all.same_high;
      tagged = ap (λ (l : Label). l.tag) same ∙ own.tagged;
      leaf_kind = ap (λ (l : Label). l.kind) same ∙ own.leaf_kind;
      whole = ap (λ (z : List ℕ). length z) (x.known leaf own.is_pinned stays.0 not_put).bytes ∙ own.whole;
    }

odd_even : (n m : ℕ) → 32 + 2 * n ≡ 33 + 2 * m → ⊥
odd_even n m e = omega (arith, e)

pub entries_on : (s u : State) (d : DirAt) (leaf : ℕ) → KeepsAll s u → AltersDir d none s u → leaf ≢ d.at → IsOwnLeaf s (32 + 2 * d.number) true leaf → IsOwnLeaf u (32 + 2 * d.number) true leaf
entries_on s u d leaf all x ne own = leaf_on s u d none (32 + 2 * d.number) leaf true all x not_put own
  where
    not_put : MayPut d.at (IsAboveOf d) none s leaf → ⊥
    not_put put = ⊎_elim ne (λ other. ⊎_elim (λ above. ⊎_elim (λ h. h.1 own.leaf_kind) (λ h. odd_even d.number d.number (sym own.tagged ∙ h.0)) above.1) (λ h. h) other) put

pub records_on : (s u : State) (d : DirAt) (leaf : ℕ) → KeepsAll s u → AltersDir d none s u → leaf ≢ d.at → IsOwnLeaf s (33 + 2 * d.number) false leaf → IsOwnLeaf u (33 + 2 * d.number) false leaf
records_on s u d leaf all x ne own = leaf_on s u d none (33 + 2 * d.number) leaf false all x not_put own
  where
    not_put : MayPut d.at (IsAboveOf d) none s leaf → ⊥
    not_put put = ⊎_elim ne (λ other. ⊎_elim (λ above. ⊎_elim (λ h. odd_even d.number d.number (sym h.0 ∙ own.tagged)) (λ h. h.1 own.leaf_kind) above.1) (λ h. h) other) put

pub own_on : (s u : State) (d : DirAt) (leaves : Leaves) → KeepsAll s u → AltersDir d none s u → leaves.entries ≢ d.at → leaves.records ≢ d.at → AreOwn s d leaves → AreOwn u d leaves
own_on s u d leaves all x entries_ne records_ne own = record {
  entries_own = entries_on s u d leaves.entries all x entries_ne own.entries_own;
  records_own = records_on s u d leaves.records all x records_ne own.records_own;
}

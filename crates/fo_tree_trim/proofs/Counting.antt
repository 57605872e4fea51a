-- What a cut leaves to be written.
use Rattle.std.specs.List.{Contains}
use Rattle.std.proofs.Common.{◌≡◌, ◌⊎◌, ◌-◌, ◌/◌, ◌<◌, ◌++◌, ◌+◌, ◌≤◌, ℕ, zero, suc, List, [], length-append, inl, inr, ⊎_elim, sym, ◌∙◌, ap, subst, arith}
use Rattle.std.proofs.lemmas.List.{append_assoc}
use Rattle.std.proofs.lemmas.List.Elements.{Contains-append_left, Contains-append_right}
use Rattle.fo_image.specs.declared.types.Label.{Label}
use Rattle.fo_image.specs.declared.types.Pointer.TheVariants.{Local}
use Rattle.fo_ports.specs.State.{State, KeepsAll}
use Rattle.fo_ports.specs.Sources.{AddsDirty, Dirties, DirtiesIn, IsRested}
use Rattle.fo_tree_read.proofs.of_looks.Dirtied.{dirties_joins}
use Rattle.fo_tree_read.specs.declared.tree.Tree.{Tree}
use Rattle.fo_tree_read.specs.Tree.{block_at}
use Rattle.fo_tree_down.specs.Clear.{last_leaf}
use Rattle.fo_tree_down.specs.Way.{OnWay, IsWayIndex}
use Rattle.fo_tree_trim.specs.Cut.{CutSlot, Cuts}
use Rattle.fo_tree_trim.specs.Trim.{AddsEnd, OnEnd}

-- the blocks in which slots were cleared are counted
pub dirties_cuts : {a b c : State} {ps : List ℕ} {cut : ℕ → ℕ → Type 0} → KeepsAll b c → DirtiesIn ps a b → Cuts cut b c → ((x j : ℕ) → cut x j → Contains ps x) → DirtiesIn ps a c
dirties_cuts {a} {b} {c} {ps} {cut} keeps p q here = record {
  dirty = λ x d. ⊎_elim
      (λ was. ⊎_elim (λ old. inl old) (λ h. inr (⊎_elim (λ l. inl l) (λ r. still x r) h)) (p.dirty x was))
      (λ e. inr (inl (here x e.0 e.1)))
      (q.dirty x d);
  made = λ x made. let h = p.made x (made.0, ap (λ (l : Label). l.state) (sym (q.labels x)) ∙ made.1) in (h.0, subst (λ k. Contains ps k) (sym (keeps.same_label_blocks x)) h.1);
  clearing = λ x j h. p.clearing x j ((q.order x j).0 h);
  places = λ x. keeps.same_label_blocks x ∙ p.places x;
}
  where
    still : (x : ℕ) → IsRested a b x → Contains ps x ⊎ IsRested a c x
    still x (inl (j, was, gone)) = inr (inl (j, was, λ now. gone ((q.order x j).0 now)))
    still x (inr (y, live, dead, e)) = inr (inr (y, live, λ now. dead (ap (λ (l : Label). l.state) (sym (q.labels y)) ∙ now), e))

-- a block above a way's last one is on the way there
above_way : (s : State) (t : Tree) (n k m j b : ℕ) → IsWayIndex (suc n) k (suc m) j → block_at s t m (j / 409) ≡ Local b → OnWay s t n (k / 409) b
above_way s t zero k m j b way e = ⊎_elim
    (λ here.
    let level = here.0 in
    let none : m ≡ 0 = omega (arith, level) in
    subst (λ i. block_at s t 0 (i / 409) ≡ Local b) here.1 (subst (λ d. block_at s t d (j / 409) ≡ Local b) none e))
    (λ past. let level = past.0 in absurd (omega (arith, level)))
    way
above_way s t (suc n) k m j b way e = ⊎_elim
    (λ here.
    let level = here.0 in
    let same : m ≡ suc n = omega (arith, level) in
    inr (subst (λ i. block_at s t (suc n) (i / 409) ≡ Local b) here.1 (subst (λ d. block_at s t d (j / 409) ≡ Local b) same e)))
    (λ past. inl (above_way s t n (k / 409) m j b past e))
    way

pub cut_on_end : {s : State} {t : Tree} {x b j : ℕ} → 0 < t.depth → CutSlot s t (last_leaf t.size) x b j → OnEnd s t b
cut_on_end {s = s} {t = t} {b = b} deep cut =
    let level : t.depth ≡ suc (t.depth - 1) = omega (arith, deep) in
    (deep, above_way s t (t.depth - 1) (last_leaf t.size) cut.down cut.way b (subst (λ d. IsWayIndex d (last_leaf t.size) (suc cut.down) cut.way) level cut.is_way) cut.is)

-- The blocks above the last leaf were made current, and a counted block was put into then.
pub ends_beside : {s a m u : State} {n at : ℕ} {t : Tree} {blocks : List ℕ} → Dirties n (OnEnd m t) a m → DirtiesIn blocks s a → Contains blocks at → ((list : List ℕ) → DirtiesIn list s m → Contains list at → DirtiesIn list s u) → ((b : ℕ) → OnEnd u t b → OnEnd m t b)
    → AddsEnd n blocks at t s u
ends_beside {at = at} {blocks = blocks} own before here put back =
    let in_list = Contains-append_right own.blocks blocks at here in
    record {
      more = own.blocks;
      few = own.few;
      within = put (own.blocks ++ blocks) (dirties_joins before own.within) in_list;
      here = in_list;
      end = λ b on. Contains-append_left own.blocks blocks b (own.each b (back b on));
    }

-- What stands behind was cut then, or all was settled.
pub ends_cut : {s u v : State} {n at : ℕ} {t : Tree} {blocks : List ℕ} → AddsEnd n blocks at t s u → ((list : List ℕ) → DirtiesIn list s u → ((b : ℕ) → OnEnd u t b → Contains list b) → DirtiesIn list s v) → AddsDirty n blocks at s v
ends_cut {blocks = blocks} own cut = record { more = own.more; few = own.few; within = cut (own.more ++ blocks) own.within own.end; here = own.here }

pub ends_settled : {s u v : State} {n at : ℕ} {t : Tree} {blocks : List ℕ} → AddsEnd n blocks at t s u → ((list : List ℕ) → DirtiesIn list s u → DirtiesIn list s v) → ((b : ℕ) → OnEnd v t b → OnEnd u t b) → AddsEnd n blocks at t s v
ends_settled {blocks = blocks} own rest back = record { more = own.more; few = own.few; within = rest (own.more ++ blocks) own.within; here = own.here; end = λ b on. own.end b (back b on) }

pub ends_alone : {s u : State} {n at : ℕ} {t : Tree} {blocks : List ℕ} → AddsEnd n blocks at t s u → AddsDirty n blocks at s u
ends_alone own = record { more = own.more; few = own.few; within = own.within; here = own.here }

-- nothing was done
pub adds_none : {s u : State} {n at : ℕ} {blocks : List ℕ} → DirtiesIn blocks s u → Contains blocks at → AddsDirty n blocks at s u
adds_none p here = record { more = []; few = omega arith; within = p; here = here }

-- ---- one after another

pub adds_most : {s u : State} {n m at : ℕ} {blocks : List ℕ} → n ≤ m → AddsDirty n blocks at s u → AddsDirty m blocks at s u
adds_most le p = record { more = p.more; few = let few = p.few in omega (arith, few, le); within = p.within; here = p.here }

pub adds_joins : {s u v : State} {n m at : ℕ} {blocks : List ℕ} (p : AddsDirty n blocks at s u) → AddsDirty m (p.more ++ blocks) at s v → AddsDirty (n + m) blocks at s v
adds_joins {s = s} {v = v} {at = at} {blocks = blocks} p q =
    let all = append_assoc q.more p.more blocks in
    record {
      more = q.more ++ p.more;
      few = let long = length-append q.more p.more in let one = p.few in let two = q.few in omega (arith, long, one, two);
      within = subst (λ list. DirtiesIn list s v) (sym all) q.within;
      here = subst (λ list. Contains list at) (sym all) q.here;
    }

-- Blocks were given out or changed, and a counted block was put into then.
pub adds_beside : {s a m u : State} {n at : ℕ} {counted : ℕ → Type 0} {blocks : List ℕ} → Dirties n counted a m → DirtiesIn blocks s a → Contains blocks at → ((list : List ℕ) → DirtiesIn list s m → Contains list at → DirtiesIn list s u) → AddsDirty n blocks at s u
adds_beside {at = at} {blocks = blocks} own before here put =
    let in_list = Contains-append_right own.blocks blocks at here in
    record { more = own.blocks; few = own.few; within = put (own.blocks ++ blocks) (dirties_joins before own.within) in_list; here = in_list }

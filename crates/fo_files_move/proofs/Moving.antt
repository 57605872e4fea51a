-- A record moves, and what stays.
use Rattle.std.proofs.Common.{◌≡◌, ◌⊎◌, ℕ, Bool, List, length, inl, inr, ⊎_elim, sym, ap, subst, ◌∙◌}
use Rattle.fo_base.specs.Cause.{Rose}
use Rattle.fo_ports.specs.declared.error.BlockError.{BlockError}
use Rattle.fo_ports.specs.declared.error.BlockError.TheVariants.{Damaged, Memory}
use Rattle.fo_meta.specs.Leaf.{IsLeaf}
use Rattle.fo_ports.specs.Causes.{Caused}
use Rattle.std.specs.Prelude.{Result, Ok, Err, IfErr}
use Rattle.fo_ports.specs.State.{State, KeepsAll, Looks}
use Rattle.fo_dir_move.specs.Moves.{AreReady, HasLeaves, MovesAlone}
use Rattle.fo_files_record.specs.Leaf.{IsRecordsAt, IsEntriesAt}
use Rattle.fo_files_record.specs.Stays.{Rewrites, no_slot}
use Rattle.fo_files_record.proofs.Owned.{records_stay, later_failed}

pub rewrites_moves : {s u : State} (from to : ℕ) → MovesAlone from to s u → Rewrites (λ b. (b ≡ from) ⊎ (b ≡ to)) no_slot s u
rewrites_moves from to alone = record {
  labels = alone.labels;
  marks = alone.marks;
  bytes = λ b pinned away. (alone.known b pinned).bytes (λ e. away (inl e)) (λ e. away (inr e));
  slots = λ b n pinned other. (alone.known b pinned).slots n;
  clearing = λ b n h. inl (alone.order b n h);
  left = alone.left;
  numbers = alone.numbers;
}

-- the leaves and that of the entries may take part in a move
pub are_ready : {s : State} (from to entries : ℕ) → (s.tells → ⊥) → (s.covered entries → s.tells) → IsRecordsAt s from → IsRecordsAt s to → IsEntriesAt s entries → AreReady s from to entries
are_ready from to entries silent told one other is = record {
  from_owned = one.owned;
  to_owned = other.owned;
  held = record { is_pinned = is.is_pinned; leaf_kind = is.leaf_kind; uncovered = λ h. silent (told h) };
  from_place = λ h. absurd (silent h);
  to_place = λ h. absurd (silent h);
}

-- a leaf of records over a look
pub records_looks : {s u : State} (leaf : ℕ) → (s.tells → ⊥) → (u.covered leaf → u.tells) → KeepsAll s u → Looks s u → IsRecordsAt s leaf → IsRecordsAt u leaf
records_looks leaf silent told all looks is =
    records_stay leaf silent told all (looks.stays.labels leaf (λ n. n)) (looks.stays.marks leaf (λ n. n)).0 (ap (λ (xs : List ℕ). length xs) (looks.known leaf is.owned.is_pinned).bytes ∙ is.owned.whole) is

-- bytes that are a leaf's
pub leaf_was : {bytes old : List ℕ} → bytes ≡ old → IsLeaf bytes → IsLeaf old
leaf_was same is = subst IsLeaf same is

-- two leaves have what they had
pub leaves_join : {m u : State} {from to : ℕ} {a b : List ℕ} → HasLeaves from to a b m → HasLeaves from to ((m.now from).bytes) ((m.now to).bytes) u → HasLeaves from to a b u
leaves_join p q = record { from_is = q.from_is ∙ p.from_is; to_is = q.to_is ∙ p.to_is }

-- a leaf that is damaged, and want of memory
pub named_failed : (s u : State) (leaf : ℕ) → s.is_block leaf → (why : BlockError) → (why ≡ Memory) ⊎ (why ≡ Damaged leaf) → Caused ⊥ s.is_block (Rose s.faults u.faults) ⊥ why
named_failed s u leaf block why is = ⊎_elim
    (λ memory. subst (λ e. Caused ⊥ s.is_block (Rose s.faults u.faults) ⊥ e) (sym memory) tt)
    (λ damaged. subst (λ e. Caused ⊥ s.is_block (Rose s.faults u.faults) ⊥ e) (sym damaged) block)
    is

-- a later refusal has its cause
pub moved_failed : (a b c : State) → KeepsAll a b → (r : Result Bool BlockError) → IfErr r (Caused ⊥ b.is_block (Rose b.faults c.faults) ⊥) → IfErr r (Caused ⊥ a.is_block (Rose a.faults c.faults) ⊥)
moved_failed a b c all (Ok fits) cause = tt
moved_failed a b c all (Err why) cause = later_failed a b c all why cause

-- Laws of the trees: each step of a cache keeps the invariant with snapshots.
use Rattle.std.specs.Prelude.{◌≡◌, ◌≢◌, ◌⊎◌, ◌≤◌, ℕ, suc, List, [], ◌∷◌, ◌++◌, map}
use Rattle.std.specs.List.{Contains}
use Rattle.fo_image.specs.declared.types.Label.{Label}
use Rattle.fo_image.specs.declared.types.State.TheVariants.{Live}
use Rattle.fo_image.specs.declared.types.Pointer.TheVariants.{Local}
use Rattle.fo_crash.specs.declared.slot.Slot.{Slot}
use Rattle.fo_crash.specs.declared.place.Place.{Place}
use Rattle.fo_crash.specs.Images.{Content, SameContent, target, to_block}
use Rattle.fo_crash.specs.Places.{place_below}
use Rattle.fo_crash.specs.Steps.{Brings}
use Rattle.fo_cells.specs.Known.{Known, Top, IsWait, IsClear, Stands}
use Rattle.fo_cells.specs.Writes.{Writes, WritesLabels, Syncs, Ends, Puts, Gives, Relabels, Fires}
use Rattle.fo_cells.specs.Calls.{PutsInto, Awaits, WaitsMore, TriesSuper, CountsSuper, Indexes}
use Rattle.fo_cells.specs.Safe.{IsLive, IsCurrent, MayWait, MayClear}
use Rattle.fo_cells.specs.Laws.{NoWait}
use Rattle.fo_cells_out.specs.Parents.{view}
use Rattle.fo_cells_epochs.specs.Epochs.{Root, root_top, tree_of, IsHeldAt, IsRead, IsLabelSet, NamesSet, FewerTops, MovesTop, from_tops, kept_root, begun, BeginsEpoch, RaisesLow, HasEpochs}

-- what was known holds, and holds of what is known now
abbrev pub Keeps : Known → Known → Type 0
Keeps old new = (high : ℕ) (high_of : Content → ℕ) (doubts : List Content) (active : List Top) (roots : List Root) → IsRead high_of → HasEpochs old high high_of doubts active roots → HasEpochs new high high_of doubts active roots

abbrev pub WriteKeeps : Type 0
WriteKeeps = (at : ℕ) (f : Content) (old new : Known) → Writes at f old new → NamesSet at f old new → ((high : ℕ) → IsCurrent old high at) → (at ≡ 1 → SameContent f (old.memory 1)) → NoWait old new → Keeps old new

abbrev pub LabelKeeps : Type 0
LabelKeeps = (old new : Known) → WritesLabels old new → Keeps old new

abbrev pub SyncKeeps : Type 0
SyncKeeps = (old new : Known) → Syncs old new → NoWait old new → Keeps old new

abbrev pub EndKeeps : Type 0
EndKeeps = (old new : Known) → Ends old new → NoWait old new → Keeps old new

abbrev pub ClearingKeeps : Type 0
ClearingKeeps = (at i leaf : ℕ) (old new : Known) → Fires at i leaf old new → at ≢ 1 → NoWait old new → Keeps old new

-- A slot is put: what it leads to stands in the active trees. Blocks that it links are tops no more.
abbrev pub SlotKeeps : Type 0
SlotKeeps = (at i high : ℕ) (s : Slot) (high_of : Content → ℕ) (doubts : List Content) (active after : List Top) (roots : List Root) (old new : Known) → Puts at i s old new → new.tops ≡ after ++ map root_top roots → FewerTops active after → IsCurrent old high at → at ≢ 1 → (old.label at).epoch ≡ high → Brings old.memory s (λ b. IsLive high (old.label b)) → ((b : ℕ) → target s ≡ Local b → (q : Place) × Stands (view old active) b q) → IsRead high_of → HasEpochs old high high_of doubts active roots → HasEpochs new high high_of doubts after roots

abbrev pub BytesKeep : Type 0
BytesKeep = (at high : ℕ) (bytes : List ℕ) (high_of : Content → ℕ) (doubts : List Content) (active : List Top) (roots : List Root) (old new : Known) → PutsInto at bytes old new → IsCurrent old high at → at ≢ 1 → IsRead high_of → HasEpochs old high high_of doubts active roots → HasEpochs new high high_of doubts active roots

abbrev pub AwaitKeeps : Type 0
AwaitKeeps = (at i leaf high : ℕ) (high_of : Content → ℕ) (doubts : List Content) (active : List Top) (roots : List Root) (old new : Known) → Awaits at i leaf old new → MayClear old high at leaf → IsRead high_of → HasEpochs old high high_of doubts active roots → HasEpochs new high high_of doubts active roots

abbrev pub WaitKeeps : Type 0
WaitKeeps = (old new : Known) → WaitsMore old new → ((leaf on j : ℕ) → IsWait new.waits leaf on j → IsWait old.waits leaf on j ⊎ MayWait old leaf on) → Keeps old new

-- A block is given out, of the high epoch, or of the next one as a snapshot's new root is: it is a top.
abbrev pub GivingKeeps : Type 0
GivingKeeps = (at high : ℕ) (c : Content) (p : Place) (high_of : Content → ℕ) (doubts : List Content) (active : List Top) (roots : List Root) (old new : Known) → Gives at c p old new → at ≢ 1 → high ≤ (new.label at).epoch → (new.label at).state ≡ Live → ((i t : ℕ) → target (c.slot i) ≡ Local t → (old.label t).epoch ≤ (new.label at).epoch × Stands (view old active) t (place_below p i (c.slot i))) → new.tops ≡ record { at = at; place = p } ∷ active ++ map root_top roots → NoWait old new → IsRead high_of → HasEpochs old high high_of doubts active roots → HasEpochs new high high_of doubts (record { at = at; place = p } ∷ active) roots

abbrev pub IndexingKeeps : Type 0
IndexingKeeps = (at high : ℕ) (q : Place) (high_of : Content → ℕ) (doubts : List Content) (active after : List Top) (roots : List Root) (old new : Known) → Indexes at q old new → MovesTop at q active after → new.tops ≡ after ++ map root_top roots → (old.label at).epoch ≡ high → ((r : Place) × Stands (view old active) at r) → ((leaf on j : ℕ) → IsWait old.waits leaf on j → (leaf ≢ at) × (on ≢ at)) → IsRead high_of → HasEpochs old high high_of doubts active roots → HasEpochs new high high_of doubts after roots

-- A block is closed that stands in no active tree; the kept trees that have it may have its label.
abbrev pub ClosingKeeps : Type 0
ClosingKeeps = (b high : ℕ) (l : Label) (high_of : Content → ℕ) (doubts : List Content) (active : List Top) (roots : List Root) (old new : Known) → Relabels b l old new → ((p : Place) → Stands (view old active) b p → ⊥) → ((r : Root) → Contains roots r → (p : Place) → Stands (tree_of old r) b p → IsHeldAt r.epoch l) → ((i leaf : ℕ) → IsClear old.clears b i leaf → ⊥) → IsRead high_of → HasEpochs old high high_of doubts active roots → HasEpochs new high high_of doubts active roots

-- A super block is tried, which names roots of the active trees with labels that are set, of its high epoch.
abbrev pub SuperKeeps : Type 0
SuperKeeps = (d : Content) (high : ℕ) (high_of : Content → ℕ) (doubts : List Content) (active : List Top) (roots : List Root) (old new : Known) → TriesSuper d old new → ((i b : ℕ) → target (d.slot i) ≡ Local b → (d.slot i ≡ to_block b) × ((old.label b).epoch ≡ high_of d) × ((q : Place) × Stands (view old active) b q) × IsLabelSet old b) → IsRead high_of → HasEpochs old high high_of doubts active roots → HasEpochs new high high_of (d ∷ []) active roots

-- It counts, of the same epoch, and leads where memory's leads.
abbrev pub CountingKeeps : Type 0
CountingKeeps = (d : Content) (high : ℕ) (high_of : Content → ℕ) (doubts : List Content) (active : List Top) (roots : List Root) (old new : Known) → CountsSuper d old new → high_of d ≡ high → ((i : ℕ) → d.slot i ≡ (old.memory 1).slot i) → IsRead high_of → HasEpochs old high high_of doubts active roots → HasEpochs new high high_of [] active roots

-- It counts, and a new epoch begins.
abbrev pub SnapshotKeeps : Type 0
SnapshotKeeps = (d : Content) (root next high : ℕ) (high_of : Content → ℕ) (doubts : List Content) (active after : List Top) (roots : List Root) (old mid : Known) → BeginsEpoch d root next high old mid → FewerTops active after → high_of d ≡ suc high → HasEpochs old high high_of doubts active roots → HasEpochs (begun mid after (kept_root root high ∷ roots)) (suc high) high_of [] after (kept_root root high ∷ roots)

abbrev pub LowKeeps : Type 0
LowKeeps = (low high : ℕ) (high_of : Content → ℕ) (doubts : List Content) (active : List Top) (roots kept : List Root) (k : Known) → RaisesLow low roots kept → HasEpochs k high high_of doubts active roots → HasEpochs (from_tops k (active ++ map root_top kept) low) high high_of doubts active kept

abbrev pub OverrulingKeeps : Type 0
OverrulingKeeps = (high : ℕ) (high_of : Content → ℕ) (doubts : List Content) (active : List Top) (roots : List Root) (k : Known) → ((c : Content) → Contains (k.versions 1) c → SameContent c (k.memory 1)) → HasEpochs k high high_of doubts active roots → HasEpochs k high high_of [] active roots

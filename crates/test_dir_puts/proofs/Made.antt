-- Leaves that were given out are owned, over blocks that tell nothing.
use Rattle.std.proofs.Common.{◌≡◌, ◌≢◌, ◌∙◌, ℕ, true, List, [], length, find, refl, sym, ap, subst}
use Rattle.std.specs.List.{list_any}
use Rattle.std.proofs.lemmas.Slice.Eq.{bytes_eq-Decides}
use Rattle.fo_image.specs.declared.record.Record.{Record}
use Rattle.fo_image.specs.declared.types.Label.{Label}
use Rattle.fo_image.specs.declared.types.State.TheVariants.{Live}
use Rattle.fo_image.specs.declared.types.Kind.TheVariants.{Data, Dir}
use Rattle.fo_crash.specs.Images.{Content}
use Rattle.fo_ports.specs.Blocks.{blank}
use Rattle.fo_ports.proofs.Lengths.{length_zero_bytes}
use Rattle.fo_ports.specs.State.{State, KeepsAll, Gives}
use Rattle.fo_meta.specs.Leaf.{IsLeaf, SpellsLeaf, is_named}
use Rattle.fo_meta.proofs.Lists.{any-first, find-first}
use Rattle.fo_good.proofs.Leaf.{leaf_is_read}
use Rattle.fo_dir_add.specs.Adds.{HasAdded}
use Rattle.fo_dir_change.specs.Changes.{Bears, IsFirstOf}
use Rattle.fo_dir_put.specs.Puts.{StaysCalm, IsOwnedEntries, IsOwnedRecords}

-- a new leaf of records, and one of entries
pub made_records : {a b : State} {new : ℕ} {l : Label} → Gives new (blank (Data 0)) l a b → KeepsAll a b → (b.tells → ⊥) → l.kind ≡ Data 0 → l.epoch ≡ a.high → IsOwnedRecords b new
made_records gives all untold kind epoch = record {
  is_pinned = gives.is.1;
  current = ap (λ (x : Label). x.epoch) gives.label ∙ epoch ∙ sym all.same_high;
  leaf_kind = ap (λ (x : Label). x.kind) gives.label ∙ kind;
  whole = ap (λ (xs : List ℕ). length xs) gives.memory.here.bytes ∙ length_zero_bytes;
  uncovered = gives.is.4;
  other = λ told. absurd (untold told);
}

pub made_entries : {a b : State} {new : ℕ} {l : Label} → Gives new (blank (Dir 0)) l a b → KeepsAll a b → (b.tells → ⊥) → l.kind ≡ Dir 0 → l.epoch ≡ a.high → IsOwnedEntries b new
made_entries gives all untold kind epoch = record {
  is_pinned = gives.is.1;
  current = ap (λ (x : Label). x.epoch) gives.label ∙ epoch ∙ sym all.same_high;
  leaf_kind = ap (λ (x : Label). x.kind) gives.label ∙ kind;
  linked = λ told. absurd (untold told);
  uncovered = gives.is.4;
}

-- a live block is another one
pub other_one : {a b : State} {new x : ℕ} {content : Content} {l : Label} → Gives new content l a b → (a.label x).state ≡ Live → x ≢ new
other_one {a = a} gives live e = gives.was.0 (ap (λ y. (a.label y).state) (sym e) ∙ live)

pub given_records : {a b : State} {new x : ℕ} {content : Content} {l : Label} → Gives new content l a b → KeepsAll a b → (b.tells → ⊥) → x ≢ new → IsOwnedRecords a x → IsOwnedRecords b x
given_records {x = x} gives all untold ne owned = record {
  is_pinned = (gives.stays.marks x ne).0 owned.is_pinned;
  current = ap (λ (y : Label). y.epoch) (gives.stays.labels x ne) ∙ owned.current ∙ sym all.same_high;
  leaf_kind = ap (λ (y : Label). y.kind) (gives.stays.labels x ne) ∙ owned.leaf_kind;
  whole = ap (λ (xs : List ℕ). length xs) ((gives.memory.others x ne).bytes) ∙ owned.whole;
  uncovered = λ h. owned.uncovered ((gives.covered x ne).0 h);
  other = λ told. absurd (untold told);
}

-- what is owned is so after a put
pub calm_entries : {a b : State} {at : ℕ} → KeepsAll a b → StaysCalm a b → (b.tells → ⊥) → IsOwnedEntries a at → IsOwnedEntries b at
calm_entries {at = at} all calm untold owned = record {
  is_pinned = (calm.marks at).0 owned.is_pinned;
  current = ap (λ (l : Label). l.epoch) (calm.labels at) ∙ owned.current ∙ sym all.same_high;
  leaf_kind = ap (λ (l : Label). l.kind) (calm.labels at) ∙ owned.leaf_kind;
  linked = λ told. absurd (untold told);
  uncovered = calm.uncovered at owned.uncovered;
}

-- ---- the record that was added

same_name : (r : Record) → is_named r.name r ≡ true
same_name r = (bytes_eq-Decides r.name r.name).1 refl

-- the records of a leaf are those that it spells
rows_are : {rs ts : List Record} {leaf : List ℕ} → SpellsLeaf rs leaf → SpellsLeaf ts leaf → rs ≡ ts
rows_are {rs = rs} {ts = ts} {leaf = leaf} s t = sym (leaf_is_read rs leaf s) ∙ leaf_is_read ts leaf t

pub added_bears : {r : Record} {bytes old new : List ℕ} → IsLeaf bytes → HasAdded r old new → old ≡ bytes → Bears r.name new
added_bears {r = r} {old = old} leaf added is = record {
  each = λ rs s. ap (list_any (is_named r.name)) (rows_are s (added.each leaf.records (subst (λ xs. SpellsLeaf leaf.records xs) (sym is) leaf.spells))) ∙ any-first (is_named r.name) leaf.records [] r (same_name r);
}

pub added_first : {r : Record} {bytes old new : List ℕ} → SpellsLeaf [] bytes → HasAdded r old new → old ≡ bytes → IsFirstOf r.name new r
added_first {r = r} empty added is = record {
  each = λ rs s. ap (find (is_named r.name)) (rows_are s (added.each [] (subst (λ xs. SpellsLeaf [] xs) (sym is) empty))) ∙ find-first (is_named r.name) [] [] r refl (same_name r);
}

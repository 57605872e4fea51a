-- What a change of a file leaves of a block that was made ready before (draft: not checked).
use Rattle.std.proofs.Common.{◌≡◌, ◌≢◌, ◌⊎◌, ◌+◌, ◌*◌, ℕ, false, List, Option, ⊎_elim, sym, subst, ap, ◌∙◌}
use Rattle.fo_image.specs.declared.types.State.TheVariants.{Live}
use Rattle.fo_image.specs.declared.types.Label.{Label}
use Rattle.fo_image.specs.declared.record.Record.{Record}
use Rattle.fo_ports.specs.State.{State, Looks, none}
use Rattle.fo_ports.specs.Sources.{Made}
use Rattle.fo_files_dir.specs.declared.dir.DirAt.{DirAt}
use Rattle.fo_files_dir.specs.declared.dir.FileAt.{FileAt}
use Rattle.fo_files_into.specs.of_files_leaf.Alters.{MayPut}
use Rattle.fo_files_into.specs.of_files_leaf.Leaf.{IsAbove}
use Rattle.fo_files_record.specs.Stays.{Rewrites, no_slot}
use Rattle.fo_files_into.specs.of_files_change.Records.{AltersRecords}
use Rattle.fo_files_into.specs.of_files_write.Alters.{Alters, MayChange, any_kind}
use Rattle.fo_files_into.specs.of_files_ready.Ready.{IsLeafOf}
use Rattle.fo_files_into.specs.Into.{Edits}

-- a block keeps its label, its pin and its bytes
pub record Same (s u : State) (b : ℕ) : Type 0 where
  pub label : u.label b ≡ s.label b
  pub is_pinned : u.pinned b
  pub bytes : (u.now b).bytes ≡ (s.now b).bytes

pub same_joins : (s m u : State) (b : ℕ) → Same s m b → Same m u b → Same s u b
same_joins s m u b x y = record { label = y.label ∙ x.label; is_pinned = y.is_pinned; bytes = y.bytes ∙ x.bytes }

still_live : (s u : State) (b : ℕ) → Same s u b → (s.label b).state ≡ Live → (u.label b).state ≡ Live
still_live s u b same live = ap (λ (l : Label). l.state) same.label ∙ live

pub same_looks : (s u : State) (b : ℕ) → s.pinned b → Looks s u → Same s u b
same_looks s u b pin looks = record { label = looks.stays.labels b (λ n. n); is_pinned = (looks.stays.marks b (λ n. n)).0 pin; bytes = (looks.known b pin).bytes }

pub same_rewrites : (leaves : ℕ → Type 0) (s u : State) (b : ℕ) → s.pinned b → (leaves b → ⊥) → Rewrites leaves no_slot s u → Same s u b
same_rewrites leaves s u b pin aside x = record { label = x.labels b; is_pinned = (x.marks b).0 pin; bytes = x.bytes b pin aside }

-- the block with a directory's entries keeps its bytes, and so does one that isn't put into
pub same_records : (s u : State) (d : DirAt) (b : ℕ) → s.pinned b → (s.label b).state ≡ Live → (b ≡ d.at) ⊎ (MayPut d.at (IsAbove (33 + 2 * d.number) false) none s b → ⊥) → AltersRecords d s u → Same s u b
same_records s u d b pin live at x =
    let out : Made s u b → ⊥ = λ made. made.0 live in
    record {
      label = x.labels b out;
      is_pinned = (x.marks b out).0 pin;
      bytes = ⊎_elim (λ here. subst (λ k. (u.now k).bytes ≡ (s.now k).bytes) (sym here) x.bytes) (λ aside. (x.known b pin out aside).bytes) at;
    }

pub same_data : (s u : State) (f : FileAt) (b : ℕ) → s.pinned b → (s.label b).state ≡ Live → (MayChange f.at (32 + 2 * f.number) any_kind s b → ⊥) → Alters f.at f.slot (32 + 2 * f.number) any_kind s u → Same s u b
same_data s u f b pin live aside x =
    let out : Made s u b → ⊥ = λ made. made.0 live in
    let stays = x.others b out in
    record { label = stays.label; is_pinned = stays.is_pinned pin; bytes = (x.memory b pin out aside).bytes }

-- over a whole change: what is asked of the block is asked of its label alone, which stays
pub same_edits : (B : Type 0) (state : B → State) (old new : B) (dir : DirAt) (file : FileAt) (i spare : ℕ) (name : List ℕ) (named : Record) (given : Option ℕ) (b : ℕ) → (x : Edits B state old new dir file i spare name named given)
    → (state old).pinned b → ((state old).label b).state ≡ Live
    → (b ≡ dir.at) ⊎ (MayPut dir.at (IsAbove (33 + 2 * dir.number) false) none (state old) b → ⊥)
    → ((s : State) → s.label b ≡ (state old).label b → IsLeafOf dir s b → ⊥)
    → ((s : State) → s.label b ≡ (state old).label b → MayChange file.at (32 + 2 * file.number) any_kind s b → ⊥)
    → b ≢ x.leaf → Same (state old) (state new) b
same_edits B state old new dir file i spare name named given b x pin live at leaf beside other =
    let s = state old in
    let m = state x.owned in
    let n = state x.ready in
    let k = state x.looked in
    let e = state x.cut in
    let u = state new in
    let first = same_records s m dir b pin live at x.readied in
    let second = same_joins s m n b first (same_rewrites (IsLeafOf dir m) m n b first.is_pinned (leaf m first.label) x.moved) in
    let third = same_joins s n k b second (same_looks n k b second.is_pinned x.looks) in
    let fourth = same_joins s k e b third (same_data k e file b third.is_pinned (still_live s k b third live) (beside k third.label) x.alters) in
    same_joins s e u b fourth (same_rewrites (λ a. a ≡ x.leaf) e u b fourth.is_pinned other x.stays)

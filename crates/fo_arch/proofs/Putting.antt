-- Pieces that are put one after another, up to one that is refused.
use Rattle.std.proofs.Common.{◌≡◌, ◌⊎◌, ⊎_elim, inl, inr, ℕ, ◌+◌, List, ◌∷◌, drop, refl, sym, subst}
use Rattle.sha1.specs.Sha1.{sha1}
use Rattle.fo_disk.specs.Disk.{DiskState}
use Rattle.fo_image.specs.declared.types.ArenaLine.{ArenaLine}
use Rattle.venti_store.specs.Arena.{lines_of, Keeps, PutsLine, RefusesHeld, IsMemory, IsWriteOrSync}
use Rattle.venti_store.specs.declared.shelf.Shelf.{Shelf}
use Rattle.venti_store.specs.declared.error.ArenaError.{ArenaError}
use Rattle.venti_store.specs.declared.error.ArenaError.TheVariants as why
use Rattle.fo_arch_hash.specs.declared.types.Piece.{Piece}
use Rattle.fo_arch.specs.Stores.{IsMore, PutsAll, MayPut, HeldRefuses, none, one}
use Rattle.fo_arch.proofs.Growing.{more_none, more_joins}

pub put_none : (pieces : List Piece) (lines : List ArenaLine) → PutsAll pieces lines 0 lines
put_none pieces lines = none 0 lines refl refl

pub put_one : {pieces : List Piece} {old mid new : List ArenaLine} {n : ℕ} {p : Piece} {rest : List Piece} → PutsAll pieces old n mid → drop n pieces ≡ p ∷ rest → PutsLine p.kind p.bytes.items mid new → PutsAll pieces old (n + 1) new
put_one {mid = mid} {new = new} {n = n} {p = p} {rest = rest} before is line = one n (n + 1) p rest mid new before is line refl

-- the first n were put, and maybe one more, where memory was wanting then
pub put_maybe : {pieces : List Piece} {old mid new : List ArenaLine} {n : ℕ} {p : Piece} {rest : List Piece} (e : ArenaError) → PutsAll pieces old n mid → drop n pieces ≡ p ∷ rest → MayPut p mid new e → PutsAll pieces old n new ⊎ (IsMemory e × PutsAll pieces old (n + 1) new)
put_maybe {pieces = pieces} {old = old} {n = n} e before is may = ⊎_elim
    (λ same. inl (subst (λ (ls : List ArenaLine). PutsAll pieces old n ls) (sym same) before))
    (λ put. inr (put.0, put_one before is put.1))
    may

-- ---- a refusal over an arena that tells what it holds

-- nothing was put
pub refused_same : (kind : ℕ) (bytes : List ℕ) (old new : Shelf) (stored : List (List ℕ)) (synced : ℕ) (s : DiskState) (e : ArenaError) → lines_of new ≡ lines_of old → Keeps new stored synced s → RefusesHeld (lines_of old) stored (sha1 bytes) kind e → HeldRefuses kind bytes new stored synced s e
refused_same kind bytes old new stored synced s e same keeps why = record {
  held = stored;
  more = more_none stored stored refl;
  keeps = keeps;
  why = subst (λ (ls : List ArenaLine). RefusesHeld ls stored (sha1 bytes) kind e) (sym same) why;
}

-- a write or a sync says nothing of what is held
later_held : (lines : List ArenaLine) (stored : List (List ℕ)) (score : List ℕ) (kind : ℕ) (e : ArenaError) → IsWriteOrSync e → RefusesHeld lines stored score kind e
later_held lines stored score kind why.ArenaWrite is = tt
later_held lines stored score kind why.ArenaSync is = tt
later_held lines stored score kind why.Absent is = absurd is
later_held lines stored score kind (why.Collision first second) is = absurd is
later_held lines stored score kind why.ArenaFull is = absurd is
later_held lines stored score kind why.BadScore is = absurd is
later_held lines stored score kind (why.Damaged at) is = absurd is
later_held lines stored score kind why.ArenaRead is = absurd is
later_held lines stored score kind why.Memory is = absurd is

-- it was put, and could not be settled
pub refused_later : (kind : ℕ) (bytes : List ℕ) (new : Shelf) (stored held : List (List ℕ)) (synced : ℕ) (s : DiskState) (e : ArenaError) → IsMore stored held → Keeps new held synced s → IsWriteOrSync e → HeldRefuses kind bytes new stored synced s e
refused_later kind bytes new stored held synced s e more keeps is = record { held = held; more = more; keeps = keeps; why = later_held (lines_of new) held (sha1 bytes) kind e is }

-- pieces were stored, and then one was refused
pub refused_joins : {kind : ℕ} {bytes : List ℕ} {new : Shelf} {stored mid : List (List ℕ)} {synced : ℕ} {s : DiskState} {e : ArenaError} → IsMore stored mid → HeldRefuses kind bytes new mid synced s e → HeldRefuses kind bytes new stored synced s e
refused_joins more h = record { held = h.held; more = more_joins more h.more; keeps = h.keeps; why = h.why }

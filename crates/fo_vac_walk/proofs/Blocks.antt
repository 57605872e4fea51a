-- What is got from an arena of which it is told what it holds.
use Rattle.std.proofs.Common.{◌≡◌, ◌∙◌, ℕ, List, Some, sym, ap, arith}
use Rattle.std.specs.BTreeMap.{get}
use Rattle.fo_disk.specs.Disk.{DiskState}
use Rattle.venti_store.specs.Held.{IsHeld}
use Rattle.venti_store.specs.Names.{name_cmp}
use Rattle.venti_store.specs.Arena.{lines_of}
use Rattle.venti_store.specs.declared.shelf.Shelf.{Shelf}
use Rattle.fo_vac_open.specs.Held.{held}
use Rattle.fo_vac_open.specs.Laws.{AreApart}
use Rattle.fo_vac_open.proofs.Held.{held_is}
use Rattle.fo_vac_walk.specs.Walk.{Holding, IsTold}

-- what is told stays where nothing changed
pub still_told : (h : Holding) (s now : Shelf) (old new : DiskState) → now ≡ s → new ≡ old → IsTold h s old → IsTold h now new
still_told h s now old new is kept t = rw (is, kept) t

some_same : (a b : ℕ) → Some a ≡ Some b → a ≡ b
some_same a b e = cc

apart_lines : (s : Shelf) → AreApart (lines_of s)
apart_lines s one other lt used same =
    let e : Some one ≡ Some other = sym (s.index.found one (omega (arith, lt, used))) ∙ ap (get name_cmp s.index.places) same ∙ s.index.found other used in
    let is = some_same one other e in
    omega (arith, lt, is)

pub got_bytes : (h : Holding) (s : Shelf) (d : DiskState) (score : List ℕ) (kind : ℕ) (bytes : List ℕ) → IsTold h s d → IsHeld (lines_of s) h.stored score kind bytes → bytes ≡ held h.lines h.stored score kind
got_bytes h s d score kind bytes t is = sym (ap (λ ls. held ls h.stored score kind) t.lines_are ∙ held_is (lines_of s) h.stored score kind bytes (apart_lines s) is)

pub lines_later : (h : Holding) (s now : Shelf) (d : DiskState) → IsTold h s d → now ≡ s → lines_of now ≡ h.lines
lines_later h s now d t is = ap lines_of is ∙ sym t.lines_are

-- The bytes that an arena keeps are those that memory and the device have.
use Rattle.std.proofs.Common.{◌≡◌, ◌∙◌, ℕ, ◌+◌, ◌-◌, ◌<◌, Bool, true, false, cond, nat_lt, List, [], length, slice_index_or, take, refl, sym, ap, arith}
use Rattle.std.proofs.lemmas.Bool.{ltb-true, ltb-false}
use Rattle.std.proofs.lemmas.List.{get_or-drop}
use Rattle.std.proofs.lemmas.List.Elements.{Contains-get_or}
use Rattle.std.proofs.lemmas.List.FromFn.{fill_by_all}
use Rattle.fo_disk.specs.Disk.{Block, DiskState, versions_of, latest_of}
use Rattle.fo_image.specs.Place.{arena_places, stored_block}
use Rattle.venti_store.specs.Held.{line_at, stored_at}
use Rattle.venti_store.specs.Kept.{waits}
use Rattle.venti_store.specs.Arena.{lines_of, Keeps}
use Rattle.venti_store.specs.declared.shelf.Shelf.{Shelf}
use Rattle.fo_vac_open.specs.Stored.{settled_places, bytes_in}
use Rattle.fo_vac_open.specs.Laws.{StoredIs}

within : (size place : ℕ) → place < arena_places size → stored_block place < size
within size place lt = omega arith

bytes_are : (shelf : Shelf) (stored : List (List ℕ)) (synced : ℕ) (s : DiskState) → Keeps shelf stored synced s → (place : ℕ) → place < length (lines_of shelf) → stored_at stored place ≡ bytes_in shelf s.holds place
bytes_are shelf stored synced s k place used = by (nat_lt place (settled_places shelf)) refl
  where
    vs : List Block
    vs = versions_of s.holds (stored_block place)

    settled_bytes : List ℕ
    settled_bytes = take (line_at (lines_of shelf) place).len (latest_of vs)

    waiting_bytes : List ℕ
    waiting_bytes = slice_index_or (waits shelf.pending.items) (place - settled_places shelf) []

    by : (b : Bool) → nat_lt place (settled_places shelf) ≡ b → stored_at stored place ≡ cond b settled_bytes waiting_bytes
    by true is =
        let lt = ltb-true place (settled_places shelf) is in
        let there = within shelf.blocks place (omega (arith, used, shelf.places)) in
        let some = k.some (stored_block place) there in
        (k.fits (stored_block place) (latest_of vs) there (Contains-get_or vs (length vs - 1) [] (omega (arith, some)))).bytes place lt refl
    by false is =
        let ge = ltb-false place (settled_places shelf) is in
        let same : settled_places shelf + (place - settled_places shelf) ≡ place = omega (arith, ge) in
        sym (ap (λ ws. slice_index_or ws (place - settled_places shelf) []) k.wait ∙ get_or-drop (settled_places shelf) stored (place - settled_places shelf) [] ∙ ap (λ n. slice_index_or stored n []) same)

pub stored_is : StoredIs
stored_is shelf stored synced s k =
    sym (fill_by_all (bytes_in shelf s.holds) stored (length (lines_of shelf)) [] k.count (bytes_are shelf stored synced s k))

-- What the root and the top block of an archive say of it.
use Rattle.std.proofs.Common.{◌≡◌, inr, ℕ, List, Ok, Err, Result, MatchResult}
use Rattle.fo_disk.specs.Disk.{DiskState}
use Rattle.fo_image.specs.declared.types.ArenaLine.{ArenaLine}
use Rattle.fo_vacput.specs.declared.types.VacTop.{VacTop}
use Rattle.venti_store.specs.Held.{IsHeld}
use Rattle.venti_store.specs.Arena.{Keeps}
use Rattle.venti_store.specs.declared.error.ArenaError.TheVariants as why
use Rattle.venti_store.specs.declared.shelf.Shelf.{Shelf}
use Rattle.fo_vac_open.specs.declared.types.VacError.{VacError}
use Rattle.fo_vac_open.specs.declared.types.VacError.TheVariants as vac
use Rattle.fo_vac_open.specs.Open.{SpellsTop, LacksTop, HasTop, TopLacks}

-- the bytes that are held give the top block, or show that there is none
pub top_held : (lines : List ArenaLine) (stored : List (List ℕ)) (score bytes : List ℕ) → IsHeld lines stored score 17 bytes → (result : Result VacTop VacError)
    → MatchResult result (SpellsTop bytes) (LacksTop bytes) → MatchResult result (HasTop lines stored score) (TopLacks lines stored score)
top_held lines stored score bytes held (Ok top) s = record { bytes = bytes; held = held; spelled = s }
top_held lines stored score bytes held (Err vac.BadVac) none = inr (record { bytes = bytes; held = held; none = none })
top_held lines stored score bytes held (Err (vac.Arena why.Absent)) none = absurd none
top_held lines stored score bytes held (Err (vac.Arena (why.Collision one other))) none = absurd none
top_held lines stored score bytes held (Err (vac.Arena why.ArenaFull)) none = absurd none
top_held lines stored score bytes held (Err (vac.Arena why.BadScore)) none = absurd none
top_held lines stored score bytes held (Err (vac.Arena (why.Damaged at))) none = absurd none
top_held lines stored score bytes held (Err (vac.Arena why.ArenaRead)) none = absurd none
top_held lines stored score bytes held (Err (vac.Arena why.ArenaWrite)) none = absurd none
top_held lines stored score bytes held (Err (vac.Arena why.ArenaSync)) none = absurd none
top_held lines stored score bytes held (Err (vac.Arena why.Memory)) none = tt

-- what is kept is kept where nothing changed
pub still_keeps : (s now : Shelf) (stored : List (List ℕ)) (synced : ℕ) (old new : DiskState) → now ≡ s → new ≡ old → Keeps s stored synced old → Keeps now stored synced new
still_keeps s now stored synced old new is same k = rw (is, same) k

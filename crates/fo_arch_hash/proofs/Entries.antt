-- Archived entries have a spelling.
use Rattle.std.proofs.Common.{◌≡◌, ℕ, zero, suc, ◌*◌, ◌^◌, ◌<◌, ◌≤◌, true, sym, subst, arith}
use Rattle.fo_image.specs.declared.types.Score.{Score}
use Rattle.fo_image.specs.declared.types.Entry.{Entry}
use Rattle.fo_image.specs.Format.{IsScore, EntryHolds, ActiveHolds}
use Rattle.fo_vacput.specs.Vac.{VacEntryHolds, ActiveHolds as VacActiveHolds}

-- a source of at most four levels of pointers has a size of six bytes
size_fits : (size depth : ℕ) → size ≤ 8192 * 409 ^ depth → depth ≤ 4 → size < 2 ^ 48
size_fits size zero room le = omega (arith, room)
size_fits size (suc zero) room le = omega (arith, room)
size_fits size (suc (suc zero)) room le = omega (arith, room)
size_fits size (suc (suc (suc zero))) room le = omega (arith, room)
size_fits size (suc (suc (suc (suc zero)))) room le = omega (arith, room)
size_fits size (suc (suc (suc (suc (suc depth))))) room le = absurd (omega (arith, le))

pub active_archived : (e : Entry) (s : Score) → e.active ≡ true → EntryHolds e → e.depth ≤ 4 → IsScore s.0
    → VacEntryHolds (record { generation = e.generation; active = e.active; dir = e.dir; depth = e.depth; size = e.size; score = s })
active_archived e s is h shallow score =
    let holds : ActiveHolds true e = subst (λ b. ActiveHolds b e) is h.active_holds in
    record {
      active_holds = subst (λ b. VacActiveHolds b (record { generation = e.generation; active = e.active; dir = e.dir; depth = e.depth; size = e.size; score = s })) (sym is)
          (size_fits e.size e.depth holds.0.room shallow, holds.0, score);
    }

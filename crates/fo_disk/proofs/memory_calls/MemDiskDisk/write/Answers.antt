use Rattle.std.proofs.Common.{◌≡◌, ◌==◌, ◌∙◌, refl, sym, ℕ, List, true, false, inl, inr, ap, rules}
use Rattle.std.specs.List.{list_any}
use Rattle.fo_disk.specs.Memory.{content_of, is_listed}
use Rattle.fo_disk.proofs.Cells.{wrote, wrote_passes, same_passes}
use Rattle.fo_disk.proofs.Images.{appends-adds}
use Rattle.fo_disk.proofs.memory_calls.MemDiskDisk.write.Goals as goal

pub returns-then-listed-clause-state : goal.returns-then-listed-clause-state
returns-then-listed-clause-state c =
    record {
      holds = inr (wrote _ _ _ _ c.requires.block c.in-Ok.ensures.added);
      moments = wrote_passes _ _ _ _ _ _ c.requires.block c.in-Ok.ensures.added c.in-Ok.ensures.noted;
      unsure = search rules;
    }

pub returns-else-listed-clause-state : goal.returns-else-listed-clause-state
returns-else-listed-clause-state c =
    record {
      holds = appends-adds (wrote _ _ _ _ c.requires.block c.in-Ok.ensures.added);
      moments = wrote_passes _ _ _ _ _ _ c.requires.block c.in-Ok.ensures.added c.in-Ok.ensures.noted;
      unsure = search rules;
    }

pub returns-in-Err-clause-state : goal.returns-in-Err-clause-state
returns-in-Err-clause-state c = record {
  holds = inl (ap content_of c.in-Err.ensures.same);
  moments = same_passes _ _ _ _ c.in-Err.ensures.same c.in-Err.ensures.not_noted;
  unsure = search rules;
}

pub returns-then-listed-clause-memory : goal.returns-then-listed-clause-memory
returns-then-listed-clause-memory c =
    λ is.
    let same : c.next_call-listed.result ≡ is_listed c.args.self.now = c.next_call-listed.ensures.listed ∙ ap (λ (l : List ℕ). list_any (λ n. n == c.args.self.now.calls) l) c.deref.ensures.value in
    let bad : true ≡ false = sym c.if-listed.true ∙ same ∙ is in
    cc

pub returns-in-Err-clause-memory : goal.returns-in-Err-clause-memory
returns-in-Err-clause-memory c = λ is. ap content_of c.in-Err.ensures.same

pub returns-then-listed-clause-lands : goal.returns-then-listed-clause-lands
returns-then-listed-clause-lands c =
    let same : c.next_call-listed.result ≡ is_listed c.args.self.now = c.next_call-listed.ensures.listed ∙ ap (λ (l : List ℕ). list_any (λ n. n == c.args.self.now.calls) l) c.deref.ensures.value in
    inl (wrote _ _ _ _ c.requires.block c.in-Ok.ensures.added, sym c.if-listed.true ∙ same, refl)

pub returns-else-listed-clause-lands : goal.returns-else-listed-clause-lands
returns-else-listed-clause-lands c =
    let same : c.next_call-listed.result ≡ is_listed c.args.self.now = c.next_call-listed.ensures.listed ∙ ap (λ (l : List ℕ). list_any (λ n. n == c.args.self.now.calls) l) c.deref.ensures.value in
    inl (wrote _ _ _ _ c.requires.block c.in-Ok.ensures.added, sym c.if-listed.false ∙ same, refl)

pub returns-in-Err-clause-lands : goal.returns-in-Err-clause-lands
returns-in-Err-clause-lands c = inr (ap content_of c.in-Err.ensures.same, refl, c.count_want.ensures)

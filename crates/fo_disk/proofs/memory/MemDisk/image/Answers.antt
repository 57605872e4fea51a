use Rattle.std.proofs.Common.{◌≡◌, ◌<◌, ◌+◌, ℕ, List, Bool, false, [], ◌∷◌, ◌++◌, length, get_or, take, sym, ap, ◌∙◌, arith, suc, rules}
use Rattle.std.proofs.lemmas.List.{length-replicate, replicate_more, take_all}
use Rattle.fo_disk.specs.Disk.{Block}
use Rattle.fo_disk.specs.Memory.{cells_of, content_of, holds_of, picked}
use Rattle.fo_disk.proofs.Cells.{ones, ones-push, count-cells, content-ones, count_versions, version_read, picked_more, length-picked, length-content, picked_image}
use Rattle.fo_disk.proofs.memory.MemDisk.image.Goals as goal

pub overflow_add-cell : goal.overflow_add-cell
overflow_add-cell c =
    let cells = c.args.self.now.cells.items in
    let long = length-content cells in
    let lt : c.loop-i.i < length cells = omega (arith, c.loop-i-test.true, c.requires.count, long) in
    let within : c.index-cell.result.now.from + get_or c.args.picks.now c.loop-i.i 0 < length c.index-cell.result.now.all.items = omega (arith, c.requires.versions c.loop-i.i c.loop-i-test.true, count_versions cells c.loop-i.i c.index-cell.result.now lt c.index-cell.ensures) in
    let small = c.index-cell.result.now.all.small in
    let ok = c.index-cell.result.now.all.ok in
    search rules

pub index-version-requires : goal.index-version-requires
index-version-requires c =
    let cells = c.args.self.now.cells.items in
    let long = length-content cells in
    let lt : c.loop-i.i < length cells = omega (arith, c.loop-i-test.true, c.requires.count, long) in
    omega (arith, c.requires.versions c.loop-i.i c.loop-i-test.true, count_versions cells c.loop-i.i c.index-cell.result.now lt c.index-cell.ensures)

pub loop-i-preserved : goal.loop-i-preserved
loop-i-preserved c =
    let cells = c.args.self.now.cells.items in
    let long = length-content cells in
    let i = c.loop-i.i in
    let cell = c.index-cell.result.now in
    let pick = get_or c.args.picks.now i 0 in
    let lt : i < length cells = omega (arith, c.loop-i-test.true, c.requires.count, long) in
    let within : cell.from + pick < length cell.all.items = omega (arith, c.requires.versions i c.loop-i-test.true, count_versions cells i cell lt c.index-cell.ensures) in
    let bytes : c.deref.result.now ≡ get_or (get_or (holds_of c.args.self.now) i []) pick [] = c.deref.ensures.value ∙ version_read cells i cell pick c.index-version.result.now lt c.index-cell.ensures within c.index-version.ensures in
    let next : suc i ≡ i + 1 = omega arith in
    record {
      cells = ap cells_of c.in_ok-push.ensures.items
          ∙ ones-push _ _ _ _ c.loop-i.invariant.cells c.in_ok-cell_with.ensures
          ∙ ap (λ (b : Block). ones (picked (take i c.args.picks.now) (holds_of c.args.self.now) ++ b ∷ [])) bytes
          ∙ ap ones (sym (picked_more c.args.picks.now (holds_of c.args.self.now) i c.loop-i-test.true c.requires.count))
          ∙ ap (λ (n : ℕ). ones (picked (take n c.args.picks.now) (holds_of c.args.self.now))) next;
      unsure = c.in_ok-push-2.ensures.items ∙ ap (λ (us : List Bool). us ++ false ∷ []) c.loop-i.invariant.unsure ∙ replicate_more i false;
    }

pub invariant_of-result : goal.invariant_of-result
invariant_of-result c =
    let all = take_all c.loop-i.i c.args.picks.now (omega (arith, c.loop-i-test.false)) in
    record { flags = omega (arith, ap length c.loop-i.invariant.unsure ∙ length-replicate c.loop-i.i false, c.loop-i-test.false, c.loop-i.auto.i-end, count-cells _ _ c.loop-i.invariant.cells, ap (λ (ps : List ℕ). length (picked ps (holds_of c.args.self.now))) all, length-picked c.args.picks.now (holds_of c.args.self.now) c.requires.count) }

pub returns-clause-holds : goal.returns-clause-holds
returns-clause-holds c =
    let all = take_all c.loop-i.i c.args.picks.now (omega (arith, c.loop-i-test.false)) in
    ap content_of c.loop-i.invariant.cells
    ∙ content-ones _
    ∙ ap (λ (ps : List ℕ). Rattle.std.proofs.Common.map (λ (b : Block). b ∷ []) (picked ps (holds_of c.args.self.now))) all

pub returns-clause-image : goal.returns-clause-image
returns-clause-image c = picked_image c.args.picks.now (holds_of c.args.self.now) c.requires.count c.requires.versions

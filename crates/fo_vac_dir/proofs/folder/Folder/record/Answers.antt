use Rattle.std.proofs.Common.{◌≡◌, ◌+◌, ◌<◌, ◌++◌, ◌∙◌, ℕ, suc, List, ap, arith}
use Rattle.std.specs.List.{flat_map, range_with_len}
use Rattle.std.proofs.lemmas.Result.{err_from_is_err_and}
use Rattle.fo_image.specs.declared.record.Record.{Record}
use Rattle.fo_good.specs.Trees.{size_of}
use Rattle.fo_good.specs.Reading.{leaf_records, leaves_in}
use Rattle.fo_vac_walk.specs.Walk.{bytes_of, leaf_of}
use Rattle.fo_vac_walk.proofs.Blocks.{still_told}
use Rattle.fo_vac_dir.specs.Choice.{test_of, least}
use Rattle.fo_vac_dir.proofs.Records.{next_leaf}
use Rattle.fo_vac_dir.proofs.Finds.{finds, none_finds}
use Rattle.fo_vac_dir.proofs.folder.Folder.record.Goals as goal

pub returns-then-self-eq0-clause-held : goal.returns-then-self-eq0-clause-held
returns-then-self-eq0-clause-held g c = λ h entries meta told is. none_finds h (test_of c.args.wanted.now) c.args.self.now.levels entries meta c.if-self-eq0.true

pub returns-in_err-records-clause-held : goal.returns-in_err-records-clause-held
returns-in_err-records-clause-held g c = λ h entries meta told is.
    let p = err_from_is_err_and c.from_residual.result c.from_residual.ensures.1 in
    let i = c.leaves.invariant in
    let count = c.div_ceil-count.ensures in
    let size = is.size in
    let all = c.size.ensures in
    let test = c.leaves-test.true in
    let within : c.leaves.k < leaves_in (size_of meta.slot) = omega (arith, count, size, all, test) in
    rw (p.1, p.2) (c.in_err-records.ensures.held h meta (still_told h _ _ _ _ i.shelf i.kept told) is within)

pub leaves-preserved : goal.leaves-preserved
leaves-preserved g c =
    let i = c.leaves.invariant in
    let e = c.in_ok-records.ensures in
    let before = i.later in
    let more = e.cause.later in
    let test = test_of c.args.wanted.now in
    record {
      shelf = e.shelf ∙ i.shelf;
      kept = e.kept ∙ i.kept;
      later = omega (arith, before, more);
      holds = c.choose_all-best.ensures.holds i.holds e.holds;
      given = λ h meta told is.
          let count = c.div_ceil-count.ensures in
          let size = is.size in
          let all = c.size.ensures in
          let here = c.leaves-test.true in
          let within : c.leaves.k < leaves_in (size_of meta.slot) = omega (arith, count, size, all, here) in
          let f : ℕ → List Record = λ k. leaf_records (bytes_of h (leaf_of h meta k)) in
          let next : suc c.leaves.k ≡ c.leaves.k + 1 = omega arith in
          c.choose_all-best.ensures.least (flat_map f (range_with_len 0 c.leaves.k)) (i.given h meta told is)
          ∙ ap (λ rs. least test (flat_map f (range_with_len 0 c.leaves.k) ++ rs)) (e.held h meta (still_told h _ _ _ _ i.shelf i.kept told) is within)
          ∙ ap (least test) (next_leaf f c.leaves.k)
          ∙ ap (λ n. least test (flat_map f (range_with_len 0 n))) next;
    }

pub returns-clause-held : goal.returns-clause-held
returns-clause-held g c = λ h entries meta told is.
    let i = c.leaves.invariant in
    let count = c.div_ceil-count.ensures in
    let size = is.size in
    let all = c.size.ensures in
    let test = c.leaves-test.false in
    let end = c.leaves.auto.k-end in
    let whole : c.leaves.k ≡ leaves_in (size_of meta.slot) = omega (arith, count, size, all, test, end) in
    let f : ℕ → List Record = λ k. leaf_records (bytes_of h (leaf_of h meta k)) in
    finds h (test_of c.args.wanted.now) c.args.self.now.levels entries meta c.leaves.best (omega arith)
    (i.given h meta told is ∙ ap (λ n. least (test_of c.args.wanted.now) (flat_map f (range_with_len 0 n))) whole)

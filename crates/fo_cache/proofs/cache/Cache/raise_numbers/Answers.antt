use Rattle.std.proofs.Common.{◌≡◌, ◌+◌, ◌^◌, ◌≤◌, ℕ, min, [], OnErr, OnOk, subst, arith}
use Rattle.fo_image.specs.declared.types.Super.{Super}
use Rattle.fo_mind.specs.MindParts.{parts}
use Rattle.fo_cache.specs.Supers.{Counts, Doubted}
use Rattle.fo_cache.proofs.Numbering.{raised_step}
use Rattle.fo_cache.proofs.cache.Cache.raise_numbers.Goals as goal

most : (n k : ℕ) → n ≡ min (k + 1024) (2 ^ 30) → k ≤ 2 ^ 30 → k ≤ n
most n k is le = omega (arith, is, le)

pub returns-clause-renumbers : goal.returns-clause-renumbers
returns-clause-renumbers g c =
    let self = c.args.self.now in
    let s = g.D.Disk.state self.main in
    let t = g.D.Disk.state c.write_super.new.self.main in
    let p = parts self.mind [] 0 in
    let q = parts c.write_super.new.self.mind [] 0 in
    let n = c.raised.result in
    let is = c.one-was.ensures in
    let e = c.raised.ensures in
    let top = self.mind.spelled.holds.numbers_are.1 in
    let le : self.mind.one.numbers ≤ c.raised.result = most n self.mind.one.numbers (subst (λ (o : Super). n ≡ min (o.numbers + 1024) (2 ^ 30)) is e) top in
    raised_step s t p q c.write_super.ensures.others c.write_super.ensures.count n c.write_super.result le
    (subst (λ (o : Super). OnOk c.write_super.result (Counts (record o { numbers = n }) s t p q)) is c.write_super.ensures.counts)
    (subst (λ (o : Super). OnErr c.write_super.result (Doubted (record o { numbers = n }) p q)) is c.write_super.ensures.doubted)

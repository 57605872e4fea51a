use Rattle.std.proofs.Common.{◌≡◌, [], refl, sym, ◌∙◌}
use Rattle.fo_mind.specs.MindParts.{parts}
use Rattle.fo_cache.proofs.Easing.{eases_none}
use Rattle.fo_turning.proofs.Flushing.{eases_right}
use Rattle.fo_turning.proofs.Releasing.{data_block, eases_over, gone_may, lets_none, lets_released, never, none_may, unheld}
use Rattle.fo_turning.proofs.release.release_one.Goals as goal

pub returns-then-not-is_block-clause-lets : goal.returns-then-not-is_block-clause-lets
returns-then-not-is_block-clause-lets g c = lets_none (λ b. b ≡ c.args.at) _ _ _ refl

pub returns-then-not-is_block-clause-gone : goal.returns-then-not-is_block-clause-gone
returns-then-not-is_block-clause-gone g c =
    let mind = c.args.cache.now.mind in
    let p = parts mind [] 0 in
    none_may p c.args.at (unheld p c.args.at mind.holding (λ is. never (sym (c.is_block.ensures.1 is) ∙ c.if-not-is_block.true)))

pub returns-then-not-is_block-clause-eases : goal.returns-then-not-is_block-clause-eases
returns-then-not-is_block-clause-eases g c = eases_none (parts c.args.cache.now.mind (g.D.Disk.state c.args.cache.now.main).holds (g.D.Disk.faults c.args.cache.now.main))

pub release-requires : goal.release-requires
release-requires g c =
    let mind = c.args.cache.now.mind in
    record { block = data_block (parts mind [] 0) c.args.at mind.placed (c.is_block.ensures.0 c.if-not-is_block.false) }

pub returns-clause-lets : goal.returns-clause-lets
returns-clause-lets g c =
    let old = c.args.cache.now in
    let e = c.release.ensures in
    lets_released (parts old.mind [] 0) (parts c.release.new.self.mind [] 0) c.args.at e.gone e.kept (g.D.Disk.state old.main).holds e.bytes

pub returns-clause-gone : goal.returns-clause-gone
returns-clause-gone g c = gone_may (parts c.args.cache.now.mind [] 0) (parts c.release.new.self.mind [] 0) c.args.at c.release.ensures.gone c.release.ensures.kept

pub returns-clause-eases : goal.returns-clause-eases
returns-clause-eases g c =
    let old = c.args.cache.now in
    let new = c.release.new.self in
    let e = c.release.ensures in
    let p = parts old.mind [] 0 in
    let q = parts new.mind [] 0 in
    eases_right (λ m. (g.D.Disk.state m).holds) g.D.Disk.faults old.main new.main p q e.device
    (eases_over (g.D.Disk.state old.main).holds (g.D.Disk.faults old.main) p q c.args.at old.mind.turning old.mind.standing old.mind.placed.is_first e.gone e.kept)

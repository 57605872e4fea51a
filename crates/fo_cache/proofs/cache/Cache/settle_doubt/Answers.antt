use Rattle.std.proofs.Common.{◌≡◌, ◌*◌, ℕ, List, [], true, Option, None, Some, sym, ◌∙◌, subst, arith}
use Rattle.std.specs.Option.{is_some}
use Rattle.fo_mind.specs.MindParts.{parts}
use Rattle.fo_cache.specs.Called.{Makes, at_only, no_more}
use Rattle.fo_cache.specs.Work.{in_doubt}
use Rattle.fo_cache.proofs.Called.{makes_end, makes_none}
use Rattle.fo_cache.proofs.Easing.{eases_doubt, eases_none}
use Rattle.fo_cache.proofs.Lessening.{overruled_work}
use Rattle.fo_cache.proofs.Numbering.{settled_step}
use Rattle.fo_cache.proofs.cache.Cache.settle_doubt.Goals as goal

pub returns-then-not-is_doubted-clause-eases : goal.returns-then-not-is_doubted-clause-eases
returns-then-not-is_doubted-clause-eases g c = let self = c.args.self.now in eases_none (parts self.mind (g.D.Disk.state self.main).holds (g.D.Disk.faults self.main))

pub returns-in_err-settle_one-clause-eases : goal.returns-in_err-settle_one-clause-eases
returns-in_err-settle_one-clause-eases g c =
    let self = c.args.self.now in
    let n = c.settle_one.new.self in
    let e = c.settle_one.ensures in
    eases_doubt (g.D.Disk.state self.main) (g.D.Disk.state n.main) (parts self.mind [] 0) (parts n.mind [] 0) (g.D.Disk.faults self.main) (g.D.Disk.faults n.main) c.settle_one.result e.others e.overruled e.nothing e.later

pub returns-clause-eases : goal.returns-clause-eases
returns-clause-eases g c =
    let self = c.args.self.now in
    let n = c.settle_one.new.self in
    let e = c.settle_one.ensures in
    eases_doubt (g.D.Disk.state self.main) (g.D.Disk.state n.main) (parts self.mind [] 0) (parts n.mind [] 0) (g.D.Disk.faults self.main) (g.D.Disk.faults n.main) c.settle_one.result e.others e.overruled e.nothing e.later

doubted : (o : Option (List ℕ)) → is_some o ≡ true → in_doubt o ≡ 1
doubted None e = absurd cc
doubted (Some tried) e = omega arith

pub returns-in_err-settle_one-clause-calls : goal.returns-in_err-settle_one-clause-calls
returns-in_err-settle_one-clause-calls g c =
    let e = c.settle_one.ensures.calls in
    let one = doubted c.args.self.now.mind.doubt (sym c.is_doubted.ensures ∙ c.if-not-is_doubted.false) in
    omega (arith, e, one)

pub returns-clause-calls : goal.returns-clause-calls
returns-clause-calls g c =
    let e = c.settle_one.ensures.calls in
    let one = doubted c.args.self.now.mind.doubt (sym c.is_doubted.ensures ∙ c.if-not-is_doubted.false) in
    omega (arith, e, one)

pub returns-in_err-settle_one-clause-turns : goal.returns-in_err-settle_one-clause-turns
returns-in_err-settle_one-clause-turns g c =
    let self = c.args.self.now in
    let n = c.settle_one.new.self in
    let e = c.settle_one.ensures in
    overruled_work (g.D.Disk.state self.main) (g.D.Disk.state n.main) (parts self.mind [] 0) (parts n.mind [] 0) c.settle_one.result e.overruled e.nothing

pub returns-clause-turns : goal.returns-clause-turns
returns-clause-turns g c =
    let self = c.args.self.now in
    let n = c.settle_one.new.self in
    let e = c.settle_one.ensures in
    overruled_work (g.D.Disk.state self.main) (g.D.Disk.state n.main) (parts self.mind [] 0) (parts n.mind [] 0) c.settle_one.result e.overruled e.nothing

pub returns-clause-renumbers : goal.returns-clause-renumbers
returns-clause-renumbers g c =
    let self = c.args.self.now in
    let n = c.settle_one.new.self in
    let e = c.settle_one.ensures in
    settled_step (g.D.Disk.state self.main) (g.D.Disk.state n.main) (parts self.mind [] 0) (parts n.mind [] 0) e.others e.count c.settle_one.result e.overruled e.nothing

pub returns-then-not-is_doubted-clause-made : goal.returns-then-not-is_doubted-clause-made
returns-then-not-is_doubted-clause-made g c =
    let self = c.args.self.now in
    makes_end (makes_none (g.D.Disk.state self.main) (g.D.Disk.calls self.main) (2 * in_doubt self.mind.doubt) (at_only 1 (in_doubt self.mind.doubt)))

pub returns-in_err-settle_one-clause-made : goal.returns-in_err-settle_one-clause-made
returns-in_err-settle_one-clause-made g c =
    let self = c.args.self.now in
    let n = c.settle_one.new.self in
    let one = doubted self.mind.doubt (sym c.is_doubted.ensures ∙ c.if-not-is_doubted.false) in
    subst (λ k. Makes (g.D.Disk.state self.main) (g.D.Disk.state n.main) (g.D.Disk.calls self.main) (g.D.Disk.calls n.main) (2 * k) 0 (at_only 1 k) no_more) (sym one) c.settle_one.ensures.made

pub returns-clause-made : goal.returns-clause-made
returns-clause-made g c =
    let self = c.args.self.now in
    let n = c.settle_one.new.self in
    let one = doubted self.mind.doubt (sym c.is_doubted.ensures ∙ c.if-not-is_doubted.false) in
    subst (λ k. Makes (g.D.Disk.state self.main) (g.D.Disk.state n.main) (g.D.Disk.calls self.main) (g.D.Disk.calls n.main) (2 * k) 0 (at_only 1 k) no_more) (sym one) c.settle_one.ensures.made

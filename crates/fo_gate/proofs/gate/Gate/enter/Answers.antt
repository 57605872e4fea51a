use Rattle.std.proofs.Common.{ap, ◌∙◌, arith}
use Rattle.fo_gate.specs.Steps.{with_ticket}
use Rattle.fo_gate.proofs.Keeps.{draws, looks}
use Rattle.fo_gate.proofs.Calls.{hits, misses, one_slot, found_in}
use Rattle.fo_gate.proofs.gate.Gate.enter.Goals as goal

pub fetch_add-ticket-requires : goal.fetch_add-ticket-requires
fetch_add-ticket-requires g c = let i = c.requires.idle in (c.requires.seat, (let w = c.args.self.now.sized.0 in omega arith), draws _ _ _ c.args.self.now.table.shared.key _ _ _ i.1 i.2)

pub loop-init : goal.loop-init
loop-init g c = let e = c.fetch_add-ticket.ensures in (e.0, (e.2.0, e.2.1, e.2.2 ∙ ap (λ l. (with_ticket c.args.inner.now.me.0 e.2.0, l)) c.requires.idle.0))

pub load-requires : goal.load-requires
load-requires g c =
    let i = c.loop.invariant in
    (i.0 ∙ c.requires.seat, (let w = c.args.self.now.sized.0 in omega arith), looks _ _ _ c.args.self.now.table.shared.key _ _ i.1.0 _ (ap (λ m. m.0.tickets) i.1.2) (ap (λ m. m.0.holds) i.1.2))

pub loop-preserved : goal.loop-preserved
loop-preserved g c =
    let i = c.loop.invariant in
    let e = c.load.ensures in
    (e.0 ∙ i.0, (i.1.0, i.1.1, misses _ _ _ c.args.inner.now.me.0 i.1.0 _ _ _ _ i.1.2 e.2 c.if-load-ticket.false i.1.1))

pub exchange-taken-requires : goal.exchange-taken-requires
exchange-taken-requires g c =
    let i = c.loop.invariant in
    let e = c.load.ensures in
    let h = hits _ _ _ c.args.inner.now.me.0 i.1.0 _ _ _ _ i.1.2 e.2 c.if-load-ticket.true i.1.1 in
    (e.0 ∙ i.0 ∙ c.requires.seat, (_, one_slot _ _ (ap (λ x. x.1) h.6)))

pub unreachable-requires : goal.unreachable-requires
unreachable-requires g c =
    let i = c.loop.invariant in
    let e = c.load.ensures in
    let h = hits _ _ _ c.args.inner.now.me.0 i.1.0 _ _ _ _ i.1.2 e.2 c.if-load-ticket.true i.1.1 in
    let x = c.exchange-taken.ensures in
    c.in_default.not-In _ _ (found_in _ _ _ (ap (λ m. m.1) h.6) x.2)

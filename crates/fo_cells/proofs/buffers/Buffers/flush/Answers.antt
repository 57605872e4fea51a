use Rattle.std.proofs.Common.{◌≡◌, ◌∙◌, sym, ap, subst, Bool, not, true, false, [], refl}
use Rattle.std.proofs.lemmas.List.{get_or-map}
use Rattle.std.specs.Prelude.{is_err}
use Rattle.fo_cells.specs.Device.{Mind, Stepped, MayWrite}
use Rattle.fo_cells.specs.Buffers.{mind_of, bytes_in, newborn_in}
use Rattle.fo_cells.proofs.Buffering.{flushed}
use Rattle.fo_cells.proofs.Calls.{held_write}
use Rattle.fo_cells.proofs.buffers.Buffers.flush.Goals as goal

twice : (b : Bool) → b ≡ not (not b)
twice true = refl
twice false = refl

pub returns-clause-step : goal.returns-clause-step
returns-clause-step g c = λ rest here may.
    let all = c.args.self.now.all.items in
    let bytes = ap bytes_in c.index_mut-buffer.ensures.value ∙ sym (get_or-map bytes_in all c.args.at c.index_mut-buffer.result.now [] c.requires.within) in
    let newborn = ap newborn_in c.index_mut-buffer.ensures.value ∙ sym (get_or-map newborn_in all c.args.at c.index_mut-buffer.result.now false c.requires.within) in
    let ok = twice c.is_ok-ok.result ∙ ap not (sym c.is_ok-ok.ensures.negation) in
    let given = sym bytes ∙ sym c.deref.ensures.value in
    let e = flushed rest all c.args.at _ (not (is_err c.write_block-wrote.result)) c.requires.within bytes newborn ok in
    subst (λ (m : Mind). Stepped (mind_of rest all) m (g.D.Disk.state c.args.disk.now).unsure (g.D.Disk.state c.write_block-wrote.new.disk).unsure (g.D.Disk.state c.args.disk.now).holds (g.D.Disk.state c.write_block-wrote.new.disk).holds) (sym e) (c.write_block-wrote.ensures.step (mind_of rest all) true here (subst (λ bs. MayWrite (mind_of rest all) (g.D.Disk.state c.args.disk.now).holds c.args.at bs true) given may))

pub returns-clause-held : goal.returns-clause-held
returns-clause-held g c = held_write c.write_block-wrote.result _ _ _ _ c.write_block-wrote.ensures.state.holds

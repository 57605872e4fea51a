use Rattle.std.proofs.Common.{◌≡◌, ℕ, Bool, true, false, not, List, refl, sym, ◌∙◌, ap, subst}
use Rattle.std.specs.Prelude.{is_err}
use Rattle.fo_crash.specs.declared.place.Place.{Place}
use Rattle.fo_crash.specs.Images.{Content}
use Rattle.fo_cells.specs.Device.{Mind}
use Rattle.fo_cells_whole.specs.Tops.{IsRooted, noted_sync}
use Rattle.fo_cells_whole.proofs.Tops.{rooted_sync}
use Rattle.fo_cells_whole.proofs.rooted.Rooted.settle.Goals as goal

twice : (b : Bool) → b ≡ not (not b)
twice true = refl
twice false = refl

pub returns-clause-mind : goal.returns-clause-mind
returns-clause-mind g c =
    let ok : c.is_ok.result ≡ not (is_err c.settle-answer.result) = twice c.is_ok.result ∙ ap not (sym c.is_ok.ensures.negation) in
    c.note_sync.ensures.mind ∙ ap (λ (v : Bool). noted_sync v (g.K.Knows.mind c.args.self.now.known)) ok

pub invariant_of-self : goal.invariant_of-self
invariant_of-self g c =
    let was = c.args.self.now in
    let m = g.K.Knows.mind was.known in
    let place = g.K.Knows.place was.known in
    let high = g.K.Knows.high was.known in
    let doubts = g.K.Knows.doubts was.known in
    let tops = was.tops.items in
    let before = g.D.Disk.state was.main in
    let after = g.D.Disk.state c.settle-answer.new.disk in
    let ok : c.is_ok.result ≡ not (is_err c.settle-answer.result) = twice c.is_ok.result ∙ ap not (sym c.is_ok.ensures.negation) in
    let mind = c.note_sync.ensures.mind ∙ ap (λ (v : Bool). noted_sync v m) ok in
    let kept = rooted_sync c.settle-answer.result m place high doubts tops before.unsure before.holds after.holds c.settle-answer.ensures.state.holds was.rooted in record {
      rooted = subst (λ (x : Mind). IsRooted x (g.K.Knows.place c.note_sync.new.self) (g.K.Knows.high c.note_sync.new.self) (g.K.Knows.doubts c.note_sync.new.self) tops after.unsure after.holds) (sym mind) (subst (λ (x : ℕ → Place). IsRooted (noted_sync (not (is_err c.settle-answer.result)) m) x (g.K.Knows.high c.note_sync.new.self) (g.K.Knows.doubts c.note_sync.new.self) tops after.unsure after.holds) (sym c.note_sync.ensures.place) (subst (λ (x : ℕ). IsRooted (noted_sync (not (is_err c.settle-answer.result)) m) place x (g.K.Knows.doubts c.note_sync.new.self) tops after.unsure after.holds) (sym c.note_sync.ensures.high) (subst (λ (x : List Content). IsRooted (noted_sync (not (is_err c.settle-answer.result)) m) place high x tops after.unsure after.holds) (sym c.note_sync.ensures.doubts) (subst (λ (x : List Bool). IsRooted (noted_sync (not (is_err c.settle-answer.result)) m) place high doubts tops x after.holds) (sym c.settle-answer.ensures.state.unsure) kept))));
    }

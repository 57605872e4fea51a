use Rattle.std.proofs.Common.{◌≡◌, ◌∙◌, ℕ, inr, sym}
use Rattle.venti_store.specs.Held.{HasName}
use Rattle.venti_store.proofs.Openings.{found_at}
use Rattle.venti_store.proofs.open.add_line.Goals as goal

pub returns-then-is_some : goal.returns-then-is_some
returns-then-is_some c =
    let at = found_at c.place.result (λ (place : ℕ). HasName c.args.index.now.lines.items c.in-Ok.line.score.0 c.in-Ok.line.kind place) (sym c.is_some.ensures ∙ c.if-is_some.true) c.place.ensures.found in
    inr (record {
      line = c.in-Ok.line;
      only = λ other spelled. let e = c.in-Ok.ensures.only other spelled in let same : c.in-Ok.line ≡ other = cc in same;
      place = at.0;
      named = at.1;
    })

use Rattle.std.proofs.Common.{◌∙◌, refl}
use Rattle.fo_image.proofs.Codes.{same_score}
use Rattle.fo_image.proofs.Offsets.{line_at}
use Rattle.fo_image.proofs.arena.arena_line_of.Goals as goal

pub returns : goal.returns
returns c = λ l s. let at = line_at c.args.bytes.now l s in rw (same_score c.score_at.result l.score (c.score_at.ensures ∙ at.score), at.kind, c.u16_at.ensures ∙ at.len) refl

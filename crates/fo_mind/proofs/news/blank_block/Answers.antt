use Rattle.std.proofs.Common.{ℕ, List, sym, subst}
use Rattle.fo_crash.specs.Images.{SameContent}
use Rattle.fo_ports.specs.Blocks.{blank, zero_bytes}
use Rattle.fo_slots.specs.Read.{read}
use Rattle.fo_bring.specs.Blocks.{Good}
use Rattle.fo_mind.proofs.Blanks.{blank_reads, blank_numbers, blank_content, blank_good}
use Rattle.fo_mind.proofs.news.blank_block.Goals as goal

pub returns-clause-content : goal.returns-clause-content
returns-clause-content c =
    let kind = c.args.kind in
    subst (λ (z : List ℕ). SameContent (read kind z) (blank kind)) (sym c.no_bytes.ensures)
    (blank_content kind c.requires (c.spelled_is_meant.ensures kind (blank kind) zero_bytes (blank_numbers kind c.requires) (blank_reads kind c.requires)))

pub returns-clause-good : goal.returns-clause-good
returns-clause-good c = λ first count.
    let kind = c.args.kind in
    subst (λ (z : List ℕ). Good first count kind z) (sym c.no_bytes.ensures)
    (blank_good first count kind c.requires (c.spelled_is_meant.ensures kind (blank kind) zero_bytes (blank_numbers kind c.requires) (blank_reads kind c.requires)))

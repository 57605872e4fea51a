use Rattle.std.proofs.Common.{◌≡◌, true, sym, subst}
use Rattle.fo_image.specs.declared.types.Kind.{Kind}
use Rattle.fo_ports.specs.Blocks.{IsFormed, IsRanked}
use Rattle.fo_slots.specs.Read.{blanked}
use Rattle.test_blocks.proofs.Updating.{formed_again, gets}
use Rattle.test_blocks.proofs.silent.copy_formed.Goals as goal

pub returns-then-not-is_formed-clause-again : goal.returns-then-not-is_formed-clause-again
returns-then-not-is_formed-clause-again c = λ same ranked.
    let block = c.args.block.now in
    let formed = subst (λ (q : Kind). IsFormed q c.args.rank block.bytes) same (formed_again block.label.kind c.args.rank block.bytes c.requires.level c.requires.long c.requires.zeros (subst (λ (q : Kind). IsRanked q c.args.rank (blanked block.label.kind block.bytes)) (sym same) ranked)) in
    let told : c.is_formed.result ≡ true = c.is_formed.ensures.1 formed in
    cc

pub returns-clause-copied : goal.returns-clause-copied
returns-clause-copied c = λ _.
    let block = c.args.block.now in
    gets block c.args.kind c.args.rank c.copy_from_slice.new.self (c.is_kind.ensures.0 c.if-not-is_kind.false) c.requires.slots (c.read_is_read.ensures block.label.kind block.bytes c.requires.long).0 (c.is_formed.ensures.0 c.if-not-is_formed.false) c.copy_from_slice.ensures.after

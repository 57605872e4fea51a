use Rattle.std.proofs.Common.{◌≡◌, true}
use Rattle.fo_bring.proofs.Copying.{formed_again}
use Rattle.fo_bring.proofs.copies.if_formed.Goals as goal

pub returns-else-formed-clause-again : goal.returns-else-formed-clause-again
returns-else-formed-clause-again c = λ ranked.
    let told : c.args.formed ≡ true = c.requires.formed.1 (formed_again c.args.kind c.args.rank c.args.bytes.now (c.read_is_read.ensures c.args.kind c.args.bytes.now c.requires.long).0 c.requires.long c.requires.zeros ranked) in
    cc

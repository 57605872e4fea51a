use Rattle.fo_dir_plain.proofs.Listing.{changed_there}
use Rattle.fo_dir_plain.proofs.edits.change_at.Goals as goal

pub returns : goal.returns
returns c = λ name p. changed_there p c.remove-named.ensures.value c.remove-named.ensures.items c.with_name.ensures c.push_reserved.ensures.items

-- What is clear behind the end of a source stays so where its blocks are only looked at.
use Rattle.std.specs.Prelude.{ℕ, List}
use Rattle.fo_ports.specs.State.{State, KeepsAll, Looks}
use Rattle.fo_tree_read.specs.declared.tree.Tree.{Tree}
use Rattle.fo_tree_look.specs.declared.ways.Kept.{Kept}
use Rattle.fo_tree_look.specs.Source.{Over}
use Rattle.fo_tree_look.proofs.Shown.{extends_none}
use Rattle.fo_tree_link.specs.of_tree_down.Clear.{EndsClear}
use Rattle.fo_tree_trim.proofs.Holding.{clear_on, holds_looks}

pub clear_looks : {a b : State} {t : Tree} {kept : List Kept} {limit : ℕ} → KeepsAll a b → Looks a b → Over a t kept limit → EndsClear a t kept → EndsClear b t kept
clear_looks {a = a} {b = b} {t = t} {kept = kept} all looks over clear = clear_on (holds_looks a b t kept kept all looks (extends_none all kept over.held)) clear

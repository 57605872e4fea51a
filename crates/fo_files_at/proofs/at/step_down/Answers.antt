use Rattle.std.proofs.Common.{◌≡◌, ◌+◌, ◌<◌, ℕ, true, Option, IfSome, subst}
use Rattle.fo_dir_read.specs.Names.{leaf_count}
use Rattle.fo_files_at.specs.declared.file.File.{File}
use Rattle.fo_files_at.specs.Held.{FileHolds}
use Rattle.fo_files_at.proofs.Ways.{way_on}
use Rattle.fo_files_at.proofs.at.step_down.Goals as goal

pub returns-in-Ok-clause-way : goal.returns-in-Ok-clause-way
returns-in-Ok-clause-way g c = λ root trail h.
    let f = c.in-Ok-Some in
    let at : (P : ℕ × File → Type 0) → IfSome f.field-0 P → P (f.leaf, f.next) = λ P x. subst (λ (o : Option (ℕ × File)). IfSome o P) f.field-0-is x in
    let leaf = at (λ x. (x.0 < leaf_count c.args.way.file.second.size) × (c.args.way.file.dir ≡ true)) f.ensures.leaf in
    way_on (g.B.Blocks.state c.args.on.now) (g.B.Blocks.state c.one_down.new.on) root trail c.args.way c.in-Ok.way f.leaf c.args.number f.next (g.met.B.Blocks.keeps_all c.args.on.now c.one_down.new.on f.ensures.looks.1) h
    (at (λ x. FileHolds (g.B.Blocks.state c.one_down.new.on) x.1) f.ensures.holds) (at (λ x. x.1.rank + 32 ≡ c.args.way.file.rank) f.ensures.rank) c.requires.high leaf.1 leaf.0 (at (λ x. x.1.named.number ≡ c.args.number) f.ensures.number) c.in-Ok.ensures.is.0 c.in-Ok.ensures.is.1

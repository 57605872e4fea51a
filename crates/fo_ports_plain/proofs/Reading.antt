-- A block as it is read is of its format.
use Rattle.std.proofs.Common.{◌≡◌, ◌==◌, ℕ, zero, suc, List, length, sym, ◌∙◌, ap, subst}
use Rattle.std.specs.List.{list_all}
use Rattle.fo_image.specs.declared.types.Kind.{Kind}
use Rattle.fo_image.specs.declared.types.Kind.TheVariants.{Data, Dir, Root}
use Rattle.fo_ports.specs.Blocks.{IsFormed, slots_from, slots_to}
use Rattle.fo_ports_plain.specs.Spell.{KeepsBeside}

pub formed_read : (kind : Kind) (rank : ℕ) (old new : List ℕ) → KeepsBeside (slots_from kind) (slots_to kind) old new → length new ≡ 8192 → IsFormed kind rank old → IsFormed kind rank new
formed_read (Data zero) rank old new beside len formed = subst (λ x. IsFormed (Data 0) rank x) (sym beside.behind) formed
formed_read (Data (suc level)) rank old new beside len formed = (len, ap (list_all (λ b. b == 0)) beside.behind ∙ formed.1)
formed_read (Dir level) rank old new beside len formed = (len, ap (list_all (λ b. b == 0)) beside.behind ∙ formed.1)
formed_read Root rank old new beside len formed = (len, (formed.1.0, formed.1.1, formed.1.2, formed.1.3 ∙ sym beside.before, formed.1.4 ∙ sym beside.behind))

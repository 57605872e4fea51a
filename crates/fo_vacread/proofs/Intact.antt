-- Nothing is broken in an archive that is sound.
use Rattle.std.proofs.Common.{◌≡◌, ◌∙◌, inl, inr, ℕ, List, [], ◌∷◌, sym, subst}
use Rattle.std.specs.Prelude.{◌≢◌}
use Rattle.fo_image.specs.declared.types.Score.{Score}
use Rattle.fo_image.specs.declared.types.Kind.{Kind}
use Rattle.fo_image.specs.declared.types.Pointer.TheVariants.{Nil, Score as ToScore}
use Rattle.fo_crash.specs.Images.{Link, target}
use Rattle.fo_meta.specs.Leaf.{IsLeaf}
use Rattle.fo_vacput.specs.declared.types.VacTop.{VacTop}
use Rattle.fo_vac_open.specs.Tree.{link_to}
use Rattle.fo_vac_walk.specs.Walk.{Holding, next, leaf_of, Breaks, lost, bad, below, IsBad}
use Rattle.fo_vac_files.specs.of_vac_dir.Dir.{BadLeaf}
use Rattle.fo_vac_files.specs.declared.opened.Opened.{Opened}
use Rattle.fo_vac_files.specs.Broken.{IsFolder, IsBroken, in_entries, in_meta, in_leaf}
use Rattle.fo_vacread.specs.Honest.{IsBlock, IsIntact, IsSound}

intact_below : (h : Holding) (w : Link) (i : ℕ) → IsIntact h w → IsIntact h (next h w i)
intact_below h w i intact = λ path score is. intact (i ∷ path) score is

no_bad : (h : Holding) (kind : Kind) (score : List ℕ) → IsBlock h kind score → IsBad h kind score → ⊥
no_bad h kind score b (inl damaged) = b.hashes damaged
no_bad h kind score b (inr lacks) = lacks b.form

not_broken : (h : Holding) (holder : ℕ) (w : Link) (at : ℕ) → IsIntact h w → Breaks h holder w at → ⊥
not_broken h _ _ _ intact (lost holder w score leads lacks) = lacks (intact [] score leads).named
not_broken h _ _ _ intact (bad holder at w score leads stands is) = no_bad h w.kind score.0 (intact [] score leads) is
not_broken h _ _ _ intact (below holder here i at w score leads stands b) = not_broken h here (next h w i) at (intact_below h w i intact) b

score_nil : (score : Score) → Nil ≡ ToScore score → ⊥
score_nil score e = cc

no_bad_leaf : (h : Holding) (top : VacTop) (entries meta : Link) (holder at : ℕ) → IsSound h top → IsFolder h top entries meta → BadLeaf h meta holder at → ⊥
no_bad_leaf h top entries meta holder at sound folder b =
    let some : target (leaf_of h meta b.k).slot ≢ Nil = λ nil. score_nil b.has.score (sym nil ∙ b.has.leads) in
    b.none (subst IsLeaf (sym b.has.bytes) (sound.leaves entries meta folder b.k b.within some))

pub nothing_broken : (h : Holding) (o : Opened) (at : ℕ) → IsSound h o.found.top → IsBroken h o at → ⊥
nothing_broken h o at sound (in_entries b) = not_broken h o.root.entries.holder (link_to o.found.top.entries) at sound.entries b
nothing_broken h o at sound (in_meta b) = not_broken h o.root.meta.holder (link_to o.found.top.meta) at sound.meta b
nothing_broken h o at sound (in_leaf entries meta holder folder b) = no_bad_leaf h o.found.top entries meta holder at sound folder b

-- The root of an archive is put and settled.
use Rattle.std.proofs.Common.{◌≡◌, ◌∙◌, ℕ, List, length, refl, sym, ap, subst}
use Rattle.std.specs.Prelude.{Option, Some, None}
use Rattle.sha1.specs.Sha1.{sha1}
use Rattle.fo_disk.specs.Disk.{Block, Content, Since}
use Rattle.fo_disk.proofs.Moments.{joins, weaker}
use Rattle.fo_image.specs.declared.types.Score.{Score}
use Rattle.fo_image.specs.declared.types.ArenaLine.{ArenaLine}
use Rattle.fo_image.specs.Format.{IsScore}
use Rattle.fo_crash.specs.Images.{Arena, Image}
use Rattle.fo_good.specs.Reading.{tree_of}
use Rattle.fo_good.specs.Sound.{Kept}
use Rattle.fo_vacput.specs.Vac.{PrevHolds}
use Rattle.venti_store.specs.Held.{IsNamed, IsHeld, Recovers}
use Rattle.venti_store.specs.Arena.{lines_of, PutsLine, PutsBytes}
use Rattle.venti_store.specs.declared.shelf.Shelf.{Shelf}
use Rattle.fo_arch_form.specs.Stored.{found}
use Rattle.fo_arch_tree.specs.Forms.{StoresForms}
use Rattle.fo_arch_tree.specs.Tree.{IsReadable, IsArchiveOf}
use Rattle.fo_arch_tree.proofs.Root.{stored_is, apart_lines}
use Rattle.fo_arch.specs.declared.archive.Archive.{Archive}
use Rattle.fo_arch.specs.Finish.{root_of, IsRootOf}
use Rattle.fo_arch.specs.Stores.{IsMore}
use Rattle.fo_arch.proofs.Growing.{more_none, more_joins, recovers_more}
use Rattle.fo_arch.proofs.Storing.{put_more, put_named, put_bytes_more, put_held}

pub prev_holds : (prev : Option Score) → ((score : Score) → prev ≡ Some score → IsScore score.0) → PrevHolds prev
prev_holds None real = tt
prev_holds (Some score) real = real score refl

-- what is known once the root was put, and nothing was put since
pub record Rooted (bytes : List ℕ) (lines mid now : List ArenaLine) : Type 0 where
  pub line : PutsLine 16 bytes lines mid
  pub same : now ≡ mid

module _ {bytes : List ℕ} {lines mid now : List ArenaLine} (r : Rooted bytes lines mid now) where
  pub rooted_more : IsMore lines now
  rooted_more = more_joins (put_more 16 bytes lines mid r.line) (more_none mid now r.same)

  pub rooted_named : (score : Score) → score.0 ≡ sha1 bytes → IsNamed now score.0 16
  rooted_named score is = subst (λ (ls : List ArenaLine). IsNamed ls score.0 16) (sym r.same) (subst (λ (s : List ℕ). IsNamed mid s 16) (sym is) (put_named 16 bytes lines mid r.line))

  pub rooted_held : (stored held : List (List ℕ)) (score : Score) → score.0 ≡ sha1 bytes → length stored ≡ length lines → PutsBytes 16 bytes lines stored held → IsHeld now held score.0 16 bytes
  rooted_held stored held score is count put =
      subst (λ (ls : List ArenaLine). IsHeld ls held score.0 16 bytes) (sym r.same) (subst (λ (s : List ℕ). IsHeld mid held s 16 bytes) (sym is) (put_held 16 bytes lines mid stored held count r.line put))

  pub rooted_bytes : (stored held : List (List ℕ)) → PutsBytes 16 bytes lines stored held → IsMore stored held
  rooted_bytes stored held put = put_bytes_more 16 bytes lines stored held put

  pub rooted_since : (stored held : List (List ℕ)) (synced : ℕ) {before middle after : List Content} → length stored ≡ length lines → length held ≡ length mid → PutsBytes 16 bytes lines stored held
      → Since before middle (Recovers synced lines stored) → Since middle after (Recovers synced mid held) → Since before after (Recovers synced now held)
  rooted_since stored held synced count mid_count put first second = joins
      (weaker first (λ vault x. recovers_more synced rooted_more (rooted_bytes stored held put) count vault x))
      (weaker second (λ vault x. recovers_more synced (more_none mid now r.same) (more_none held held refl) mid_count vault x))

-- the archive that is held then is that of the root block's tree
pub finished_tree : (a : Archive) (arena : Arena) (device : List Block) (image : Image) (k : Kept) (new : Shelf) (held : List (List ℕ)) (score bytes : List ℕ) → k.at ≡ a.root → IsReadable arena device image k → StoresForms a.done image (lines_of new) held
    → IsRootOf a bytes → IsHeld (lines_of new) held score 16 bytes → IsArchiveOf (lines_of new) held score a.epoch a.time (tree_of arena image a.root)
finished_tree a arena device image k new held score bytes same r forms root holds =
    subst (λ (n : ℕ). IsArchiveOf (lines_of new) held score a.epoch a.time (tree_of arena image n)) same
    (stored_is a.done arena device image k (lines_of new) held (root_of a root.top) score bytes r (apart_lines new) forms (ap (λ (n : ℕ). found a.done n 17) same ∙ root.top_is) root.spelled holds)

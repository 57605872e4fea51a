-- Sources below one another, and why they are not read.
use Rattle.std.proofs.Common.{inl, inr, ℕ}
use Rattle.fo_crash.specs.Images.{Link}
use Rattle.fo_vac_walk.specs.declared.source.Source.{Source}
use Rattle.fo_vac_walk.specs.declared.error.WalkError.{WalkError}
use Rattle.fo_vac_walk.specs.declared.error.WalkError.TheVariants.{Damaged, ArenaRead, Memory}
use Rattle.fo_vac_walk.specs.Walk.{Holding, Leading, Spoils, WalkBlames}
use Rattle.fo_vac_dir.specs.declared.folder.Folder.{Folder}
use Rattle.fo_vac_dir.specs.Dir.{Spoiled}
use Rattle.fo_vac_files.specs.declared.opened.Opened.{Opened}
use Rattle.fo_vac_files.specs.Broken.{in_leaf}
use Rattle.fo_vac_files.specs.Causes.{refusal_of, IsLoss, LookBlames}
use Rattle.fo_vac_files.specs.Stands.{SourceIs, DirIs}

-- a source below another one
pub led : (h : Holding) (o : Opened) (w : Link) (source : Source) (v : Link) (found : Source) → SourceIs h o w source → Leading h w source.holder v found.entry found.holder → SourceIs h o v found
led h o w source v found s l = record { is = l.is; chain = λ at b. s.chain at (l.chain at b) }

-- ---- refusals

pub walk_loss : (h : Holding) (o : Opened) (w : Link) (source : Source) (why : WalkError) → SourceIs h o w source → Spoils h w source.holder why → IsLoss h o (refusal_of why)
walk_loss h o w source (Damaged at) s b = s.chain at b
walk_loss h o w source ArenaRead s b = tt
walk_loss h o w source Memory s b = tt

pub record_loss : (h : Holding) (o : Opened) (folder : Folder) (entries meta : Link) (why : WalkError) → DirIs h o folder entries meta → Spoiled h meta folder.meta.holder why → IsLoss h o (refusal_of why)
record_loss h o folder entries meta (Damaged at) d (inl b) = d.meta_is.chain at b
record_loss h o folder entries meta (Damaged at) d (inr b) = in_leaf entries meta folder.meta.holder d.is b
record_loss h o folder entries meta ArenaRead d b = tt
record_loss h o folder entries meta Memory d b = tt

pub walk_blames : (before now : ℕ) (why : WalkError) → WalkBlames before now why → LookBlames before now (refusal_of why)
walk_blames before now (Damaged at) b = tt
walk_blames before now ArenaRead b = b
walk_blames before now Memory b = tt

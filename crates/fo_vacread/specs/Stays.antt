-- What no call on the files of an archive changes.
use Rattle.std.specs.Prelude.{◌≡◌, ℕ, ◌≤◌, [], refl}
use Rattle.std.proofs.Common.{sym, subst, ◌∙◌, arith}
use Rattle.std.proofs.lemmas.List.Elements.{All-nil, All-push}
use Rattle.fo_disk.specs.Disk.{DiskState}
use Rattle.fo_image.specs.Record.{RecordHolds}
use Rattle.fo_world.specs.Answers.{NotFewer}
use Rattle.fo_world.specs.World.{World}
use Rattle.fo_world.specs.Fits.{WorldFits, ArchiveFits, SnapFits, StatFits}
use Rattle.fo_world.proofs.Texts.{user-adm}
use Rattle.fo_good.specs.Reading.{levels, stat_in}
use Rattle.fo_good.proofs.Fits.{dir_fits}
use Rattle.fo_image.specs.declared.record.Record.{Record}
use Rattle.venti_store.specs.declared.shelf.Shelf.{Shelf}
use Rattle.fo_vac_open.specs.Tree.{no_image, link_to, archive_of}
use Rattle.fo_vac_walk.specs.Walk.{Holding, blocks_of}
use Rattle.fo_vac_files.specs.declared.opened.Opened.{Opened}
use Rattle.fo_vacread.specs.Honest.{IsHonest, holding_of}
use Rattle.fo_vac_files.specs.Vac.{world_of}

abbrev pub world_at : Shelf → DiskState → Opened → World
world_at shelf s o = world_of (holding_of shelf s) o

-- what is known of an archive that is open as files, and of what it stands on
pub record State : Type 0 where
  pub shelf : Shelf
  pub disk : DiskState
  pub faults : ℕ
  pub opened : Opened

abbrev pub known : Shelf → DiskState → ℕ → Opened → State
known shelf disk faults opened = record { shelf = shelf; disk = disk; faults = faults; opened = opened }

pub record Stays (a b : State) : Type 0 where
  pub shelf : b.shelf ≡ a.shelf
  pub kept : b.disk ≡ a.disk
  pub later : a.faults ≤ b.faults
  pub opened : b.opened ≡ a.opened

pub stays_at_once : (a : State) → Stays a a
stays_at_once a = record { shelf = refl; kept = refl; later = omega arith; opened = refl }

pub stays_joins : (a b c : State) → Stays a b → Stays b c → Stays a c
stays_joins a b c p q =
    let first = p.later in
    let second = q.later in
    record { shelf = q.shelf ∙ p.shelf; kept = q.kept ∙ p.kept; later = omega (arith, first, second); opened = q.opened ∙ p.opened }

abbrev pub Honest : State → Type 0
Honest s = IsHonest s.shelf s.disk s.opened.found.top

abbrev pub world_in : State → World
world_in s = world_at s.shelf s.disk s.opened

pub stays_honest : (a b : State) → Stays a b → Honest a → Honest b
stays_honest a b p h =
    subst (λ (o : Opened). IsHonest b.shelf b.disk o.found.top) (sym p.opened)
    (subst (λ (d : DiskState). IsHonest b.shelf d a.opened.found.top) (sym p.kept) (subst (λ (s : Shelf). IsHonest s a.disk a.opened.found.top) (sym p.shelf) h))

pub stays_silent : (a b : State) → Stays a b → Honest b → Honest a
stays_silent a b p h =
    subst (λ (o : Opened). IsHonest a.shelf a.disk o.found.top) p.opened
    (subst (λ (d : DiskState). IsHonest a.shelf d b.opened.found.top) p.kept (subst (λ (s : Shelf). IsHonest s b.disk b.opened.found.top) p.shelf h))

pub stays_world : (a b : State) → Stays a b → world_in b ≡ world_in a
stays_world a b p = λ k. world_at (p.shelf k) (p.kept k) (p.opened k)

pub stays_faults : (a b : State) → Stays a b → NotFewer (record { main = 0; arena = a.faults }) (record { main = 0; arena = b.faults })
stays_faults a b p = let later = p.later in record { main = omega arith; arena = omega (arith, later) }

stat_fits : (r : Record) → RecordHolds r → StatFits (stat_in r)
stat_fits r holds = record {
  uid = record { some = holds.uid_is.some; short = holds.uid_is.within; text = holds.uid_is.is_text };
  gid = record { some = holds.gid_is.some; short = holds.gid_is.within; text = holds.gid_is.is_text };
  muid = record { some = holds.muid_is.some; short = holds.muid_is.within; text = holds.muid_is.is_text };
}

pub world_fits : (h : Holding) (o : Opened) → WorldFits (world_of h o)
world_fits h o = record {
  active = record { stat = record { uid = user-adm; gid = user-adm; muid = user-adm }; body = tt };
  snaps = All-nil SnapFits;
  archives = All-push ArchiveFits [] (archive_of h.lines h.stored o.score.0 o.found) (All-nil ArchiveFits) (record {
    epoch = o.epoch_fits;
    time = o.time_fits;
    tree = record {
      stat = stat_fits o.found.top.own o.own.holds;
      body = dir_fits levels (blocks_of h) no_image (link_to o.found.top.entries) (link_to o.found.top.meta);
    };
  });
}

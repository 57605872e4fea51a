use Rattle.std.proofs.Common.{sym, refl, subst}
use Rattle.fo_image.specs.declared.record.RootBlock.{RootBlock}
use Rattle.fo_sound.specs.Sound.{HasActiveRoot}
use Rattle.fo_check_image.proofs.Reading.{reading, empty}
use Rattle.fo_check_image.proofs.Bare.{bare_holds, bare_report}
use Rattle.fo_check_image.proofs.Normal.{as_read, same_tree, same_root}
use Rattle.fo_check_image.proofs.Reporting.{whole, hold_bytes, found_answers, refusal_answers, only_found, only_refusal, report_reads}
use Rattle.fo_check_image.proofs.checker.check_opened.Goals as goal

pub returns-in-Ok-clause-answer : goal.returns-in-Ok-clause-answer
returns-in-Ok-clause-answer g c image vault shows opens =
    let o = c.args.opening.now in
    let all = whole _ _ image (g.met.D.Disk.is_content c.args.main.now) shows in
    let bytes = hold_bytes _ image (g.met.D.Disk.are_bytes c.args.main.now) shows in
    rw c.report_of.ensures (found_answers image vault o opens all bytes c.in-Ok.found c.in-Ok.found.broken refl
    (c.in-Ok.ensures.table image (sym opens.blocks) shows)
    (λ holds. c.in-Ok.ensures.walked empty image (reading image o.s o.root) (record { at = o.s.active; root = o.root }) (sym opens.blocks) shows refl holds))

pub returns-in-Err-clause-answer : goal.returns-in-Err-clause-answer
returns-in-Err-clause-answer g c image vault shows opens =
    let o = c.args.opening.now in
    let all = whole _ _ image (g.met.D.Disk.is_content c.args.main.now) shows in
    let bytes = hold_bytes _ image (g.met.D.Disk.are_bytes c.args.main.now) shows in
    rw c.refusal_of.ensures (refusal_answers image vault o opens all bytes c.in-Err.e
    (λ holds. c.in-Err.ensures.walked empty image (reading image o.s o.root) (record { at = o.s.active; root = o.root }) (sym opens.blocks) shows refl holds))

pub returns-in-Ok-clause-only : goal.returns-in-Ok-clause-only
returns-in-Ok-clause-only g c image vault shows opens t =
    let o = c.args.opening.now in
    let active : HasActiveRoot image o.s t.active.root = subst (λ (r : RootBlock). HasActiveRoot image o.s r) (sym t.root) opens.active in
    rw c.report_of.ensures (only_found _ _ _ c.in-Ok.found.broken
    (c.in-Ok.ensures.exact _ image (as_read image t.reading) t.active (sym opens.blocks) shows t.root
    (same_root t.arena image t.reading o.s t.active active t.at t.tree) t.table (same_tree t.arena image t.reading o.s t.active active t.at t.tree)))

pub returns-in-Err-clause-only : goal.returns-in-Err-clause-only
returns-in-Err-clause-only g c image vault shows opens t =
    let o = c.args.opening.now in
    let active : HasActiveRoot image o.s t.active.root = subst (λ (r : RootBlock). HasActiveRoot image o.s r) (sym t.root) opens.active in
    rw c.refusal_of.ensures (only_refusal c.in-Err.e
    (c.in-Err.ensures.exact _ image (as_read image t.reading) t.active (sym opens.blocks) shows t.root
    (same_root t.arena image t.reading o.s t.active active t.at t.tree) t.table (same_tree t.arena image t.reading o.s t.active active t.at t.tree)))

pub returns-in-Ok-clause-bare : goal.returns-in-Ok-clause-bare
returns-in-Ok-clause-bare g c image vault shows opens bare =
    let o = c.args.opening.now in
    rw c.report_of.ensures (bare_report image vault o opens bare c.in-Ok.found c.in-Ok.found.broken
    (c.in-Ok.ensures.walked empty image (reading image o.s o.root) (record { at = o.s.active; root = o.root }) (sym opens.blocks) shows refl (bare_holds image vault o opens bare)))

pub returns-in-Ok-clause-reads : goal.returns-in-Ok-clause-reads
returns-in-Ok-clause-reads g c = rw c.report_of.ensures (report_reads _ _ _ _ _ c.in-Ok.found.broken c.in-Ok.ensures.reads.1)

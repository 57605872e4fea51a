use Rattle.std.proofs.Common.{ap, Ok, None, sym, refl}
use Rattle.nine_fids.specs.Told.{bytes_at}
use Rattle.nine_fids.proofs.Seeing.{apart_looks, looks_as, looks_ok}
use Rattle.nine_fids.proofs.Staying.{bytes_plain}
use Rattle.nine_fids.proofs.Spelling.{apart_within}
use Rattle.nine_fids.proofs.Tables.{big_file, file_within}
use Rattle.nine_fids.proofs.rights.small_file.Goals as goal

pub returns-then-info-gt-LARGEST_TABLE-clause-looks : goal.returns-then-info-gt-LARGEST_TABLE-clause-looks
returns-then-info-gt-LARGEST_TABLE-clause-looks g c = looks_ok _ _ _ None (λ h. ap Ok (big_file _ _ c.args.info.now c.if-info-gt-LARGEST_TABLE.true)) (λ h. refl)

pub returns-clause-looks : goal.returns-clause-looks
returns-clause-looks g c =
    rw c.where_there.ensures
    (looks_as _ _ _ _ _ (λ h. ap Ok (sym (file_within _ _ c.args.info.now c.if-info-gt-LARGEST_TABLE.false)))
    (apart_looks _ _ (λ e w. bytes_at e w c.args.info.now.place 0 c.args.info.now.length) c.bytes_at.result (λ e w. bytes_plain e w c.args.info.now.place 0 c.args.info.now.length) c.bytes_at.ensures.looks))

pub returns-clause-within : goal.returns-clause-within
returns-clause-within g c =
    rw c.where_there.ensures (apart_within c.bytes_at.result c.args.info.now.length c.bytes_at.ensures.within c.if-info-gt-LARGEST_TABLE.false)

use Rattle.fo_files_look.proofs.tells.told.Goals as goal

pub returns-clause-fits : goal.returns-clause-fits
returns-clause-fits c =
    let h = c.requires.holds in record {
      name = record { some = h.name_is.some; short = h.name_is.within; text = h.name_is.is_text };
      uid = record { some = h.uid_is.some; short = h.uid_is.within; text = h.uid_is.is_text };
      gid = record { some = h.gid_is.some; short = h.gid_is.within; text = h.gid_is.is_text };
      muid = record { some = h.muid_is.some; short = h.muid_is.within; text = h.muid_is.is_text };
    }

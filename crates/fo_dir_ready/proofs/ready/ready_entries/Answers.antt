use Rattle.std.proofs.Common.{◌+◌, ◌*◌, ◌/◌, ◌<◌, sym, ap, ◌∙◌, subst, ◌≡◌}
use Rattle.fo_crash.specs.Images.{target, to_block}
use Rattle.fo_crash.proofs.Reach.{same_walk}
use Rattle.fo_ports.specs.Sources.{Form, ComesFor, depth_for, Dirties, most_to_own}
use Rattle.fo_dir_read.specs.Pairs.{OfEntries}
use Rattle.fo_dir_ready.proofs.Rowed.{ends_before}
use Rattle.fo_dir_ready.proofs.Paired.{entries_looked, pair_on, free_on, taken_on}
use Rattle.fo_shown.proofs.Showing.{nothing_shows, shows_joins}
use Rattle.fo_dir_ready.proofs.Later.{own_later, grows_later, readied, spare_later, comes_looked, only_later, alike_after}
use Rattle.fo_dir_ready.proofs.ready.ready_entries.Goals as goal
use Rattle.fo_dirties.proofs.Putting.{dirties_looks}
use Rattle.fo_dirties.proofs.Adding.{dirties_first}

pub own_entries-at-requires-clause-form : goal.own_entries-at-requires-clause-form
own_entries-at-requires-clause-form g c = subst (λ (f : Form). OfEntries f c.args.rank) (sym c.prepare.ensures.same.0) c.requires.form

pub own_entries-at-requires-clause-trimmed : goal.own_entries-at-requires-clause-trimmed
own_entries-at-requires-clause-trimmed g c = λ past. c.prepare.ensures.trimmed (c.requires.trimmed (subst (λ n. n < 8192 * (c.args.i + 1)) c.prepare.ensures.same.1 past))

pub own_entries-at-requires-clause-may : goal.own_entries-at-requires-clause-may
own_entries-at-requires-clause-may g c = own_later c.requires.may c.prepare.ensures.same.1 c.prepare.ensures.same.2 c.prepare.ensures.looks.0.room c.in-Ok.ensures.prepared

pub own_entries-at-requires-clause-linked : goal.own_entries-at-requires-clause-linked
own_entries-at-requires-clause-linked g c = λ now more b has.
    let on = c.args.on.now in
    let mid = c.prepare.new.on in
    let s = g.B.Blocks.state on in
    let m = g.B.Blocks.state mid in
    let told = (g.met.B.Blocks.keeps_all on mid c.prepare.ensures.looks.1).still_tells.0 now in
    let deeper = subst (λ n. depth_for n < depth_for (8192 * (c.args.i + 1))) c.prepare.ensures.same.1 more in
    let r = c.requires.linked told deeper b ((c.prepare.ensures.same.2.owns told b).0 has) in
    record { path = r.path; leads = ap target (same_walk m.now s.now (λ x j. ((c.prepare.ensures.looks.0.memory told).each x).slots j) r.path (to_block 1)) ∙ r.leads }

pub returns-in-Ok-clause-pairs : goal.returns-in-Ok-clause-pairs
returns-in-Ok-clause-pairs g c = λ told k first second pair.
    let now = (g.met.B.Blocks.keeps_all c.args.on.now c.prepare.new.on c.prepare.ensures.looks.1).still_tells.1 told in
    c.own_entries-at.ensures.pairs now k first second (pair_on (entries_looked told c.prepare.ensures.looks.0 c.prepare.ensures.same.2 (k / 102)) pair)

pub returns-in-Ok-clause-free : goal.returns-in-Ok-clause-free
returns-in-Ok-clause-free g c = λ told k free.
    let now = (g.met.B.Blocks.keeps_all c.args.on.now c.prepare.new.on c.prepare.ensures.looks.1).still_tells.1 told in
    c.own_entries-at.ensures.free now k (free_on (entries_looked told c.prepare.ensures.looks.0 c.prepare.ensures.same.2 (k / 102)) (λ e. (g.met.S.Bytes.none_behind c.args.entries.now c.args.on.now (k / 102) c.requires.over (ends_before (g.S.Bytes.size c.args.entries.now) (k / 102) e)).0) free)

pub returns-in-Ok-clause-taken : goal.returns-in-Ok-clause-taken
returns-in-Ok-clause-taken g c = λ told k taken.
    let now = (g.met.B.Blocks.keeps_all c.args.on.now c.prepare.new.on c.prepare.ensures.looks.1).still_tells.1 told in
    c.own_entries-at.ensures.taken now k (taken_on (g.met.B.Blocks.clears_used c.args.on.now told) (λ j. entries_looked told c.prepare.ensures.looks.0 c.prepare.ensures.same.2 j) taken)

pub returns-in-Ok-clause-grows : goal.returns-in-Ok-clause-grows
returns-in-Ok-clause-grows g c =
    let k = c.prepare.ensures in
    grows_later (g.met.B.Blocks.keeps_all c.args.on.now c.prepare.new.on k.looks.1).still_tells.1 k.looks.0 k.same.2 c.own_entries-at.ensures.grows

pub returns-in-Ok-clause-spare : goal.returns-in-Ok-clause-spare
returns-in-Ok-clause-spare g c =
    let k = c.prepare.ensures in
    spare_later c.args.i (g.B.Blocks.state c.args.on.now) (g.B.Blocks.state c.prepare.new.on) (g.B.Blocks.state c.own_entries-at.new.on) k.same.1 k.same.2 k.looks.0.room.0 c.own_entries-at.ensures.spare

pub returns-in-Ok-clause-comes : goal.returns-in-Ok-clause-comes
returns-in-Ok-clause-comes g c = λ told from comes.
    let k = c.prepare.ensures in
    let all = g.met.B.Blocks.keeps_all c.args.on.now c.prepare.new.on k.looks.1 in
    let s = g.B.Blocks.state c.args.on.now in
    c.own_entries-at.ensures.comes (all.still_tells.1 told) from (comes_looked all k.looks.0 told (g.S.Bytes.top c.prepare.new.self) from (subst (λ p. ComesFor s p from) (sym k.top) comes))

pub returns-in-Ok-clause-only : goal.returns-in-Ok-clause-only
returns-in-Ok-clause-only g c = λ told some.
    let k = c.prepare.ensures in
    let all = g.met.B.Blocks.keeps_all c.args.on.now c.prepare.new.on k.looks.1 in
    only_later all k.looks.0 told (g.B.Blocks.state c.own_entries-at.new.on) k.top (c.own_entries-at.ensures.only (all.still_tells.1 told) some)

pub returns-in-Ok-clause-room : goal.returns-in-Ok-clause-room
returns-in-Ok-clause-room g c = c.own_entries-at.ensures.room ∙ c.prepare.ensures.looks.0.room.1

pub returns-in-Ok-clause-changes : goal.returns-in-Ok-clause-changes
returns-in-Ok-clause-changes g c =
    let k = c.prepare.ensures in
    let o = c.own_entries-at.ensures in
    let s = c.prepare.new.self in
    let m = c.prepare.new.on in
    (s, m, k.over, k.looks.1, o.keeps, readied k.same.0 k.same.1 k.looks.0 k.same.2 o.owned_leaf o.grows o.changes)

pub returns-in-Ok-clause-dirties : goal.returns-in-Ok-clause-dirties
returns-in-Ok-clause-dirties g c =
    let s = g.B.Blocks.state c.args.on.now in
    let u = g.B.Blocks.state c.own_entries-at.new.on in
    let looked = dirties_looks (g.met.B.Blocks.keeps_all c.args.on.now c.prepare.new.on c.prepare.ensures.looks.1) c.prepare.ensures.looks.0 in
    subst (λ n. Dirties (2 * most_to_own n c.args.i) (λ b. b ≡ c.own_entries-at.result) s u) c.prepare.ensures.same.1 (dirties_first looked c.own_entries-at.ensures.dirties)

pub returns-in-Ok-clause-shown : goal.returns-in-Ok-clause-shown
returns-in-Ok-clause-shown g c = shows_joins (nothing_shows c.prepare.ensures.looks.0.images) c.own_entries-at.ensures.shown

pub returns-in-Err-clause-shown : goal.returns-in-Err-clause-shown
returns-in-Err-clause-shown g c = nothing_shows c.prepare.ensures.looks.0.images

pub returns-in-Ok-clause-alike : goal.returns-in-Ok-clause-alike
returns-in-Ok-clause-alike g c =
    let k = c.prepare.ensures in
    alike_after (g.met.B.Blocks.keeps_all c.args.on.now c.prepare.new.on k.looks.1) k.looks.0 (g.met.B.Blocks.active c.prepare.new.on).0 k.same.0 k.same.1 k.top c.own_entries-at.ensures.alike

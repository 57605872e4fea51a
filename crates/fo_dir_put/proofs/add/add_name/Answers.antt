use Rattle.std.proofs.Common.{◌*◌, inl, inr, ⊎_elim, refl, sym, subst}
use Rattle.fo_crash.specs.declared.slot.Slot.{Slot}
use Rattle.fo_crash.specs.Names.{IsInUse}
use Rattle.fo_dir_put.specs.Names.{ListsIn}
use Rattle.fo_dir_put.specs.Once.{MayComeOnce}
use Rattle.fo_dir_put.proofs.Once.{shows_once}
use Rattle.fo_dir_put.proofs.Calms.{records_on, in_place_on, calm_joins}
use Rattle.fo_dir_put.proofs.Aparts.{shows_apart, rest_shows, may_later}
use Rattle.fo_dir_put.proofs.Named.{differ_shows, name_later}
use Rattle.fo_dir_put.proofs.Paired.{adds_back}
use Rattle.fo_dir_put.proofs.add.add_name.Goals as goal
use Rattle.fo_dirties.proofs.Dirtied.{dirties_joins}

pub put_record-requires-clause-owned : goal.put_record-requires-clause-owned
put_record-requires-clause-owned g c = records_on (g.met.B.Blocks.keeps_all c.args.on.now c.put_pair.new.on c.put_pair.ensures.keeps) c.put_pair.ensures.calm (c.put_pair.ensures.puts.bytes c.args.leaf) c.requires.owned

pub put_record-requires-clause-lower : goal.put_record-requires-clause-lower
put_record-requires-clause-lower g c = λ told.
    let was = (g.met.B.Blocks.keeps_all c.args.on.now c.put_pair.new.on c.put_pair.ensures.keeps).still_tells.0 told in
    in_place_on was (g.met.B.Blocks.active c.put_pair.new.on).0 c.put_pair.ensures.calm c.requires.owned.uncovered c.requires.entries.uncovered (c.requires.lower was)

pub returns-clause-fit : goal.returns-clause-fit
returns-clause-fit g c = λ n adds all.
    let t = g.B.Blocks.state c.put_pair.new.on in
    let settled : t.clearing c.args.entries (2 * c.args.p) → ⊥ = λ h. c.requires.first_unused.settled (c.put_pair.ensures.calm.order.clearing c.args.entries (2 * c.args.p) h).1 in
    let used : IsInUse ((t.now c.args.entries).slot (2 * c.args.p)) c.args.first.generation = subst (λ (x : Slot). IsInUse x c.args.first.generation) (sym c.put_pair.ensures.puts.first_is) (c.requires.active, refl) in
    c.put_record.ensures.fit n (record {
      each = λ j g' lists. ⊎_elim
          (λ was. inl (subst (λ xs. ListsIn n xs j g') (sym (c.put_pair.ensures.puts.bytes c.args.leaf)) was))
          (λ h. inr (subst (λ i. IsInUse ((t.now c.args.entries).slot i) g') (sym h.0) (subst (λ x. IsInUse ((t.now c.args.entries).slot (2 * c.args.p)) x) (sym h.1) used), λ k. settled (subst (λ i. t.clearing c.args.entries i) h.0 k)))
          (adds.each j g' lists);
    }) (c.put_pair.ensures.fit n c.args.leaf all)

pub returns-clause-apart : goal.returns-clause-apart
returns-clause-apart g c = λ b differs may all.
    c.put_record.ensures.apart b differs (may_later (sym (c.put_pair.ensures.puts.bytes c.args.leaf)) c.put_pair.ensures.shows may) (shows_apart all c.put_pair.ensures.shows)

pub returns-clause-others : goal.returns-clause-others
returns-clause-others g c = rest_shows c.put_pair.ensures.shows c.put_record.ensures.others

pub returns-clause-named : goal.returns-clause-named
returns-clause-named g c = λ leaves may all.
    c.put_record.ensures.named leaves (name_later (sym (c.put_pair.ensures.puts.bytes c.args.leaf)) c.put_pair.ensures.shows may) (differ_shows c.put_pair.ensures.shows all)

pub returns-clause-paired : goal.returns-clause-paired
returns-clause-paired g c = λ n a e adds all.
    let t = g.B.Blocks.state c.put_pair.new.on in
    let settled : t.clearing c.args.entries (2 * c.args.p) → ⊥ = λ h. c.requires.first_unused.settled (c.put_pair.ensures.calm.order.clearing c.args.entries (2 * c.args.p) h).1 in
    c.put_record.ensures.paired n a e (λ is. adds_back c.put_pair.ensures.puts settled (adds is)) (c.put_pair.ensures.paired n a e all)

pub returns-clause-there : goal.returns-clause-there
returns-clause-there g c = λ told b sealed spared linked.
    let calm = c.put_pair.ensures.calm in
    c.put_record.ensures.there ((g.met.B.Blocks.keeps_all c.args.on.now c.put_pair.new.on c.put_pair.ensures.keeps).still_tells.1 told) b ((calm.marks b).1 sealed) (calm.spared b spared) (calm.linked told b linked)

pub returns-clause-calm : goal.returns-clause-calm
returns-clause-calm g c = calm_joins (g.met.B.Blocks.keeps_all c.args.on.now c.put_pair.new.on c.put_pair.ensures.keeps) c.put_pair.ensures.calm c.put_record.ensures.calm

pub returns-clause-waits : goal.returns-clause-waits
returns-clause-waits g c =
    let t = g.B.Blocks.state c.put_pair.new.on in
    let settled : t.clearing c.args.entries (2 * c.args.p) → ⊥ = λ h. c.requires.first_unused.settled (c.put_pair.ensures.calm.order.clearing c.args.entries (2 * c.args.p) h).1 in
    let used : IsInUse ((t.now c.args.entries).slot (2 * c.args.p)) c.args.first.generation = subst (λ (x : Slot). IsInUse x c.args.first.generation) (sym c.put_pair.ensures.puts.first_is) (c.requires.active, refl) in
    let waits = c.put_record.ensures.waits in
    let both = waits.0.each c.args.p c.args.first.generation used settled in
    (both.0, both.1, record { each = λ a on j other h. c.put_pair.ensures.no_wait.each a on j (λ n. n) (waits.1.each a on j other h) })

pub returns-clause-dirties : goal.returns-clause-dirties
returns-clause-dirties g c = dirties_joins c.put_pair.ensures.dirties c.put_record.ensures.dirties

pub returns-clause-once : goal.returns-clause-once
returns-clause-once g c = λ may once.
    let t = g.B.Blocks.state c.put_pair.new.on in
    let later = c.put_pair.ensures.comes c.args.leaf c.args.bytes.now (((g.B.Blocks.state c.args.on.now).now c.args.leaf).bytes) may in
    c.put_record.ensures.once (subst (λ xs. MayComeOnce c.args.leaf c.args.bytes.now xs t.may_leave) (sym (c.put_pair.ensures.puts.bytes c.args.leaf)) later) (shows_once c.put_pair.ensures.shown once)

use Rattle.std.proofs.Common.{◌≡◌, ◌≢◌, ◌⊎◌, inl, inr, ⊎_elim, ◌<◌, ◌≤◌, ◌/◌, ◌%◌, ◌+◌, ℕ, List, length, Some, None, sym, ◌∙◌, subst, arith}
use Rattle.std.proofs.lemmas.List.{get_or-set_same}
use Rattle.fo_image.specs.declared.types.Kind.{Kind}
use Rattle.fo_image.specs.declared.types.Kind.TheVariants.{Data}
use Rattle.fo_ports.specs.Blocks.{put_at, IsFormed}
use Rattle.fo_ports.specs.Sources.{Made}
use Rattle.fo_ports_source.specs.Steps.{Steps}
use Rattle.fo_ports.proofs.Lengths.{length_put_at}
use Rattle.fo_ports_source.specs.Source.{leaf_of, HasLeaf}
use Rattle.fo_ports_source.specs.SourceLaws.{only_place}
use Rattle.fo_ports_source.proofs.Steps.{bytes_put, steps_joins, steps_wider}
use Rattle.fo_ports_source.proofs.Leaves.{leaf_was, PutsOne, put_puts, put_over, put_grew, grew_joins, grew_same}
use Rattle.fo_ports_source.proofs.Puts.{puts_after}
use Rattle.fo_ports_source.proofs.Dirtied.{dirties_after}
use Rattle.fo_ports_source.proofs.source.PlainSource.put_part.Given as given
use Rattle.fo_ports_source.proofs.source.PlainSource.put_part.Goals as goal

plain_formed : (kind : Kind) (rank : ℕ) (bytes : List ℕ) → kind ≡ Data 0 → rank % 32 ≢ 16 → length bytes ≡ 8192 → IsFormed kind rank bytes
plain_formed kind rank bytes is plain long = subst (λ k. IsFormed k rank bytes) (sym is) (long, λ e. absurd (plain e))

pub put_bytes-requires-clause-formed : goal.put_bytes-requires-clause-formed
put_bytes-requires-clause-formed g c = λ told p stands.
    let owned = c.own-at.ensures in
    let at_place = only_place (g.met.B.Blocks.one_place c.own-at.new.on) (owned.own.leaf.told told) p stands in
    let old = ((g.B.Blocks.state c.own-at.new.on).now c.own-at.result).bytes in
    let long = owned.own.held.long in
    let part = c.requires.part.1 in
    plain_formed p.kind p.rank (put_at (c.args.place % 8192) c.args.piece.now old) (at_place.0 ∙ c.requires.kind.0) (subst (λ r. r % 32 ≢ 16) (sym at_place.2) c.requires.kind.1)
    (length_put_at (c.args.place % 8192) c.args.piece.now old (omega (arith, long, part)) ∙ long)

one : (g : given.Over) (c : goal.After-put_bytes g) → PutsOne c.own-at.new.self.kind c.own-at.new.self.tag c.own-at.new.self.rank c.own-at.new.self.size c.own-at.new.self.leaves.items c.own-at.result c.args.place c.args.piece.now (g.B.Blocks.state c.own-at.new.on) (g.B.Blocks.state c.put_bytes.new.self)
one g c =
    let mid = c.own-at.new.on in
    let new = c.put_bytes.new.self in
    let owned = c.own-at.ensures in
    let e = c.put_bytes.ensures in
    let within = c.requires.over.within in
    let inside = c.requires.within in
    let part = c.requires.part in
    let few : c.args.place / 8192 < length c.args.self.now.leaves.items = omega (arith, within, inside, part.0) in
    record {
      over = owned.over;
      here = subst (λ leaves. leaf_of leaves (c.args.place / 8192) ≡ Some c.own-at.result) (sym owned.leaves) (get_or-set_same c.args.self.now.leaves.items (c.args.place / 8192) (Some c.own-at.result) None few);
      part = c.requires.part.1;
      inside = subst (λ n. c.args.place + length c.args.piece.now ≤ n) (sym owned.same.3) c.requires.within;
      long = owned.own.held.long;
      puts = e.now;
      labels = λ b. e.calm.frame.stays.labels b (λ n. n);
      steps = bytes_put {at = c.own-at.result} (record {
        puts = e.now;
        adds = e.images;
        calm = e.calm;
        no_wait = e.no_wait;
        current = owned.own.current;
        tagged = owned.own.held.labelled.has_tag ∙ sym owned.same.1;
        all = g.met.B.Blocks.keeps_all mid new e.keeps;
      });
    }

put_steps : (g : given.Over) (c : goal.After-put_bytes g) → Steps c.args.self.now.tag (λ b. b ≡ c.own-at.result) (λ b. b ≡ c.own-at.result) (g.B.Blocks.state c.own-at.new.on) (g.B.Blocks.state c.put_bytes.new.self)
put_steps g c =
    let owned = c.own-at.ensures in
    let e = c.put_bytes.ensures in
    bytes_put {at = c.own-at.result} (record {
      puts = e.now;
      adds = e.images;
      calm = e.calm;
      no_wait = e.no_wait;
      current = owned.own.current;
      tagged = owned.own.held.labelled.has_tag;
      all = g.met.B.Blocks.keeps_all c.own-at.new.on c.put_bytes.new.self e.keeps;
    })

pub returns-clause-steps : goal.returns-clause-steps
returns-clause-steps g c =
    let on = c.args.on.now in
    let mid = c.own-at.new.on in
    let new = c.put_bytes.new.self in
    let leaves = c.args.self.now.leaves.items in
    let owned = c.own-at.ensures in
    let i = c.args.place / 8192 in
    let was = leaf_was (g.B.Blocks.state on) (g.B.Blocks.state mid) c.own-at.result (leaf_of leaves i) owned.copied in
    steps_joins (g.met.B.Blocks.keeps_all on new (g.met.B.Blocks.keeps_joins on mid new owned.keeps c.put_bytes.ensures.keeps)) (steps_wider (λ b h. h) (λ b h. absurd h) owned.steps) (put_steps g c)
    (λ b e. subst (λ x. HasLeaf leaves x ⊎ Made (g.B.Blocks.state on) (g.B.Blocks.state mid) x) (sym e) (⊎_elim (λ h. inl (record { number = i; is = h })) (λ m. inr m) was))
    (λ b e. subst (λ x. (leaf_of leaves i ≡ Some x) ⊎ Made (g.B.Blocks.state on) (g.B.Blocks.state mid) x) (sym e) was)

pub returns-clause-puts : goal.returns-clause-puts
returns-clause-puts g c = λ told. puts_after (c.own-at.ensures.bytes told) (put_puts (one g c) ((g.met.B.Blocks.keeps_all c.args.on.now c.own-at.new.on c.own-at.ensures.keeps).still_tells.1 told))

pub returns-clause-over : goal.returns-clause-over
returns-clause-over g c = put_over (one g c)

pub returns-clause-grew : goal.returns-clause-grew
returns-clause-grew g c =
    let on = c.args.on.now in
    let mid = c.own-at.new.on in
    let new = c.put_bytes.new.self in
    grew_joins (g.met.B.Blocks.keeps_all on new (g.met.B.Blocks.keeps_joins on mid new c.own-at.ensures.keeps c.put_bytes.ensures.keeps)) c.own-at.ensures.grew (grew_same c.own-at.ensures.same.0 c.own-at.ensures.same.1 c.own-at.ensures.same.3 (put_grew (one g c)))

pub returns-clause-dirties : goal.returns-clause-dirties
returns-clause-dirties g c = dirties_after (g.met.B.Blocks.keeps_all c.own-at.new.on c.put_bytes.new.self c.put_bytes.ensures.keeps) c.own-at.ensures.dirties c.put_bytes.ensures.calm

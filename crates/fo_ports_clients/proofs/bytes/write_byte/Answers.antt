use Rattle.std.proofs.Common.{◌≡◌, ◌≢◌, ◌%◌, [], ◌∷◌, length, inl, sym, ◌∙◌, ap, subst, arith}
use Rattle.fo_image.specs.declared.types.Kind.TheVariants.{Data}
use Rattle.fo_image.specs.declared.types.Label.{Label}
use Rattle.fo_image.specs.declared.types.Pointer.TheVariants.{Local}
use Rattle.fo_crash.specs.declared.place.Place.{Place}
use Rattle.fo_crash.specs.Images.{target, to_block, Reaches}
use Rattle.fo_crash.proofs.Reach.{reaches_on}
use Rattle.fo_crash.proofs.Keeps.{keeps_joins, keeps_fewer}
use Rattle.fo_ports.specs.Blocks.{put_at}
use Rattle.fo_ports.proofs.Lengths.{length_put_at}
use Rattle.fo_ports_clients.proofs.Copies.{tree_rooted}
use Rattle.fo_ports_clients.proofs.Leaf.{plain_formed}
use Rattle.fo_ports_clients.proofs.Own.{other_leaf, apart_by}
use Rattle.fo_ports_clients.proofs.Tree.{Tree, standing, root_reached}
use Rattle.fo_ports_clients.proofs.bytes.write_byte.Goals as goal

pub own_below-own_top-requires-clause-reached : goal.own_below-own_top-requires-clause-reached
own_below-own_top-requires-clause-reached g c = λ told.
    subst (λ x. Reaches (g.B.Blocks.state c.args.on.now).now (to_block 1) x) (sym c.root-root.ensures) (root_reached (g.B.Blocks.state c.args.on.now).root (g.met.B.Blocks.root_named c.args.on.now told))

pub own_below-own_leaf-requires-clause-reached : goal.own_below-own_leaf-requires-clause-reached
own_below-own_leaf-requires-clause-reached g c = λ told.
    let on = c.args.on.now in
    let mid = c.own_below-own_top.new.on in
    let own_top = c.own_below-own_top.result in
    let first = c.own_below-own_top.ensures in
    let k = g.met.B.Blocks.keeps_all on mid first.keeps in
    let mid_top = λ (told : (g.B.Blocks.state mid).tells). reaches_on 0 (subst (λ x. Reaches (g.B.Blocks.state mid).now (to_block 1) x) (k.same_root ∙ sym c.root-root.ensures) (root_reached (g.B.Blocks.state mid).root (g.met.B.Blocks.root_named mid told))) first.here in
    mid_top told

pub put_bytes-requires-clause-formed : goal.put_bytes-requires-clause-formed
put_bytes-requires-clause-formed g c = λ told p stands.
    let on = c.args.on.now in
    let root = c.root-root.result in
    let from_root = λ (told : (g.B.Blocks.state on).tells). subst (λ x. Reaches (g.B.Blocks.state on).now (to_block 1) x) (sym c.root-root.ensures) (root_reached (g.B.Blocks.state on).root (g.met.B.Blocks.root_named on told)) in
    let mid = c.own_below-own_top.new.on in
    let own_top = c.own_below-own_top.result in
    let first = c.own_below-own_top.ensures in
    let k = g.met.B.Blocks.keeps_all on mid first.keeps in
    let mid_top = λ (told : (g.B.Blocks.state mid).tells). reaches_on 0 (subst (λ x. Reaches (g.B.Blocks.state mid).now (to_block 1) x) (k.same_root ∙ sym c.root-root.ensures) (root_reached (g.B.Blocks.state mid).root (g.met.B.Blocks.root_named mid told))) first.here in
    let last = c.own_below-own_leaf.new.on in
    let second = c.own_below-own_leaf.ensures in
    let told_mid : (g.B.Blocks.state mid).tells = (g.met.B.Blocks.keeps_all mid last second.keeps).still_tells.0 told in
    let told_old : (g.B.Blocks.state on).tells = k.still_tells.0 told_mid in
    let tree : Tree (g.B.Blocks.state on).stands (g.B.Blocks.state on).now = record { one = g.met.B.Blocks.one_place on; placed = g.met.B.Blocks.placed on (g.B.Blocks.state on).now (g.met.B.Blocks.present on told_old); falls = g.met.B.Blocks.ranked on (g.B.Blocks.state on).now (g.met.B.Blocks.present on told_old); super_stands = g.met.B.Blocks.super_stands on told_old } in
    let top_is : target (((g.B.Blocks.state on).now root).slot 0) ≡ Local c.args.top = ap (λ x. target (((g.B.Blocks.state on).now x).slot 0)) c.root-root.ensures ∙ c.requires.top_leads in
    let here = standing tree (reaches_on c.args.k (reaches_on 0 (from_root told_old) top_is) c.requires.leaf_leads) in
    let leaf_ne : c.args.leaf ≢ own_top = apart_by (λ x. ((g.B.Blocks.state on).label x).state) c.args.leaf own_top (λ e. first.fresh.1 (sym e ∙ c.requires.leaf_live)) in
    let mid_leads : target (((g.B.Blocks.state mid).now own_top).slot c.args.k) ≡ Local c.args.leaf = ap target (first.copied.slots c.args.k) ∙ c.requires.leaf_leads in
    let mid_leaf = reaches_on c.args.k (mid_top told_mid) mid_leads in
    let uncovered = (g.met.B.Blocks.live mid c.args.leaf told_mid c.requires.apart.2 mid_leaf).2 in
    let there = second.place told_mid here.where_at (first.places told_old c.args.leaf here.where_at leaf_ne here.is_there uncovered (tree_rooted (g.B.Blocks.state mid) c.args.leaf (g.met.B.Blocks.active mid).0 mid_leaf)) in
    let is : here.where_at ≡ p = (g.met.B.Blocks.one_place last).each c.own_below-own_leaf.result here.where_at p there stands in
    let kind : here.where_at.kind ≡ Data 0 = sym (g.met.B.Blocks.labelled on c.args.leaf here.where_at told_old c.requires.apart.2 here.is_there).1 ∙ c.requires.leaf_kind in
    let long : length (((g.B.Blocks.state last).now c.own_below-own_leaf.result).bytes) ≡ 8192 = ap length (second.copied.bytes ∙ first.bytes c.args.leaf leaf_ne) ∙ c.requires.leaf_long in
    plain_formed p.kind p.rank (put_at c.args.from (c.args.byte ∷ []) (((g.B.Blocks.state last).now c.own_below-own_leaf.result).bytes))
    (ap (λ (q : Place). q.kind) (sym is) ∙ kind)
    (subst (λ (q : Place). q.rank % 32 ≢ 16) is (c.requires.leaf_place told_old here.where_at here.is_there))
    (length_put_at c.args.from (c.args.byte ∷ []) (((g.B.Blocks.state last).now c.own_below-own_leaf.result).bytes) (omega (arith, long, c.requires.within)) ∙ long)

pub returns-clause-others : goal.returns-clause-others
returns-clause-others g c = λ told. record {
  each = λ arena is_arena.
      let on = c.args.on.now in
      let k = g.met.B.Blocks.keeps_all on c.own_below-own_top.new.on c.own_below-own_top.ensures.keeps in
      keeps_joins
      (keeps_fewer ((c.own_below-own_top.ensures.shows told).each arena is_arena) (λ path _. tt))
      (keeps_joins
      (keeps_fewer ((c.own_below-own_leaf.ensures.shows (k.still_tells.1 told)).each arena is_arena) (λ path _. tt))
      (other_leaf is_arena (λ e. c.requires.apart.0 (sym (e ∙ c.root-root.ensures))) (λ e. c.own_below-own_top.ensures.fresh.0 (sym e)) (λ e. c.own_below-own_leaf.ensures.fresh.0 (sym e)) c.own_below-own_top.ensures.one_way c.own_below-own_leaf.ensures.moves c.own_below-own_leaf.ensures.one_way c.put_bytes.ensures.images));
}

pub returns-clause-leads : goal.returns-clause-leads
returns-clause-leads g c =
    let on = c.args.on.now in
    let mid = c.own_below-own_top.new.on in
    let last = c.own_below-own_leaf.new.on in
    let new = c.put_bytes.new.self in
    let s = g.B.Blocks.state on in
    let t = g.B.Blocks.state mid in
    let u = g.B.Blocks.state last in
    let v = g.B.Blocks.state new in
    let own_top = c.own_below-own_top.result in
    let own_leaf = c.own_below-own_leaf.result in
    let first = c.own_below-own_top.ensures in
    let second = c.own_below-own_leaf.ensures in
    let put = c.put_bytes.ensures.now in
    let root_is : v.root ≡ c.root-root.result = (g.met.B.Blocks.keeps_all last new c.put_bytes.ensures.keeps).same_root ∙ (g.met.B.Blocks.keeps_all mid last second.keeps).same_root ∙ (g.met.B.Blocks.keeps_all on mid first.keeps).same_root ∙ sym c.root-root.ensures in
    let root_live = ap (λ x. (s.label x).state) c.root-root.ensures ∙ c.requires.root_live in
    let not_top : c.root-root.result ≢ own_top = apart_by (λ x. (s.label x).state) c.root-root.result own_top (λ e. first.fresh.1 (sym e ∙ root_live)) in
    let mid_live = ap (λ (l : Label). l.state) (first.others c.root-root.result not_top).0 ∙ root_live in
    let not_leaf : c.root-root.result ≢ own_leaf = apart_by (λ x. (t.label x).state) c.root-root.result own_leaf (λ e. second.fresh.1 (sym e ∙ mid_live)) in
    let root_leads : target ((v.now c.root-root.result).slot 0) ≡ Local own_top = ap target (put.slots c.root-root.result 0 ∙ second.slots c.root-root.result 0 not_leaf (inl not_top)) ∙ first.here in
    (own_top, ap (λ x. target ((v.now x).slot 0)) root_is ∙ root_leads, ap target (put.slots own_top c.args.k) ∙ second.here)

pub returns-clause-block : goal.returns-clause-block
returns-clause-block g c =
    let own_leaf = c.own_below-own_leaf.result in
    let put = c.put_bytes.ensures in (
      ((g.met.B.Blocks.keeps_all c.own_below-own_leaf.new.on c.put_bytes.new.self put.keeps).same_blocks own_leaf).1 c.own_below-own_leaf.ensures.block,
      (put.calm.frame.stays.marks own_leaf (λ n. n)).0 c.own_below-own_leaf.ensures.pinned,
    )

pub returns-clause-settled : goal.returns-clause-settled
returns-clause-settled g c = λ b j h. c.requires.settled b j (c.own_below-own_top.ensures.order b j (c.own_below-own_leaf.ensures.order b j (c.put_bytes.ensures.calm.order.clearing b j h).1).1).1

pub returns-clause-spare : goal.returns-clause-spare
returns-clause-spare g c =
    let top_spare = c.own_below-own_top.ensures.spare.0 in
    let leaf_spare = c.own_below-own_leaf.ensures.spare.0 in
    let put_spare = c.put_bytes.ensures.calm.frame.uses.spare in
    let top_usable = c.own_below-own_top.ensures.spare.1 in
    let leaf_usable = c.own_below-own_leaf.ensures.spare.1 in
    let put_usable = c.put_bytes.ensures.calm.frame.uses.usable in
    (omega (arith, top_spare, leaf_spare, put_spare), omega (arith, top_usable, leaf_usable, put_usable))

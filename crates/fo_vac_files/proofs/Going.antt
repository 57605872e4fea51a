-- Steps along a trail.
use Rattle.std.proofs.Common.{◌≡◌, ◌∙◌, inl, inr, ℕ, zero, suc, ◌<◌, List, [], ◌∷◌, drop, length, slice_index, cond, Option, Some, None, option_and_then, Result, Ok, Err, MatchResult, refl, sym, ap, subst, arith}
use Rattle.std.specs.Option.{ok_or}
use Rattle.std.proofs.lemmas.Bool.{eq-eqb}
use Rattle.fo_image.specs.declared.record.Record.{Record}
use Rattle.fo_world.specs.declared.tree.Node.{Node}
use Rattle.fo_world.specs.declared.tree.Body.{Body}
use Rattle.fo_world.specs.declared.tree.Body.TheVariants.{Dir}
use Rattle.fo_world.specs.declared.error.FileError.{FileError}
use Rattle.fo_world.specs.declared.error.FileError.TheVariants as error
use Rattle.fo_world.specs.declared.place.Place.{Place}
use Rattle.fo_world.specs.declared.place.View.{View}
use Rattle.fo_world.specs.declared.place.View.TheVariants.{Archive}
use Rattle.fo_world.specs.Tree.{along, child, node_of}
use Rattle.fo_world.specs.Dated.{slash}
use Rattle.fo_world.specs.Step.{reached, reached_from, root_name, root_of}
use Rattle.std.specs.Prelude.{false}
use Rattle.fo_good.specs.Reading.{dir_in, stat_in, levels}
use Rattle.fo_vac_open.specs.Tree.{no_image, link_to, top_node}
use Rattle.fo_vac_walk.specs.Walk.{Holding, blocks_of}
use Rattle.fo_vac_files.specs.declared.opened.Opened.{Opened}
use Rattle.fo_vac_files.specs.declared.reach.Inside.{Inside}
use Rattle.fo_vac_files.specs.declared.reach.Reached.{Reached}
use Rattle.fo_vac_files.specs.Broken.{first, in_entries, in_meta}
use Rattle.fo_vac_files.specs.Causes.{IsRefusal}
use Rattle.fo_vac_files.specs.Vac.{world_of}
use Rattle.fo_vac_files.specs.Stands.{Stands, HasInside, Picks, Comes, Fails, Along}
use Rattle.fo_vac_files.specs.Told.{IsOwn, LeadsHere, Reaches}

pub next_part : (k : ℕ) (xs : List ℕ) → k < length xs → drop k xs ≡ slice_index xs k ∷ drop (suc k) xs
next_part k [] lt = absurd (omega (arith, lt))
next_part zero (x ∷ xs) lt = refl
next_part (suc k) (x ∷ xs) lt = next_part k xs (omega (arith, lt))

pub at_start : (h : Holding) (o : Opened) (trail : List ℕ) (n : List ℕ × Node) (f : Reached) → Stands h o f n → Along h o (along trail n) trail f
at_start h o trail n f s = record { node = n; same = refl; stands = s }

comes_on : (h : Holding) (o : Opened) (whole : Option (List ℕ × Node)) (rest : List ℕ) (there : Option (List ℕ × Node)) (f : Reached) → whole ≡ option_and_then (along rest) there → Picks h o there (Some f) → Along h o whole rest f
comes_on h o whole rest None f same p = absurd p
comes_on h o whole rest (Some n) f same p = record { node = n; same = same; stands = p }

-- one number more
pub comes_along : (h : Holding) (o : Opened) (whole : Option (List ℕ × Node)) (trail : List ℕ) (k : ℕ) (here f : Reached) (a : Along h o whole (drop k trail) here) → k < length trail → Comes h o (child (slice_index trail k) a.node.1.body) f → Along h o whole (drop (suc k) trail) f
comes_along h o whole trail k here f a lt p =
    comes_on h o whole (drop (suc k) trail) (child (slice_index trail k) a.node.1.body) f (a.same ∙ ap (λ t. along t a.node) (next_part k trail lt)) p

fails_on : (h : Holding) (o : Opened) (whole : Option (List ℕ × Node)) (rest : List ℕ) (there : Option (List ℕ × Node)) (e : FileError) → whole ≡ option_and_then (along rest) there → Fails h o there e → Fails h o whole e
fails_on h o whole rest there e same (inl p) = inl (same ∙ ap (option_and_then (along rest)) p.0, p.1)
fails_on h o whole rest there e same (inr loss) = inr loss

pub fails_along : (h : Holding) (o : Opened) (whole : Option (List ℕ × Node)) (trail : List ℕ) (k : ℕ) (here : Reached) (e : FileError) (a : Along h o whole (drop k trail) here) → k < length trail → Fails h o (child (slice_index trail k) a.node.1.body) e → Fails h o whole e
fails_along h o whole trail k here e a lt p =
    fails_on h o whole (drop (suc k) trail) (child (slice_index trail k) a.node.1.body) e (a.same ∙ ap (λ t. along t a.node) (next_part k trail lt)) p

pub comes_at_end : (h : Holding) (o : Opened) (whole : Option (List ℕ × Node)) (rest : List ℕ) (here : Reached) → rest ≡ [] → Along h o whole rest here → Comes h o whole here
comes_at_end h o whole rest here none a = subst (λ there. Picks h o there (Some here)) (sym (a.same ∙ ap (λ t. along t a.node) none)) a.stands

-- ---- from the root

pub top_stands : (h : Holding) (o : Opened) (f : Reached) → IsOwn o f → Stands h o f (slash, top_node (blocks_of h) o.found.top)
top_stands h o f own =
    let top = o.found.top in
    let body : Body = Dir (dir_in levels (blocks_of h) no_image (link_to top.entries) (link_to top.meta)) in
    record {
      body = body;
      is = ap (λ name. (name, node_of (stat_in top.own) body)) (sym o.own.name_is) ∙ ap (λ (r : Record). (r.name, node_of (stat_in r) body)) (sym own.named);
      has = subst (λ (i : Inside). HasInside h o i body) (sym own.has) (record {
        entries = link_to top.entries;
        meta = link_to top.meta;
        is = record {
          entries_are = record { is = o.entries; chain = λ at b. in_entries b };
          meta_is = record { is = o.meta; chain = λ at b. in_meta b };
          is = first;
        };
        names = ap (λ n. Dir (dir_in n (blocks_of h) no_image (link_to top.entries) (link_to top.meta))) (sym o.levels);
      });
    }

pub reached_is : (h : Holding) (o : Opened) (at : Place) → at.view ≡ Archive o.found.root.epoch → reached false (world_of h o) at ≡ ok_or (along at.trail (slash, top_node (blocks_of h) o.found.top)) error.Gone
reached_is h o at is =
    ap (λ (v : View). reached_from (root_name false (world_of h o) v) (root_of (world_of h o) v) at.trail) is
    ∙ ap (λ b. reached_from slash (cond b (Some (top_node (blocks_of h) o.found.top)) None) at.trail) (eq-eqb o.found.root.epoch o.found.root.epoch refl)

reaches_ok : (h : Holding) (o : Opened) (there : Option (List ℕ × Node)) (where_to : Result (List ℕ × Node) FileError) (f : Reached) → where_to ≡ ok_or there error.Gone → Comes h o there f → LeadsHere h o where_to f
reaches_ok h o None where_to f is p = absurd p
reaches_ok h o (Some n) where_to f is p = record { node = n; is = is; stands = p }

pub reaches : (h : Holding) (o : Opened) (there : Option (List ℕ × Node)) (where_to : Result (List ℕ × Node) FileError) (r : Result Reached FileError) → where_to ≡ ok_or there error.Gone → MatchResult r (Comes h o there) (Fails h o there) → Reaches h o where_to r
reaches h o there where_to (Ok f) is p = reaches_ok h o there where_to f is p
reaches h o there where_to (Err e) is (inl p) = inl (subst IsRefusal (sym p.1) tt, is ∙ ap (λ t. ok_or t error.Gone) p.0 ∙ ap Err (sym p.1))
reaches h o there where_to (Err e) is (inr loss) = inr loss

use Rattle.std.proofs.Common.{inl, inr, ⊎_elim, List, [], ◌∷◌, refl, sym, subst, arith}
use Rattle.std.specs.List.{Contains}
use Rattle.fo_cells.proofs.Standing.{first_among, next_among}
use Rattle.fo_cells_out.specs.Removals.{Pending, IsCovered}
use Rattle.fo_cells_queue.specs.Queue.{Queued, first_past}
use Rattle.fo_cells_lost.specs.Lost.{HangsIn}
use Rattle.fo_cells_gaps.proofs.of_cells_blocks.Closing.{earlier_made, now_made, past_done_made, done_made}
use Rattle.fo_cells_whole.proofs.Rest.{whole_by}
use Rattle.fo_cells_whole.proofs.Blocks.{earlier_left, now_left, closing_whole, closed_more, done_hung}
use Rattle.fo_cells_whole.proofs.laws.closings_keep_whole.Goals as goal

pub returns : goal.returns
returns g c = record {
  earlier = λ b epoch after bs rs k d f x unsure holds s was now queue y read all.
      let first : Contains k.past (first_past epoch (b ∷ bs) after) = subst (λ (ps : List Queued). Contains ps (first_past epoch (b ∷ bs) after)) (sym was) (first_among (first_past epoch (b ∷ bs) after) rs) in
      let covered = all.made.all.queue.now.covered b (inl (Rattle.fo_cells_queue.proofs.Seen.block_among k.past (first_past epoch (b ∷ bs) after) b first (first_among b bs))) in
      closing_whole all s y.begun covered (earlier_left all was now queue) (inl (HangsIn.earlier (first_past epoch (b ∷ bs) after) first (first_among b bs) refl)) (closed_more s y) (earlier_made all.made s y read was now queue).1;
  now = λ b epoch after bs rs k d f x unsure holds s up le past past_now was now y read all.
      let own : IsCovered k.queue b = subst (λ (qs : List Pending). IsCovered qs b) (sym was) (inl (first_among b bs)) in
      let covered = all.made.all.queue.now.covered b (inr own) in
      closing_whole all s y.begun covered (now_left all past past_now was now) (⊎_elim (λ few. inl (HangsIn.active own (omega (arith, few, up)))) (λ same. inr same) le) (closed_more s y) (now_made all.made s y read up le past past_now was now).1;
  past_done = λ epoch after rs k f unsure holds was all. whole_by (done_hung (g.M.Makes.made c.args._made.now) holds refl refl refl (λ r is. subst (λ (ps : List Queued). Contains ps r) (sym was) (next_among (first_past epoch [] after) r rs is)) (λ b is. is)) (record { certain = λ before. before; awaited = λ before. before }) (past_done_made was all.made) all;
  done = λ after rs k f unsure holds past was all. whole_by (done_hung (g.M.Makes.made c.args._made.now) holds refl refl refl (λ r is. is) (λ b is. subst (λ (qs : List Pending). IsCovered qs b) (sym was) (inr is))) (record { certain = λ before. before; awaited = λ before. before }) (done_made past was all.made) all;
}

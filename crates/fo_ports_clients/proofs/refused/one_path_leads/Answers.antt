use Rattle.fo_crash.proofs.Spots.{one_path}
use Rattle.fo_ports_clients.proofs.Refusing.{top_place}
use Rattle.fo_ports_clients.proofs.refused.one_path_leads.Goals as goal

pub returns : goal.returns
returns g c = λ t image is_top leaves.
    let on = c.args.on.now in
    let told = g.met.B.Blocks.told on image leaves in
    one_path (g.met.B.Blocks.placed on image leaves) (g.met.B.Blocks.few on image leaves) (top_place (g.B.Blocks.state on).stands (g.met.B.Blocks.super_stands on told) t (λ ne. g.met.B.Blocks.top_stands on t told is_top ne)) (g.met.B.Blocks.one_spot on) leaves is_top

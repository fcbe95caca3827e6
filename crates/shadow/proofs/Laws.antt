-- What calls change that are answered as they were can be committed; the crates above cite this.
use Rattle.std.proofs.Common.{[], ◌∷◌}
use Rattle.model.specs.Moments.{after_one}
use Rattle.call_laws.proofs.Laws.{fits}
use Rattle.shadow.specs.Effects.{CallsCanBeCommitted}

pub calls_can_be_committed_lem : CallsCanBeCommitted
calls_can_be_committed_lem k pid [] g = tt
calls_can_be_committed_lem k pid (e ∷ es) g =
    (fits k pid e.call e.chosen g.0.0, calls_can_be_committed_lem (after_one pid e k) pid es g.1)
